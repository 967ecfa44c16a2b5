-- Readers agree on the normal form of a URI on which they agree, and on the targets of references that lead alike.
use Rattle.std.proofs.Common.{◌≡◌, ℕ, Bool, true, false, cond, not, List, [], ◌∷◌, ◌++◌, length, take, map, Option, Some, None, refl, sym, ap, ◌∙◌, subst, arith, ◌≤◌}
use Rattle.std.specs.Prelude.{◌==◌, ◌&&◌, ◌||◌, IfSome, bytes_eq, codes, is_none, is_some, nat_le}
use Rattle.std.specs.Char.{to_ascii_lowercase}
use Rattle.std.specs.List.{list_any, list_all, onto_first, slice_split}
use Rattle.std.specs.Option.{option_and_then, option_map, option_or}
use Rattle.std.specs.Str.{str_to_ascii_lowercase}
use Rattle.std.proofs.lemmas.Bool.{and_parts, and_from, not-true}
use Rattle.std.proofs.lemmas.Bool.Decides.{nat_tests}
use Rattle.std.proofs.lemmas.List.{take-map, length-map}
use Rattle.std.proofs.lemmas.Str.Ascii.{lowercase-lowercase}
use Rattle.uriparse_text.specs.Bytes.{percent}
use Rattle.uriparse_text.specs.Canonical.{canonical, canonical_lowered}
use Rattle.uriparse_text.specs.Segment.{is_dot_segment}
use Rattle.uriparse_text.proofs.lemmas.tokens.UnescapedLemmas.{canonical_lowered-plain}
use Rattle.uriparse_scheme.specs.Scheme as scheme
use Rattle.uriparse_scheme.specs.Normal.{canonical_scheme}
use Rattle.uriparse_scheme.specs.declared.scheme.Scheme.{Scheme}
use Rattle.uriparse_scheme.proofs.lemmas.schemes.NormalLemmas.{canonical_twice, text-canonical}
use Rattle.uriparse_authority.specs.Authority as authority
use Rattle.uriparse_authority.specs.Authority.{AuthorityParts}
use Rattle.uriparse_authority.specs.Host as host
use Rattle.uriparse_authority.specs.Normal.{canonical_authority, canonical_host}
use Rattle.uriparse_authority.specs.Within.{begins_with_digit, has_escape, is_dot, is_percent, labels, last_label, may_be_numeric}
use Rattle.uriparse_authority.specs.declared.authority.host.Host.{Host}
use Rattle.uriparse_authority.specs.declared.authority.host.Host.TheVariants.{IPv4Address, IPv6Address, IPvFuture, RegisteredName}
use Rattle.uriparse_authority.proofs.lemmas.authorities.NormalLemmas.{host_twice}
use Rattle.uriparse_path.specs.Dots.{has_dot_segment, undot, without_dots}
use Rattle.uriparse_path.specs.Normal.{canonical_path, pnormal}
use Rattle.uriparse_path.specs.Merge.{merged}
use Rattle.uriparse_path.specs.Path.{IsListed, PathParts, is_rooted, max_segments, pieces, spelled, text}
use Rattle.uriparse_path.proofs.lemmas.merge.MergedNormalFormLemmas.{no_dots_undotted, undotted}
use Rattle.uriparse_path.proofs.lemmas.normal.NormalFormLemmas.{none_in_normal}
use Rattle.uriparse_path.proofs.lemmas.normal.RelativeFormLemmas.{has_dot-canonical}
use Rattle.uriparse_reference.specs.Normal.{dot_prefixed, normal}
use Rattle.uriparse_reference.specs.Reference.{Parts, Valid, host_of, username_of}
use Rattle.uriparse_reference.specs.Target.{dots_removed, is_empty, merge, target, target_of}
use Rattle.uriparse_reference.proofs.lemmas.edits.PathRuleLemmas.{Fits, fits_of}
use Rattle.uriparse_reference.proofs.lemmas.resolving.MergedPathLemmas.{IsFollowing, fits_merged, merged_spelled}
use Rattle.uriparse_reference.proofs.lemmas.resolving.ValidTargetLemmas.{chosen, dots_removed-merged, dots_removed-text, following, le_from}
use Rattle.uriparse.specs.Disagreement.{disagreement, first_reason, host_passes, is_escaped_dots, is_future, is_name, is_special, leads_alike, placed}
use Rattle.uriparse.specs.Web.{has_encoded_label, is_encoded_label, special_port}
use Rattle.uriparse.specs.declared.uri.disagreement.Disagreement.{Disagreement}
use Rattle.uriparse.proofs.lemmas.DisagreementLemmas.{Agrees, IsThereHost, agrees, none_holds, there_host}
use Rattle.uriparse.proofs.lemmas.WebHostLemmas.{IsPlainHost, no_percent}

-- ---- names in lower case

lowered_escape : (n : List ℕ) → has_escape n ≡ false → has_escape (str_to_ascii_lowercase n) ≡ false
lowered_escape [] h = refl
lowered_escape (b ∷ n) h = by_test (is_percent b) refl h (lowered_escape n)
  where
    stays : is_percent b ≡ false → is_percent (to_ascii_lowercase b) ≡ false
    stays e = grind (arith, nat_tests)

    by_test : (v : Bool) → is_percent b ≡ v → (v || has_escape n) ≡ false
        → (has_escape n ≡ false → has_escape (str_to_ascii_lowercase n) ≡ false) → has_escape (str_to_ascii_lowercase (b ∷ n)) ≡ false
    by_test true e h rest = absurd (cc)
    by_test false e h rest = ap (λ v. v || has_escape (str_to_ascii_lowercase n)) (stays e) ∙ rest h

lowered_dot : (b : ℕ) → is_dot (to_ascii_lowercase b) ≡ is_dot b
lowered_dot b = by_test (is_dot b) refl
  where
    stays : is_dot b ≡ false → is_dot (to_ascii_lowercase b) ≡ false
    stays e = grind (arith, nat_tests)

    kept : is_dot b ≡ true → is_dot (to_ascii_lowercase b) ≡ true
    kept e = grind (arith, nat_tests)

    by_test : (v : Bool) → is_dot b ≡ v → is_dot (to_ascii_lowercase b) ≡ v
    by_test true e = kept e
    by_test false e = stays e

lowered_labels : (n : List ℕ) → slice_split is_dot (str_to_ascii_lowercase n) ≡ map str_to_ascii_lowercase (slice_split is_dot n)
lowered_labels [] = refl
lowered_labels (b ∷ n) =
    ap (λ v. cond v ([] ∷ slice_split is_dot (str_to_ascii_lowercase n)) (onto_first (to_ascii_lowercase b) (slice_split is_dot (str_to_ascii_lowercase n))))
    (lowered_dot b) ∙ by_dot (is_dot b) (slice_split is_dot n) (lowered_labels n)
  where
    onto : (ls : List (List ℕ)) → onto_first (to_ascii_lowercase b) (map str_to_ascii_lowercase ls) ≡ map str_to_ascii_lowercase (onto_first b ls)
    onto [] = refl
    onto (l ∷ ls) = refl

    by_dot : (v : Bool) (ls : List (List ℕ)) → slice_split is_dot (str_to_ascii_lowercase n) ≡ map str_to_ascii_lowercase ls
        → cond v ([] ∷ slice_split is_dot (str_to_ascii_lowercase n)) (onto_first (to_ascii_lowercase b) (slice_split is_dot (str_to_ascii_lowercase n)))
        ≡ map str_to_ascii_lowercase (cond v ([] ∷ ls) (onto_first b ls))
    by_dot true ls e = ap (λ ls. [] ∷ ls) e
    by_dot false ls e = ap (onto_first (to_ascii_lowercase b)) e ∙ onto ls

lowered_twice : (t : List ℕ) → str_to_ascii_lowercase (str_to_ascii_lowercase t) ≡ str_to_ascii_lowercase t
lowered_twice [] = refl
lowered_twice (b ∷ t) = ap (λ c. c ∷ str_to_ascii_lowercase (str_to_ascii_lowercase t)) (lowercase-lowercase b) ∙ ap (λ u. to_ascii_lowercase b ∷ u) (lowered_twice t)

lowered_label : (l : List ℕ) → is_encoded_label (str_to_ascii_lowercase l) ≡ is_encoded_label l
lowered_label l =
    ap (λ t. bytes_eq (str_to_ascii_lowercase t) (codes "xn--")) (take-map to_ascii_lowercase 4 l)
    ∙ ap (λ t. bytes_eq t (codes "xn--")) (lowered_twice (take 4 l))

lowered_encoded : (n : List ℕ) → has_encoded_label (str_to_ascii_lowercase n) ≡ has_encoded_label n
lowered_encoded n = ap (list_any is_encoded_label) (lowered_labels n) ∙ each (slice_split is_dot n)
  where
    each : (ls : List (List ℕ)) → list_any is_encoded_label (map str_to_ascii_lowercase ls) ≡ list_any is_encoded_label ls
    each [] = refl
    each (l ∷ ls) =
        ap (λ v. v || list_any is_encoded_label (map str_to_ascii_lowercase ls)) (lowered_label l) ∙ ap (λ v. is_encoded_label l || v) (each ls)

-- ---- hosts in canonical spelling

plain_canonical : (h : Host) → host.Valid h → IsPlainHost h → IsPlainHost (canonical_host h)
plain_canonical (IPv4Address a) v is = is
plain_canonical (IPv6Address a) v is = is
plain_canonical (IPvFuture f) v is = absurd (let never = is.not_future in cc)
plain_canonical (RegisteredName n) v is =
    let low : canonical_lowered n ≡ str_to_ascii_lowercase n = canonical_lowered-plain n (no_percent n is.unescaped) in
    let twice : canonical_lowered (canonical_lowered n) ≡ canonical_lowered n = let t = host_twice (RegisteredName n) v in cc in
    record {
      some = ap (λ t. length t == 0) low ∙ ap (λ k. k == 0) (length-map n to_ascii_lowercase) ∙ is.some;
      not_future = refl;
      unescaped = ap has_escape low ∙ lowered_escape n is.unescaped;
      not_numeric = ap (λ t. begins_with_digit (last_label (labels t))) twice ∙ is.not_numeric;
      unencoded = ap has_encoded_label low ∙ lowered_encoded n ∙ is.unencoded;
    }

-- ---- schemes in canonical spelling

special_canonical : (o : Option Scheme) → IfSome o scheme.Valid → is_special (option_map canonical_scheme o) ≡ is_special o
special_canonical None v = refl
special_canonical (Some s) v =
    let same : scheme.canonical_text (canonical_scheme s) ≡ scheme.canonical_text s =
    sym (text-canonical (canonical_scheme s)) ∙ ap scheme.text (canonical_twice s v) ∙ text-canonical s in
    ap (λ t. is_some (special_port t)) same

-- ---- paths without dot segments

no_escaped_dots : (ss : List (List ℕ)) → has_dot_segment ss ≡ false → list_any is_escaped_dots ss ≡ false
no_escaped_dots [] h = refl
no_escaped_dots (s ∷ ss) h = by_test (is_dot_segment s) refl h (no_escaped_dots ss)
  where
    by_test : (v : Bool) → is_dot_segment s ≡ v → (v || has_dot_segment ss) ≡ false → (has_dot_segment ss ≡ false → list_any is_escaped_dots ss ≡ false)
        → ((v && has_escape s) || list_any is_escaped_dots ss) ≡ false
    by_test true e h rest = absurd (cc)
    by_test false e h rest = rest h

undotted_normal : (p : PathParts) → IsListed p.segments → has_dot_segment (pnormal p false).segments ≡ false
undotted_normal p is = by_dots (has_dot_segment p.segments) refl
  where
    by_dots : (v : Bool) → has_dot_segment p.segments ≡ v
        → has_dot_segment (cond v (spelled (canonical (undot (text p)))) (canonical_path p)).segments ≡ false
    by_dots true e = none_in_normal p is
    by_dots false e = has_dot-canonical p.segments is.each ∙ e

-- ---- the normal form

-- references with such components
made_plain : (p : Parts) (h : Host) → is_special p.scheme ≡ true → host_of p ≡ Some h → IsPlainHost h → list_any is_escaped_dots p.path.segments ≡ false
    → is_some (username_of p) ≡ false → disagreement p ≡ None
made_plain p h special there is dots user =
    none_holds p (record {
      scheme = ap not special;
      no_host = ap (λ o. not (host_passes (λ h. not (host.is_empty h)) o)) there ∙ ap (λ v. not (not v)) is.some;
      later = ap (host_passes is_future) there ∙ is.not_future;
      escaped = ap (host_passes (is_name has_escape)) there ∙ is.unescaped;
      numeric = ap (host_passes may_be_numeric) there ∙ is.not_numeric;
      encoded = ap (host_passes (is_name has_encoded_label)) there ∙ is.unencoded;
      dots = dots;
      user = user;
    })

pub agrees_normal : (p : Parts) → Valid p → disagreement p ≡ None → disagreement (normal p) ≡ None
agrees_normal p v e = by_parts (there_host p is)
  where
    is : Agrees p
    is = agrees p e

    some_scheme : (o : Option Scheme) → is_special o ≡ true → is_none o ≡ false
    some_scheme None h = absurd (cc)
    some_scheme (Some s) h = refl

    by_parts : IsThereHost p → disagreement (normal p) ≡ None
    by_parts there =
        let scheme : is_none p.scheme ≡ false = some_scheme p.scheme there.special in
        let path : (normal p).path ≡ pnormal p.path false =
        ap (λ o. dot_prefixed o (pnormal p.path (is_none p.scheme))) there.authority ∙ ap (pnormal p.path) scheme in
        let valid : host.Valid there.value.host = (subst (λ o. IfSome o authority.Valid) there.authority v.is_authority).is_host in
        made_plain (normal p) (canonical_host there.value.host) (special_canonical p.scheme v.is_scheme ∙ there.special)
        (ap (λ o. option_map (λ (a : AuthorityParts). a.host) (option_map canonical_authority o)) there.authority)
        (plain_canonical there.value.host valid there.plain)
        (ap (λ (q : PathParts). list_any is_escaped_dots q.segments) path ∙ no_escaped_dots (pnormal p.path false).segments (undotted_normal p.path v.is_path))
        (ap (λ o. is_some (option_and_then (λ (a : AuthorityParts). a.username) (option_map canonical_authority o))) there.authority
        ∙ ap (λ u. is_some (option_map canonical u)) there.no_username)

-- ---- targets

target_plain : (s : Option Scheme) (a : Option AuthorityParts) (value : AuthorityParts) (p : PathParts) (q f : Option (List ℕ)) → is_special s ≡ true
    → a ≡ Some value → IsPlainHost value.host → value.username ≡ None → list_any is_escaped_dots p.segments ≡ false
    → disagreement (target_of s a p q f) ≡ None
target_plain s a value p q f special e plain none dots =
    made_plain (target_of s a p q f) value.host special (ap (option_map (λ (a : AuthorityParts). a.host)) e) plain
    (ap (λ o. list_any is_escaped_dots (dot_prefixed o p).segments) e ∙ dots)
    (ap (λ o. is_some (option_and_then (λ (a : AuthorityParts). a.username) o)) e ∙ ap is_some none)

own_authority : (a b : Option AuthorityParts) → is_some a ≡ true → option_or a b ≡ a
own_authority None b h = absurd (cc)
own_authority (Some a) b h = refl

base_authority : (a b : Option AuthorityParts) → is_some a ≡ false → option_or a b ≡ b
base_authority None b h = refl
base_authority (Some a) b h = absurd (cc)

none_is : (o : Option Disagreement) → is_none o ≡ true → o ≡ None
none_is None h = refl
none_is (Some d) h = absurd (cc)

module _ (b r : Parts) (v : Valid b) (w : Valid r) (agreed : disagreement b ≡ None) where
  base_dots : list_any is_escaped_dots b.path.segments ≡ false
  base_dots = (agrees b agreed).dots

  own_dots : list_any is_escaped_dots (dots_removed (text r.path)).segments ≡ false
  own_dots =
      ap (λ (p : PathParts). list_any is_escaped_dots p.segments) (dots_removed-text r.path w.is_path)
      ∙ no_escaped_dots (undotted r.path).segments (no_dots_undotted r.path w.is_path)

  merged_dots : IsFollowing r.path → nat_le (length (pieces (merge b r))) max_segments ≡ true
      → list_any is_escaped_dots (dots_removed (merge b r)).segments ≡ false
  merged_dots js e =
      let is = fits_of b v in
      let count = ap (λ (p : PathParts). nat_le (length p.segments) max_segments) (sym (merged_spelled (is_some b.authority) b.path r.path is js)) ∙ e in
      let short : length (merged b.path r.path).segments ≤ max_segments = le_from _ _ count in
      let fits = fits_merged (is_some b.authority) b.path r.path is js short in
      ap (λ (p : PathParts). list_any is_escaped_dots p.segments) (dots_removed-merged (is_some b.authority) b.path r.path is js short)
      ∙ no_escaped_dots (undotted (merged b.path r.path)).segments (no_dots_undotted (merged b.path r.path) fits.listed)

  by_room : (z : Bool) → nat_le (length (pieces (merge b r))) max_segments ≡ z → IsFollowing r.path → (value : AuthorityParts) → is_special b.scheme ≡ true
      → b.authority ≡ Some value → IsPlainHost value.host → value.username ≡ None
      → IfSome (cond z (Some (target_of b.scheme b.authority (dots_removed (merge b r)) r.query r.fragment)) None) (λ t. disagreement t ≡ None)
  by_room true e js value special there plain none =
      target_plain b.scheme b.authority value (dots_removed (merge b r)) r.query r.fragment special there plain none (merged_dots js e)
  by_room false e js value special there plain none = tt

  abbrev in_place : Bool → Parts
  in_place c = cond c r (record r { scheme = b.scheme; authority = option_or r.authority b.authority })

  by_tests : (c : Bool) → is_some r.scheme ≡ c → (d : Bool) → is_some r.authority ≡ d → (x : Bool) → (y : Bool) → is_rooted (text r.path) ≡ y
      → IsThereHost (in_place c) → IfSome (chosen c d x y b r) (λ t. disagreement t ≡ None)
  by_tests true e d i x y k there =
      target_plain r.scheme r.authority there.value (dots_removed (text r.path)) r.query r.fragment there.special there.authority there.plain
      there.no_username own_dots
  by_tests false e true i x y k there =
      target_plain b.scheme r.authority there.value (dots_removed (text r.path)) r.query r.fragment there.special
      (sym (own_authority r.authority b.authority i) ∙ there.authority) there.plain there.no_username own_dots
  by_tests false e false i true y k there =
      target_plain b.scheme b.authority there.value b.path (option_or r.query b.query) r.fragment there.special
      (sym (base_authority r.authority b.authority i) ∙ there.authority) there.plain there.no_username base_dots
  by_tests false e false i false true k there =
      target_plain b.scheme b.authority there.value (dots_removed (text r.path)) r.query r.fragment there.special
      (sym (base_authority r.authority b.authority i) ∙ there.authority) there.plain there.no_username own_dots
  by_tests false e false i false false k there =
      by_room (nat_le (length (pieces (merge b r))) max_segments) refl (following r.path (subst (λ u. Fits u r.path) i (fits_of r w)) k) there.value
      there.special (sym (base_authority r.authority b.authority i) ∙ there.authority) there.plain there.no_username

pub agrees_target : (b r t : Parts) → Valid b → Valid r → leads_alike b r ≡ true → target b r ≡ Some t → disagreement t ≡ None
agrees_target b r t v w h e =
    let both = and_parts (is_none (disagreement b)) _ h in
    let there = there_host (placed b r) (agrees (placed b r) (none_is (disagreement (placed b r)) both.1)) in
    subst (λ o. IfSome o (λ t. disagreement t ≡ None)) e
    (by_tests b r v w (none_is (disagreement b) both.0) (is_some r.scheme) refl (is_some r.authority) refl (is_empty (text r.path)) (is_rooted (text r.path)) refl there)

-- ---- a reference at the base's place

-- a reference without a scheme and an authority has the base's
pub placed_base : (b r : Parts) (s : Scheme) → r.scheme ≡ None → is_some r.authority ≡ false → b.scheme ≡ Some s
    → disagreement (placed b r) ≡ first_reason (Some s) (host_of b) (is_some (username_of b)) r.path.segments
placed_base b r s none bare e =
    let own : Option AuthorityParts = option_or r.authority b.authority in
    let same : own ≡ b.authority = base_authority r.authority b.authority bare in
    ap (λ o. disagreement (cond (is_some o) r (record r { scheme = b.scheme; authority = own }))) none
    ∙ ap (λ o. first_reason b.scheme (option_map (λ (a : AuthorityParts). a.host) o) (is_some (option_and_then (λ (a : AuthorityParts). a.username) o))
    r.path.segments) same
    ∙ ap (λ o. first_reason o (host_of b) (is_some (username_of b)) r.path.segments) e
