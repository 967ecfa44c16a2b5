-- Equal references have equal targets and normal forms.
use Rattle.std.proofs.Common.{◌≡◌, ℕ, ◌≤◌, Bool, true, false, ◌&&◌, cond, List, [], ◌∷◌, ◌++◌, length, map, Option, Some, None, refl, sym, ap, ◌∙◌, subst}
use Rattle.std.specs.Prelude.{is_some, is_none, nat_le}
use Rattle.std.specs.Option.{option_map, option_or}
use Rattle.std.proofs.lemmas.Bool.{false≢true}
use Rattle.std.proofs.lemmas.List.{map-append}
use Rattle.uriparse_text.specs.Canonical.{canonical}
use Rattle.uriparse_path.specs.Path.{PathParts, IsListed, max_segments, text, is_rooted, pieces, respelled, has_two_slashes}
use Rattle.uriparse_path.specs.Dots.{all_but_last}
use Rattle.uriparse_path.specs.Normal.{canonical_path, pnormal}
use Rattle.uriparse_text.proofs.lemmas.canonical.DotLemmas.{canonical-nil}
use Rattle.uriparse_path.proofs.lemmas.text.CanonicalTextLemmas.{canonical-text, length-canonical, listed-canonical, is_rooted-canonical}
use Rattle.uriparse_text.proofs.lemmas.canonical.DotLemmas.{canonical-dot}
use Rattle.uriparse_path.proofs.lemmas.dots.DotSegmentLemmas.{canonical-empty}
use Rattle.uriparse_path.proofs.lemmas.normal.RelativeFormLemmas.{hides-canonical}
use Rattle.uriparse_path.proofs.lemmas.normal.NormalFormLemmas.{respelled-canonical}
use Rattle.uriparse_path.proofs.lemmas.normal.SpellingCommutesLemmas.{cut-canonical, pnormal-canonical}
use Rattle.uriparse_path.proofs.lemmas.merge.MergedNormalFormLemmas.{undotted, listed_undotted, undotted-canonical, respelled_twice}
use Rattle.uriparse_path.specs.Dots.{replayed}
use Rattle.uriparse_authority.specs.Authority as authority
use Rattle.uriparse_authority.specs.Authority.{AuthorityParts}
use Rattle.uriparse_scheme.specs.declared.scheme.Scheme.{Scheme}
use Rattle.uriparse_scheme.specs.Scheme as scheme
use Rattle.uriparse_reference.specs.Reference.{Parts, joined, Valid, Same, scheme_part, authority_part, print, kind}
use Rattle.uriparse_reference.specs.Cuts.{scheme_text, authority_text, path_text, query_text, fragment_text}
use Rattle.uriparse_path.specs.Edits.{dotted}
use Rattle.uriparse_reference.specs.Normal.{dot_prefixed, normal}
use Rattle.uriparse_reference.specs.Target.{merge, dots_removed, is_empty, target_of, target, AreSame}
use Rattle.uriparse_reference.proofs.lemmas.equality.EqualityLemmas.{canonical_cut}
use Rattle.uriparse_reference.proofs.lemmas.equality.CanonicalComponentLemmas.{scheme-text, some_map, none_map, map_or, authority-print, authority-kind}
use Rattle.uriparse_reference.proofs.lemmas.edits.PathRuleLemmas.{Fits, two_slashes, fits_of, shielded_fits}
use Rattle.uriparse_reference.proofs.lemmas.normalizing.NormalFormLemmas.{normal_valid}
use Rattle.uriparse_reference.proofs.lemmas.normalizing.NormalizingLemmas.{same_path, printed_alike}
use Rattle.uriparse_path.specs.Merge.{merged}
use Rattle.uriparse_reference.proofs.lemmas.resolving.MergedPathLemmas.{merged_spelled, IsFollowing, fits_merged}
use Rattle.uriparse_reference.proofs.lemmas.resolving.ValidTargetLemmas.{following, fits_rooted, fits_undotted, dots_removed-text}
use Rattle.uriparse_reference.proofs.lemmas.resolving.ValidTargetLemmas.{dots_removed-merged, chosen, le_from}

-- ---- component by component

pub record Alike (p q : Parts) : Type 0 where
  pub schemes : option_map scheme.canonical_text p.scheme ≡ option_map scheme.canonical_text q.scheme
  pub authorities : option_map authority.canonical_text p.authority ≡ option_map authority.canonical_text q.authority
  pub paths : canonical_path p.path ≡ canonical_path q.path
  pub texts : canonical (text p.path) ≡ canonical (text q.path)
  pub queries : option_map canonical p.query ≡ option_map canonical q.query
  pub fragments : option_map canonical p.fragment ≡ option_map canonical q.fragment
  pub kinds : option_map authority.kind p.authority ≡ option_map authority.kind q.authority

pub canonical_formed : (p : PathParts) → respelled p ≡ p → respelled (canonical_path p) ≡ canonical_path p
canonical_formed p h = respelled-canonical p ∙ ap canonical_path h

pub alike_of : (p q : Parts) → Valid p → Valid q → Same p q → Alike p q
alike_of p q v w s =
    let x = canonical_cut p v in
    let y = canonical_cut q w in
    let e = s.spelling in
    let i = fits_of p v in
    let j = fits_of q w in
    let t : canonical (text p.path) ≡ canonical (text q.path) = sym x.path ∙ ap path_text e ∙ y.path in
    record {
      schemes = sym x.scheme ∙ ap scheme_text e ∙ y.scheme;
      authorities = sym x.authority ∙ ap authority_text e ∙ y.authority;
      paths = same_path (canonical_path p.path) (canonical_path q.path) (listed-canonical p.path.segments i.listed) (canonical_formed p.path i.formed)
          (listed-canonical q.path.segments j.listed) (canonical_formed q.path j.formed)
          (sym (canonical-text p.path i.listed) ∙ t ∙ canonical-text q.path j.listed);
      texts = t;
      queries = sym x.query ∙ ap query_text e ∙ y.query;
      fragments = sym x.fragment ∙ ap fragment_text e ∙ y.fragment;
      kinds = s.kinds;
    }

same_some : {A B C : Type 0} (f : A → C) (g : B → C) (x : Option A) (y : Option B) → option_map f x ≡ option_map g y → is_some x ≡ is_some y
same_some f g x y e = sym (some_map f x) ∙ ap is_some e ∙ some_map g y

same_none : {A B C : Type 0} (f : A → C) (g : B → C) (x : Option A) (y : Option B) → option_map f x ≡ option_map g y → is_none x ≡ is_none y
same_none f g x y e = sym (none_map f x) ∙ ap is_none e ∙ none_map g y

-- ---- the leading "."

pub shielded_some : (a b : Option AuthorityParts) (q : PathParts) → is_some a ≡ is_some b → dot_prefixed a q ≡ dot_prefixed b q
shielded_some None None q h = refl
shielded_some None (Some b) q h = absurd (false≢true h)
shielded_some (Some a) None q h = absurd (false≢true (sym h))
shielded_some (Some a) (Some b) q h = refl

two-canonical : (q : PathParts) → IsListed q.segments → respelled q ≡ q → has_two_slashes (text (canonical_path q)) ≡ has_two_slashes (text q)
two-canonical q is h =
    two_slashes (canonical_path q) (listed-canonical q.segments is) (canonical_formed q h)
    ∙ ap (λ v. q.absolute && v) (hides-canonical q.segments)
    ∙ sym (two_slashes q is h)

pub dot_prefixed-canonical : (a : Option AuthorityParts) (q : PathParts) → IsListed q.segments → respelled q ≡ q
    → canonical_path (dot_prefixed a q) ≡ dot_prefixed a (canonical_path q)
dot_prefixed-canonical (Some a) q is h = refl
dot_prefixed-canonical None q is h = by_test (has_two_slashes (text q))
    ∙ ap (λ v. cond v (dotted (canonical_path q)) (canonical_path q)) (sym (two-canonical q is h))
  where
    by_test : (v : Bool) → canonical_path (cond v (dotted q) q) ≡ cond v (dotted (canonical_path q)) (canonical_path q)
    by_test true = ap (λ u. record { absolute = q.absolute; segments = u ∷ map canonical q.segments }) canonical-dot
    by_test false = refl

-- ---- the components of the target

made_same : (s r : Option Scheme) (a b : Option AuthorityParts) (p q : PathParts) (x y f g : Option (List ℕ))
    → option_map scheme.canonical_text s ≡ option_map scheme.canonical_text r
    → option_map authority.canonical_text a ≡ option_map authority.canonical_text b
    → option_map authority.kind a ≡ option_map authority.kind b
    → IsListed p.segments → respelled p ≡ p → IsListed q.segments → respelled q ≡ q
    → Fits (is_some a) (dot_prefixed a p) → Fits (is_some b) (dot_prefixed b q)
    → canonical_path p ≡ canonical_path q
    → option_map canonical x ≡ option_map canonical y → option_map canonical f ≡ option_map canonical g
    → Same (target_of s a p x f) (target_of r b q y g)
made_same s r a b p q x y f g es ea ek is i js j fp fq ep ex ef =
    let t : canonical (text (dot_prefixed a p)) ≡ canonical (text (dot_prefixed b q)) =
    canonical-text (dot_prefixed a p) fp.listed
    ∙ ap text (dot_prefixed-canonical a p is i ∙ ap (dot_prefixed a) ep
    ∙ shielded_some a b (canonical_path q) (same_some authority.canonical_text authority.canonical_text a b ea) ∙ sym (dot_prefixed-canonical b q js j))
    ∙ sym (canonical-text (dot_prefixed b q) fq.listed) in
    record {
      spelling =
          ap (λ u. joined u (option_map authority.canonical_text a) (canonical (text (dot_prefixed a p))) (option_map canonical x) (option_map canonical f)) es
          ∙ ap (λ u. joined (option_map scheme.canonical_text r) u (canonical (text (dot_prefixed a p))) (option_map canonical x) (option_map canonical f)) ea
          ∙ ap (λ u. joined (option_map scheme.canonical_text r) (option_map authority.canonical_text b) u (option_map canonical x) (option_map canonical f)) t
          ∙ ap (λ u. joined (option_map scheme.canonical_text r) (option_map authority.canonical_text b) (canonical (text (dot_prefixed b q))) u
          (option_map canonical f))
          ex
          ∙ ap (λ u. joined (option_map scheme.canonical_text r) (option_map authority.canonical_text b) (canonical (text (dot_prefixed b q)))
          (option_map canonical y) u)
          ef;
      kinds = ek;
    }

undotted_same : (s r : Option Scheme) (a b : Option AuthorityParts) (t u : List ℕ) (m n : PathParts) (x y f g : Option (List ℕ))
    → option_map scheme.canonical_text s ≡ option_map scheme.canonical_text r
    → option_map authority.canonical_text a ≡ option_map authority.canonical_text b
    → option_map authority.kind a ≡ option_map authority.kind b
    → dots_removed t ≡ undotted m → dots_removed u ≡ undotted n
    → Fits (is_some a) m → Fits (is_some b) n
    → canonical_path m ≡ canonical_path n
    → option_map canonical x ≡ option_map canonical y → option_map canonical f ≡ option_map canonical g
    → Same (target_of s a (dots_removed t) x f) (target_of r b (dots_removed u) y g)
undotted_same s r a b t u m n x y f g es ea ek i j is js e ex ef =
    let same : Same (target_of s a (undotted m) x f) (target_of r b (undotted n) y g) =
    made_same s r a b (undotted m) (undotted n) x y f g es ea ek (listed_undotted m is.listed) (respelled_twice (replayed m)) (listed_undotted n js.listed)
    (respelled_twice (replayed n)) (fits_undotted a m is) (fits_undotted b n js)
    (sym (undotted-canonical m is.listed) ∙ ap undotted e ∙ undotted-canonical n js.listed) ex ef in
    subst (λ p. Same (target_of s a p x f) (target_of r b (dots_removed u) y g)) (sym i)
    (subst (λ q. Same (target_of s a (undotted m) x f) (target_of r b q y g)) (sym j) same)

pub merged-canonical : (p q : PathParts) → canonical_path (merged p q) ≡ merged (canonical_path p) (canonical_path q)
merged-canonical p q =
    ap (λ l. record { absolute = p.absolute; segments = l }) (map-append canonical (all_but_last p.segments) q.segments)
    ∙ ap (λ l. record { absolute = p.absolute; segments = l ++ map canonical q.segments }) (sym (cut-canonical p.segments))

-- ---- the tests

pub empty-canonical : (t : List ℕ) → is_empty (canonical t) ≡ is_empty t
empty-canonical [] = ap is_empty canonical-nil
empty-canonical (b ∷ t) = by_text (canonical (b ∷ t)) refl
  where
    by_text : (u : List ℕ) → canonical (b ∷ t) ≡ u → is_empty u ≡ false
    by_text [] e = let no : b ∷ t ≡ [] = canonical-empty (b ∷ t) e in absurd (cc)
    by_text (c ∷ u) e = refl

-- ---- equal arguments, equal targets

pub same_targets : (b c r q : Parts) → Valid b → Valid c → Valid r → Valid q → Same b c → Same r q → AreSame (target b r) (target c q)
same_targets b c r q vb vc vr vq sb sr =
    subst (λ o. AreSame (target b r) o) (sym other)
    (by_tests (is_some r.scheme) refl (is_some r.authority) refl (is_empty (text r.path)) refl (is_rooted (text r.path)) refl)
  where
    base : Alike b c
    base = alike_of b c vb vc sb

    ref : Alike r q
    ref = alike_of r q vr vq sr

    e1 : is_some q.scheme ≡ is_some r.scheme
    e1 = sym (same_some scheme.canonical_text scheme.canonical_text r.scheme q.scheme ref.schemes)

    e2 : is_some q.authority ≡ is_some r.authority
    e2 = sym (same_some authority.canonical_text authority.canonical_text r.authority q.authority ref.authorities)

    e3 : is_empty (text q.path) ≡ is_empty (text r.path)
    e3 = sym (empty-canonical (text q.path)) ∙ ap is_empty (sym ref.texts) ∙ empty-canonical (text r.path)

    e4 : is_rooted (text q.path) ≡ is_rooted (text r.path)
    e4 = sym (is_rooted-canonical (text q.path)) ∙ ap is_rooted (sym ref.texts) ∙ is_rooted-canonical (text r.path)

    other : target c q ≡ chosen (is_some r.scheme) (is_some r.authority) (is_empty (text r.path)) (is_rooted (text r.path)) c q
    other =
        ap (λ v. chosen v (is_some q.authority) (is_empty (text q.path)) (is_rooted (text q.path)) c q) e1
        ∙ ap (λ v. chosen (is_some r.scheme) v (is_empty (text q.path)) (is_rooted (text q.path)) c q) e2
        ∙ ap (λ v. chosen (is_some r.scheme) (is_some r.authority) v (is_rooted (text q.path)) c q) e3
        ∙ ap (λ v. chosen (is_some r.scheme) (is_some r.authority) (is_empty (text r.path)) v c q) e4

    fb : Fits (is_some b.authority) b.path
    fb = fits_of b vb

    fc : Fits (is_some c.authority) c.path
    fc = fits_of c vc

    fr : Fits (is_some r.authority) r.path
    fr = fits_of r vr

    fq : Fits (is_some q.authority) q.path
    fq = fits_of q vq

    lone : is_some r.authority ≡ false → Fits false r.path
    lone h = subst (λ v. Fits v r.path) h fr

    lone_too : is_some r.authority ≡ false → Fits false q.path
    lone_too h = subst (λ v. Fits v q.path) (e2 ∙ h) fq

    by_room : IsFollowing r.path → IsFollowing q.path → (z : Bool) → nat_le (length (pieces (merge b r))) max_segments ≡ z
        → AreSame (cond z (Some (target_of b.scheme b.authority (dots_removed (merge b r)) r.query r.fragment)) None)
        (cond (nat_le (length (pieces (merge c q))) max_segments) (Some (target_of c.scheme c.authority (dots_removed (merge c q)) q.query q.fragment))
        None)
    by_room br bq z e =
        let m : (length (pieces (merge b r))) ≡ length (merged b.path r.path).segments =
        ap (λ p. length p.segments) (merged_spelled (is_some b.authority) b.path r.path fb br) in
        let n : (length (pieces (merge c q))) ≡ length (merged c.path q.path).segments =
        ap (λ p. length p.segments) (merged_spelled (is_some c.authority) c.path q.path fc bq) in
        let same : canonical_path (merged b.path r.path) ≡ canonical_path (merged c.path q.path) = merged-canonical b.path r.path
        ∙ ap (λ p. merged p (canonical_path r.path)) base.paths ∙ ap (λ p. merged (canonical_path c.path) p) ref.paths
        ∙ sym (merged-canonical c.path q.path) in
        let long : length (merged b.path r.path).segments ≡ length (merged c.path q.path).segments = sym (length-canonical (merged b.path r.path).segments)
        ∙ ap (λ p. length p.segments) same ∙ length-canonical (merged c.path q.path).segments in
        let too : nat_le (length (pieces (merge c q))) max_segments ≡ z = ap (λ k. nat_le k max_segments) (n ∙ sym long ∙ sym m) ∙ e in
        subst (λ w. AreSame (cond z (Some (target_of b.scheme b.authority (dots_removed (merge b r)) r.query r.fragment)) None)
        (cond w (Some (target_of c.scheme c.authority (dots_removed (merge c q)) q.query q.fragment)) None)) (sym too)
        (at_room z (λ h. le_from _ _ (ap (λ k. nat_le k max_segments) (sym m) ∙ e ∙ h)) (λ h. le_from _ _ (ap (λ k. nat_le k max_segments) (sym n) ∙ too
        ∙ h)) same)
      where
        at_room : (z : Bool) → (z ≡ true → length (merged b.path r.path).segments ≤ max_segments)
            → (z ≡ true → length (merged c.path q.path).segments ≤ max_segments) → canonical_path (merged b.path r.path) ≡ canonical_path (merged c.path q.path)
            → AreSame (cond z (Some (target_of b.scheme b.authority (dots_removed (merge b r)) r.query r.fragment)) None)
            (cond z (Some (target_of c.scheme c.authority (dots_removed (merge c q)) q.query q.fragment)) None)
        at_room false f g same = tt
        at_room true f g same =
            undotted_same b.scheme c.scheme b.authority c.authority (merge b r) (merge c q) (merged b.path r.path) (merged c.path q.path) r.query q.query
            r.fragment q.fragment base.schemes base.authorities base.kinds
            (dots_removed-merged (is_some b.authority) b.path r.path fb br (f refl)) (dots_removed-merged (is_some c.authority) c.path q.path fc bq (g refl))
            (fits_merged (is_some b.authority) b.path r.path fb br (f refl)) (fits_merged (is_some c.authority) c.path q.path fc bq (g refl)) same ref.queries
            ref.fragments

    by_tests : (s : Bool) → is_some r.scheme ≡ s → (d : Bool) → is_some r.authority ≡ d → (x : Bool) → is_empty (text r.path) ≡ x → (y : Bool)
        → is_rooted (text r.path) ≡ y → AreSame (chosen s d x y b r) (chosen s d x y c q)
    by_tests true e d i x j y k =
        undotted_same r.scheme q.scheme r.authority q.authority (text r.path) (text q.path) r.path q.path r.query q.query r.fragment q.fragment ref.schemes
        ref.authorities ref.kinds (dots_removed-text r.path fr.listed) (dots_removed-text q.path fq.listed) fr fq ref.paths ref.queries ref.fragments
    by_tests false e true i x j y k =
        undotted_same b.scheme c.scheme r.authority q.authority (text r.path) (text q.path) r.path q.path r.query q.query r.fragment q.fragment base.schemes
        ref.authorities ref.kinds (dots_removed-text r.path fr.listed) (dots_removed-text q.path fq.listed) fr fq ref.paths ref.queries ref.fragments
    by_tests false e false i true j y k =
        made_same b.scheme c.scheme b.authority c.authority b.path c.path (option_or r.query b.query) (option_or q.query c.query) r.fragment q.fragment
        base.schemes base.authorities base.kinds fb.listed fb.formed fc.listed fc.formed
        (subst (λ p. Fits (is_some b.authority) p) (sym (shielded_fits b.authority b.path fb)) fb)
        (subst (λ p. Fits (is_some c.authority) p) (sym (shielded_fits c.authority c.path fc)) fc)
        base.paths
        (map_or r.query b.query ∙ ap (λ o. option_or o (option_map canonical b.query)) ref.queries
        ∙ ap (λ o. option_or (option_map canonical q.query) o) base.queries
        ∙ sym (map_or q.query c.query))
        ref.fragments
    by_tests false e false i false j true k =
        undotted_same b.scheme c.scheme b.authority c.authority (text r.path) (text q.path) r.path q.path r.query q.query r.fragment q.fragment base.schemes
        base.authorities base.kinds (dots_removed-text r.path fr.listed) (dots_removed-text q.path fq.listed)
        (fits_rooted (is_some b.authority) r.path (lone i) k) (fits_rooted (is_some c.authority) q.path (lone_too i) (e4
        ∙ k)) ref.paths ref.queries ref.fragments
    by_tests false e false i false j false k =
        by_room (following r.path (lone i) k) (following q.path (lone_too i) (e4 ∙ k)) (nat_le (length (pieces (merge b r))) max_segments) refl

pub same_normal : (p q : Parts) → Valid p → Valid q → Same p q → (print (normal p) ≡ print (normal q)) × (kind (normal p) ≡ kind (normal q))
same_normal p q v w s =
    let is = alike_of p q v w s in
    let i = fits_of p v in
    let j = fits_of q w in
    let r : is_none p.scheme ≡ is_none q.scheme = same_none scheme.canonical_text scheme.canonical_text p.scheme q.scheme is.schemes in
    let h : pnormal p.path (is_none p.scheme) ≡ pnormal q.path (is_none q.scheme) =
    sym (pnormal-canonical p.path (is_none p.scheme) i.listed) ∙ ap (λ u. pnormal u (is_none p.scheme)) is.paths
    ∙ pnormal-canonical q.path (is_none p.scheme) j.listed ∙ ap (pnormal q.path) r in
    let t : text (normal p).path ≡ text (normal q).path = ap text (ap (dot_prefixed p.authority) h
    ∙ shielded_some p.authority q.authority (pnormal q.path (is_none q.scheme))
    (same_some authority.canonical_text authority.canonical_text p.authority q.authority is.authorities)) in (
      ap (λ u. joined u (authority_part (normal p)) (text (normal p).path) (normal p).query (normal p).fragment) (scheme-text p.scheme ∙ is.schemes
          ∙ sym (scheme-text q.scheme))
          ∙ ap (λ u. joined (scheme_part (normal q)) u (text (normal p).path) (normal p).query (normal p).fragment) (authority-print p.authority
          ∙ is.authorities ∙ sym (authority-print q.authority))
          ∙ ap (λ u. joined (scheme_part (normal q)) (authority_part (normal q)) u (normal p).query (normal p).fragment) t
          ∙ ap (λ u. joined (scheme_part (normal q)) (authority_part (normal q)) (text (normal q).path) u (normal p).fragment) is.queries
          ∙ ap (λ u. joined (scheme_part (normal q)) (authority_part (normal q)) (text (normal q).path) (normal q).query u) is.fragments,
      authority-kind p.authority ∙ is.kinds ∙ sym (authority-kind q.authority),
    )

pub one_normal : (p q : Parts) → Valid p → Valid q → Same p q → normal p ≡ normal q
one_normal p q v w s = let both = same_normal p q v w s in printed_alike (normal p) (normal q) (normal_valid p v) (normal_valid q w) both.0 both.1
