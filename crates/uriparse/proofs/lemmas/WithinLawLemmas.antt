-- Laws of URIs below other URIs.
use Rattle.std.proofs.Common.{◌≡◌, ◌↔◌, ℕ, ◌<◌, suc, true, false, List, [], ◌∷◌, ◌++◌, length, map, Bool, cond, Option, Some, None, refl, sym, ap, subst, ◌∙◌, arith, append_assoc, append-nil}
use Rattle.std.specs.Prelude.{IfSome, is_none, is_some}
use Rattle.std.specs.Option.{option_map, option_or, option_and_then}
use Rattle.std.specs.List.{list_all, list_any}
use Rattle.std.proofs.lemmas.Bool.{false≢true, or_from, or_parts}
use Rattle.std.proofs.lemmas.List.{length-append}
use Rattle.std.proofs.lemmas.List.Folds.{list_any-append}
use Rattle.uriparse_text.specs.Ambiguous.{is_ambiguous}
use Rattle.uriparse_authority.specs.Authority as authority
use Rattle.uriparse_authority.specs.Host as host
use Rattle.uriparse_authority.specs.Normal.{canonical_authority, canonical_host}
use Rattle.uriparse_authority.specs.Port as port
use Rattle.uriparse_authority.specs.declared.authority.host.Host.{Host}
use Rattle.uriparse_authority.proofs.lemmas.authorities.NormalLemmas as authorities
use Rattle.uriparse_text.specs.Bytes.{dot}
use Rattle.uriparse_text.specs.Canonical.{canonical}
use Rattle.uriparse_text.specs.Segment.{is_segment}
use Rattle.uriparse_text.proofs.lemmas.canonical.DotLemmas.{canonical-dot}
use Rattle.uriparse_path.specs.Dots.{all_but_last, has_dot_segment, is_double_dot}
use Rattle.uriparse_path.specs.Edits.{dotted}
use Rattle.uriparse_path.specs.Normal.{canonical_path, pnormal}
use Rattle.uriparse_path.specs.Path.{PathParts, has_two_slashes, text}
use Rattle.uriparse_path.specs.Within.{AreWithin, IsPathWithin, has_ambiguous, is_unclear, removed_segments, removes_unclear}
use Rattle.uriparse_path.proofs.lemmas.dots.DotSegmentLemmas.{dot_single, not_both}
use Rattle.uriparse_path.proofs.lemmas.left.RemovedLemmas.{no_double, none_removed}
use Rattle.uriparse_path.proofs.lemmas.merge.MergedNormalFormLemmas.{listed_undotted, no_dots_undotted, pnormal_is, undotted}
use Rattle.uriparse_path.proofs.lemmas.normal.NormalFormLemmas.{listed_pnormal, pnormal_twice}
use Rattle.uriparse_path.proofs.lemmas.normal.RelativeFormLemmas.{has_dot-canonical}
use Rattle.uriparse_path.proofs.lemmas.text.CanonicalTextLemmas.{listed-canonical}
use Rattle.uriparse_scheme.specs.DefaultPort.{default_port}
use Rattle.uriparse_scheme.specs.Normal.{canonical_scheme}
use Rattle.uriparse_scheme.specs.Scheme as scheme
use Rattle.uriparse_scheme.specs.declared.scheme.Scheme.{Scheme}
use Rattle.uriparse_scheme.specs.declared.scheme.Scheme.TheVariants.{Registered, Unregistered}
use Rattle.uriparse_scheme.proofs.lemmas.schemes.NormalLemmas as schemes
use Rattle.uriparse_reference.specs.Normal.{dot_prefixed, normal}
use Rattle.uriparse_reference.specs.Reference.{Parts, Same, Valid}
use Rattle.uriparse_reference.proofs.lemmas.edits.PathRuleLemmas.{fits_of, pnormal_formed}
use Rattle.uriparse_reference.proofs.lemmas.normalizing.NormalFormLemmas.{fits_normal_path, pnormal_shielded}
use Rattle.uriparse_reference.proofs.lemmas.resolving.EqualTargetLemmas.{alike_of, one_normal}
use Rattle.uriparse.specs.Kinds.{IsOfKind}
use Rattle.uriparse.specs.Within.{IsSamePlace, IsWithin, with_used_port}

-- ---- lists of segments

cut_append : (xs ys : List (List ℕ)) → 0 < length ys → all_but_last (xs ++ ys) ≡ xs ++ all_but_last ys
cut_append [] ys h = refl
cut_append (x ∷ []) [] h = absurd (omega (arith, h))
cut_append (x ∷ []) (y ∷ ys) h = refl
cut_append (x ∷ z ∷ xs) ys h = ap (λ l. x ∷ l) (cut_append (z ∷ xs) ys h)

plain_front : (ss : List (List ℕ)) → has_ambiguous ss ≡ false → has_ambiguous (all_but_last ss) ≡ false
plain_front [] h = refl
plain_front (s ∷ []) h = refl
plain_front (s ∷ r ∷ ss) h =
    let both = or_parts (is_ambiguous s) (has_ambiguous (r ∷ ss)) h in
    or_from (is_ambiguous s) (has_ambiguous (all_but_last (r ∷ ss))) both.0 (plain_front (r ∷ ss) both.1)

length_front : (ss : List (List ℕ)) → 0 < length ss → length ss ≡ suc (length (all_but_last ss))
length_front [] h = absurd (omega (arith, h))
length_front (s ∷ []) h = refl
length_front (s ∷ r ∷ ss) h = ap suc (length_front (r ∷ ss) (omega arith))

pub are_within_again : (ss bs cs : List (List ℕ)) → AreWithin ss bs → AreWithin bs cs → AreWithin ss cs
are_within_again ss bs cs w x = record {
  rest = all_but_last x.rest ++ w.rest;
  begins = w.begins ∙ ap (λ l. l ++ w.rest) (ap all_but_last x.begins ∙ cut_append (all_but_last cs) x.rest x.some)
      ∙ append_assoc (all_but_last cs) (all_but_last x.rest) w.rest;
  some = let more = length-append (all_but_last x.rest) w.rest in omega (arith, more, w.some);
  plain = list_any-append is_ambiguous (all_but_last x.rest) w.rest
      ∙ or_from (has_ambiguous (all_but_last x.rest)) (has_ambiguous w.rest) (plain_front x.rest x.plain) w.plain;
  alone = λ one. let same = x.alone one in w.alone (ap length same ∙ one) ∙ same;
}

one_more : (ss ds rest : List (List ℕ)) → ss ≡ ds ++ rest → length rest ≡ 1 → all_but_last ss ≡ ds
one_more ss ds [] e h = absurd (omega (arith, h))
one_more ss ds (r ∷ []) e h = ap all_but_last e ∙ cut_append ds (r ∷ []) (omega arith) ∙ append-nil ds
one_more ss ds (r ∷ s ∷ rest) e h = absurd (omega (arith, h))

some_within : (ss bs : List (List ℕ)) → AreWithin ss bs → 0 < length ss
some_within ss bs w =
    let e = ap length w.begins ∙ length-append (all_but_last bs) w.rest in omega (arith, e, w.some)

pub one_directory : (ss bs : List (List ℕ)) → AreWithin ss bs → AreWithin bs ss → all_but_last ss ≡ all_but_last bs
one_directory ss bs w x =
    let a = ap length w.begins ∙ length-append (all_but_last bs) w.rest in
    let b = ap length x.begins ∙ length-append (all_but_last ss) x.rest in
    let c = length_front ss (some_within ss bs w) in
    let d = length_front bs (some_within bs ss x) in
    one_more ss (all_but_last bs) w.rest w.begins (omega (arith, a, b, c, d, w.some, x.some))

pub are_within_itself : (ss front : List (List ℕ)) (last : List ℕ) → ss ≡ front ++ last ∷ [] → is_ambiguous last ≡ false → AreWithin ss ss
are_within_itself ss front last e h =
    let cut : all_but_last ss ≡ front = one_more ss front (last ∷ []) e refl in
    record {
      rest = last ∷ [];
      begins = e ∙ ap (λ l. l ++ last ∷ []) (sym cut);
      some = omega arith;
      plain = or_from (is_ambiguous last) false h refl;
      alone = λ one. refl;
    }

-- ---- the place

pub again_place : (s t r : Option Scheme) (a b d : Option authority.AuthorityParts) → IsSamePlace s t a b → IsSamePlace t r b d → IsSamePlace s r a d
again_place s t r a b d p q = record { schemes = p.schemes ∙ q.schemes; authorities = p.authorities ∙ q.authorities }

same_port : (s : Scheme) → default_port (canonical_scheme s) ≡ default_port s
same_port (Registered s) = refl
same_port (Unregistered t) = refl

used_port : (s : Option Scheme) → option_and_then default_port (option_map canonical_scheme s) ≡ option_and_then default_port s
used_port None = refl
used_port (Some s) = same_port s

scheme_text : (s : Scheme) → scheme.Valid s → scheme.canonical_text (canonical_scheme s) ≡ scheme.canonical_text s
scheme_text s v = sym (schemes.text-canonical (canonical_scheme s)) ∙ ap scheme.text (schemes.canonical_twice s v) ∙ schemes.text-canonical s

scheme_texts : (s : Option Scheme) → IfSome s scheme.Valid → option_map scheme.canonical_text (option_map canonical_scheme s) ≡ option_map scheme.canonical_text s
scheme_texts None v = refl
scheme_texts (Some s) v = ap Some (scheme_text s v)

host_text : (h : Host) → host.Valid h → host.canonical_text (canonical_host h) ≡ host.canonical_text h
host_text h v = sym (authorities.host_text-canonical (canonical_host h)) ∙ ap host.text (authorities.host_twice h v) ∙ authorities.host_text-canonical h

-- the authority in canonical spelling has the same key, with any port
key_with_port : (a : authority.AuthorityParts) (n : Option ℕ) → authority.Valid a
    → authority.key (authority.with_port (canonical_authority a) n) ≡ authority.key (authority.with_port a n)
key_with_port a n v =
    let c = canonical_authority a in
    ap (λ k. host.kind_code k ∷ authority.canonical_text (authority.with_port c n)) (authorities.kind-canonical a)
    ∙ ap (λ (x : authority.AuthorityParts). host.kind_code (authority.kind a) ∷ authority.joined x.username x.password (host.canonical_text c.host) (option_map port.text n))
    (authorities.canonical_twice a v)
    ∙ ap (λ t. host.kind_code (authority.kind a) ∷ authority.joined c.username c.password t (option_map port.text n)) (host_text a.host v.is_host)

keys_with_port : (a : Option authority.AuthorityParts) (d : Option ℕ) → IfSome a authority.Valid
    → option_map authority.key (option_map (λ (x : authority.AuthorityParts). authority.with_port x (option_or x.port d)) (option_map canonical_authority a))
    ≡ option_map authority.key (option_map (λ (x : authority.AuthorityParts). authority.with_port x (option_or x.port d)) a)
keys_with_port None d v = refl
keys_with_port (Some a) d v = ap Some (key_with_port a (option_or a.port d) v)

keys : (s : Option Scheme) (a : Option authority.AuthorityParts) → IfSome a authority.Valid
    → option_map authority.key (with_used_port (option_map canonical_scheme s) (option_map canonical_authority a)) ≡ option_map authority.key (with_used_port s a)
keys s a v =
    ap (λ d. option_map authority.key (option_map (λ (x : authority.AuthorityParts). authority.with_port x (option_or x.port d)) (option_map canonical_authority a)))
    (used_port s)
    ∙ keys_with_port a (option_and_then default_port s) v

-- ---- normal forms

no_none : (s : Option Scheme) → is_some s ≡ true → is_none s ≡ false
no_none None h = absurd (cc)
no_none (Some s) h = refl

-- the path of the normal form has the same normal form
path_normal : (p : Parts) → Valid p → IsOfKind true p → pnormal (normal p).path false ≡ pnormal p.path false
path_normal p v k =
    let is = fits_of p v in
    let r = is_none p.scheme in
    let e = no_none p.scheme k in
    subst (λ f. pnormal (normal p).path f ≡ pnormal p.path f) e (
    pnormal_shielded p.authority (pnormal p.path r) r (listed_pnormal p.path r is.listed) (pnormal_formed p.path r is.listed is.formed) (fits_normal_path p v)
    ∙ pnormal_twice p.path r is.listed)

-- ---- segments that are removed

one_dot : is_double_dot (dot ∷ []) ≡ false
one_dot = by_kind (is_double_dot (dot ∷ [])) refl
  where
    by_kind : (v : Bool) → is_double_dot (dot ∷ []) ≡ v → v ≡ false
    by_kind false e = refl
    by_kind true e = absurd (false≢true (sym (not_both (dot ∷ []) e) ∙ dot_single))

none_double : (ss : List (List ℕ)) → list_all is_segment ss ≡ true → has_dot_segment ss ≡ false → list_any is_double_dot (map canonical ss) ≡ false
none_double ss is h = no_double (map canonical ss) (has_dot-canonical ss is ∙ h)

-- a path without dot segments, perhaps after a leading "."
pub undotted_clear : (a : Option authority.AuthorityParts) (p : PathParts) → list_all is_segment p.segments ≡ true → has_dot_segment p.segments ≡ false
    → removes_unclear (dot_prefixed a p) ≡ false
undotted_clear (Some a) p is h = ap (list_any is_unclear) (none_removed (map canonical p.segments) (none_double p.segments is h))
undotted_clear None p is h = by_slashes (has_two_slashes (text p))
  where
    by_slashes : (v : Bool) → removes_unclear (cond v (dotted p) p) ≡ false
    by_slashes false = ap (list_any is_unclear) (none_removed (map canonical p.segments) (none_double p.segments is h))
    by_slashes true =
        ap (list_any is_unclear) (none_removed (map canonical ((dot ∷ []) ∷ p.segments))
        (or_from (is_double_dot (canonical (dot ∷ []))) (list_any is_double_dot (map canonical p.segments))
        (ap is_double_dot canonical-dot ∙ one_dot) (none_double p.segments is h)))

-- the path of a normal form has no dot segment after a leading "."
normal_clear : (p : Parts) → Valid p → IsOfKind true p → removes_unclear (normal p).path ≡ false
normal_clear p v k =
    let is = fits_of p v in
    let e = no_none p.scheme k in
    let same = pnormal_is p.path false is.listed is.formed refl in
    let listed = listed_undotted p.path is.listed in
    subst (λ f. removes_unclear (dot_prefixed p.authority (pnormal p.path f)) ≡ false) (sym e)
    (subst (λ q. removes_unclear (dot_prefixed p.authority q) ≡ false) (sym same)
    (undotted_clear p.authority (canonical_path (undotted p.path)) (listed-canonical (undotted p.path).segments listed).each
    (has_dot-canonical (undotted p.path).segments listed.each ∙ no_dots_undotted p.path is.listed)))

-- equal URIs remove segments that are spelled alike
clear_equals : (p q : Parts) → Valid p → Valid q → Same p q → removes_unclear p.path ≡ false → removes_unclear q.path ≡ false
clear_equals p q v w same h =
    ap (λ (r : PathParts). list_any is_unclear (removed_segments r.segments)) (sym (alike_of p q v w same).paths) ∙ h

pub within_normal : (p b : Parts) → Valid p → IsOfKind true p → IsWithin p b → IsWithin (normal p) b
within_normal p b v k w =
    let t = scheme_texts p.scheme v.is_scheme in
    let u = keys p.scheme p.authority v.is_authority in
    let e = path_normal p v k in record {
      place = record { schemes = t ∙ w.place.schemes; authorities = u ∙ w.place.authorities };
      path = subst (λ q. IsPathWithin q (pnormal b.path false)) (sym e) w.path;
      clear = normal_clear p v k;
    }

pub within_normal_back : (p b : Parts) → Valid p → IsOfKind true p → removes_unclear p.path ≡ false → IsWithin (normal p) b → IsWithin p b
within_normal_back p b v k h w =
    let t = scheme_texts p.scheme v.is_scheme in
    let u = keys p.scheme p.authority v.is_authority in
    let e = path_normal p v k in record {
      place = record { schemes = sym t ∙ w.place.schemes; authorities = sym u ∙ w.place.authorities };
      path = subst (λ q. IsPathWithin q (pnormal b.path false)) e w.path;
      clear = h;
    }

pub within_normal_base : (p b : Parts) → Valid b → IsOfKind true b → IsWithin p b ↔ IsWithin p (normal b)
within_normal_base p b v k =
    let t = scheme_texts b.scheme v.is_scheme in
    let u = keys b.scheme b.authority v.is_authority in
    let e = path_normal b v k in (
      λ w. record {
        place = record { schemes = w.place.schemes ∙ sym t; authorities = w.place.authorities ∙ sym u };
        path = subst (λ q. IsPathWithin (pnormal p.path false) q) (sym e) w.path;
        clear = w.clear;
      },
      λ w. record {
        place = record { schemes = w.place.schemes ∙ t; authorities = w.place.authorities ∙ u };
        path = subst (λ q. IsPathWithin (pnormal p.path false) q) e w.path;
        clear = w.clear;
      },
    )

-- equal URIs are below the same URIs, and the same URIs are below them
pub within_equals : (p q b c : Parts) → Valid p → Valid q → Valid b → Valid c → IsOfKind true p → IsOfKind true q → IsOfKind true b → IsOfKind true c
    → Same p q → Same b c → IsWithin p b → IsWithin q c
within_equals p q b c v w x y k l m n same other h =
    let one : IsWithin (normal p) (normal b) = (within_normal_base (normal p) b x m).0 (within_normal p b v k h) in
    let two : IsWithin (normal q) (normal c) =
    subst (λ r. IsWithin (normal q) r) (one_normal b c x y other) (subst (λ r. IsWithin r (normal b)) (one_normal p q v w same) one) in
    within_normal_back q c w l (clear_equals p q v w same h.clear) ((within_normal_base (normal q) c y n).1 two)
