-- The normal form of a target, and of an empty path.
use Rattle.std.proofs.Common.{◌≡◌, ℕ, ◌≤◌, Bool, true, false, List, [], ◌∷◌, Option, Some, None, refl, sym, ap, ◌∙◌}
use Rattle.std.proofs.Common.{subst, arith}
use Rattle.std.specs.Prelude.{IfSome, is_some, is_none}
use Rattle.std.specs.Option.{option_map}
use Rattle.std.proofs.lemmas.Bool.{false≢true, and_from}
use Rattle.uriparse_text.specs.declared.internal.class.Class.TheVariants.{Query}
use Rattle.uriparse_text.specs.Query.{IsQuery}
use Rattle.uriparse_text.specs.Fragment.{IsFragment}
use Rattle.uriparse_text.specs.Canonical.{canonical}
use Rattle.uriparse_path.specs.Path.{PathParts, IsListed, max_segments, text}
use Rattle.uriparse_path.specs.Dots.{replayed}
use Rattle.uriparse_path.specs.Normal.{canonical_path, stays_relative, pnormal}
use Rattle.uriparse_path.specs.Normal as path
use Rattle.uriparse_text.proofs.lemmas.canonical.DotLemmas.{canonical-nil}
use Rattle.uriparse_text.proofs.lemmas.canonical.DotLemmas.{empty_single, empty_double}
use Rattle.uriparse_text.proofs.lemmas.canonical.DotLemmas.{empty_segment}
use Rattle.uriparse_path.proofs.lemmas.normal.NormalFormLemmas.{listed_pnormal, normal_kept}
use Rattle.uriparse_path.proofs.lemmas.merge.MergedNormalFormLemmas.{undotted, listed_undotted, undotted_twice, undotted-canonical, canonical_path_twice}
use Rattle.uriparse_path.proofs.lemmas.merge.MergedNormalFormLemmas.{respelled_twice, pnormal_is}
use Rattle.uriparse_authority.specs.Authority as authority
use Rattle.uriparse_authority.specs.Authority.{AuthorityParts}
use Rattle.uriparse_authority.specs.Normal.{canonical_authority}
use Rattle.uriparse_scheme.specs.declared.scheme.Scheme.{Scheme}
use Rattle.uriparse_scheme.specs.Scheme as scheme
use Rattle.uriparse_scheme.specs.Normal.{canonical_scheme}
use Rattle.uriparse_reference.specs.Reference.{Parts}
use Rattle.uriparse_reference.specs.Normal.{dot_prefixed, normal}
use Rattle.uriparse_reference.specs.Target.{dots_removed, is_empty, target_of}
use Rattle.uriparse_reference.proofs.lemmas.equality.CanonicalComponentLemmas.{scheme_twice, text_twice, some_map, authority_twice}
use Rattle.uriparse_reference.proofs.lemmas.edits.PathRuleLemmas.{Fits, make, undotted_shielded}
use Rattle.uriparse_reference.proofs.lemmas.normalizing.NormalFormLemmas.{pnormal_shielded, shielded_map}
use Rattle.uriparse_reference.proofs.lemmas.normalizing.NormalizingLemmas.{same_path}
use Rattle.uriparse_reference.proofs.lemmas.resolving.ValidTargetLemmas.{fits_undotted}

-- the normal form of a path that is not normalized as a relative one
abbrev pub settled : PathParts → PathParts
settled p = canonical_path (undotted p)

abbrev pub build : Option Scheme → Option AuthorityParts → PathParts → Option (List ℕ) → Option (List ℕ) → Parts
build scheme authority path query fragment = record { scheme = scheme; authority = authority; path = path; query = query; fragment = fragment }

-- ---- the normal form of a target

pub with_scheme : (s : Option Scheme) → is_some s ≡ true → is_none s ≡ false
with_scheme None h = absurd (false≢true h)
with_scheme (Some s) h = refl

pub made_path : (a : Option AuthorityParts) (m : PathParts) (r : Bool) → r ≡ false → Fits (is_some a) m
    → dot_prefixed a (pnormal (dot_prefixed a (undotted m)) r) ≡ dot_prefixed a (settled m)
made_path a m r h is =
    let listed = listed_undotted m is.listed in
    ap (λ v. dot_prefixed a (pnormal (dot_prefixed a (undotted m)) v)) h
    ∙ ap (dot_prefixed a) (
    pnormal_shielded a (undotted m) false listed (respelled_twice (replayed m)) (fits_undotted a m is)
    ∙ pnormal_is (undotted m) false listed (respelled_twice (replayed m)) refl
    ∙ ap canonical_path (undotted_twice m is.listed))

pub normal_made : (s : Option Scheme) (a : Option AuthorityParts) (m : PathParts) (x f : Option (List ℕ)) → is_some s ≡ true → Fits (is_some a) m
    → normal (target_of s a (undotted m) x f) ≡ build (option_map canonical_scheme s) (option_map canonical_authority a) (dot_prefixed a (settled m))
    (option_map canonical x) (option_map canonical f)
normal_made s a m x f h is =
    ap (λ p. build (option_map canonical_scheme s) (option_map canonical_authority a) p (option_map canonical x) (option_map canonical f))
    (made_path a m (is_none s) (with_scheme s h) is)

-- targets of paths with one normal form have one normal form
pub same_made : (s : Option Scheme) (a : Option AuthorityParts) (t u : List ℕ) (m n : PathParts) (x f : Option (List ℕ)) → is_some s ≡ true
    → IfSome s scheme.Valid → IfSome a authority.Valid → IfSome x IsQuery → IfSome f IsFragment
    → dots_removed t ≡ undotted m → dots_removed u ≡ undotted n → Fits (is_some a) m → Fits (is_some a) n → settled n ≡ settled m
    → normal (target_of s a (dots_removed t) x f)
    ≡ normal (target_of (option_map canonical_scheme s) (option_map canonical_authority a) (dots_removed u) (option_map canonical x) (option_map canonical f))
same_made s a t u m n x f h vs va vx vf i j is js e =
    let a' = option_map canonical_authority a in
    let s' = option_map canonical_scheme s in
    let x' = option_map canonical x in
    let f' = option_map canonical f in
    ap (λ p. normal (target_of s a p x f)) i
    ∙ normal_made s a m x f h is
    ∙ sym (ap (λ p. normal (target_of (option_map canonical_scheme s) (option_map canonical_authority a) p (option_map canonical x) (option_map canonical f))) j
    ∙ normal_made (option_map canonical_scheme s) (option_map canonical_authority a) n (option_map canonical x) (option_map canonical f)
    (some_map canonical_scheme s
    ∙ h) (subst (λ v. Fits v n) (sym (some_map canonical_authority a)) js)
    ∙ ap (λ y. build y (option_map canonical_authority (option_map canonical_authority a)) (dot_prefixed (option_map canonical_authority a) (settled n))
    (option_map canonical (option_map canonical x)) (option_map canonical (option_map canonical f))) (scheme_twice s vs)
    ∙ ap (λ y. build (option_map canonical_scheme s) y (dot_prefixed (option_map canonical_authority a) (settled n)) (option_map canonical (option_map canonical x))
    (option_map canonical (option_map canonical f))) (authority_twice a va)
    ∙ ap (λ y. build (option_map canonical_scheme s) (option_map canonical_authority a) y (option_map canonical (option_map canonical x))
    (option_map canonical (option_map canonical f))) (shielded_map canonical_authority a (settled n) ∙ ap (dot_prefixed a) e)
    ∙ ap (λ y. build (option_map canonical_scheme s) (option_map canonical_authority a) (dot_prefixed a (settled m)) y (option_map canonical
    (option_map canonical f)))
    (text_twice Query x vx)
    ∙ ap (λ y. build (option_map canonical_scheme s) (option_map canonical_authority a) (dot_prefixed a (settled m)) (option_map canonical x) y)
    (text_twice Query f vf))

-- ---- a path that is normalized already

pub settled_normal : (a : Option AuthorityParts) (p : PathParts) (r : Bool) → Fits (is_some a) p → stays_relative p r ≡ false
    → settled (dot_prefixed a (pnormal p r)) ≡ settled p
settled_normal a p r is e =
    ap canonical_path (undotted_shielded a (pnormal p r) (listed_pnormal p r is.listed).some)
    ∙ ap settled (pnormal_is p r is.listed is.formed e)
    ∙ ap canonical_path (undotted-canonical (undotted p) (listed_undotted p is.listed))
    ∙ ap (λ q. canonical_path (canonical_path q)) (undotted_twice p is.listed)
    ∙ canonical_path_twice (undotted p) (listed_undotted p is.listed)

-- ---- an empty path

pub empty_path : (p : PathParts) → Fits false p → is_empty (text p) ≡ true → p ≡ make false ([] ∷ [])
empty_path p is h = same_path p (make false ([] ∷ [])) is.listed is.formed (record {
  some = omega arith;
  short = omega (arith, one_fits);
  each = and_from _ _ empty_segment refl;
}) refl (nothing (text p) h)
  where
    one_fits : 1 ≤ max_segments
    one_fits = let a = is.listed.some in let b = is.listed.short in omega (arith, a, b)

    nothing : (t : List ℕ) → is_empty t ≡ true → t ≡ []
    nothing [] h = refl
    nothing (b ∷ t) h = absurd (false≢true h)

pub empty_normal : path.is_normal (make false ([] ∷ [])) true ≡ true
empty_normal = rw (canonical-nil, empty_double, empty_single) refl

pub still_empty : (a : Option AuthorityParts) (p : PathParts) → Fits false p → is_empty (text p) ≡ true → is_some a ≡ false
    → is_empty (text (dot_prefixed a (pnormal p true))) ≡ true
still_empty (Some a) p is h k = absurd (false≢true (sym k))
still_empty None p is h k =
    let e = empty_path p is h in
    let listed : IsListed ([] ∷ []) = subst (λ q. IsListed q.segments) e is.listed in
    ap (λ q. is_empty (text (dot_prefixed None (pnormal q true)))) e
    ∙ ap (λ q. is_empty (text (dot_prefixed None q))) (normal_kept (make false ([] ∷ [])) true listed empty_normal)
