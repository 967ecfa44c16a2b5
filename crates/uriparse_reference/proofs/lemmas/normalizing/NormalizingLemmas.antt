-- References in normal form, and what normalizing puts in place.
use Rattle.std.proofs.Common.{◌≡◌, ◌↔◌, ℕ, ◌<◌, Bool, true, false, ◌&&◌, ◌||◌, cond, List, [], ◌∷◌, length, Option, Some, None, refl, sym, ap, ◌∙◌}
use Rattle.std.proofs.Common.{subst, arith}
use Rattle.std.specs.Prelude.{IfSome, is_some, is_none, bytes_eq}
use Rattle.std.specs.Option.{option_map, option_eq}
use Rattle.std.specs.List.{list_all}
use Rattle.std.proofs.lemmas.Bool.{false≢true, and_parts, and_from}
use Rattle.std.proofs.lemmas.Slice.Eq.{bytes_eq-Decides}
use Rattle.uriparse_text.specs.Bytes.{dot}
use Rattle.uriparse_text.specs.Canonical.{canonical}
use Rattle.uriparse_text.specs.Segment.{is_segment}
use Rattle.uriparse_path.specs.Path.{PathParts, IsListed, text, spelled, starts_with_empty_segment, respelled, has_two_slashes}
use Rattle.uriparse_path.specs.Normal.{pnormal}
use Rattle.uriparse_path.specs.Normal as path
use Rattle.uriparse_path.specs.Normal.{is_dot_prefixed}
use Rattle.uriparse_path.proofs.lemmas.text.PathTextLemmas.{spelled-text}
use Rattle.uriparse_path.proofs.lemmas.normal.NormalFormLemmas.{listed_pnormal, pnormal_twice, normal_iff, normal_kept}
use Rattle.uriparse_authority.specs.Authority as authority
use Rattle.uriparse_authority.specs.Authority.{AuthorityParts}
use Rattle.uriparse_scheme.specs.declared.scheme.Scheme.{Scheme}
use Rattle.uriparse_scheme.specs.Scheme as scheme
use Rattle.uriparse_reference.specs.Reference.{Parts, joined, Valid, scheme_part, authority_part, print, kind}
use Rattle.uriparse_reference.specs.Cuts.{scheme_text, authority_text, path_text, query_text, fragment_text}
use Rattle.uriparse_path.specs.Edits.{dotted}
use Rattle.uriparse_reference.specs.Normal.{dot_prefixed, normal, is_normal}
use Rattle.uriparse_reference.proofs.lemmas.equality.EqualityLemmas.{print_cut, same_scheme}
use Rattle.uriparse_authority.proofs.lemmas.authorities.NormalLemmas.{one_printed}
use Rattle.uriparse_reference.proofs.lemmas.equality.CanonicalComponentLemmas.{scheme-text, same_texts}
use Rattle.uriparse_reference.proofs.lemmas.equality.CanonicalComponentLemmas.{authority-print, scheme_kept, authority_kept}
use Rattle.uriparse_reference.proofs.lemmas.edits.PathRuleLemmas.{Fits, make, two_slashes, fits_of, shielded_cases}
use Rattle.uriparse_reference.proofs.lemmas.edits.PathRuleLemmas.{shielded_fits, pnormal_formed, fits_normal}
use Rattle.uriparse_reference.proofs.lemmas.normalizing.NormalFormLemmas.{fits_normal_path, normal_valid, or_false, pnormal_dotted, pnormal_either}

-- ---- references that are unchanged

pub same_path : (p q : PathParts) → IsListed p.segments → respelled p ≡ p → IsListed q.segments → respelled q ≡ q → text p ≡ text q → p ≡ q
same_path p q is h js k e = sym h ∙ sym (spelled-text p is) ∙ ap spelled e ∙ spelled-text q js ∙ k

or_left : (v w : Bool) → v ≡ true → (v || w) ≡ true
or_left true w h = refl
or_left false w h = absurd (false≢true h)

or_right : (v w : Bool) → w ≡ true → (v || w) ≡ true
or_right true w h = refl
or_right false w h = h

some_hidden : (l : List (List ℕ)) → starts_with_empty_segment l ≡ true → 0 < length l
some_hidden [] h = absurd (false≢true h)
some_hidden (s ∷ l) h = omega arith

-- a path with a "." that is needed
kept_shielded : (a : Bool) (l : List (List ℕ)) (r : Bool) → IsListed l → is_dot_prefixed a l ≡ true → text (dot_prefixed None (pnormal (make a l) r)) ≡ text (make a l)
kept_shielded a [] r is h = absurd (false≢true h)
kept_shielded false (s ∷ ss) r is h = absurd (false≢true h)
kept_shielded true (s ∷ ss) r is h =
    let x = and_parts (bytes_eq s (dot ∷ []) && starts_with_empty_segment ss) (path.is_normal (make true ss) false) h in
    let y = and_parts (bytes_eq s (dot ∷ [])) (starts_with_empty_segment ss) x.0 in
    let e : s ≡ dot ∷ [] = (bytes_eq-Decides s (dot ∷ [])).0 y.0 in
    let short = is.short in
    let listed : IsListed ss = record {
      some = some_hidden ss y.1;
      short = omega arith;
      each = (and_parts (is_segment s) (list_all is_segment ss) is.each).1;
    } in
    let more : IsListed ((dot ∷ []) ∷ ss) = subst (λ u. IsListed (u ∷ ss)) e is in
    let same : pnormal (make true ((dot ∷ []) ∷ ss)) r ≡ make true ss = pnormal_dotted (make true ss) r listed more refl
    ∙ pnormal_either (make true ss) r false listed refl ∙ normal_kept (make true ss) false listed x.1 in
    let two : has_two_slashes (text (make true ss)) ≡ true = two_slashes (make true ss) listed refl ∙ y.1 in
    ap (λ u. text (dot_prefixed None (pnormal (make true (u ∷ ss)) r))) e
    ∙ ap (λ q. text (dot_prefixed None q)) same
    ∙ ap (λ v. text (cond v (dotted (make true ss)) (make true ss))) two
    ∙ ap (λ u. text (make true (u ∷ ss))) (sym e)

-- the path after this authority, or without one, is its own normal form
abbrev is_normal_path : Option AuthorityParts → PathParts → Bool → Bool
is_normal_path a p r = path.is_normal p r || (is_none a && is_dot_prefixed p.absolute p.segments)

pub path_iff : (a : Option AuthorityParts) (p : PathParts) (r : Bool) → Fits (is_some a) p
    → (is_normal_path a p r ≡ true) ↔ (text (dot_prefixed a (pnormal p r)) ≡ text p)
path_iff (Some a) p r is = (
  (λ h. (normal_iff p r is.listed).0 (sym (or_false (path.is_normal p r)) ∙ h)),
  (λ e. or_false (path.is_normal p r)
      ∙ (normal_iff p r is.listed).1 e),
)
path_iff None p r is = (there, back)
  where
    by_test : (v : Bool) → path.is_normal p r ≡ v → (v || is_dot_prefixed p.absolute p.segments) ≡ true → text (dot_prefixed None (pnormal p r)) ≡ text p
    by_test true e h = ap (λ q. text (dot_prefixed None q)) (normal_kept p r is.listed e) ∙ ap text (shielded_fits None p is)
    by_test false e h = kept_shielded p.absolute p.segments r is.listed h

    there : is_normal_path None p r ≡ true → text (dot_prefixed None (pnormal p r)) ≡ text p
    there h = by_test (path.is_normal p r) refl h

    needed : has_two_slashes (text (pnormal p r)) ≡ true → Fits false (dotted (pnormal p r)) → text (dotted (pnormal p r)) ≡ text p
        → is_normal_path None p r ≡ true
    needed e fit g =
        let listed = listed_pnormal p r is.listed in
        let both = and_parts (pnormal p r).absolute (starts_with_empty_segment (pnormal p r).segments)
        (sym (two_slashes (pnormal p r) listed (pnormal_formed p r is.listed is.formed)) ∙ e) in
        let same : dotted (pnormal p r) ≡ p = same_path (dotted (pnormal p r)) p fit.listed fit.formed is.listed is.formed g in
        let own : pnormal (pnormal p r) false ≡ pnormal p r = pnormal_either (pnormal p r) false r listed both.0 ∙ pnormal_twice p r is.listed in
        let shielded_too : is_dot_prefixed (pnormal p r).absolute ((dot ∷ []) ∷ (pnormal p r).segments) ≡ true =
        and_from _ _ (and_from _ _ (and_from _ _ both.0 ((bytes_eq-Decides (dot ∷ []) (dot ∷ [])).1 refl)) both.1)
        ((normal_iff (pnormal p r) false listed).1 (ap text own)) in
        or_right (path.is_normal p r) (is_dot_prefixed p.absolute p.segments) (subst (λ q. is_dot_prefixed q.absolute q.segments ≡ true) same shielded_too)

    back : text (dot_prefixed None (pnormal p r)) ≡ text p → is_normal_path None p r ≡ true
    back e = shielded_cases (pnormal p r) (λ q. Fits false q → text q ≡ text p → is_normal_path None p r ≡ true)
        (λ h fit g. needed h fit g)
        (λ h fit g. or_left (path.is_normal p r) (is_dot_prefixed p.absolute p.segments) ((normal_iff p r is.listed).1 g))
        (fits_normal None p r is) e

pub normal_exactly : (p : Parts) → Valid p → (is_normal p ≡ true) ↔ (print (normal p) ≡ print p)
normal_exactly p v = (there, back)
  where
    there : is_normal p ≡ true → print (normal p) ≡ print p
    there h =
        let x = and_parts (option_eq bytes_eq (option_map scheme.canonical_text p.scheme) (scheme_part p)) _ h in
        let y = and_parts (option_eq bytes_eq (option_map authority.canonical_text p.authority) (authority_part p)) _ x.1 in
        let z = and_parts (is_normal_path p.authority p.path (is_none p.scheme)) _ y.1 in
        let w = and_parts (option_eq bytes_eq (option_map canonical p.query) p.query) _ z.1 in
        let s : scheme_part (normal p) ≡ scheme_part p = scheme-text p.scheme ∙ (same_texts _ _).0 x.0 in
        let a : authority_part (normal p) ≡ authority_part p = authority-print p.authority ∙ (same_texts _ _).0 y.0 in
        let t : text (normal p).path ≡ text p.path = (path_iff p.authority p.path (is_none p.scheme) (fits_of p v)).0 z.0 in
        ap (λ u. joined u (authority_part (normal p)) (text (normal p).path) (normal p).query (normal p).fragment) s
        ∙ ap (λ u. joined (scheme_part p) u (text (normal p).path) (normal p).query (normal p).fragment) a
        ∙ ap (λ u. joined (scheme_part p) (authority_part p) u (normal p).query (normal p).fragment) t
        ∙ ap (λ u. joined (scheme_part p) (authority_part p) (text p.path) u (normal p).fragment) ((same_texts _ _).0 w.0)
        ∙ ap (λ u. joined (scheme_part p) (authority_part p) (text p.path) p.query u) ((same_texts _ _).0 w.1)

    back : print (normal p) ≡ print p → is_normal p ≡ true
    back e =
        let x = print_cut (normal p) (normal_valid p v) in
        let y = print_cut p v in
        let s : scheme_part (normal p) ≡ scheme_part p = sym x.scheme ∙ ap scheme_text e ∙ y.scheme in
        let a : authority_part (normal p) ≡ authority_part p = sym x.authority ∙ ap authority_text e ∙ y.authority in
        let t : text (normal p).path ≡ text p.path = sym x.path ∙ ap path_text e ∙ y.path in
        let q : (normal p).query ≡ p.query = sym x.query ∙ ap query_text e ∙ y.query in
        let f : (normal p).fragment ≡ p.fragment = sym x.fragment ∙ ap fragment_text e ∙ y.fragment in
        and_from _ _ ((same_texts _ _).1 (sym (scheme-text p.scheme) ∙ s))
        (and_from _ _ ((same_texts _ _).1 (sym (authority-print p.authority) ∙ a))
        (and_from _ _ ((path_iff p.authority p.path (is_none p.scheme) (fits_of p v)).1 t)
        (and_from _ _ ((same_texts _ _).1 q) ((same_texts _ _).1 f))))

pub kept_whole : (p : Parts) → Valid p → is_normal p ≡ true → normal p ≡ p
kept_whole p v h =
    let e = (normal_exactly p v).0 h in
    let x = print_cut (normal p) (normal_valid p v) in
    let y = print_cut p v in
    let is = fits_of p v in
    let now = fits_normal_path p v in
    let s : (normal p).scheme ≡ p.scheme = scheme_kept p.scheme (sym x.scheme ∙ ap scheme_text e ∙ y.scheme) in
    let a : (normal p).authority ≡ p.authority = authority_kept p.authority v.is_authority (sym x.authority ∙ ap authority_text e ∙ y.authority) in
    let t : (normal p).path ≡ p.path = same_path (normal p).path p.path now.listed now.formed is.listed is.formed (sym x.path ∙ ap path_text e ∙ y.path) in
    let q : (normal p).query ≡ p.query = sym x.query ∙ ap query_text e ∙ y.query in
    let f : (normal p).fragment ≡ p.fragment = sym x.fragment ∙ ap fragment_text e ∙ y.fragment in
    ap (λ u. build u (normal p).authority (normal p).path (normal p).query (normal p).fragment) s
    ∙ ap (λ u. build p.scheme u (normal p).path (normal p).query (normal p).fragment) a
    ∙ ap (λ u. build p.scheme p.authority u (normal p).query (normal p).fragment) t
    ∙ ap (λ u. build p.scheme p.authority p.path u (normal p).fragment) q
    ∙ ap (λ u. build p.scheme p.authority p.path p.query u) f
  where
    build : Option Scheme → Option AuthorityParts → PathParts → Option (List ℕ) → Option (List ℕ) → Parts
    build scheme authority path query fragment = record { scheme = scheme; authority = authority; path = path; query = query; fragment = fragment }

-- ---- what is put in place

-- the path's normal form depends only on what precedes it
pub placed_normal : (s : Option Scheme) (a : Option AuthorityParts) (p : PathParts)
    → path.normal_at (record { has_scheme = is_some s; has_authority = is_some a }) p ≡ dot_prefixed a (pnormal p (is_none s))
placed_normal s None p = refl
placed_normal s (Some a) p = refl

pub made_is : (p : Parts) (s : Option Scheme) (a : Option AuthorityParts) (h : PathParts) (q f : Option (List ℕ))
    → s ≡ (normal p).scheme → a ≡ (normal p).authority → h ≡ (normal p).path → q ≡ (normal p).query → f ≡ (normal p).fragment
    → record { scheme = s; authority = a; path = h; query = q; fragment = f } ≡ normal p
made_is p s a h q f es ea eh eq ef =
    ap (λ u. build u a h q f) es
    ∙ ap (λ u. build (normal p).scheme u h q f) ea
    ∙ ap (λ u. build (normal p).scheme (normal p).authority u q f) eh
    ∙ ap (λ u. build (normal p).scheme (normal p).authority (normal p).path u f) eq
    ∙ ap (λ u. build (normal p).scheme (normal p).authority (normal p).path (normal p).query u) ef
  where
    build : Option Scheme → Option AuthorityParts → PathParts → Option (List ℕ) → Option (List ℕ) → Parts
    build scheme authority path query fragment = record { scheme = scheme; authority = authority; path = path; query = query; fragment = fragment }

-- ---- valid references with the same printed text

one_authority : (a b : Option AuthorityParts) → IfSome a authority.Valid → IfSome b authority.Valid
    → option_map authority.print a ≡ option_map authority.print b → option_map authority.kind a ≡ option_map authority.kind b → a ≡ b
one_authority None None v w e k = refl
one_authority None (Some b) v w e k = absurd (cc)
one_authority (Some a) None v w e k = absurd (cc)
one_authority (Some a) (Some b) v w e k =
    let texts : authority.print a ≡ authority.print b = cc in
    let kinds : authority.kind a ≡ authority.kind b = cc in
    ap Some (one_printed a b v w texts kinds)

pub printed_alike : (p q : Parts) → Valid p → Valid q → print p ≡ print q → kind p ≡ kind q → p ≡ q
printed_alike p q v w e k =
    let x = print_cut p v in
    let y = print_cut q w in
    let i = fits_of p v in
    let j = fits_of q w in
    ap (λ u. build u p.authority p.path p.query p.fragment) (same_scheme p.scheme q.scheme v.is_scheme w.is_scheme (sym x.scheme ∙ ap scheme_text e ∙ y.scheme))
    ∙ ap (λ u. build q.scheme u p.path p.query p.fragment) (one_authority p.authority q.authority v.is_authority w.is_authority (sym x.authority
    ∙ ap authority_text e ∙ y.authority) k)
    ∙ ap (λ u. build q.scheme q.authority u p.query p.fragment) (same_path p.path q.path i.listed i.formed j.listed j.formed (sym x.path ∙ ap path_text e
    ∙ y.path))
    ∙ ap (λ u. build q.scheme q.authority q.path u p.fragment) (sym x.query ∙ ap query_text e ∙ y.query)
    ∙ ap (λ u. build q.scheme q.authority q.path q.query u) (sym x.fragment ∙ ap fragment_text e ∙ y.fragment)
  where
    build : Option Scheme → Option AuthorityParts → PathParts → Option (List ℕ) → Option (List ℕ) → Parts
    build scheme authority path query fragment = record { scheme = scheme; authority = authority; path = path; query = query; fragment = fragment }
