-- The normal form of a reference is valid, no longer than the reference, and its own normal form.
use Rattle.std.proofs.Common.{◌≡◌, ℕ, ◌≤◌, Bool, true, false, ◌&&◌, ◌||◌, List, length, Option, Some, None, refl, sym, ap, ◌∙◌}
use Rattle.std.proofs.Common.{subst}
use Rattle.std.specs.Prelude.{is_some, is_none}
use Rattle.std.specs.Option.{option_map}
use Rattle.std.proofs.lemmas.Bool.{false≢true, and_parts}
use Rattle.uriparse_text.specs.declared.internal.class.Class.TheVariants.{Query}
use Rattle.uriparse_path.specs.Path.{PathParts, IsListed, starts_with_empty_segment, respelled}
use Rattle.uriparse_path.specs.Relative.{is_first, has_colon}
use Rattle.uriparse_path.specs.Normal.{canonical_path, stays_relative, pnormal}
use Rattle.uriparse_path.proofs.lemmas.normal.NormalFormLemmas.{listed_pnormal, pnormal_twice}
use Rattle.uriparse_path.proofs.lemmas.merge.MergedNormalFormLemmas.{pnormal_is, dot_undotted}
use Rattle.uriparse_authority.specs.Authority.{AuthorityParts}
use Rattle.uriparse_authority.specs.Normal.{canonical_authority}
use Rattle.uriparse_scheme.specs.declared.scheme.Scheme.{Scheme}
use Rattle.uriparse_scheme.specs.Normal.{canonical_scheme}
use Rattle.uriparse_reference.specs.Reference.{Parts, Valid, kind}
use Rattle.uriparse_path.specs.Edits.{dotted}
use Rattle.uriparse_reference.specs.Normal.{dot_prefixed, normal}
use Rattle.uriparse_reference.proofs.lemmas.reading.SpellingLemmas.{HasPlace}
use Rattle.uriparse_reference.proofs.lemmas.equality.CanonicalComponentLemmas.{scheme_valid, scheme_twice, text_valid, text_twice, some_map, none_map}
use Rattle.uriparse_reference.proofs.lemmas.equality.CanonicalComponentLemmas.{authority-kind, authority_valid, authority_twice}
use Rattle.uriparse_reference.proofs.lemmas.edits.PathRuleLemmas.{Fits, make, absolute_formed, two_slashes, fits_of, colon_of, placed, valid_made, shielded_cases}
use Rattle.uriparse_reference.proofs.lemmas.edits.PathRuleLemmas.{pnormal_formed, length_shielded, fits_normal, colon_normal}

-- ---- valid, and no longer

pub fits_normal_path : (p : Parts) → Valid p → Fits (is_some p.authority) (normal p).path
fits_normal_path p v = fits_normal p.authority p.path (is_none p.scheme) (fits_of p v)

pub colon_there : (p : Parts) → Valid p → (s : Option Scheme) → (is_some s ≡ false → p.path.absolute ≡ false → is_first has_colon p.path.segments ≡ false)
    → is_some s ≡ false → is_some p.authority ≡ false
    → (dot_prefixed p.authority (pnormal p.path (is_none s))).absolute ≡ false
    → is_first has_colon (dot_prefixed p.authority (pnormal p.path (is_none s))).segments ≡ false
colon_there p v (Some s) f h k e = absurd (false≢true (sym h))
colon_there p v None f h k e = colon_normal p.authority p.path (subst (λ w. Fits w p.path) k (fits_of p v)) k (f refl) e

pub normal_placed : (p : Parts) → Valid p → HasPlace (is_some (normal p).scheme) (is_some (normal p).authority) (normal p).path
normal_placed p v =
    let a : is_some (normal p).authority ≡ is_some p.authority = some_map canonical_authority p.authority in
    let s : is_some (normal p).scheme ≡ is_some p.scheme = some_map canonical_scheme p.scheme in
    placed (is_some (normal p).scheme) (is_some (normal p).authority) (normal p).path (subst (λ w. Fits w (normal p).path) (sym a) (fits_normal_path p v))
    (λ h k. colon_there p v p.scheme (λ g. colon_of p v g (sym a ∙ k)) (sym s ∙ h) (sym a ∙ k))

pub normal_valid : (p : Parts) → Valid p → Valid (normal p)
normal_valid p v =
    valid_made (normal p).scheme (normal p).authority (normal p).path (normal p).query (normal p).fragment
    (scheme_valid p.scheme v.is_scheme) (authority_valid p.authority v.is_authority) (normal_placed p v) (text_valid Query p.query v.is_query)
    (text_valid Query p.fragment v.is_fragment)

pub normal_no_longer : (p : Parts) → Valid p → length (normal p).path.segments ≤ length p.path.segments
normal_no_longer p v = length_shielded p.authority p.path (is_none p.scheme) (fits_of p v)

pub normal_kind : (p : Parts) → kind (normal p) ≡ kind p
normal_kind p = authority-kind p.authority

-- ---- the leading "." does not count

pub and_false : (r : Bool) → (r && false) ≡ false
and_false true = refl
and_false false = refl

pub or_false : (r : Bool) → (r || false) ≡ r
or_false true = refl
or_false false = refl

pub absolute_stays : (p : PathParts) (r : Bool) → p.absolute ≡ true → stays_relative p r ≡ false
absolute_stays p r h = by_flag p.absolute p.segments h
  where
    by_flag : (a : Bool) (l : List (List ℕ)) → a ≡ true → stays_relative (make a l) r ≡ false
    by_flag true l e = and_false r
    by_flag false l e = absurd (false≢true e)

pub pnormal_dotted : (q : PathParts) (r : Bool) → IsListed q.segments → IsListed (dotted q).segments → q.absolute ≡ true → pnormal (dotted q) r ≡ pnormal q r
pnormal_dotted q r is more h =
    pnormal_is (dotted q) r more (absolute_formed (dotted q) h) (absolute_stays (dotted q) r h)
    ∙ ap canonical_path (dot_undotted q.absolute q.segments is.some)
    ∙ sym (pnormal_is q r is (absolute_formed q h) (absolute_stays q r h))

-- for an absolute path a scheme makes no difference
pub pnormal_either : (q : PathParts) (r s : Bool) → IsListed q.segments → q.absolute ≡ true → pnormal q r ≡ pnormal q s
pnormal_either q r s is h = pnormal_is q r is (absolute_formed q h) (absolute_stays q r h)
    ∙ sym (pnormal_is q s is (absolute_formed q h) (absolute_stays q s h))

pub pnormal_shielded : (a : Option AuthorityParts) (q : PathParts) (r : Bool) → IsListed q.segments → respelled q ≡ q → Fits (is_some a) (dot_prefixed a q)
    → pnormal (dot_prefixed a q) r ≡ pnormal q r
pnormal_shielded (Some a) q r is h fit = refl
pnormal_shielded None q r is h fit = shielded_cases q (λ p. Fits false p → pnormal p r ≡ pnormal q r)
    (λ e f. pnormal_dotted q r is f.listed (and_parts q.absolute (starts_with_empty_segment q.segments) (sym (two_slashes q is h) ∙ e)).0)
    (λ e f. refl) fit

-- ---- twice

pub shielded_map : (f : AuthorityParts → AuthorityParts) (a : Option AuthorityParts) (q : PathParts) → dot_prefixed (option_map f a) q ≡ dot_prefixed a q
shielded_map f None q = refl
shielded_map f (Some a) q = refl

pub path_twice : (p : Parts) → Valid p → dot_prefixed p.authority (pnormal (normal p).path (is_none p.scheme)) ≡ (normal p).path
path_twice p v =
    let is = fits_of p v in
    let r = is_none p.scheme in
    ap (dot_prefixed p.authority) (
    pnormal_shielded p.authority (pnormal p.path r) r (listed_pnormal p.path r is.listed) (pnormal_formed p.path r is.listed is.formed) (fits_normal_path p v)
    ∙ pnormal_twice p.path r is.listed)

pub normal_twice : (p : Parts) → Valid p → normal (normal p) ≡ normal p
normal_twice p v =
    let h : (normal (normal p)).path ≡ (normal p).path =
    shielded_map canonical_authority p.authority (pnormal (normal p).path (is_none (option_map canonical_scheme p.scheme)))
    ∙ ap (λ r. dot_prefixed p.authority (pnormal (normal p).path r)) (none_map canonical_scheme p.scheme)
    ∙ path_twice p v in
    ap (λ s. build s (normal (normal p)).authority (normal (normal p)).path (normal (normal p)).query (normal (normal p)).fragment)
    (scheme_twice p.scheme v.is_scheme)
    ∙ ap (λ a. build (normal p).scheme a (normal (normal p)).path (normal (normal p)).query (normal (normal p)).fragment)
    (authority_twice p.authority v.is_authority)
    ∙ ap (λ u. build (normal p).scheme (normal p).authority u (normal (normal p)).query (normal (normal p)).fragment) h
    ∙ ap (λ q. build (normal p).scheme (normal p).authority (normal p).path q (normal (normal p)).fragment) (text_twice Query p.query v.is_query)
    ∙ ap (λ f. build (normal p).scheme (normal p).authority (normal p).path (normal p).query f) (text_twice Query p.fragment v.is_fragment)
  where
    build : Option Scheme → Option AuthorityParts → PathParts → Option (List ℕ) → Option (List ℕ) → Parts
    build scheme authority path query fragment = record { scheme = scheme; authority = authority; path = path; query = query; fragment = fragment }
