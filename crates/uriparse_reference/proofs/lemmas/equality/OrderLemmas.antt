-- The order of references, component by component, and by their keys alone.
use Rattle.std.proofs.Common.{◌≡◌, ◌↔◌, ℕ, List, ◌∷◌, Option, Some, None, refl, sym, ap, ◌∙◌}
use Rattle.std.specs.Prelude.{IfSome}
use Rattle.std.specs.Option.{option_cmp, option_map}
use Rattle.std.specs.Cmp.Lexicographic.{slice_cmp}
use Rattle.std.specs.Ordering.{nat_cmp, on, ordering_then}
use Rattle.std.specs.declared.cmp.Ordering.{Ordering}
use Rattle.std.specs.declared.cmp.Ordering.TheVariants.{Equal}
use Rattle.std.proofs.lemmas.Cmp.{tied_itself}
use Rattle.uriparse_text.specs.Canonical.{canonical}
use Rattle.uriparse_path.specs.Path as path
use Rattle.uriparse_authority.specs.Authority as authority
use Rattle.uriparse_authority.specs.Authority.{AuthorityParts}
use Rattle.uriparse_authority.specs.KeyOrder.{by_key}
use Rattle.uriparse_authority.specs.Order as order
use Rattle.uriparse_authority.proofs.lemmas.authorities.OrderLemmas as authorities
use Rattle.uriparse_authority.proofs.lemmas.authorities.OrderLemmas.{both_equal, same_lists, same_options}
use Rattle.uriparse_scheme.specs.Scheme as scheme
use Rattle.uriparse_reference.specs.Cuts.{authority_text, path_text, query_text, fragment_text}
use Rattle.uriparse_reference.specs.Key.{kind_code, key}
use Rattle.uriparse_reference.specs.Order.{Rank, pieces_rank, rank, rank_cmp, rank_in, rank_total, reference_cmp, reference_key_cmp}
use Rattle.uriparse_reference.specs.Reference.{Parts, Same, Valid, canonical_text, kind}
use Rattle.uriparse_reference.proofs.lemmas.reading.CutLemmas.{IsCutInto}
use Rattle.uriparse_reference.proofs.lemmas.equality.EqualityLemmas.{authority_keys, canonical_cut, same_key}

-- ---- by the key alone

ranked_authority : (a : Option AuthorityParts)
    → option_map (λ t. order.rank_in (kind_code (option_map authority.kind a) ∷ t)) (option_map authority.canonical_text a)
    ≡ option_map (λ b. order.rank_in (authority.key b)) a
ranked_authority None = refl
ranked_authority (Some a) = refl

ranked_held : (a : Option AuthorityParts) → IfSome a authority.Valid → option_map (λ b. order.rank_in (authority.key b)) a ≡ option_map order.rank a
ranked_held None v = refl
ranked_held (Some a) v = ap Some (authorities.rank_key a v)

cut_rank : (code : ℕ) (t : List ℕ) (s a : Option (List ℕ)) (h : List ℕ) (q f : Option (List ℕ)) → IsCutInto t s a h q f
    → rank_in (code ∷ t) ≡ pieces_rank code s a h q f
cut_rank code t s a h q f cut =
    ap (λ x. pieces_rank code x (authority_text t) (path_text t) (query_text t) (fragment_text t)) cut.scheme
    ∙ ap (λ x. pieces_rank code s x (path_text t) (query_text t) (fragment_text t)) cut.authority
    ∙ ap (λ x. pieces_rank code s a x (query_text t) (fragment_text t)) cut.path
    ∙ ap (λ x. pieces_rank code s a h x (fragment_text t)) cut.query
    ∙ ap (λ x. pieces_rank code s a h q x) cut.fragment

abbrev with_authority : Parts → Option order.Rank → Rank
with_authority p a = record {
  scheme = option_map scheme.canonical_text p.scheme;
  authority = a;
  path = canonical (path.text p.path);
  query = option_map canonical p.query;
  fragment = option_map canonical p.fragment;
}

rank_key : (p : Parts) → Valid p → rank_in (key p) ≡ rank p
rank_key p v =
    cut_rank (kind_code (kind p)) (canonical_text p) (option_map scheme.canonical_text p.scheme) (option_map authority.canonical_text p.authority)
    (canonical (path.text p.path)) (option_map canonical p.query) (option_map canonical p.fragment) (canonical_cut p v)
    ∙ ap (with_authority p) (ranked_authority p.authority ∙ ranked_held p.authority v.is_authority)

same_authorities : (a b : Option AuthorityParts) → option_cmp order.rank_cmp (option_map order.rank a) (option_map order.rank b) ≡ Equal
    → option_map authority.key a ≡ option_map authority.key b
same_authorities None None e = refl
same_authorities None (Some b) e = absurd (cc)
same_authorities (Some a) None e = absurd (cc)
same_authorities (Some a) (Some b) e = ap Some (authorities.same_rank a b e)

abbrev pub after_path : Parts → Parts → Ordering
after_path p q =
    ordering_then (option_cmp (slice_cmp nat_cmp) (option_map canonical p.query) (option_map canonical q.query))
    (option_cmp (slice_cmp nat_cmp) (option_map canonical p.fragment) (option_map canonical q.fragment))

abbrev pub after_authority : Parts → Parts → Ordering
after_authority p q = ordering_then (slice_cmp nat_cmp (canonical (path.text p.path)) (canonical (path.text q.path))) (after_path p q)

abbrev pub after_scheme : Parts → Parts → Ordering
after_scheme p q =
    ordering_then (option_cmp order.rank_cmp (option_map order.rank p.authority) (option_map order.rank q.authority)) (after_authority p q)

pub same_order : (p q : Parts) → reference_cmp p q ≡ Equal → key p ≡ key q
same_order p q e =
    let scheme_first =
    both_equal (option_cmp (slice_cmp nat_cmp) (option_map scheme.canonical_text p.scheme) (option_map scheme.canonical_text q.scheme)) (after_scheme p q) e in
    let authority_next =
    both_equal (option_cmp order.rank_cmp (option_map order.rank p.authority) (option_map order.rank q.authority)) (after_authority p q) scheme_first.1 in
    let path_next = both_equal (slice_cmp nat_cmp (canonical (path.text p.path)) (canonical (path.text q.path))) (after_path p q) authority_next.1 in
    let ends =
    both_equal (option_cmp (slice_cmp nat_cmp) (option_map canonical p.query) (option_map canonical q.query))
    (option_cmp (slice_cmp nat_cmp) (option_map canonical p.fragment) (option_map canonical q.fragment)) path_next.1 in
    let s = same_options (option_map scheme.canonical_text p.scheme) (option_map scheme.canonical_text q.scheme) scheme_first.0 in
    let a = (authority_keys p.authority q.authority).0 (same_authorities p.authority q.authority authority_next.0) in
    let h = same_lists (canonical (path.text p.path)) (canonical (path.text q.path)) path_next.0 in
    let r = same_options (option_map canonical p.query) (option_map canonical q.query) ends.0 in
    let f = same_options (option_map canonical p.fragment) (option_map canonical q.fragment) ends.1 in
    rw (a.1, s, a.0, h, r, f) refl

pub ordered : (p q : Parts) → Valid p → Valid q → reference_cmp p q ≡ reference_key_cmp (key p) (key q)
ordered p q v w =
    by_key rank_in rank_cmp (key p) (key q) (rank_cmp (rank p) (rank q))
    (ap (λ r. rank_cmp r (rank_in (key q))) (rank_key p v) ∙ ap (rank_cmp (rank p)) (rank_key q w))
    (same_order p q)

-- equal references, and no others, are as great as each other
pub order_same : (p q : Parts) → Valid p → Valid q → (reference_cmp p q ≡ Equal) ↔ Same p q
order_same p q v w = (
  λ e. (same_key p q).0 (same_order p q e),
  λ s. ap (λ r. rank_cmp r (rank q)) (sym (rank_key p v) ∙ ap rank_in ((same_key p q).1 s) ∙ rank_key q w) ∙ tied_itself rank_total (rank q),
)

-- ---- component by component

authorities_ordered : (a b : Option AuthorityParts) → IfSome a authority.Valid → IfSome b authority.Valid
    → option_cmp (on authority.key order.authority_key_cmp) a b ≡ option_cmp order.rank_cmp (option_map order.rank a) (option_map order.rank b)
authorities_ordered None None v w = refl
authorities_ordered None (Some b) v w = refl
authorities_ordered (Some a) None v w = refl
authorities_ordered (Some a) (Some b) v w = sym (authorities.ordered a b v w)

options_mapped : {X : Type 0} (f : X → List ℕ) (o p : Option X)
    → option_cmp (on f (slice_cmp nat_cmp)) o p ≡ option_cmp (slice_cmp nat_cmp) (option_map f o) (option_map f p)
options_mapped f None None = refl
options_mapped f None (Some y) = refl
options_mapped f (Some x) None = refl
options_mapped f (Some x) (Some y) = refl

-- the order of two optional components, of which these are what is compared
pub options_compared : {X : Type 0} (f : X → List ℕ) (o p x y : Option X) (r : Ordering) → x ≡ o → y ≡ p → r ≡ option_cmp (on f (slice_cmp nat_cmp)) x y
    → r ≡ option_cmp (slice_cmp nat_cmp) (option_map f o) (option_map f p)
options_compared f o p x y r i j e =
    e ∙ ap (λ z. option_cmp (on f (slice_cmp nat_cmp)) z y) i ∙ ap (option_cmp (on f (slice_cmp nat_cmp)) o) j ∙ options_mapped f o p

pub authorities_compared : (a b x y : Option AuthorityParts) (r : Ordering) → IfSome a authority.Valid → IfSome b authority.Valid → x ≡ a → y ≡ b
    → r ≡ option_cmp (on authority.key order.authority_key_cmp) x y → r ≡ option_cmp order.rank_cmp (option_map order.rank a) (option_map order.rank b)
authorities_compared a b x y r v w i j e =
    e ∙ ap (λ z. option_cmp (on authority.key order.authority_key_cmp) z y) i ∙ ap (option_cmp (on authority.key order.authority_key_cmp) a) j
    ∙ authorities_ordered a b v w
