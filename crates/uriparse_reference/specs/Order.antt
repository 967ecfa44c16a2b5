-- The order of references, component by component, each in canonical spelling: RFC 3986, sections 3 and 6.2.2.
use Rattle.std.specs.Prelude.{◌≡◌, ℕ, List, [], ◌∷◌, Option, None, bytes_eq}
use Rattle.std.specs.Cmp.{IsPartialOrder, IsTotalOrder, on_total, then_total}
use Rattle.std.specs.Cmp.Lexicographic.{slice_cmp, nat_list_cmp_total, options_total}
use Rattle.std.specs.Option.{option_cmp, option_map}
use Rattle.std.specs.Ordering.{as_partial_cmp, eq_by_cmp, nat_cmp, on, ordering_then}
use Rattle.std.specs.declared.cmp.Ordering.{Ordering}
use Rattle.uriparse_text.specs.Canonical.{canonical}
use Rattle.uriparse_path.specs.Path as path
use Rattle.uriparse_authority.specs.KeyOrder.{key_cmp, keyed_po, keyed_ties, keyed_total}
use Rattle.uriparse_authority.specs.Order as authority
use Rattle.uriparse_scheme.specs.Scheme as scheme
use Rattle.uriparse_reference.specs.Cuts.{scheme_text, authority_text, path_text, query_text, fragment_text}
use Rattle.uriparse_reference.specs.Reference.{Parts}

-- what a reference is ordered by: each component in canonical spelling
pub record Rank : Type 0 where
  pub scheme : Option (List ℕ)
  pub authority : Option authority.Rank
  pub path : List ℕ
  pub query : Option (List ℕ)
  pub fragment : Option (List ℕ)

abbrev pub rank : Parts → Rank
rank p = record {
  scheme = option_map scheme.canonical_text p.scheme;
  authority = option_map authority.rank p.authority;
  path = canonical (path.text p.path);
  query = option_map canonical p.query;
  fragment = option_map canonical p.fragment;
}

-- The first component that differs decides. An absent one is less than any that is present, and texts are compared by their bytes.
abbrev pub rank_cmp : Rank → Rank → Ordering
rank_cmp r s =
    ordering_then (option_cmp (slice_cmp nat_cmp) r.scheme s.scheme)
    (ordering_then (option_cmp authority.rank_cmp r.authority s.authority)
    (ordering_then (slice_cmp nat_cmp r.path s.path)
    (ordering_then (option_cmp (slice_cmp nat_cmp) r.query s.query)
    (option_cmp (slice_cmp nat_cmp) r.fragment s.fragment))))

-- the order of two references
abbrev pub reference_cmp : Parts → Parts → Ordering
reference_cmp p q = rank_cmp (rank p) (rank q)

-- ---- the same as a function of the keys, by which references are equal

-- what a reference is ordered by, from its key alone: from these components of the canonical text, with the number of the host's kind
abbrev pub pieces_rank : ℕ → Option (List ℕ) → Option (List ℕ) → List ℕ → Option (List ℕ) → Option (List ℕ) → Rank
pieces_rank code scheme_piece authority_piece path_piece query_piece fragment_piece = record {
  scheme = scheme_piece;
  authority = option_map (λ t. authority.rank_in (code ∷ t)) authority_piece;
  path = path_piece;
  query = query_piece;
  fragment = fragment_piece;
}

abbrev pub rank_in : List ℕ → Rank
rank_in [] = record { scheme = None; authority = None; path = []; query = None; fragment = None }
rank_in (code ∷ t) = pieces_rank code (scheme_text t) (authority_text t) (path_text t) (query_text t) (fragment_text t)

abbrev pub reference_key_cmp : List ℕ → List ℕ → Ordering
reference_key_cmp = key_cmp rank_in rank_cmp

-- ---- the laws of `Ord`

pub rank_total : IsTotalOrder rank_cmp
rank_total =
    then_total (on_total (λ (r : Rank). r.scheme) (options_total nat_list_cmp_total))
    (then_total (on_total (λ (r : Rank). r.authority) (options_total authority.rank_total))
    (then_total (on_total (λ (r : Rank). r.path) nat_list_cmp_total)
    (then_total (on_total (λ (r : Rank). r.query) (options_total nat_list_cmp_total))
    (on_total (λ (r : Rank). r.fragment) (options_total nat_list_cmp_total)))))

pub parts_total : IsTotalOrder reference_cmp
parts_total = on_total rank rank_total

module _ {K : Type 0} (f : K → List ℕ) where
  pub ordered_total : IsTotalOrder (on f reference_key_cmp)
  ordered_total = keyed_total rank_in rank_cmp rank_total f

  pub ordered_ties : (x y : K) → on f bytes_eq x y ≡ eq_by_cmp (on f reference_key_cmp) x y
  ordered_ties = keyed_ties rank_in rank_cmp rank_total f

  pub ordered_po : IsPartialOrder (on f bytes_eq) (as_partial_cmp (on f reference_key_cmp))
  ordered_po = keyed_po rank_in rank_cmp rank_total f
