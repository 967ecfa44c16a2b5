-- Comparing and hashing references.
use Rattle.std.specs.Prelude.{ℕ, Bool, ◌&&◌, List, [], ◌∷◌, ◌++◌, Option, Some, None, bytes_eq}
use Rattle.std.specs.Option.{option_eq}
use Rattle.std.specs.Ordering.{on}
use Rattle.std.specs.Hash.{HashWrites, option}
use Rattle.uriparse_text.specs.Canonical.{canonical, fed_text}
use Rattle.uriparse_path.specs.Path as path
use Rattle.uriparse_authority.specs.Authority as authority
use Rattle.uriparse_authority.specs.Host as host
use Rattle.uriparse_scheme.specs.Scheme as scheme
use Rattle.uriparse_reference.specs.Reference.{Parts, canonical_text, kind}
use Rattle.uriparse_reference.specs.Cuts.{scheme_text, authority_text, path_text, query_text, fragment_text}

-- a number for the kind of the host, and another for no host
abbrev pub kind_code : Option host.Kind → ℕ
kind_code None = 0
kind_code (Some k) = host.kind_code k

-- the kind of the host, followed by the canonical text: references are the same if and only if they have the same key
abbrev pub key : Parts → List ℕ
key p = kind_code (kind p) ∷ canonical_text p

-- what a hasher is fed: each component in turn
abbrev pub fed : Parts → HashWrites
fed p =
    option (λ s. fed_text (scheme.canonical_text s)) p.scheme
    ++ (option authority.fed p.authority
    ++ (path.fed (canonical (path.text p.path))
    ++ (option (λ t. fed_text (canonical t)) p.query
    ++ option (λ t. fed_text (canonical t)) p.fragment)))

-- the same as a function of the key: of these components of the canonical text, with the code of the host's kind
abbrev pub fed_pieces : ℕ → Option (List ℕ) → Option (List ℕ) → List ℕ → Option (List ℕ) → Option (List ℕ) → HashWrites
fed_pieces code scheme_piece authority_piece path_piece query_piece fragment_piece =
    option fed_text scheme_piece
    ++ (option (λ t. authority.fed_key (code ∷ t)) authority_piece
    ++ (path.fed path_piece
    ++ (option fed_text query_piece
    ++ option fed_text fragment_piece)))

abbrev pub fed_key : List ℕ → HashWrites
fed_key [] = []
fed_key (code ∷ t) = fed_pieces code (scheme_text t) (authority_text t) (path_text t) (query_text t) (fragment_text t)

-- ---- component by component: words of the clauses of private functions alone

-- whether the schemes, fragments and queries are equal in canonical spelling
abbrev pub ends_alike : Parts → Parts → Bool
ends_alike p q =
    option_eq (on scheme.canonical_text bytes_eq) p.scheme q.scheme
    && (option_eq (on canonical bytes_eq) p.fragment q.fragment
    && option_eq (on canonical bytes_eq) p.query q.query)

-- whether the authorities and paths are equal in canonical spelling, and the hosts are of one kind
abbrev pub authority_and_path_alike : Parts → Parts → Bool
authority_and_path_alike p q =
    option_eq (on authority.key bytes_eq) p.authority q.authority
    && bytes_eq (canonical (path.text p.path)) (canonical (path.text q.path))

-- whether all components are equal in canonical spelling, and the hosts are of one kind
abbrev pub each_alike : Parts → Parts → Bool
each_alike p q = ends_alike p q && authority_and_path_alike p q
