-- The text of a reference with another query or another fragment: RFC 3986, section 5.3.
use Rattle.std.specs.Prelude.{ℕ, List, Option}
use Rattle.uriparse_reference.specs.Cuts.{scheme_text, authority_text, path_text, query_text, fragment_text}
use Rattle.uriparse_reference.specs.Reference.{joined}

-- its scheme, authority and path as they are spelled there, with this query and this fragment
unfoldable pub with_end : List ℕ → Option (List ℕ) → Option (List ℕ) → List ℕ
with_end t q f = joined (scheme_text t) (authority_text t) (path_text t) q f

abbrev pub with_query : List ℕ → Option (List ℕ) → List ℕ
with_query t q = with_end t q (fragment_text t)

abbrev pub with_fragment : List ℕ → Option (List ℕ) → List ℕ
with_fragment t f = with_end t (query_text t) f
