-- How the text of a reference is cut into its components: RFC 3986, sections 3 and 4.1.
use Rattle.std.specs.Prelude.{ℕ, ◌==◌, if◌then◌else◌, List, [], ◌∷◌, Option, Some, None, drop}
use Rattle.uriparse_text.specs.Bytes.{question_mark, number_sign}
use Rattle.uriparse_text.specs.Cuts.{before, after, up_to, from_first}
use Rattle.uriparse_path.specs.Path.{has_two_slashes}
use Rattle.uriparse_path.specs.Faults.{ends_path}
use Rattle.uriparse_authority.specs.Authority.{ends_authority}
pub use Rattle.uriparse_scheme.specs.Cuts.{if_scheme, scheme_text, ends_scheme, unless_scheme, after_scheme, if_some}

-- After two slashes, the authority runs to the first "/", "?", "#" or the end.
abbrev pub cut_authority : List ℕ → Option (List ℕ)
cut_authority u = if has_two_slashes u then Some (up_to ends_authority (drop 2 u)) else None

abbrev pub authority_text : List ℕ → Option (List ℕ)
authority_text t = cut_authority (after_scheme t)

-- what follows that authority, or the whole text without one
abbrev pub without_authority : List ℕ → List ℕ
without_authority u = if has_two_slashes u then from_first ends_authority (drop 2 u) else u

abbrev pub after_authority : List ℕ → List ℕ
after_authority t = without_authority (after_scheme t)

-- The path runs to the first "?" or "#", or the end.
abbrev pub path_text : List ℕ → List ℕ
path_text t = up_to ends_path (after_authority t)

-- The fragment follows the first "#", and the query follows the first "?" before that.
abbrev pub query_text : List ℕ → Option (List ℕ)
query_text t = after question_mark (before number_sign (after_authority t))

abbrev pub fragment_text : List ℕ → Option (List ℕ)
fragment_text t = after number_sign (after_authority t)

-- ---- words of the clauses of private functions alone

-- the query and the fragment of what follows a path
abbrev pub tail_query : List ℕ → Option (List ℕ)
tail_query [] = None
tail_query (b ∷ r) = if b == question_mark then Some (before number_sign r) else None

abbrev pub tail_fragment : List ℕ → Option (List ℕ)
tail_fragment [] = None
tail_fragment (b ∷ r) = if b == question_mark then after number_sign r else if b == number_sign then Some r else None
