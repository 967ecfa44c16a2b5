-- How a text is cut at its scheme: RFC 3986, sections 3 and 4.2.
use Rattle.std.specs.Prelude.{ℕ, Bool, ◌==◌, ◌||◌, ◌&&◌, not, if◌then◌else◌, List, [], ◌∷◌, Option, Some, None, is_some}
use Rattle.uriparse_text.specs.Bytes.{colon, slash, question_mark, number_sign}
use Rattle.uriparse_text.specs.Cuts.{lacks, front, rest, up_to}
use Rattle.uriparse_scheme.specs.Grammar.{is_scheme}

-- the text, if it is a scheme
abbrev pub if_scheme : Option (List ℕ) → Option (List ℕ)
if_scheme None = None
if_scheme (Some s) = if is_scheme s then Some s else None

-- The scheme is the text before the first ":", if that is a scheme.
abbrev pub scheme_text : List ℕ → Option (List ℕ)
scheme_text t = if_scheme (front colon t)

-- the first text without a scheme, the second with one
abbrev pub unless_scheme : Option (List ℕ) → List ℕ → List ℕ → List ℕ
unless_scheme None t u = t
unless_scheme (Some s) t u = u

-- what follows the scheme's ":", or the whole text without a scheme
abbrev pub after_scheme : List ℕ → List ℕ
after_scheme t = unless_scheme (scheme_text t) t (rest colon t)

-- A "/", "?" or "#" ends the first segment of a text that begins with its path.
abbrev pub ends_segment : ℕ → Bool
ends_segment b = b == slash || (b == question_mark || b == number_sign)

-- Without a scheme, the first segment has a ":": by section 4.2 no relative reference begins with such a segment.
abbrev pub has_colon_segment : List ℕ → Bool
has_colon_segment t = not (is_some (scheme_text t)) && not (lacks colon (up_to ends_segment t))

-- ---- words of the clauses of private functions alone

-- A ":" ends a scheme, and no scheme ends after one of the others.
abbrev pub ends_scheme : ℕ → Bool
ends_scheme b = b == colon || (b == slash || (b == question_mark || b == number_sign))

-- what follows a leading ":"
abbrev pub after_colon : List ℕ → Option (List ℕ)
after_colon [] = None
after_colon (b ∷ t) = if b == colon then Some t else None

-- a text that is never empty, or none if it is
abbrev pub if_some : List ℕ → Option (List ℕ)
if_some [] = None
if_some (b ∷ t) = Some (b ∷ t)
