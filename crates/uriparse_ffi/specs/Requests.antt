-- The target of an HTTP request: RFC 9112, section 3.2.1.
use Rattle.std.specs.Prelude.{ℕ, List, [], ◌∷◌, ◌++◌, Option}
use Rattle.uriparse_text.specs.Bytes.{question_mark, slash}
use Rattle.uriparse_text.specs.Cuts.{following}

-- "/" in place of an empty path
abbrev pub or_root : List ℕ → List ℕ
or_root [] = slash ∷ []
or_root (b ∷ t) = b ∷ t

-- origin-form = absolute-path [ "?" query ]
abbrev pub origin_form : List ℕ → Option (List ℕ) → List ℕ
origin_form path query = or_root path ++ following question_mark query
