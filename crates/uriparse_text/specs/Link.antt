-- A reference as it stands in running text: RFC 3986, appendix C.
use Rattle.std.specs.Prelude.{ℕ, ◌-◌, ◌==◌, ◌&&◌, if◌then◌else◌, List, [], ◌∷◌, Option, Some, None, codes, drop, length, take}
use Rattle.std.specs.Char.{is_ascii_whitespace}
use Rattle.std.specs.Io.BufRead.{ends_with_byte}
use Rattle.std.specs.List.{prefix_len, suffix_len}
use Rattle.std.specs.Str.{str_eq_ignore_ascii_case}

-- `<`
abbrev pub less_than : ℕ
less_than = 60

-- `>`
abbrev pub greater_than : ℕ
greater_than = 62

-- the text from its first byte that is no white space: space, tab, line feed, form feed or carriage return
abbrev pub trimmed_front : List ℕ → List ℕ
trimmed_front t = drop (prefix_len is_ascii_whitespace t) t

-- the text through its last byte that is none
abbrev pub trimmed_back : List ℕ → List ℕ
trimmed_back t = take (length t - suffix_len is_ascii_whitespace t) t

abbrev pub trimmed : List ℕ → List ℕ
trimmed t = trimmed_back (trimmed_front t)

-- what stands between a `<` that begins the text and a `>` that ends it
abbrev pub in_brackets : List ℕ → Option (List ℕ)
in_brackets [] = None
in_brackets (b ∷ t) = if (b == less_than) && ends_with_byte greater_than t then Some (take (length t - 1) t) else None

-- the text without the prefix "URL:", in any case, that was once written in brackets
abbrev pub without_label : List ℕ → List ℕ
without_label t = if str_eq_ignore_ascii_case (take 4 t) (codes "URL:") then drop 4 t else t

-- what is left of the text in brackets, if there is one, or else of the whole text
abbrev pub unwrapped : Option (List ℕ) → List ℕ → List ℕ
unwrapped None t = t
unwrapped (Some inside) t = trimmed (without_label (trimmed inside))

-- the text without the white space at its ends, a pair of angle brackets, the white space in these, and the prefix
abbrev pub link : List ℕ → List ℕ
link t = unwrapped (in_brackets (trimmed t)) (trimmed t)
