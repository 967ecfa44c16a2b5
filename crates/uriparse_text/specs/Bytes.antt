-- Bytes and sets of bytes: RFC 3986, sections 2.1 to 2.3.
use Rattle.std.specs.Prelude.{ℕ, Bool, ◌||◌, ◌==◌, List, codes}
use Rattle.std.specs.List.{list_any}
use Rattle.std.specs.Int.{is_in_range}
use Rattle.std.specs.Char.{is_digit}

-- a space
abbrev pub space : ℕ
space = 32

-- `#`
abbrev pub number_sign : ℕ
number_sign = 35

-- `%`
abbrev pub percent : ℕ
percent = 37

-- `&`
abbrev pub ampersand : ℕ
ampersand = 38

-- `*`
abbrev pub asterisk : ℕ
asterisk = 42

-- `+`
abbrev pub plus_sign : ℕ
plus_sign = 43

-- `.`
abbrev pub dot : ℕ
dot = 46

-- `/`
abbrev pub slash : ℕ
slash = 47

-- `:`
abbrev pub colon : ℕ
colon = 58

-- `=`
abbrev pub equals_sign : ℕ
equals_sign = 61

-- `?`
abbrev pub question_mark : ℕ
question_mark = 63

-- `@`
abbrev pub at_sign : ℕ
at_sign = 64

-- `[`
abbrev pub left_bracket : ℕ
left_bracket = 91

-- `]`
abbrev pub right_bracket : ℕ
right_bracket = 93

-- the byte is one of these
abbrev pub is_among : List ℕ → ℕ → Bool
is_among bytes b = list_any (λ x. x == b) bytes

-- HEXDIG, of either case
abbrev pub is_hex : ℕ → Bool
is_hex b = is_digit b 16

-- unreserved = ALPHA / DIGIT / "-" / "." / "_" / "~"
unfoldable pub is_unreserved : ℕ → Bool
is_unreserved b =
    is_in_range 65 90 b || is_in_range 97 122 b || is_in_range 48 57 b || is_among (codes "-._~") b

-- sub-delims = "!" / "$" / "&" / "'" / "(" / ")" / "*" / "+" / "," / ";" / "="
unfoldable pub is_sub_delim : ℕ → Bool
is_sub_delim b = is_among (codes "!$&'()*+,;=") b
