-- The components that a caller encodes, by their numbers.
use Rattle.std.specs.Prelude.{ℕ, ◌==◌, ◌||◌, if◌then◌else◌, Option, Some, None}
use Rattle.uriparse_text.specs.declared.internal.class.Class.{Class}
use Rattle.uriparse_text.specs.declared.internal.class.Class.TheVariants.{Name, UserInfo, Segment, Query}

-- The bytes that a component may have unescaped: 0x10 is a user name, 0x20 a password, 0x50 a segment, 0x60 a query and 0x70 a fragment. These are
-- the numbers that name the component in the code of its errors.
abbrev pub class_of : ℕ → Option Class
class_of n =
    if n == 0x10 then Some Name else if n == 0x20 then Some UserInfo else if n == 0x50 then Some Segment else
    if n == 0x60 || n == 0x70 then Some Query else None

-- a name or a value of a pair of a query: no component, so no error has this number
abbrev pub pair_number : ℕ
pair_number = 0x90
