-- The options among the words of a command.
use Rattle.std.specs.Prelude.{ℕ, zero, suc, ◌^◌, nat_lt, Bool, true, false, ◌==◌, ◌&&◌, ◌||◌, not, List, [], ◌∷◌, bytes_eq, codes, if◌then◌else◌, Option, Some, None, unwrap_or}
use Rattle.std.specs.Char.{is_ascii_digit}
use Rattle.std.specs.List.{list_all, list_any}
use Rattle.std.specs.Option.{option_and_then, option_map}
use Rattle.std.specs.Str.Parse.{digits_value, without_leading_plus}
use Rattle.uri_commands.specs.Lines.{newline}
use Rattle.uri_commands.specs.declared.columns.Columns.{Columns}
use Rattle.uri_commands.specs.declared.options.Mode.{Mode}
use Rattle.uri_commands.specs.declared.options.Mode.TheVariants.{DropDefaultPort, Json, Mixed, Plain, Quiet, Trim}
use Rattle.uri_commands.specs.declared.options.Options.{Options}

-- no option
abbrev pub none : Options
none = record { reads_lines = false; explains = false; columns = None; end = newline; mode = Plain }

-- the mode of two options, of which no command takes two that differ
abbrev pub both : Mode → Mode → Mode
both Plain option = option
both Json Json = Json
both Quiet Quiet = Quiet
both Trim Trim = Trim
both DropDefaultPort DropDefaultPort = DropDefaultPort
both mode option = Mixed

abbrev pub with_mode : Options → Mode → Options
with_mode o option = record o { mode = both o.mode option }

-- the columns that are named so far
abbrev pub columns_of : Options → Columns
columns_of o = unwrap_or o.columns (record { first = None; appends = false })

-- the options with the one that this word is; `--column`, which takes a number, is not among them
abbrev pub with_option : Options → List ℕ → Option Options
with_option o word =
    if bytes_eq word (codes "--lines") then Some (record o { reads_lines = true })
    else if bytes_eq word (codes "--explain") then Some (record o { explains = true })
    else if bytes_eq word (codes "--null") then Some (record o { end = 0 })
    else if bytes_eq word (codes "-0") then Some (record o { end = 0 })
    else if bytes_eq word (codes "--json") then Some (with_mode o Json)
    else if bytes_eq word (codes "--quiet") then Some (with_mode o Quiet)
    else if bytes_eq word (codes "--trim") then Some (with_mode o Trim)
    else if bytes_eq word (codes "--drop-default-port") then Some (with_mode o DropDefaultPort)
    else if bytes_eq word (codes "--align") then Some (record o { columns = Some (columns_of o) })
    else if bytes_eq word (codes "--append") then Some (record o { columns = Some (record (columns_of o) { appends = true }) })
    else None

-- ---- --column K

-- the number that decimal digits write, if it is below 2^64
abbrev pub number_of : List ℕ → Option ℕ
number_of [] = None
number_of (digit ∷ digits) =
    if list_all is_ascii_digit (digit ∷ digits) && nat_lt (digits_value 10 (digit ∷ digits)) (2 ^ 64)
    then Some (digits_value 10 (digit ∷ digits))
    else None

-- how many fields precede the column of this number, which counts from 1
abbrev pub fields_before : ℕ → Option ℕ
fields_before zero = None
fields_before (suc k) = Some k

-- the same of a word, in which a `+` may precede the digits
abbrev pub column_of : List ℕ → Option ℕ
column_of word = option_and_then fields_before (number_of (without_leading_plus word))

-- the options with the column of the number that this word is
abbrev pub with_column : Options → List ℕ → Option Options
with_column o word = option_map (λ k. record o { columns = Some (record (columns_of o) { first = Some k }) }) (column_of word)

-- ---- options, and a command

-- the options with those at the front of these words, and the words that follow them
abbrev pub read : Options → List (List ℕ) → Options × List (List ℕ)
read o [] = (o, [])
read o (word ∷ []) = unwrap_or (option_map (λ p. (p, [])) (with_option o word)) (o, word ∷ [])
read o (word ∷ next ∷ words) =
    unwrap_or
    (if bytes_eq word (codes "--column")
    then option_map (λ p. read p words) (with_column o next)
    else option_map (λ p. read p (next ∷ words)) (with_option o word))
    (o, word ∷ next ∷ words)

-- what words ask for: options, and a command, which is a name and texts
pub record Request : Type 0 where
  pub options : Options
  pub command : List (List ℕ)

-- the words without a first `--`
abbrev pub unmarked : List (List ℕ) → List (List ℕ)
unmarked [] = []
unmarked (word ∷ words) = if bytes_eq word (codes "--") then words else word ∷ words

-- What words ask for that follow these options: a name, options and texts, perhaps with a `--` before the texts. After a `--` before the name no
-- word is an option, nor is one after `help`.
abbrev pub request : Options → List (List ℕ) → Request
request o [] = record { options = o; command = [] }
request o (name ∷ words) =
    if bytes_eq name (codes "--") then record { options = o; command = words }
    else if bytes_eq name (codes "help") then record { options = o; command = name ∷ words }
    else record { options = (read o words).0; command = name ∷ unmarked (read o words).1 }

-- the same of words before which there is no option
abbrev pub asked_in_full : List (List ℕ) → Request
asked_in_full words = request (read none words).0 (read none words).1

-- ---- help and the version in other words

-- the word asks for help
abbrev pub is_help : List ℕ → Bool
is_help word = bytes_eq word (codes "-h") || bytes_eq word (codes "--help")

-- the names of the commands, in the order of `uri help`
abbrev pub commands : List (List ℕ)
commands =
    codes "parse" ∷ codes "tail" ∷ codes "get" ∷ codes "pairs" ∷ codes "pair" ∷ codes "equal" ∷ codes "within" ∷ codes "host-within"
    ∷ codes "audit" ∷ codes "normalize" ∷ codes "key" ∷ codes "resolve" ∷ codes "relativize" ∷ codes "edit" ∷ codes "file" ∷ codes "escape" ∷ codes "encode"
    ∷ codes "decode" ∷ codes "help" ∷ []

abbrev pub is_command : List ℕ → Bool
is_command name = list_any (bytes_eq name) commands

-- The command that these words are a synonym of, if they are one: `-h` and `--help` of `help`, `-V` of `--version`, and a command's name with
-- `-h` or `--help` as the only other word of `help` on it.
abbrev pub synonym : List (List ℕ) → Option (List (List ℕ))
synonym (word ∷ []) =
    if is_help word then Some (codes "help" ∷ [])
    else if bytes_eq word (codes "-V") then Some (codes "--version" ∷ [])
    else None
synonym (word ∷ next ∷ []) =
    if is_help next && is_command word then Some (codes "help" ∷ word ∷ [])
    else if is_help word then Some (codes "help" ∷ next ∷ [])
    else None
synonym words = None

-- what the words that follow the program's name ask for: any words ask for something
abbrev pub asked : List (List ℕ) → Request
asked words = unwrap_or (option_map (λ command. record { options = none; command = command }) (synonym words)) (asked_in_full words)

-- ---- words without options

-- the word doesn't begin with a `-`
abbrev pub is_plain : List ℕ → Bool
is_plain [] = true
is_plain (b ∷ t) = not (b == 45)

-- nor does the first of the words, if there is one
abbrev pub starts_plain : List (List ℕ) → Bool
starts_plain [] = true
starts_plain (word ∷ words) = is_plain word

-- ---- words of private functions' clauses alone

-- a command of this name, if it has one, and these texts
abbrev pub command_of : Option (List ℕ) → List (List ℕ) → List (List ℕ)
command_of None texts = []
command_of (Some name) texts = name ∷ texts

-- the options with the column of the first of these words
abbrev pub with_column_in : Options → List (List ℕ) → Option Options
with_column_in o [] = None
with_column_in o (word ∷ words) = with_column o word

-- the options with the one that these words begin with, if one does, and how many words it takes
abbrev pub first_option : Options → List (List ℕ) → Option (Options × ℕ)
first_option o [] = None
first_option o (word ∷ words) =
    if bytes_eq word (codes "--column")
    then option_map (λ p. (p, 2)) (with_column_in o words)
    else option_map (λ p. (p, 1)) (with_option o word)
