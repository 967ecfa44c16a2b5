-- What `uri help` and `uri --version` print.
use Rattle.std.specs.Prelude.{ℕ, List, [], ◌∷◌, bytes_eq, Option}
use Rattle.std.specs.List.{find}
use Rattle.std.specs.Option.{option_map}
use Rattle.uri_commands.specs.declared.audit.TheConstants.{ABOUT as audit}
use Rattle.uri_commands.specs.declared.columns.TheConstants.{ABOUT_ALIGN as align, ABOUT_COLUMN as column, ABOUT_APPEND as append, ABOUT_NULL as null}
use Rattle.uri_commands.specs.declared.decode.TheConstants.{ABOUT as decode}
use Rattle.uri_commands.specs.declared.edit.TheConstants.{ABOUT as edit}
use Rattle.uri_commands.specs.declared.encode.TheConstants.{ABOUT as encode}
use Rattle.uri_commands.specs.declared.equal.TheConstants.{ABOUT as equal}
use Rattle.uri_commands.specs.declared.escape.TheConstants.{ABOUT as escape, ABOUT_TRIM as trim}
use Rattle.uri_commands.specs.declared.explain.TheConstants.{ABOUT as explain}
use Rattle.uri_commands.specs.declared.file.TheConstants.{ABOUT as file}
use Rattle.uri_commands.specs.declared.get.TheConstants.{ABOUT as get}
use Rattle.uri_commands.specs.declared.help.TheConstants.{ABOUT as help, SUMMARY, VERSION}
use Rattle.uri_commands.specs.declared.json.TheConstants.{ABOUT as json}
use Rattle.uri_commands.specs.declared.key.TheConstants.{ABOUT as key}
use Rattle.uri_commands.specs.declared.lines.TheConstants.{ABOUT as lines}
use Rattle.uri_commands.specs.declared.normalize.TheConstants.{ABOUT as normalize, ABOUT_DROP_DEFAULT_PORT as drop_default_port}
use Rattle.uri_commands.specs.declared.pair.TheConstants.{ABOUT as pair}
use Rattle.uri_commands.specs.declared.pairs.TheConstants.{ABOUT as pairs}
use Rattle.uri_commands.specs.declared.parse.TheConstants.{ABOUT as parse}
use Rattle.uri_commands.specs.declared.quiet.TheConstants.{ABOUT as quiet}
use Rattle.uri_commands.specs.declared.relativize.TheConstants.{ABOUT as relativize}
use Rattle.uri_commands.specs.declared.resolve.TheConstants.{ABOUT as resolve}
use Rattle.uri_commands.specs.declared.tail.TheConstants.{ABOUT as tail}
use Rattle.uri_commands.specs.declared.within.TheConstants.{ABOUT as within, ABOUT_HOST as host}

-- a command or an option, and the page on it
pub record Topic : Type 0 where
  pub name : List ℕ
  pub page : List ℕ

-- the bytes of a constant
abbrev Text : Type 0
Text = record { now : List ℕ }

abbrev pub about : Text × Text → Topic
about t = record { name = t.0.now; page = t.1.now }

-- the topics, in the order of `uri help`
unfoldable pub topics : List Topic
topics =
    about parse
    ∷ about tail
    ∷ about get
    ∷ about pairs
    ∷ about pair
    ∷ about equal
    ∷ about within
    ∷ about host
    ∷ about audit
    ∷ about normalize
    ∷ about key
    ∷ about resolve
    ∷ about relativize
    ∷ about edit
    ∷ about file
    ∷ about escape
    ∷ about encode
    ∷ about decode
    ∷ about help
    ∷ about json
    ∷ about quiet
    ∷ about explain
    ∷ about drop_default_port
    ∷ about trim
    ∷ about lines
    ∷ about align
    ∷ about column
    ∷ about append
    ∷ about null
    ∷ []

-- help: the commands and the options
abbrev pub summary : List ℕ
summary = SUMMARY.now

-- help NAME: the page of the topic of this name, if there is one
abbrev pub page_on : List ℕ → Option (List ℕ)
page_on name = option_map (λ t. t.page) (find (λ t. bytes_eq t.name name) topics)

-- --version
abbrev pub version : List ℕ
version = VERSION.now
