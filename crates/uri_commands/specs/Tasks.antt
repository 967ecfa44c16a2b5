-- Which task the words of --lines name, in the order of docs/PROGRAM.md.
use Rattle.std.specs.Prelude.{◌≡◌, ◌⊎◌, ℕ, ◌&&◌, ◌||◌, Bool, true, false, not, List, [], ◌∷◌, bytes_eq, codes, Option, is_some, IfSome, Result, Ok, Err, MatchOption, MatchResult, Vec}
use Rattle.std.specs.Bool.{MatchBool}
use Rattle.std.specs.Borrow.{Bor}
use Rattle.std.specs.declared.alloc.Global.{Global}
use Rattle.uriparse.specs.Host as host
use Rattle.uriparse.specs.Reference.{Parts}
use Rattle.uri_commands.specs.Edits.{Edit, all_made, are_readable, edits_of, steps_made}
use Rattle.uri_commands.specs.Options.{asked}
use Rattle.uri_commands.specs.Output.{Answer, Answers, Ends, EndsWork, Gives, OfUriOr, Rejected, Unknown, answer_of, exit_status, may_explain, may_print, parts_named, when◌then◌else◌}
use Rattle.uri_commands.specs.Outputs.{RunsOrStops}
use Rattle.uri_commands.specs.declared.commands.Task.{Task}
use Rattle.uri_commands.specs.declared.commands.Task.TheVariants as tasks
use Rattle.uri_commands.specs.declared.edit.Step.{Step}
use Rattle.uri_commands.specs.declared.failure.Failure.{Failure}
use Rattle.uri_commands.specs.declared.get.Part.{Part}
use Rattle.uri_commands.specs.declared.options.Mode.{Mode}
use Rattle.uri_commands.specs.declared.options.Mode.TheVariants as modes
use Rattle.uri_commands.specs.declared.options.Options.{Options}

-- what the words come to: a task for each line, or an answer before any line is read
abbrev pub Named : Type 0
Named = Result Task Answer

-- no command has these words
abbrev pub NamesNothing : Named → Type 0
NamesNothing n = n ≡ Err Unknown

-- the words of the command are rejected
abbrev pub NamesRejected : Named → Type 0
NamesRejected n = n ≡ Err Rejected

-- this task
abbrev pub Names : Task → Named → Type 0
Names task n = n ≡ Ok task

-- the task for a text that is to be a URI
abbrev pub NamesFor : List ℕ → (Parts → Task) → Named → Type 0
NamesFor t task n = OfUriOr (Err Rejected) t (λ p. Names (task p)) n

-- get NAMES: one part, or several
abbrev pub NamesParts : List Part → Named → Type 0
NamesParts (p ∷ []) n = Names (tasks.Get p) n
NamesParts ps n = (parts : Vec Part Global) × (parts.items ≡ ps) × Names (tasks.GetParts parts) n

abbrev pub NamesGet : List ℕ → Named → Type 0
NamesGet words n = MatchOption (parts_named words) (NamesNothing n) (λ ps. NamesParts ps n)

-- resolve BASE
abbrev pub NamesResolve : List ℕ → Named → Type 0
NamesResolve base = NamesFor base (λ p. tasks.Resolve (record { text = base; parts = p }))

-- relativize BASE
abbrev pub NamesRelativize : List ℕ → Named → Type 0
NamesRelativize base = NamesFor base (λ p. tasks.Relativize p)

-- pair NAME
abbrev pub NamesPair : List ℕ → Named → Type 0
NamesPair t n = (name : Bor (List ℕ)) × (name.now ≡ t) × Names (tasks.Pair name) n

-- within BASE
abbrev pub NamesWithin : List ℕ → Named → Type 0
NamesWithin base = NamesFor base (λ p. tasks.Within (record { text = base; parts = p }))

-- host-within DOMAIN
abbrev pub NamesHostWithin : List ℕ → Named → Type 0
NamesHostWithin domain n = MatchResult (host.reading domain) (λ d. Names (tasks.HostWithin d) n) (λ e. n ≡ Err Rejected)

-- edit EDIT..: steps that make what the edits make
abbrev pub NamesSteps : List Edit → Named → Type 0
NamesSteps es n = (steps : Vec Step Global) × ((p : Parts) → steps_made steps.items p ≡ all_made es p) × Names (tasks.Edit steps) n

-- The edits are rejected if a value can't be read, and for no other reason.
abbrev pub NamesEdits : List Edit → Named → Type 0
NamesEdits es = when are_readable es then NamesSteps es else NamesRejected

abbrev pub NamesEdit : List (List ℕ) → Named → Type 0
NamesEdit words n = MatchOption (edits_of words) (NamesNothing n) (λ es. NamesEdits es n)

-- a command with no word, or with one
abbrev pub Alone : (Named → Type 0) → List (List ℕ) → Named → Type 0
Alone Is [] = Is
Alone Is texts = NamesNothing

abbrev pub OnWord : (List ℕ → Named → Type 0) → List (List ℕ) → Named → Type 0
OnWord Is (t ∷ []) = Is t
OnWord Is texts = NamesNothing

-- the command of this name, but not `edit`, with so many words as it takes
abbrev pub TasksNamed : List ℕ → List (List ℕ) → Named → Type 0
TasksNamed name texts =
    when bytes_eq name (codes "parse") then Alone (Names tasks.Parse) texts else
    when bytes_eq name (codes "get") then OnWord NamesGet texts else
    when bytes_eq name (codes "normalize") then Alone (Names tasks.Normalize) texts else
    when bytes_eq name (codes "key") then Alone (Names tasks.Key) texts else
    when bytes_eq name (codes "audit") then Alone (Names tasks.Audit) texts else
    when bytes_eq name (codes "equal") then Alone (Names tasks.Equal) texts else
    when bytes_eq name (codes "resolve") then OnWord NamesResolve texts else
    when bytes_eq name (codes "relativize") then OnWord NamesRelativize texts else
    when bytes_eq name (codes "escape") then Alone (Names tasks.Escape) texts else
    when bytes_eq name (codes "pair") then OnWord NamesPair texts else
    when bytes_eq name (codes "within") then OnWord NamesWithin texts else
    when bytes_eq name (codes "host-within") then OnWord NamesHostWithin texts else
    NamesNothing

-- the same with these options
abbrev pub TasksTo : Mode → List ℕ → List (List ℕ) → Named → Type 0
TasksTo modes.Plain name texts = TasksNamed name texts
TasksTo modes.Json name texts = when bytes_eq name (codes "parse") then Alone (Names tasks.Parse) texts else NamesNothing
TasksTo modes.Quiet name texts =
    when bytes_eq name (codes "parse") then Alone (Names tasks.Check) texts else
    when bytes_eq name (codes "equal") then Alone (Names tasks.CheckEqual) texts else
    NamesNothing
TasksTo modes.Trim name texts = when bytes_eq name (codes "escape") then Alone (Names tasks.EscapeLink) texts else NamesNothing
TasksTo modes.DropDefaultPort name texts = when bytes_eq name (codes "normalize") then Alone (Names tasks.NormalizePort) texts else NamesNothing
TasksTo modes.Mixed name texts = NamesNothing

-- the same of each command
abbrev pub TasksAny : Mode → List ℕ → List (List ℕ) → Named → Type 0
TasksAny modes.Plain name texts = when bytes_eq name (codes "edit") then NamesEdit texts else TasksNamed name texts
TasksAny mode name texts = TasksTo mode name texts

-- --quiet takes no columns
abbrev pub is_quiet : Mode → Bool
is_quiet modes.Quiet = true
is_quiet mode = false

abbrev pub TasksOf : Mode → List (List ℕ) → Named → Type 0
TasksOf mode [] = NamesNothing
TasksOf mode (name ∷ texts) = TasksAny mode name texts

-- what these words that follow these options come to, with --lines
abbrev pub Tasks : Options → List (List ℕ) → Named → Type 0
Tasks options words =
    when not (may_explain options words) || (is_quiet options.mode && is_some options.columns) then NamesNothing else TasksOf options.mode words

-- whether memory is taken to read the task of this name: for the parts of `get`, the base of `relativize` and the values of `edit`
abbrev pub takes_memory : Mode → List ℕ → Bool
takes_memory modes.Plain name = bytes_eq name (codes "get") || bytes_eq name (codes "relativize") || bytes_eq name (codes "edit")
takes_memory mode name = false

-- the same of these words
abbrev pub take_memory : Mode → List (List ℕ) → Bool
take_memory mode [] = false
take_memory mode (name ∷ texts) = takes_memory mode name

-- what was read of words, unless memory ran out, where it is taken
abbrev pub Reads : Bool → (Named → Type 0) → Result Task Failure → Type 0
Reads takes Is (Ok task) = Is (Ok task)
Reads takes Is (Err f) = ((takes ≡ true) × EndsWork f) ⊎ Is (Err (answer_of f))

-- ---- lines

-- How --lines ends with these words, on an input of these bytes, if they are known, of which the last bytes are left. The words name a task, which runs for
-- the lines, or its work ends early. Or nothing is read and nothing is written: the words name no task, or memory ran out.
abbrev pub LinesEnd : Options → List (List ℕ) → Option (List ℕ) → Option (List ℕ) → Option (List ℕ) → Option (List ℕ) → Result ℕ Failure → Type 0
LinesEnd options words input left old new result =
    ((task : Task) × Tasks options words (Ok task)
    × IfSome input (λ bytes. RunsOrStops task options.columns options.end bytes old new result))
    ⊎ (MatchResult result (λ status. ⊥) (λ f. Reads (take_memory options.mode words) (Tasks options words) (Err f)) × (left ≡ input) × (new ≡ old))

-- the same with the exit status of the program
abbrev pub LinesEndWith : Options → List (List ℕ) → Option (List ℕ) → Option (List ℕ) → Option (List ℕ) → Option (List ℕ) → ℕ → Type 0
LinesEndWith options words input left old new status =
    (result : Result ℕ Failure) × LinesEnd options words input left old new result
    × MatchResult result (λ done. status ≡ done) (λ f. status ≡ exit_status (answer_of f))

-- ---- the program

-- How the program ends with these options and this command, on such an input. Only --lines reads it. Only what may print something can end early.
abbrev pub CommandEnds : Options → List (List ℕ) → Option (List ℕ) → Option (List ℕ) → Option (List ℕ) → Option (List ℕ) → ℕ → Type 0
CommandEnds options command input left old new status =
    MatchBool options.reads_lines
    (LinesEndWith options command input left old new status)
    ((when may_print options command then Ends (Answers options command) old new else Gives (Answers options command) old new) status
    × (left ≡ input))

-- the same with any words that follow the program's name
abbrev pub ProgramEnds : List (List ℕ) → Option (List ℕ) → Option (List ℕ) → Option (List ℕ) → Option (List ℕ) → ℕ → Type 0
ProgramEnds words = CommandEnds (asked words).options (asked words).command
