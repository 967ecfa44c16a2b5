-- What is written for the lines of an input.
use Rattle.std.specs.Prelude.{◌≡◌, ◌==◌, ℕ, ◌-◌, List, [], ◌∷◌, ◌++◌, length, replicate, take, if◌then◌else◌, Option, Some, None, Result, Ok, Err}
use Rattle.std.specs.Io.KnownBytes.{Appends}
use Rattle.uriparse_text.specs.Cuts.{before}
use Rattle.uri_commands.specs.Columns.{IsRow, tab}
use Rattle.uri_commands.specs.Lines.{lines_of, newline}
use Rattle.uri_commands.specs.Output.{Answer, AnswersLine, EndsWork, Negative, Printed, Rejected, Unknown}
use Rattle.uri_commands.specs.declared.columns.Columns.{Columns}
use Rattle.uri_commands.specs.declared.commands.Task.{Task}
use Rattle.uri_commands.specs.declared.commands.Task.TheVariants as tasks
use Rattle.uri_commands.specs.declared.failure.Failure.{Failure}
use Rattle.uri_commands.specs.declared.lines.Outcome.{Outcome}
use Rattle.uri_commands.specs.declared.lines.Outcome.TheVariants as outcomes
use Rattle.uri_commands.specs.declared.lines.Work.{Work}

-- the outcome of a line with this answer
abbrev pub outcome_of : Answer → Outcome
outcome_of (Printed bytes) = outcomes.Done
outcome_of Rejected = outcomes.Rejected
outcome_of Negative = outcomes.Different
outcome_of Unknown = outcomes.Rejected

-- the worse of two outcomes
abbrev pub worse : Outcome → Outcome → Outcome
worse outcomes.Done b = b
worse outcomes.Different outcomes.Rejected = outcomes.Rejected
worse outcomes.Different b = outcomes.Different
worse outcomes.Rejected b = outcomes.Rejected

-- the exit status of work with this worst outcome
abbrev pub status_of : Outcome → ℕ
status_of outcomes.Done = 0
status_of outcomes.Different = 3
status_of outcomes.Rejected = 1

-- the bytes that an answer prints
abbrev pub printed : Answer → List ℕ
printed (Printed bytes) = bytes
printed a = []

-- a result on one line: what precedes the first newline, and the first byte `end`
abbrev pub first_line : ℕ → List ℕ → List ℕ
first_line end output = before end (before newline output)

-- the same with the byte `end` after it, or nothing
abbrev pub ended : ℕ → List ℕ → List ℕ
ended end [] = []
ended end (b ∷ t) = first_line end (b ∷ t) ++ end ∷ []

-- what is written for an answer without columns: what it prints, with the byte `end` in the place of a newline
abbrev pub output : ℕ → Answer → List ℕ
output end a = if end == newline then printed a else ended end (printed a)

-- what an answer prints for so many fields: for a rejected text as many empty ones
abbrev pub fields : ℕ → Answer → List ℕ
fields count (Printed bytes) = bytes
fields count Negative = []
fields count a = replicate (count - 1) tab

-- the task has an answer to this text, with this outcome, and this is in the answer's field of a row
pub record Gives (work : Work) (text field : List ℕ) (outcome : Outcome) : Type 0 where
  pub answer : Answer
  pub is : AnswersLine work.task text answer
  pub outcome_is : outcome ≡ outcome_of answer
  pub field_is : field ≡ first_line work.end (fields work.fields answer)

-- the task has an answer to this line, with this outcome, and this is written
pub record Prints (work : Work) (line out : List ℕ) (outcome : Outcome) : Type 0 where
  pub answer : Answer
  pub is : AnswersLine work.task line answer
  pub outcome_is : outcome ≡ outcome_of answer
  pub out_is : out ≡ output work.end answer

-- one row is written for this line
pub record PrintsRow (work : Work) (columns : Columns) (line out : List ℕ) (outcome : Outcome) : Type 0 where
  pub row : List ℕ
  pub is : IsRow (Gives work) work.end columns.first work.width columns.appends line row outcome
  pub out_is : out ≡ row ++ work.end ∷ []

-- this is written for a line, with this outcome
abbrev pub Writes : Option Columns → Work → List ℕ → List ℕ → Outcome → Type 0
Writes None work = Prints work
Writes (Some columns) work = PrintsRow work columns

-- this is written for these lines, one after the other, and this is the worst outcome
abbrev pub Outputs : Work → List (List ℕ) → List ℕ → Outcome → Type 0
Outputs work [] out worst = (out ≡ []) × (worst ≡ outcomes.Done)
Outputs work (line ∷ lines) out worst =
    (first rest : List ℕ) × (here later : Outcome) × Writes work.columns work line first here × Outputs work lines rest later
    × (out ≡ first ++ rest) × (worst ≡ worse here later)

-- how many fields of a line the task reads
abbrev pub width_of : Task → ℕ
width_of tasks.Equal = 2
width_of tasks.CheckEqual = 2
width_of task = 1

-- how many fields the task prints
abbrev pub count_of : Task → ℕ
count_of (tasks.GetParts parts) = length parts.items
count_of task = 1

-- the work of this task, with these columns and this byte at the end of lines
pub record IsWork (task : Task) (columns : Option Columns) (end : ℕ) (work : Work) : Type 0 where
  pub task_is : work.task ≡ task
  pub columns_are : work.columns ≡ columns
  pub end_is : work.end ≡ end
  pub width_is : work.width ≡ width_of task
  pub fields_are : work.fields ≡ count_of task

-- With these options the task runs for the lines of an input of these bytes: what is written for them goes out, and the status is the worst line's.
pub record Runs (task : Task) (columns : Option Columns) (end : ℕ) (bytes : List ℕ) (old new : Option (List ℕ)) (status : ℕ) : Type 0 where
  pub work : Work
  pub is : IsWork task columns end work
  pub out : List ℕ
  pub worst : Outcome
  pub outputs : Outputs work (lines_of end bytes) out worst
  pub written : Appends old new out
  pub status_is : status ≡ status_of worst

-- The same, but the work ended early: of what is written for some first lines the first bytes went out, and the rest did not.
pub record Stops (task : Task) (columns : Option Columns) (end : ℕ) (bytes : List ℕ) (old new : Option (List ℕ)) : Type 0 where
  pub work : Work
  pub is : IsWork task columns end work
  pub count : ℕ
  pub sent : List ℕ
  pub unsent : List ℕ
  pub worst : Outcome
  pub outputs : Outputs work (take count (lines_of end bytes)) (sent ++ unsent) worst
  pub written : Appends old new sent

-- the work has this status, or ended early
abbrev pub RunsOrStops : Task → Option Columns → ℕ → List ℕ → Option (List ℕ) → Option (List ℕ) → Result ℕ Failure → Type 0
RunsOrStops task columns end bytes old new (Ok status) = Runs task columns end bytes old new status
RunsOrStops task columns end bytes old new (Err f) = EndsWork f × Stops task columns end bytes old new

-- ---- words of private functions' clauses alone

-- Some bytes were pending, and others followed. Of all these the first went out, and the rest is pending.
pub record Sends (old new : Option (List ℕ)) (before after added : List ℕ) : Type 0 where
  pub sent : List ℕ
  pub written : Appends old new sent
  pub whole : before ++ added ≡ sent ++ after

-- what is written for these lines follows what was pending, and goes out or is pending
pub record Puts (work : Work) (lines : List (List ℕ)) (old new : Option (List ℕ)) (before after : List ℕ) (worst : Outcome) : Type 0 where
  pub out : List ℕ
  pub outputs : Outputs work lines out worst
  pub sends : Sends old new before after out

-- the same of all lines of an input, or of some first ones if the work ended early
pub record PutsSome (work : Work) (lines : List (List ℕ)) (old new : Option (List ℕ)) (before after : List ℕ) : Type 0 where
  pub count : ℕ
  pub worst : Outcome
  pub puts : Puts work (take count lines) old new before after worst

abbrev pub PutsOrStops : Work → List ℕ → Option (List ℕ) → Option (List ℕ) → List ℕ → List ℕ → Result Outcome Failure → Type 0
PutsOrStops work bytes old new before after (Ok worst) = Puts work (lines_of work.end bytes) old new before after worst
PutsOrStops work bytes old new before after (Err f) = PutsSome work (lines_of work.end bytes) old new before after
