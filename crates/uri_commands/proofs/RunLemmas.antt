-- The words of commands.
use Rattle.std.proofs.Common.{◌⊎◌, ℕ, ◌<◌, ◌≤◌, ◌≡◌, zero, suc, Bool, true, false, List, [], ◌∷◌, ◌++◌, map, length, get_or, Option, Some, None, Result, Ok, Err, inl, inr, refl, sym, ap, subst, ◌∙◌, arith}
use Rattle.std.specs.Bool.{MatchBool}
use Rattle.std.specs.Borrow.{Bor}
use Rattle.std.specs.Option.{option_and_then, option_map}
use Rattle.std.specs.Prelude.{MatchOption, MatchResult, bytes_eq, codes}
use Rattle.std.specs.Io.KnownBytes.{Appends}
use Rattle.std.proofs.KnownBytes.{Appends-nil}
use Rattle.std.proofs.lemmas.Bool.{false≢true}
use Rattle.std.proofs.lemmas.List.{append-nil}
use Rattle.uriparse.specs.PathError.TheVariants.{OutOfMemory}
use Rattle.uriparse.specs.URIReferenceError.{URIReferenceError}
use Rattle.uriparse.specs.URIReferenceError.TheVariants as references
use Rattle.uri_commands.specs.Options.{Request, asked, command_of}
use Rattle.uri_commands.specs.Output.{Answer, AnswersWords, IsUnknown, AnswersNamed, AnswersTo, ChecksEqual, Does, DoesAtOnce, Ends, EndsWork, Finds, FindsAtOnce, Gave, Gives, Tails, Writes, Negative, Printed, Rejected, Unknown, answer_of, exit_status, may_print, Answers, when◌then◌else◌, part_of, parts_of, GetsEach, GetsNames, GetsParts, parts_named}
use Rattle.uri_commands.specs.Outputs.{Sends}
use Rattle.uri_commands.specs.Tasks.{CommandEnds, LinesEnd, NamesNothing, ProgramEnds, TasksOf}
use Rattle.uri_commands.specs.declared.failure.Failure.{Failure}
use Rattle.uri_commands.specs.declared.failure.Failure.TheVariants as failures
use Rattle.uri_commands.specs.declared.get.Part.{Part}
use Rattle.uri_commands.specs.declared.options.Options.{Options}
use Rattle.uri_commands.specs.declared.options.Mode.{Mode}
use Rattle.uri_commands.specs.declared.options.Mode.TheVariants as modes
use Rattle.uri_commands.proofs.OutputLemmas.{Done, Known, answered, ended, found_nothing}

-- ---- names of parts

abbrev joined : Option Part → Option (List Part) → Option (List Part)
joined first rest = option_and_then (λ p. option_map (λ ps. p ∷ ps) rest) first

none_joined : (o : Option Part) → joined o None ≡ None
none_joined None = refl
none_joined (Some p) = refl

pub no_parts : (names : List (List ℕ)) (i : ℕ) (name : List ℕ) → i < length names → name ≡ get_or names i name → part_of name ≡ None → parts_of names ≡ None
no_parts [] i name below is none = absurd (omega arith)
no_parts (n ∷ names) zero name below is none = ap (λ o. joined o (parts_of names)) (ap part_of (sym is) ∙ none)
no_parts (n ∷ names) (suc i) name below is none = ap (joined (part_of n)) (no_parts names i name (omega arith) is none) ∙ none_joined (part_of n)

next_joined : (o : Option Part) (rest more : Option (List Part)) (parts : List Part) (p : Part) → joined o rest ≡ Some parts
    → ((ps : List Part) → rest ≡ Some ps → more ≡ Some (ps ++ p ∷ [])) → joined o more ≡ Some (parts ++ p ∷ [])
next_joined None rest more parts p is next = let no : ⊥ = cc in absurd no
next_joined (Some q) None more parts p is next = let no : ⊥ = cc in absurd no
next_joined (Some q) (Some ps) more parts p is next =
    let same : q ∷ ps ≡ parts = cc in
    ap (option_map (λ l. q ∷ l)) (next ps refl) ∙ ap (λ l. Some (l ++ p ∷ [])) same

pub one_part_more : (names : List (List ℕ)) (name : List ℕ) (parts : List Part) (p : Part) → parts_of names ≡ Some parts → part_of name ≡ Some p
    → parts_of (names ++ name ∷ []) ≡ Some (parts ++ p ∷ [])
one_part_more [] name parts p before now =
    let none : [] ≡ parts = cc in
    ap (λ o. joined o (Some [])) now ∙ ap (λ l. Some (l ++ p ∷ [])) none
one_part_more (n ∷ names) name parts p before now =
    next_joined (part_of n) (parts_of names) (parts_of (names ++ name ∷ [])) parts p before (λ ps is. one_part_more names name ps p is now)

-- ---- commands of two texts

-- the command of this name has done this for these two texts
pub on_two : (name word first second x y : List ℕ) (Is : List ℕ → List ℕ → Answer → Type 0) (a b : Known) (r : Done) → name ≡ word → x ≡ first → y ≡ second
    → (Does (Is first second) a b r → Does (AnswersNamed word (first ∷ second ∷ [])) a b r) → Does (Is x y) a b r
    → Does (AnswersNamed name (first ∷ second ∷ [])) a b r
on_two name word first second x y Is a b r named one two same done =
    subst (λ n. Does (AnswersNamed n (first ∷ second ∷ [])) a b r) (sym named)
    (same (subst (λ v. Does (Is first v) a b r) two (subst (λ v. Does (Is v y) a b r) one done)))

pub quietly_equal : (mode : Mode) (name first second x y : List ℕ) (a b : Known) (r : Done) → mode ≡ modes.Quiet → name ≡ codes "equal" → x ≡ first → y ≡ second
    → Finds (ChecksEqual x y) r → b ≡ a → Does (AnswersTo mode name (first ∷ second ∷ [])) a b r
quietly_equal mode name first second x y a b r quiet named one two found kept =
    subst (λ m. Does (AnswersTo m name (first ∷ second ∷ [])) a b r) (sym quiet)
    (subst (λ n. Does (AnswersTo modes.Quiet n (first ∷ second ∷ [])) a b r) (sym named)
    (subst (λ v. Does (ChecksEqual first v) a b r) two (subst (λ v. Does (ChecksEqual v y) a b r) one (found_nothing (ChecksEqual x y) a b r found kept))))

-- the same of a command that prints nothing
pub found_on_two : (name word first second x y : List ℕ) (Is : List ℕ → List ℕ → Answer → Type 0) (r : Done) → name ≡ word → x ≡ first → y ≡ second
    → (Finds (Is first second) r → Finds (AnswersNamed word (first ∷ second ∷ [])) r) → Finds (Is x y) r
    → Finds (AnswersNamed name (first ∷ second ∷ [])) r
found_on_two name word first second x y Is r named one two same found =
    subst (λ n. Finds (AnswersNamed n (first ∷ second ∷ [])) r) (sym named)
    (same (subst (λ v. Finds (Is first v) r) two (subst (λ v. Finds (Is v y) r) one found)))

pub found_quietly_equal : (mode : Mode) (name first second x y : List ℕ) (r : Done) → mode ≡ modes.Quiet → name ≡ codes "equal" → x ≡ first → y ≡ second
    → Finds (ChecksEqual x y) r → Finds (AnswersTo mode name (first ∷ second ∷ [])) r
found_quietly_equal mode name first second x y r quiet named one two found =
    subst (λ m. Finds (AnswersTo m name (first ∷ second ∷ [])) r) (sym quiet)
    (subst (λ n. Finds (AnswersTo modes.Quiet n (first ∷ second ∷ [])) r) (sym named)
    (subst (λ v. Finds (ChecksEqual first v) r) two (subst (λ v. Finds (ChecksEqual v y) r) one found)))

-- ---- too many texts

pub either : {A : Type 0} (is : Bool) (Is Other : A → Type 0) (a : A) → Is a → Other a → (when is then Is else Other) a
either true Is Other a first second = first
either false Is Other a first second = second

plain_many : (name x y z : List ℕ) (more : List (List ℕ)) → AnswersNamed name (x ∷ y ∷ z ∷ more) Unknown
plain_many name x y z more =
    (either (bytes_eq name (codes "parse")) _ _ _ refl
    (either (bytes_eq name (codes "tail")) _ _ _ refl
    (either (bytes_eq name (codes "get")) _ _ _ refl
    (either (bytes_eq name (codes "normalize")) _ _ _ refl
    (either (bytes_eq name (codes "key")) _ _ _ refl
    (either (bytes_eq name (codes "audit")) _ _ _ refl
    (either (bytes_eq name (codes "equal")) _ _ _ refl
    (either (bytes_eq name (codes "resolve")) _ _ _ refl
    (either (bytes_eq name (codes "relativize")) _ _ _ refl
    (either (bytes_eq name (codes "decode")) _ _ _ refl
    (either (bytes_eq name (codes "encode")) _ _ _ refl
    (either (bytes_eq name (codes "escape")) _ _ _ refl
    (either (bytes_eq name (codes "pairs")) _ _ _ refl
    (either (bytes_eq name (codes "pair")) _ _ _ refl
    (either (bytes_eq name (codes "within")) _ _ _ refl
    (either (bytes_eq name (codes "host-within")) _ _ _ refl
    (either (bytes_eq name (codes "file")) _ _ _ refl
    (either (bytes_eq name (codes "help")) _ _ _ refl
    (either (bytes_eq name (codes "--version")) _ _ _ refl
    refl)))))))))))))))))))

many : (mode : Mode) (name x y z : List ℕ) (more : List (List ℕ)) → AnswersTo mode name (x ∷ y ∷ z ∷ more) Unknown
many modes.Plain name x y z more = plain_many name x y z more
many modes.Json name x y z more = either (bytes_eq name (codes "parse")) _ _ _ refl refl
many modes.Quiet name x y z more = either (bytes_eq name (codes "parse")) _ _ _ refl (either (bytes_eq name (codes "equal")) _ _ _ refl refl)
many modes.Trim name x y z more = either (bytes_eq name (codes "escape")) _ _ _ refl refl
many modes.DropDefaultPort name x y z more = either (bytes_eq name (codes "normalize")) _ _ _ refl refl
many modes.Mixed name x y z more = refl

pub too_many : (mode : Mode) (name : List ℕ) (words : List (Bor (List ℕ))) → 3 ≤ length words → AnswersTo mode name (map (λ w. w.now) words) Unknown
too_many mode name [] long = absurd (omega arith)
too_many mode name (x ∷ []) long = absurd (omega arith)
too_many mode name (x ∷ y ∷ []) long = absurd (omega arith)
too_many mode name (x ∷ y ∷ z ∷ more) long = many mode name x.now y.now z.now (map (λ w. w.now) more)

-- ---- the program

ended_answer : (f : Failure) → EndsWork f → answer_of f ≡ Rejected
ended_answer failures.Usage ends = absurd ends
ended_answer (failures.Reference e) ends = refl
ended_answer (failures.Uri e) ends = refl
ended_answer (failures.Edit i e) ends = refl
ended_answer (failures.Query e) ends = absurd ends
ended_answer (failures.File e) ends = refl
ended_answer failures.NoTab ends = absurd ends
ended_answer failures.TooFewFields ends = absurd ends
ended_answer failures.Absent ends = absurd ends
ended_answer failures.Different ends = absurd ends
ended_answer failures.Outside ends = absurd ends
ended_answer (failures.Memory e) ends = refl
ended_answer (failures.MemoryAtLine n) ends = refl
ended_answer (failures.Input e) ends = refl
ended_answer (failures.Output e) ends = refl

ended_rejected : (f : Failure) → EndsWork f → exit_status (answer_of f) ≡ 1
ended_rejected f ends = ap exit_status (ended_answer f ends)

nothing_printed : (bytes : List ℕ) (f : Failure) → Printed bytes ≡ answer_of f → ⊥
nothing_printed bytes failures.Usage same = cc
nothing_printed bytes (failures.Reference e) same = cc
nothing_printed bytes (failures.Uri e) same = cc
nothing_printed bytes (failures.Edit i e) same = cc
nothing_printed bytes (failures.Query e) same = cc
nothing_printed bytes (failures.File e) same = cc
nothing_printed bytes failures.NoTab same = cc
nothing_printed bytes failures.TooFewFields same = cc
nothing_printed bytes failures.Absent same = cc
nothing_printed bytes failures.Different same = cc
nothing_printed bytes failures.Outside same = cc
nothing_printed bytes (failures.Memory e) same = cc
nothing_printed bytes (failures.MemoryAtLine n) same = cc
nothing_printed bytes (failures.Input e) same = cc
nothing_printed bytes (failures.Output e) same = cc

gave : (answer : Answer) (a : Known) (status : ℕ) (f : Failure) → answer ≡ answer_of f → status ≡ exit_status answer → Gave answer a a status
gave (Printed bytes) a status f of is = absurd (nothing_printed bytes f of)
gave Rejected a status f of is = (refl, is)
gave Negative a status f of is = (refl, is)
gave Unknown a status f of is = (refl, is)

pub ended_so : (Is : Answer → Type 0) (a b : Known) (r : Result ℕ Failure) (status : ℕ) → DoesAtOnce Is a b r
    → MatchResult r (λ s. status ≡ s) (λ f. status ≡ exit_status (answer_of f)) → Ends Is a b status
ended_so Is a b (Ok s) status done is = inl (Printed done.0, done.1, (done.2, is ∙ done.3))
ended_so Is a b (Err f) status (inl ends) is = inr (is ∙ ended_rejected f ends.0, ends.1)
ended_so Is a b (Err f) status (inr answer) is =
    inl (answer_of f, answer.0, subst (λ x. Gave (answer_of f) a x status) (sym answer.1) (gave (answer_of f) a status f refl is))

pub nothing_done : (Is : Answer → Type 0) (x y : Known) (f g : Failure) (a b : Known) (r : Result ℕ Failure) → Does Is x y (Err f)
    → (g ≡ f) ⊎ (EndsWork f × EndsWork g) → r ≡ Err g → b ≡ a → DoesAtOnce Is a b r
nothing_done Is x y f g a b r (inl ends) (inl same) is kept = subst (DoesAtOnce Is a b) (sym is) (inl (subst EndsWork (sym same) ends, inl kept))
nothing_done Is x y f g a b r (inr answer) (inl same) is kept =
    subst (DoesAtOnce Is a b) (sym is) (inr (subst (λ h. Is (answer_of h)) (sym same) answer.0, kept))
nothing_done Is x y f g a b r does (inr ends) is kept = subst (DoesAtOnce Is a b) (sym is) (inl (ends.1, inl kept))

pub written_whole : (Is : Answer → Type 0) (all after : List ℕ) (a b : Known) (r : Result ℕ Failure) → Does Is (Some []) (Some all) (Ok tt) → Sends a b all after []
    → after ≡ [] → r ≡ Ok 0 → DoesAtOnce Is a b r
written_whole Is all after a b r done sends none is =
    let whole : sends.sent ≡ all = sym (sends.whole ∙ ap (λ l. sends.sent ++ l) none ∙ append-nil sends.sent) ∙ append-nil all in
    subst (DoesAtOnce Is a b) (sym is) (all, subst (λ x. Is (Printed x)) (sym done.2) done.1, subst (Appends a b) whole sends.written, refl)

pub written_partly : (Is : Answer → Type 0) (all after : List ℕ) (f : Failure) (a b : Known) (r : Result ℕ Failure) → Does Is (Some []) (Some all) (Ok tt)
    → Sends a b all after [] → 0 < length after → EndsWork f → r ≡ Err f → DoesAtOnce Is a b r
written_partly Is all after f a b r done sends more ends is =
    let whole : all ≡ sends.sent ++ after = sym (append-nil all) ∙ sends.whole in
    subst (DoesAtOnce Is a b) (sym is) (inl (ends, inr (sends.sent, after, more, subst (λ x. Is (Printed x)) (sym done.2 ∙ whole) done.1, sends.written)))

-- the same of what prints nothing
pub nothing_found : (Is : Answer → Type 0) (f g : Failure) (a b : Known) (r : Result ℕ Failure) → Is (answer_of f)
    → (g ≡ f) ⊎ (EndsWork f × EndsWork g) → r ≡ Err g → b ≡ a → FindsAtOnce Is a b r
nothing_found Is f g a b r found (inl same) is kept = subst (FindsAtOnce Is a b) (sym is) (subst (λ h. Is (answer_of h)) (sym same) found, kept)
nothing_found Is f g a b r found (inr ends) is kept =
    subst (FindsAtOnce Is a b) (sym is) (subst Is (ended_answer f ends.0 ∙ sym (ended_answer g ends.1)) found, kept)

pub found_at_once : (Is : Answer → Type 0) (a b : Known) (r : Result ℕ Failure) → Is (Printed []) → b ≡ a → r ≡ Ok 0 → FindsAtOnce Is a b r
found_at_once Is a b r found kept is = subst (FindsAtOnce Is a b) (sym is) (found, kept, refl)

found_so : (Is : Answer → Type 0) (a b : Known) (r : Result ℕ Failure) (status : ℕ) → FindsAtOnce Is a b r
    → MatchResult r (λ s. status ≡ s) (λ f. status ≡ exit_status (answer_of f)) → Gives Is a b status
found_so Is a b (Ok s) status found is =
    (Printed [], found.0, (subst (λ x. Appends a x []) (sym found.1) (Appends-nil a), is ∙ found.2))
found_so Is a b (Err f) status found is =
    (answer_of f, found.0, subst (λ x. Gave (answer_of f) a x status) (sym found.1) (gave (answer_of f) a status f refl is))

-- The program gives an answer if it can't print, and else it may end early.
ended_by : (may : Bool) (Is : Answer → Type 0) (a b : Known) (r : Result ℕ Failure) (status : ℕ) → DoesAtOnce Is a b r → (may ≡ false → FindsAtOnce Is a b r)
    → MatchResult r (λ s. status ≡ s) (λ f. status ≡ exit_status (answer_of f)) → (when may then Ends Is a b else Gives Is a b) status
ended_by true Is a b r status does finds is = ended_so Is a b r status does is
ended_by false Is a b r status does finds is = found_so Is a b r status (finds refl) is

-- ---- the program's end

-- what holds with --lines, and what does without
by_lines : (is : Bool) {P Q : Type 0} → (is ≡ true → P) → (is ≡ false → Q) → MatchBool is P Q
by_lines true p q = p refl
by_lines false p q = q refl

pub lines_ended : (known left : Known) (options : Options) (words : List (List ℕ)) (a b : Known) (r : Result ℕ Failure) (status : ℕ)
    → options.reads_lines ≡ true → LinesEnd options words known left a b r
    → MatchResult r (λ done. status ≡ done) (λ f. status ≡ exit_status (answer_of f))
    → CommandEnds options words known left a b status
lines_ended known left options words a b r status reads ends is =
    by_lines options.reads_lines (λ _. (r, ends, is)) (λ none. absurd (false≢true (sym none ∙ reads)))

pub answer_ended : (known left : Known) (options : Options) (words : List (List ℕ)) (a b : Known) (r : Result ℕ Failure) (status : ℕ)
    → options.reads_lines ≡ false → left ≡ known → DoesAtOnce (Answers options words) a b r
    → (may_print options words ≡ false → FindsAtOnce (Answers options words) a b r) → MatchResult r (λ done. status ≡ done) (λ f. status ≡ exit_status (answer_of f))
    → CommandEnds options words known left a b status
answer_ended known left options words a b r status none kept does finds is =
    by_lines options.reads_lines (λ reads. absurd (false≢true (sym none ∙ reads)))
    (λ _. (ended_by (may_print options words) (Answers options words) a b r status does finds is, kept))

-- the words asked for these options and this command
pub asked_for : (words texts : List (List ℕ)) (options : Options) (o : Option (Bor (List ℕ))) (name : Bor (List ℕ)) (known left a b : Known) (status : ℕ)
    → asked words ≡ record { options = options; command = command_of (option_map (λ w. w.now) o) texts } → o ≡ Some name
    → CommandEnds options (name.now ∷ texts) known left a b status → ProgramEnds words known left a b status
asked_for words texts options o name known left a b status is some ends =
    subst (λ (r : Request). CommandEnds r.options r.command known left a b status)
    (sym (is ∙ ap (λ x. record { options = options; command = command_of (option_map (λ w. w.now) x) texts }) some)) ends

-- they asked for no command
pub asked_nothing : (words texts : List (List ℕ)) (options : Options) (o : Option (Bor (List ℕ))) (known a : Known) (status : ℕ)
    → asked words ≡ record { options = options; command = command_of (option_map (λ w. w.now) o) texts } → o ≡ None
    → status ≡ 2 → ProgramEnds words known known a a status
asked_nothing words texts options o known a status is none two =
    subst (λ (r : Request). CommandEnds r.options r.command known known a a status)
    (sym (is ∙ ap (λ x. record { options = options; command = command_of (option_map (λ w. w.now) x) texts }) none))
    (by_lines options.reads_lines
    (λ _. (Err failures.Usage, inr (inr (either _ NamesNothing (TasksOf options.mode []) (Err Unknown) refl refl), refl, refl), two))
    (λ _. ((Unknown, either _ IsUnknown (AnswersWords options.mode []) Unknown refl refl, (refl, two)), refl)))

-- ---- tails

pub tail_printed : (t bytes : List ℕ) (a b : Known) (r : Done) → Tails t (Printed bytes) → Writes bytes a b r → Does (Tails t) a b r
tail_printed t bytes a b r is written = answered (Tails t) bytes a b r is written

pub tail_rejected : (t : List ℕ) (e : URIReferenceError) (a b : Known) (r : Done) → (e ≡ references.Path OutOfMemory) ⊎ Tails t Rejected
    → r ≡ Err (failures.Reference e) → b ≡ a → Does (Tails t) a b r
tail_rejected t e a b r (inl ends) is kept = ended (Tails t) (failures.Reference e) a b r ends is
tail_rejected t e a b r (inr rejected) is kept = subst (Does (Tails t) a b) (sym is) (inr (rejected, kept))

-- several parts, or none, are printed on one line
pub got_several : (names t : List ℕ) (ps : List Part) (a b : Known) (r : Done) → parts_named names ≡ Some ps → (length ps ≡ 1 → ⊥)
    → Does (GetsParts ps t) a b r → Does (GetsNames names t) a b r
got_several names t ps a b r named several done =
    subst (λ o. Does (λ x. MatchOption o (x ≡ Unknown) (λ l. GetsEach l t x)) a b r) (sym named) (by_parts ps several done)
  where
    by_parts : (l : List Part) → (length l ≡ 1 → ⊥) → Does (GetsParts l t) a b r → Does (λ x. GetsEach l t x) a b r
    by_parts [] s d = d
    by_parts (p ∷ []) s d = absurd (s refl)
    by_parts (p ∷ q ∷ l) s d = d
