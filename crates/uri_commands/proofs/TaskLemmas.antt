-- Which task the words of --lines name.
use Rattle.std.proofs.Common.{◌⊎◌, ℕ, ◌≡◌, Bool, true, List, [], ◌∷◌, length, Option, Some, None, IfSome, Result, Ok, Err, inl, inr, refl, sym, ap, subst, ◌∙◌}
use Rattle.std.specs.declared.alloc.Global.{Global}
use Rattle.std.specs.Prelude.{MatchOption, MatchResult, Vec, bytes_eq, codes, is_some}
use Rattle.uriparse.specs.Host as host
use Rattle.uriparse.specs.HostError.{HostError}
use Rattle.uriparse.specs.HostValue.{Host}
use Rattle.uriparse.specs.Kinds.{fault_of}
use Rattle.uriparse.specs.PathError.TheVariants.{OutOfMemory}
use Rattle.uriparse.specs.Reference.{Parts, Spells}
use Rattle.uriparse.specs.Uri.{map_error}
use Rattle.uriparse.specs.View.{Viewed}
use Rattle.uriparse.specs.declared.uri.error.URIError.{URIError}
use Rattle.uriparse.specs.declared.uri.error.URIError.TheVariants as uris
use Rattle.uri_commands.specs.Edits.{Edit, edits_of}
use Rattle.uri_commands.specs.Output.{EndsWork, NamesNone, ReadsChanges, ReadsEdits, Rejected, Unknown, answer_of, parts_named, when◌then◌else◌}
use Rattle.uri_commands.specs.Outputs.{RunsOrStops}
use Rattle.uri_commands.specs.Tasks.{LinesEnd, Named, NamesEdit, NamesEdits, NamesFor, NamesGet, NamesHostWithin, NamesParts, NamesRejected, NamesRelativize, NamesResolve, NamesSteps, NamesWithin, Reads, Tasks, TasksNamed, TasksTo, take_memory}
use Rattle.uri_commands.specs.declared.commands.Task.{Task}
use Rattle.uri_commands.specs.declared.commands.Task.TheVariants as tasks
use Rattle.uri_commands.specs.declared.edit.Step.{Step}
use Rattle.uri_commands.specs.declared.failure.Failure.{Failure}
use Rattle.uri_commands.specs.declared.failure.Failure.TheVariants as failures
use Rattle.uri_commands.specs.declared.get.Part.{Part}
use Rattle.uri_commands.specs.declared.options.Mode.{Mode}
use Rattle.uri_commands.specs.declared.options.Mode.TheVariants as modes
use Rattle.uri_commands.specs.declared.options.Options.{Options}
use Rattle.uri_commands.proofs.OutputLemmas.{Known}
use Rattle.uri_commands.proofs.RunLemmas.{either}

abbrev pub Read : Type 0
Read = Result Task Failure

-- ---- a base

pub base_rejected : (takes : Bool) (t : List ℕ) (task : Parts → Task) (e : URIError) (r : Read) → fault_of true map_error uris.NotURI t ≡ Some e → r ≡ Err (failures.Uri e)
    → Reads takes (NamesFor t task) r
base_rejected takes t task e r wrong is = subst (Reads takes (NamesFor t task)) (sym is) (inr (inr (e, wrong, refl)))

pub resolves : (takes : Bool) (t : List ℕ) (base : Viewed) (r : Read) → base.text ≡ t → Spells t base.parts → is_some base.parts.scheme ≡ true → r ≡ Ok (tasks.Resolve base)
    → Reads takes (NamesResolve t) r
resolves takes t base r text spelled schemed is =
    subst (Reads takes (NamesResolve t)) (sym is) (inl (base.parts, spelled, schemed, ap (λ x. Ok (tasks.Resolve (record { text = x; parts = base.parts }))) text))

pub is_within : (takes : Bool) (t : List ℕ) (base : Viewed) (r : Read) → base.text ≡ t → Spells t base.parts → is_some base.parts.scheme ≡ true → r ≡ Ok (tasks.Within base)
    → Reads takes (NamesWithin t) r
is_within takes t base r text spelled schemed is =
    subst (Reads takes (NamesWithin t)) (sym is) (inl (base.parts, spelled, schemed, ap (λ x. Ok (tasks.Within (record { text = x; parts = base.parts }))) text))

pub relativizes : (takes : Bool) (t : List ℕ) (base : Parts) (r : Read) → Spells t base → is_some base.scheme ≡ true → r ≡ Ok (tasks.Relativize base) → Reads takes (NamesRelativize t) r
relativizes takes t base r spelled schemed is = subst (Reads takes (NamesRelativize t)) (sym is) (inl (base, spelled, schemed, refl))

pub not_relativized : (t : List ℕ) (e : URIError) (r : Read) → (fault_of true map_error uris.NotURI t ≡ Some e) ⊎ (e ≡ uris.Path OutOfMemory)
    → r ≡ Err (failures.Uri e) → Reads true (NamesRelativize t) r
not_relativized t e r (inl wrong) is = base_rejected true t (λ p. tasks.Relativize p) e r wrong is
not_relativized t e r (inr memory) is = subst (Reads true (NamesRelativize t)) (sym is) (inl (refl, memory))

-- ---- a domain

pub domain_read : (takes : Bool) (t : List ℕ) (d : Host) (r : Read) → host.reading t ≡ Ok d → r ≡ Ok (tasks.HostWithin d) → Reads takes (NamesHostWithin t) r
domain_read takes t d r read is =
    subst (Reads takes (NamesHostWithin t)) (sym is)
    (subst (λ x. MatchResult x (λ h. ◌≡◌ {A = Named} (Ok (tasks.HostWithin d)) (Ok (tasks.HostWithin h))) (λ e. ◌≡◌ {A = Named} (Ok (tasks.HostWithin d)) (Err Rejected))) (sym read) refl)

pub domain_rejected : (takes : Bool) (t : List ℕ) (x : HostError) (f : Failure) (r : Read) → host.reading t ≡ Err x → answer_of f ≡ Rejected → r ≡ Err f → Reads takes (NamesHostWithin t) r
domain_rejected takes t x f r read rejected is =
    subst (Reads takes (NamesHostWithin t)) (sym is)
    (inr (subst (λ y. MatchResult y (λ h. ◌≡◌ {A = Named} (Err (answer_of f)) (Ok (tasks.HostWithin h))) (λ e. ◌≡◌ {A = Named} (Err (answer_of f)) (Err Rejected))) (sym read) (ap Err rejected)))

-- ---- get

pub gets_one : (words : List ℕ) (ps : List Part) (p : Part) (r : Read) → parts_named words ≡ Some ps → ps ≡ p ∷ [] → r ≡ Ok (tasks.Get p) → Reads true (NamesGet words) r
gets_one words ps p r named one is =
    subst (Reads true (NamesGet words)) (sym is)
    (subst (λ o. MatchOption o (◌≡◌ {A = Named} (Ok (tasks.Get p)) (Err Unknown)) (λ l. NamesParts l (Ok (tasks.Get p)))) (sym (named ∙ ap Some one)) refl)

pub gets_several : (words : List ℕ) (parts : Vec Part Global) → parts_named words ≡ Some parts.items → (length parts.items ≡ 1 → ⊥)
    → NamesGet words (Ok (tasks.GetParts parts))
gets_several words parts named several =
    subst (λ o. MatchOption o (◌≡◌ {A = Named} (Ok (tasks.GetParts parts)) (Err Unknown)) (λ l. NamesParts l (Ok (tasks.GetParts parts)))) (sym named)
    (by_parts parts.items refl several)
  where
    by_parts : (l : List Part) → parts.items ≡ l → (length l ≡ 1 → ⊥) → NamesParts l (Ok (tasks.GetParts parts))
    by_parts [] e s = (parts, e, refl)
    by_parts (p ∷ []) e s = absurd (s refl)
    by_parts (p ∷ q ∷ l) e s = (parts, e, refl)

pub gets_none : (words : List ℕ) (f : Failure) (r : Read) → EndsWork f ⊎ ((parts_named words ≡ None) × (f ≡ failures.Usage)) → r ≡ Err f → Reads true (NamesGet words) r
gets_none words f r (inl ends) is = subst (Reads true (NamesGet words)) (sym is) (inl (refl, ends))
gets_none words f r (inr none) is =
    subst (Reads true (NamesGet words)) (sym is)
    (inr (subst (λ o. MatchOption o (◌≡◌ {A = Named} (Err (answer_of f)) (Err Unknown)) (λ l. NamesParts l (Err (answer_of f)))) (sym none.0) (ap (λ g. Err (answer_of g)) none.1)))

-- ---- edit

pub reads_steps : (words : List (List ℕ)) (steps : Vec Step Global) (r : Read) → ReadsEdits words (Ok steps) → r ≡ Ok (tasks.Edit steps) → Reads true (NamesEdit words) r
reads_steps words steps r reads is = subst (Reads true (NamesEdit words)) (sym is) (found (edits_of words) reads)
  where
    found : (o : Option (List Edit)) → MatchOption o (NamesNone (Ok steps)) (λ es. ReadsChanges es (Ok steps))
        → MatchOption o (◌≡◌ {A = Named} (Ok (tasks.Edit steps)) (Err Unknown)) (λ es. NamesEdits es (Ok (tasks.Edit steps)))
    found None none = absurd none
    found (Some es) reads =
        subst (λ v. (when v then NamesSteps es else NamesRejected) (Ok (tasks.Edit steps))) (sym reads.0) (steps, reads.1, refl)

pub reads_no_steps : (words : List (List ℕ)) (f : Failure) (r : Read) → ReadsEdits words (Err f) → r ≡ Err f → Reads true (NamesEdit words) r
reads_no_steps words f r reads is = subst (Reads true (NamesEdit words)) (sym is) (found (edits_of words) reads)
  where
    found : (o : Option (List Edit)) → MatchOption o (NamesNone (Err f)) (λ es. ReadsChanges es (Err f))
        → ((true ≡ true) × EndsWork f) ⊎ MatchOption o (◌≡◌ {A = Named} (Err (answer_of f)) (Err Unknown)) (λ es. NamesEdits es (Err (answer_of f)))
    found None (inl ends) = inl (refl, ends)
    found None (inr usage) = inr (ap (λ g. Err (answer_of g)) usage)
    found (Some es) (inl ends) = inl (refl, ends)
    found (Some es) (inr rejected) =
        inr (subst (λ v. (when v then NamesSteps es else NamesRejected) (Err (answer_of f))) (sym rejected.1) (ap Err rejected.0))

-- ---- no task

-- with such options no command takes a word
other_mode : (mode : Mode) (name t : List ℕ) (more : List (List ℕ)) → (mode ≡ modes.Plain → ⊥) → TasksTo mode name (t ∷ more) (Err Unknown)
other_mode modes.Plain name t more other = absurd (other refl)
other_mode modes.Json name t more other = either (bytes_eq name (codes "parse")) _ _ _ refl refl
other_mode modes.Quiet name t more other = either (bytes_eq name (codes "parse")) _ _ _ refl (either (bytes_eq name (codes "equal")) _ _ _ refl refl)
other_mode modes.Trim name t more other = either (bytes_eq name (codes "escape")) _ _ _ refl refl
other_mode modes.DropDefaultPort name t more other = either (bytes_eq name (codes "normalize")) _ _ _ refl refl
other_mode modes.Mixed name t more other = refl

-- no command takes two words
named_many : (name t u : List ℕ) (more : List (List ℕ)) → TasksNamed name (t ∷ u ∷ more) (Err Unknown)
named_many name t u more =
    (either (bytes_eq name (codes "parse")) _ _ _ refl
    (either (bytes_eq name (codes "get")) _ _ _ refl
    (either (bytes_eq name (codes "normalize")) _ _ _ refl
    (either (bytes_eq name (codes "key")) _ _ _ refl
    (either (bytes_eq name (codes "audit")) _ _ _ refl
    (either (bytes_eq name (codes "equal")) _ _ _ refl
    (either (bytes_eq name (codes "resolve")) _ _ _ refl
    (either (bytes_eq name (codes "relativize")) _ _ _ refl
    (either (bytes_eq name (codes "escape")) _ _ _ refl
    (either (bytes_eq name (codes "pair")) _ _ _ refl
    (either (bytes_eq name (codes "within")) _ _ _ refl
    (either (bytes_eq name (codes "host-within")) _ _ _ refl
    refl))))))))))))

pub many : (mode : Mode) (name t u : List ℕ) (more : List (List ℕ)) → TasksTo mode name (t ∷ u ∷ more) (Err Unknown)
many modes.Plain name t u more = named_many name t u more
many modes.Json name t u more = other_mode modes.Json name t (u ∷ more) (λ e. let no : ⊥ = cc in no)
many modes.Quiet name t u more = other_mode modes.Quiet name t (u ∷ more) (λ e. let no : ⊥ = cc in no)
many modes.Trim name t u more = other_mode modes.Trim name t (u ∷ more) (λ e. let no : ⊥ = cc in no)
many modes.DropDefaultPort name t u more = other_mode modes.DropDefaultPort name t (u ∷ more) (λ e. let no : ⊥ = cc in no)
many modes.Mixed name t u more = refl

-- ---- lines

pub lines_run : (options : Options) (words : List (List ℕ)) (task : Task) (now left a b : Known) (r : Result ℕ Failure) (read : Read) → read ≡ Ok task
    → Reads (take_memory options.mode words) (Tasks options words) read → IfSome now (λ bytes. RunsOrStops task options.columns options.end bytes a b r)
    → LinesEnd options words now left a b r
lines_run options words task now left a b r read is named runs = inl (task, subst (Reads (take_memory options.mode words) (Tasks options words)) is named, runs)

pub lines_unread : (options : Options) (words : List (List ℕ)) (now a : Known) (f : Failure) (r : Result ℕ Failure) (read : Read) → read ≡ Err f
    → Reads (take_memory options.mode words) (Tasks options words) read → r ≡ Err f → LinesEnd options words now now a a r
lines_unread options words now a f r read is named failed =
    subst (LinesEnd options words now now a a) (sym failed) (inr (subst (Reads (take_memory options.mode words) (Tasks options words)) is named, refl, refl))
