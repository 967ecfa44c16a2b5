-- What commands printed is what they answer.
use Rattle.std.proofs.Common.{◌≡◌, ◌⊎◌, ◌↔◌, inl, inr, if◌then◌else◌, ℕ, Bool, true, false, List, [], ◌∷◌, ◌++◌, drop, length, Option, Some, None, Result, Ok, Err, refl, sym, ap, subst, ◌∙◌, arith, append-nil, append_assoc, map}
use Rattle.std.specs.Prelude.{IfErr, IfOk, IsTrue, MatchOption, MatchResult, OnOk, Vec, bytes_eq, codes, is_some, min, take, unwrap_or}
use Rattle.std.specs.List.{find, join_with_byte}
use Rattle.std.specs.declared.alloc.AllocError.{AllocError}
use Rattle.std.specs.declared.alloc.Global.{Global}
use Rattle.std.specs.Borrow.{Bor}
use Rattle.std.specs.Option.{IsSomeAnd, option_and_then, option_map}
use Rattle.std.proofs.lemmas.Bool.{false≢true}
use Rattle.std.proofs.Math.Seq.{take-append_seam}
use Rattle.std.specs.Io.KnownBytes.{Appends}
use Rattle.std.proofs.KnownBytes.{Appends-nil, Appends-trans}
use Rattle.uriparse.specs.Bytes.{equals_sign}
use Rattle.uriparse.specs.Disagreement.{disagreement}
use Rattle.uriparse.specs.BufferError.{BufferError}
use Rattle.uriparse.specs.BufferError.TheVariants as buffers
use Rattle.uriparse.specs.Class.{Class}
use Rattle.uriparse.specs.Coding.{decoded, encoded}
use Rattle.uriparse.specs.Escaped.{escaped}
use Rattle.uriparse.specs.File.{path_of_uri, uri_of_path}
use Rattle.uriparse.specs.Pairs.{Pair, is_named, pairs, pairs_left, piece_of}
use Rattle.uriparse.specs.Query as query
use Rattle.uriparse.specs.Readings.{IsUnless, unless_fault}
use Rattle.uriparse.specs.Within.{IsWithin}
use Rattle.uriparse.specs.declared.file.error.FileError.{FileError}
use Rattle.uriparse.specs.declared.file.error.FileError.TheVariants as files
use Rattle.uri_commands.specs.Json.{object}
use Rattle.uriparse.specs.QueryError.{QueryError}
use Rattle.uriparse.specs.Relate.{relative}
use Rattle.uriparse.specs.Starts.{most}
use Rattle.uriparse.specs.TextCuts.{after, before}
use Rattle.uriparse.specs.Host.{reading}
use Rattle.uriparse.specs.HostError.{HostError}
use Rattle.uriparse.specs.HostValue.{Host}
use Rattle.uriparse.specs.HostWithin as hosts
use Rattle.uriparse.specs.View.{Viewed}
use Rattle.uriparse.specs.Into.{WritesTarget}
use Rattle.uriparse.specs.Into.{Writes as WritesInto}
use Rattle.uriparse.specs.Key.{key}
use Rattle.uriparse.specs.Kinds.{fault_of}
use Rattle.uriparse.specs.Normal.{normal}
use Rattle.uriparse.specs.Origin as origin
use Rattle.uriparse.specs.Ports.{port_or_default}
use Rattle.uriparse.specs.SchemeValue.{Scheme}
use Rattle.uriparse.specs.declared.uri.origin.Origin.{Origin}
use Rattle.uriparse.specs.PathError.TheVariants.{ExceededMaximumLength, OutOfMemory}
use Rattle.uriparse.specs.Ports.{without_default_port}
use Rattle.uriparse.specs.Reading.{fault}
use Rattle.uriparse.specs.Reference.{Parts, Spells, host_of, print}
use Rattle.uriparse.specs.SortKey.{sort_key}
use Rattle.uriparse.specs.Target.{target}
use Rattle.uriparse.specs.URIReferenceError.{URIReferenceError}
use Rattle.uriparse.specs.URIReferenceError.TheVariants as references
use Rattle.uriparse.specs.Uri.{map_error}
use Rattle.uriparse.specs.declared.uri.error.URIError.{URIError}
use Rattle.uriparse.specs.declared.uri.error.URIError.TheVariants as uris
use Rattle.uri_commands.specs.Columns.{tab}
use Rattle.uri_commands.specs.Edits.{steps_made}
use Rattle.uri_commands.specs.Output.{Answer, AnswersLine, Audits, reason_word, Checks, ChecksAgainst, ChecksEqual, Compares, ComparesWith, Decodes, Does, EditsLine, Encodes, Ended, EndsWork, Escapes, Files, Finds, EscapesLink, Gets, GetsFile, GetsOrEmpty, GetsParts, GetsPair, GetsPairOrEmpty, HasHostUnder, HostWithin, IfSo, IsBelow, IsOfBuffer, IsOfReference, IsOfUri, IsUnder, Keys, LacksTarget, LeadsTo, Normalizes, NormalizesPort, OfPair, OfReference, OfUri, Pairs, ParsesJson, Prints, PrintsHostWithin, PrintsIfPresent, PrintsPairs, PrintsWithin, Relativizes, RelativizesAgainst, Resolves, ResolvesAgainst, Within, Writes, WritesIfPresent, answer_of, class_of, equal_or_different, line, line_if, nothing_if, pair_lines, part_text}
use Rattle.uri_commands.specs.Output.{Negative, Printed, Rejected, Unknown}
use Rattle.uri_commands.specs.declared.commands.Task.{Task}
use Rattle.uri_commands.specs.declared.commands.Task.TheVariants as tasks
use Rattle.uri_commands.specs.declared.edit.Step.{Step}
use Rattle.uri_commands.specs.declared.failure.Failure.{Failure}
use Rattle.uri_commands.specs.declared.failure.Failure.TheVariants as failures
use Rattle.uri_commands.specs.declared.failure.StreamError.{StreamError}
use Rattle.uri_commands.specs.declared.get.Part.{Part}

abbrev pub Known : Type 0
Known = Option (List ℕ)

abbrev pub Done : Type 0
Done = Result (Unit {0}) Failure

pub line_written : (a b c : Known) (bytes : List ℕ) → Appends a b bytes → Appends b c (codes "\n") → Appends a c (line bytes)
line_written a b c bytes first second = Appends-trans a b c bytes (codes "\n") first second

-- ---- answers

pub answered : (Is : Answer → Type 0) (bytes : List ℕ) (a b : Known) (r : Done) → Is (Printed bytes) → Writes bytes a b r → Does Is a b r
answered Is bytes a b (Ok v) is written = (bytes, is, written)
answered Is bytes a b (Err f) is ends = inl ends

pub of_reference : (t : List ℕ) (p : Parts) (Is : Parts → Answer → Type 0) (a b : Known) (r : Done) → Spells t p → Does (Is p) a b r → Does (OfReference t Is) a b r
of_reference t p Is a b (Ok v) spelled done = (done.0, inl (p, spelled, done.1), done.2)
of_reference t p Is a b (Err f) spelled (inl ends) = inl ends
of_reference t p Is a b (Err f) spelled (inr answer) = inr (inl (p, spelled, answer.0), answer.1)

pub of_uri : (t : List ℕ) (p : Parts) (Is : Parts → Answer → Type 0) (a b : Known) (r : Done) → Spells t p → is_some p.scheme ≡ true → Does (Is p) a b r
    → Does (OfUri t Is) a b r
of_uri t p Is a b (Ok v) spelled schemed done = (done.0, inl (p, spelled, schemed, done.1), done.2)
of_uri t p Is a b (Err f) spelled schemed (inl ends) = inl ends
of_uri t p Is a b (Err f) spelled schemed (inr answer) = inr (inl (p, spelled, schemed, answer.0), answer.1)

-- ---- rejected texts

pub rejected_reference : (t : List ℕ) (Is : Parts → Answer → Type 0) (e : URIReferenceError) (a b : Known) (r : Done)
    → fault t ≡ Some e → r ≡ Err (failures.Reference e) → b ≡ a → Does (OfReference t Is) a b r
rejected_reference t Is e a b r wrong is kept = subst (Does (OfReference t Is) a b) (sym is) (inr (inr (e, wrong, refl), kept))

pub rejected_unless : (t : List ℕ) (Is : Parts → Answer → Type 0) (e : URIReferenceError) (a b : Known) (r : Done)
    → (fault t ≡ Some e) ⊎ (e ≡ references.Path OutOfMemory) → r ≡ Err (failures.Reference e) → b ≡ a → Does (OfReference t Is) a b r
rejected_unless t Is e a b r (inl wrong) is kept = rejected_reference t Is e a b r wrong is kept
rejected_unless t Is e a b r (inr memory) is kept = subst (Does (OfReference t Is) a b) (sym is) (inl memory)

pub rejected_uri : (t : List ℕ) (Is : Parts → Answer → Type 0) (e : URIError) (a b : Known) (r : Done)
    → fault_of true map_error uris.NotURI t ≡ Some e → r ≡ Err (failures.Uri e) → b ≡ a → Does (OfUri t Is) a b r
rejected_uri t Is e a b r wrong is kept = subst (Does (OfUri t Is) a b) (sym is) (inr (inr (e, wrong, refl), kept))

pub rejected_uri_unless : (t : List ℕ) (Is : Parts → Answer → Type 0) (e : URIError) (a b : Known) (r : Done)
    → (fault_of true map_error uris.NotURI t ≡ Some e) ⊎ (e ≡ uris.Path OutOfMemory) → r ≡ Err (failures.Uri e) → b ≡ a → Does (OfUri t Is) a b r
rejected_uri_unless t Is e a b r (inl wrong) is kept = rejected_uri t Is e a b r wrong is kept
rejected_uri_unless t Is e a b r (inr memory) is kept = subst (Does (OfUri t Is) a b) (sym is) (inl memory)

-- ---- a text that is put into a buffer

pub front_written : (t : List ℕ) (r : Result ℕ BufferError) (n : ℕ) (old new : List ℕ) → WritesInto t r old new → r ≡ Ok n → take n new ≡ t
front_written t (Err e) n old new put is = let no : ⊥ = grind (arith, is) in absurd no
front_written t (Ok m) n old new put is =
    let count : m ≡ n = cc in
    ap (λ k. take k new) (sym count ∙ put.0) ∙ ap (take (length t)) put.1 ∙ take-append_seam t (drop (length t) old)

-- ---- commands

pub normalized : (t : List ℕ) (p : Parts) (bytes : List ℕ) (a b : Known) (r : Done)
    → Spells t p → bytes ≡ print (normal p) → Writes (line bytes) a b r → Does (Normalizes t) a b r
normalized t p bytes a b r spelled is written =
    of_reference t p (λ q. Prints (print (normal q))) a b r spelled (answered (Prints (print (normal p))) (line bytes) a b r (ap (λ x. Printed (line x)) is) written)

pub normalized_port : (t : List ℕ) (p q : Parts) (a b : Known) (r : Done)
    → Spells t p → q ≡ without_default_port (normal p) → Writes (line (print q)) a b r → Does (NormalizesPort t) a b r
normalized_port t p q a b r spelled is written =
    let bytes = line (print q) in
    of_reference t p (λ x. Prints (print (without_default_port (normal x)))) a b r spelled
    (answered (Prints (print (without_default_port (normal p)))) bytes a b r (ap (λ x. Printed (line (print x))) is) written)

pub keyed : (t : List ℕ) (p : Parts) (bytes : List ℕ) (a b : Known) (r : Done)
    → Spells t p → bytes ≡ sort_key p → Writes (line bytes) a b r → Does (Keys t) a b r
keyed t p bytes a b r spelled is written =
    of_reference t p (λ q. Prints (sort_key q)) a b r spelled (answered (Prints (sort_key p)) (line bytes) a b r (ap (λ x. Printed (line x)) is) written)

pub audited : (t : List ℕ) (p : Parts) (bytes : List ℕ) (a b : Known) (r : Done)
    → Spells t p → bytes ≡ reason_word (disagreement p) → Writes (line bytes) a b r → Does (Audits t) a b r
audited t p bytes a b r spelled is written =
    of_reference t p (λ q. Prints (reason_word (disagreement q))) a b r spelled
    (answered (Prints (reason_word (disagreement p))) (line bytes) a b r (ap (λ x. Printed (line x)) is) written)

pub kept_view : {A E : Type 0} (is : Bool) (given kept : A) (e : E) → ◌≡◌ {A = Result A E} (Ok kept) (if is then Ok given else Err e) → kept ≡ given
kept_view true given kept e h = cc
kept_view false given kept e h = absurd (cc)

pub compared : (t : List ℕ) (p q : Parts) (a b : Known) (r : Done)
    → Spells t q → Writes (line (equal_or_different (bytes_eq (key p) (key q)))) a b r → Does (ComparesWith p t) a b r
compared t p q a b r spelled written =
    of_reference t q (λ x. Prints (equal_or_different (bytes_eq (key p) (key x)))) a b r spelled
    (answered (Prints (equal_or_different (bytes_eq (key p) (key q)))) _ a b r refl written)

pub compared_first : (t u : List ℕ) (p : Parts) (a b : Known) (r : Done) → Spells t p → Does (ComparesWith p u) a b r → Does (Compares t u) a b r
compared_first t u p a b r spelled done = of_reference t p (λ x. ComparesWith x u) a b r spelled done

pub of_pair : (t first second : List ℕ) (Is : List ℕ → List ℕ → Answer → Type 0) (a b : Known) (r : Done)
    → first ≡ before tab t → after tab t ≡ Some second → Does (Is first second) a b r → Does (OfPair t Is) a b r
of_pair t first second Is a b r front back done =
    subst (λ o. Does (λ x. MatchOption o (x ≡ Rejected) (λ u. Is (before tab t) u x)) a b r) (sym back) (subst (λ u. Does (Is u second) a b r) front done)

pub no_pair : (t : List ℕ) (Is : List ℕ → List ℕ → Answer → Type 0) (a b : Known) (r : Done)
    → after tab t ≡ None → r ≡ Err failures.NoTab → b ≡ a → Does (OfPair t Is) a b r
no_pair t Is a b r none is kept =
    subst (λ x. Does (OfPair t Is) a b x) (sym is)
    (inr (subst (λ o. MatchOption o (Rejected ≡ Rejected) (λ u. Is (before tab t) u Rejected)) (sym none) refl, kept))

-- ---- targets

target_front : (o : Option Parts) (r : Result ℕ BufferError) (n : ℕ) (old new : List ℕ)
    → MatchOption o ((r ≡ Err buffers.TooManySegments) × (new ≡ old)) (λ t. WritesInto (print t) r old new) → r ≡ Ok n
    → MatchOption o ⊥ (λ t. take n new ≡ print t)
target_front None r n old new put is = let first = put.0 in grind (arith, is, first)
target_front (Some t) r n old new put is = front_written (print t) r n old new put is

pub target_written : (b p : Parts) (r : Result ℕ BufferError) (n : ℕ) (old new : List ℕ)
    → WritesTarget b p r old new → r ≡ Ok n → MatchOption (target b p) ⊥ (λ t. take n new ≡ print t)
target_written b p r n old new put is = target_front (target b p) r n old new put is

small_error : (t : List ℕ) (r : Result ℕ BufferError) (e : BufferError) (f : Failure) (old new : List ℕ)
    → WritesInto t r old new → r ≡ Err e → IsOfBuffer e f → EndsWork f
small_error t (Ok n) e f old new put is of = let no : ⊥ = grind (arith, is) in absurd no
small_error t (Err x) e f old new put is of =
    let same : e ≡ buffers.TooSmall (min (length t) most) = cc in
    subst (λ y. IsOfBuffer y f) same of

pub too_small : (t : List ℕ) (r : Result ℕ BufferError) (e : BufferError) (f : Failure) (old new : List ℕ)
    → WritesInto t r old new → r ≡ Err e → IsOfBuffer e f → EndsWork f
too_small t r e f old new put is of = small_error t r e f old new put is of

no_target : (o : Option Parts) (r : Result ℕ BufferError) (e : BufferError) (f : Failure) (old new : List ℕ)
    → MatchOption o ((r ≡ Err buffers.TooManySegments) × (new ≡ old)) (λ t. WritesInto (print t) r old new) → r ≡ Err e → IsOfBuffer e f
    → EndsWork f ⊎ ((o ≡ None) × (answer_of f ≡ Rejected))
no_target None r e f old new put is of =
    let first = put.0 in
    let same : e ≡ buffers.TooManySegments = cc in
    let failed : f ≡ failures.Uri (uris.Path ExceededMaximumLength) = subst (λ y. IsOfBuffer y f) same of in
    inr (refl, ap answer_of failed)
no_target (Some t) r e f old new put is of = inl (small_error (print t) r e f old new put is of)

pub target_lacking : (b p : Parts) (r : Result ℕ BufferError) (e : BufferError) (f : Failure) (old new : List ℕ)
    → WritesTarget b p r old new → r ≡ Err e → IsOfBuffer e f → LacksTarget b p f
target_lacking b p r e f old new put is of = no_target (target b p) r e f old new put is of

abbrev AnswersTarget : Option Parts → Answer → Type 0
AnswersTarget o x = MatchOption o (x ≡ Rejected) (λ q. Prints (print q) x)

resolved_to : (o : Option Parts) (bytes : List ℕ) (a b : Known) (r : Done)
    → MatchOption o ⊥ (λ q. bytes ≡ print q) → Writes (line bytes) a b r → Does (AnswersTarget o) a b r
resolved_to None bytes a b r is written = absurd is
resolved_to (Some q) bytes a b r is written = answered (Prints (print q)) (line bytes) a b r (ap (λ x. Printed (line x)) is) written

pub resolved : (base p : Parts) (t front bytes : List ℕ) (a b : Known) (r : Done)
    → Spells t p → MatchOption (target base p) ⊥ (λ q. front ≡ print q) → bytes ≡ front → Writes (line bytes) a b r → Does (ResolvesAgainst base t) a b r
resolved base p t front bytes a b r spelled is same written =
    of_reference t p (λ x. AnswersTarget (target base x)) a b r spelled
    (resolved_to (target base p) front a b r is (subst (λ u. Writes (line u) a b r) same written))

unresolved_to : (o : Option Parts) (f : Failure) (a b : Known) → EndsWork f ⊎ ((o ≡ None) × (answer_of f ≡ Rejected)) → b ≡ a → Does (AnswersTarget o) a b (Err f)
unresolved_to o f a b (inl ends) kept = inl ends
unresolved_to o f a b (inr lacks) kept =
    inr (subst (λ x. MatchOption x (answer_of f ≡ Rejected) (λ q. Prints (print q) (answer_of f))) (sym lacks.0) lacks.1, kept)

pub unresolved : (base p : Parts) (t : List ℕ) (f : Failure) (a b : Known) (r : Done)
    → Spells t p → LacksTarget base p f → r ≡ Err f → b ≡ a → Does (ResolvesAgainst base t) a b r
unresolved base p t f a b r spelled lacks is kept =
    subst (Does (ResolvesAgainst base t) a b) (sym is)
    (of_reference t p (λ x. AnswersTarget (target base x)) a b (Err f) spelled (unresolved_to (target base p) f a b lacks kept))

pub resolved_first : (base t : List ℕ) (b : Parts) (x y : Known) (r : Done)
    → Spells base b → is_some b.scheme ≡ true → Does (ResolvesAgainst b t) x y r → Does (Resolves base t) x y r
resolved_first base t b x y r spelled schemed done = of_uri base b (λ p. ResolvesAgainst p t) x y r spelled schemed done

-- ---- references that lead to URIs

pub led : (base p q : Parts) (a b : Known) (r : Done)
    → q ≡ relative base p → Writes (line (print q)) a b r → Does (LeadsTo base p) a b r
led base p q a b r is written = answered (LeadsTo base p) (line (print q)) a b r (ap (λ x. Printed (line (print x))) is) written

pub relativized : (base p : Parts) (t : List ℕ) (a b : Known) (r : Done)
    → Spells t p → is_some p.scheme ≡ true → Does (LeadsTo base p) a b r → Does (RelativizesAgainst base t) a b r
relativized base p t a b r spelled schemed done = of_uri t p (LeadsTo base) a b r spelled schemed done

pub relativized_first : (base t : List ℕ) (b : Parts) (x y : Known) (r : Done)
    → Spells base b → is_some b.scheme ≡ true → Does (RelativizesAgainst b t) x y r → Does (Relativizes base t) x y r
relativized_first base t b x y r spelled schemed done = of_uri base b (λ p. RelativizesAgainst p t) x y r spelled schemed done

-- ---- texts of components

pub escaped_out : (t bytes : List ℕ) (a b : Known) (r : Done) → bytes ≡ escaped t → Writes (line bytes) a b r → Does (Escapes t) a b r
escaped_out t bytes a b r is written = answered (Escapes t) (line bytes) a b r (ap (λ x. Printed (line x)) is) written

pub decoded_out : (t q bytes : List ℕ) (a b : Known) (r : Done)
    → query.reading t ≡ Ok q → bytes ≡ decoded q → Writes (line bytes) a b r → Does (Decodes t) a b r
decoded_out t q bytes a b r read is written =
    answered (Decodes t) (line bytes) a b r
    (subst (λ x. MatchResult x (λ u. Prints (decoded u) (Printed (line bytes))) (λ e. Printed (line bytes) ≡ Rejected)) (sym read) (ap (λ x. Printed (line x)) is)) written

pub not_decoded : (t : List ℕ) (e : QueryError) (a b : Known) (r : Done)
    → query.reading t ≡ Err e → r ≡ Err (failures.Query e) → b ≡ a → Does (Decodes t) a b r
not_decoded t e a b r read is kept =
    subst (Does (Decodes t) a b) (sym is) (inr (subst (λ x. MatchResult x (λ u. Prints (decoded u) Rejected) (λ e. Rejected ≡ Rejected)) (sym read) refl, kept))

-- ---- memory

pub ended : (Is : Answer → Type 0) (f : Failure) (a b : Known) (r : Done) → EndsWork f → r ≡ Err f → Does Is a b r
ended Is f a b r ends is = subst (Does Is a b) (sym is) (inl ends)

-- ---- commands that never print

pub found_nothing : (Is : Answer → Type 0) (a b : Known) (r : Done) → Finds Is r → b ≡ a → Does Is a b r
found_nothing Is a b (Ok v) found kept = ([], found, subst (λ x. Appends a x []) (sym kept) (Appends-nil a))
found_nothing Is a b (Err f) is kept = inr (is, kept)

pub found_rejected : (t : List ℕ) (Is : Parts → Answer → Type 0) (e : URIReferenceError) (r : Done)
    → fault t ≡ Some e → r ≡ Err (failures.Reference e) → Finds (OfReference t Is) r
found_rejected t Is e r wrong is = subst (Finds (OfReference t Is)) (sym is) (inr (e, wrong, refl))

pub found_rejected_uri : (t : List ℕ) (Is : Parts → Answer → Type 0) (e : URIError) (r : Done)
    → fault_of true map_error uris.NotURI t ≡ Some e → r ≡ Err (failures.Uri e) → Finds (OfUri t Is) r
found_rejected_uri t Is e r wrong is = subst (Finds (OfUri t Is)) (sym is) (inr (e, wrong, refl))

abbrev AnswersFault : Option URIReferenceError → Answer → Type 0
AnswersFault o a = MatchOption o (a ≡ Printed []) (λ e. a ≡ Rejected)

faultless : (o : Option URIReferenceError) (v : Unit {0}) → ◌≡◌ {A = Result (Unit {0}) URIReferenceError} (Ok v) (unless_fault o tt) → AnswersFault o (Printed [])
faultless None v is = refl
faultless (Some e) v is = let no : ⊥ = grind (arith, is) in absurd no

faulty : (o : Option URIReferenceError) (e : URIReferenceError) → ◌≡◌ {A = Result (Unit {0}) URIReferenceError} (Err e) (unless_fault o tt) → AnswersFault o Rejected
faulty None e is = let no : ⊥ = grind (arith, is) in absurd no
faulty (Some x) e is = refl

pub checked : (t : List ℕ) (v : Unit {0}) (r : Done) → ◌≡◌ {A = Result (Unit {0}) URIReferenceError} (Ok v) (unless_fault (fault t) tt) → r ≡ Ok tt → Finds (Checks t) r
checked t v r right is = subst (Finds (Checks t)) (sym is) (faultless (fault t) v right)

pub not_checked : (t : List ℕ) (e : URIReferenceError) (r : Done) → ◌≡◌ {A = Result (Unit {0}) URIReferenceError} (Err e) (unless_fault (fault t) tt) → r ≡ Err (failures.Reference e) → Finds (Checks t) r
not_checked t e r right is = subst (Finds (Checks t)) (sym is) (faulty (fault t) e right)

pub found_in_reference : (t : List ℕ) (p : Parts) (Is : Parts → Answer → Type 0) (r : Done) → Spells t p → Finds (Is p) r → Finds (OfReference t Is) r
found_in_reference t p Is (Ok v) spelled found = inl (p, spelled, found)
found_in_reference t p Is (Err f) spelled is = inl (p, spelled, is)

pub found_in_uri : (t : List ℕ) (p : Parts) (Is : Parts → Answer → Type 0) (r : Done) → Spells t p → is_some p.scheme ≡ true → Finds (Is p) r
    → Finds (OfUri t Is) r
found_in_uri t p Is (Ok v) spelled schemed found = inl (p, spelled, schemed, found)
found_in_uri t p Is (Err f) spelled schemed is = inl (p, spelled, schemed, is)

pub found_equal_first : (t u : List ℕ) (p : Parts) (r : Done) → Spells t p → Finds (ChecksAgainst p u) r → Finds (ChecksEqual t u) r
found_equal_first t u p r spelled found = found_in_reference t p (λ x. ChecksAgainst x u) r spelled found

pub found_equal : (t : List ℕ) (p q : Parts) (r : Done) → Spells t q → bytes_eq (key p) (key q) ≡ true → r ≡ Ok tt → Finds (ChecksAgainst p t) r
found_equal t p q r spelled same is = subst (Finds (ChecksAgainst p t)) (sym is) (inl (q, spelled, ap nothing_if (sym same)))

pub found_different : (t : List ℕ) (p q : Parts) (r : Done)
    → Spells t q → bytes_eq (key p) (key q) ≡ false → r ≡ Err failures.Different → Finds (ChecksAgainst p t) r
found_different t p q r spelled other is = subst (Finds (ChecksAgainst p t)) (sym is) (inl (q, spelled, ap nothing_if (sym other)))

pub found_in_pair : (t first second : List ℕ) (Is : List ℕ → List ℕ → Answer → Type 0) (r : Done)
    → first ≡ before tab t → after tab t ≡ Some second → Finds (Is first second) r → Finds (OfPair t Is) r
found_in_pair t first second Is r front back found =
    subst (λ o. Finds (λ x. MatchOption o (x ≡ Rejected) (λ u. Is (before tab t) u x)) r) (sym back) (subst (λ u. Finds (Is u second) r) front found)

pub found_no_pair : (t : List ℕ) (Is : List ℕ → List ℕ → Answer → Type 0) (r : Done)
    → after tab t ≡ None → r ≡ Err failures.NoTab → Finds (OfPair t Is) r
found_no_pair t Is r none is =
    subst (λ x. Finds (OfPair t Is) x) (sym is)
    (subst (λ o. MatchOption o (Rejected ≡ Rejected) (λ u. Is (before tab t) u Rejected)) (sym none) refl)

-- ---- URIs below others

pub uri_of : (t : List ℕ) (b p : Parts) (is : Bool) → Spells t p → is_some p.scheme ≡ true → (IsTrue is ↔ IsWithin p b)
    → IsOfUri {A = Bool} t (λ q x. IsTrue x ↔ IsWithin q b) (Ok is)
uri_of t b p is spelled schemed decides = (p, spelled, schemed, decides)

pub uri_rejected : (t : List ℕ) (b : Parts) (e : URIError) (r : Result Bool Failure)
    → fault_of true map_error uris.NotURI t ≡ Some e → r ≡ Err (failures.Uri e) → IsOfUri {A = Bool} t (λ q x. IsTrue x ↔ IsWithin q b) r
uri_rejected t b e r wrong is = subst (IsOfUri {A = Bool} t (λ q x. IsTrue x ↔ IsWithin q b)) (sym is) (e, wrong, refl)

decided : (Is : Type 0) (is : Bool) (inside outside : Answer) → (IsTrue is ↔ Is) → IfSo Is inside outside (if is then inside else outside)
decided Is true inside outside decides = inl (decides.0 refl, refl)
decided Is false inside outside decides = inr ((λ x. false≢true (decides.1 x)), refl)

-- the answer to a URI that is below the base, or not
below : (t : List ℕ) (b : Parts) (is : Bool) (inside outside : Answer)
    → IsOfUri {A = Bool} t (λ q x. IsTrue x ↔ IsWithin q b) (Ok is) → IsBelow b t inside outside (if is then inside else outside)
below t b is inside outside found = inl (found.0, found.1, found.2, decided (IsWithin found.0 b) is inside outside found.3)

-- what a test finds is told by the status alone
tested : (Is : Answer → Type 0) (is : Bool) (r : Done) → Is (if is then Printed [] else Negative)
    → MatchResult r (λ _. is ≡ true) (λ f. (f ≡ failures.Outside) × (is ≡ false)) → Finds Is r
tested Is is (Ok v) found holds = subst (λ x. Is (if x then Printed [] else Negative)) holds found
tested Is is (Err f) found fails = subst Is (ap answer_of (sym fails.0)) (subst (λ x. Is (if x then Printed [] else Negative)) fails.1 found)

pub found_below : (t : List ℕ) (b : Parts) (is : Bool) (r : Done) → IsOfUri {A = Bool} t (λ q x. IsTrue x ↔ IsWithin q b) (Ok is)
    → MatchResult r (λ _. is ≡ true) (λ f. (f ≡ failures.Outside) × (is ≡ false)) → Finds (IsBelow b t (Printed []) Negative) r
found_below t b is r found holds = tested (IsBelow b t (Printed []) Negative) is r (below t b is (Printed []) Negative found) holds

pub found_unread : (t : List ℕ) (b : Parts) (inside outside : Answer) (f : Failure) (r : Done)
    → IsOfUri {A = Bool} t (λ q x. IsTrue x ↔ IsWithin q b) (Err f) → r ≡ Err f → Finds (IsBelow b t inside outside) r
found_unread t b inside outside f r wrong is =
    found_rejected_uri t (λ p. IfSo (IsWithin p b) inside outside) wrong.0 r wrong.1 (is ∙ ap (λ x. Err x) wrong.2)

pub below_first : (base t : List ℕ) (b : Parts) (r : Done)
    → Spells base b → is_some b.scheme ≡ true → Finds (IsBelow b t (Printed []) Negative) r → Finds (Within base t) r
below_first base t b r spelled schemed found = found_in_uri base b (λ p. IsBelow p t (Printed []) Negative) r spelled schemed found

line_or_nothing : (is : Bool) (t : List ℕ) → (if is then Printed (line t) else Printed []) ≡ Printed (line_if is t)
line_or_nothing true t = refl
line_or_nothing false t = refl

pub printed_below : (t : List ℕ) (b : Parts) (is : Bool) (x y : Known) (r : Done) → IsOfUri {A = Bool} t (λ q x. IsTrue x ↔ IsWithin q b) (Ok is)
    → Writes (line_if is t) x y r → Does (PrintsWithin b t) x y r
printed_below t b is x y r found written =
    answered (PrintsWithin b t) (line_if is t) x y r
    (subst (PrintsWithin b t) (line_or_nothing is t) (below t b is (Printed (line t)) (Printed []) found)) written

pub unread : (t : List ℕ) (b : Parts) (f : Failure) (x y : Known) (r : Done)
    → IsOfUri {A = Bool} t (λ q x. IsTrue x ↔ IsWithin q b) (Err f) → r ≡ Err f → y ≡ x → Does (PrintsWithin b t) x y r
unread t b f x y r wrong is kept =
    found_nothing (PrintsWithin b t) x y r (found_unread t b (Printed (line t)) (Printed []) f r wrong is) kept

pub nothing_written : (a : Known) → Appends a a []
nothing_written a = Appends-nil a

-- ---- files

pub filed : (t : List ℕ) (u : Parts) (a b : Known) (r : Done)
    → IsUnless (files.Path OutOfMemory) (Ok u) (uri_of_path t) → Writes (line (print u)) a b r → Does (Files t) a b r
filed t u a b r (inl made) written =
    answered (Files t) (line (print u)) a b r
    (subst (λ x. MatchResult x (λ v. Prints (print v) (Printed (line (print u)))) (λ e. Printed (line (print u)) ≡ Rejected)) made refl) written
filed t u a b r (inr other) written = let never : ⊥ = grind (arith, other) in absurd never

pub not_filed : (t : List ℕ) (e : FileError) (a b : Known) (r : Done)
    → IsUnless (files.Path OutOfMemory) (Err e) (uri_of_path t) → r ≡ Err (failures.File e) → b ≡ a → Does (Files t) a b r
not_filed t e a b r (inl wrong) is kept =
    subst (Does (Files t) a b) (sym is) (inr (subst (λ x. MatchResult x (λ v. Prints (print v) Rejected) (λ e. Rejected ≡ Rejected)) wrong refl, kept))
not_filed t e a b r (inr memory) is kept =
    let same : e ≡ files.Path OutOfMemory = cc in
    subst (Does (Files t) a b) (sym is) (inl same)

abbrev AnswersPath : Result (List ℕ) FileError → Answer → Type 0
AnswersPath found a = MatchResult found (λ path. Prints path a) (λ e. a ≡ Rejected)

pub file_path : (t bytes : List ℕ) (p : Parts) (a b : Known) (r : Done)
    → Spells t p → is_some p.scheme ≡ true → path_of_uri p ≡ Ok bytes → Writes (line bytes) a b r → Does (GetsFile t) a b r
file_path t bytes p a b r spelled schemed found written =
    of_uri t p (λ x. AnswersPath (path_of_uri x)) a b r spelled schemed
    (answered (AnswersPath (path_of_uri p)) (line bytes) a b r (subst (λ x. AnswersPath x (Printed (line bytes))) (sym found) refl) written)

pub no_file_path : (t : List ℕ) (e : FileError) (p : Parts) (a b : Known) (r : Done)
    → Spells t p → is_some p.scheme ≡ true → (path_of_uri p ≡ Err e) ⊎ (e ≡ files.Path OutOfMemory) → r ≡ Err (failures.File e) → b ≡ a
    → Does (GetsFile t) a b r
no_file_path t e p a b r spelled schemed (inl wrong) is kept =
    subst (Does (GetsFile t) a b) (sym is)
    (of_uri t p (λ x. AnswersPath (path_of_uri x)) a b (Err (failures.File e)) spelled schemed
    (inr (subst (λ x. AnswersPath x Rejected) (sym wrong) refl, kept)))
no_file_path t e p a b r spelled schemed (inr memory) is kept = subst (Does (GetsFile t) a b) (sym is) (inl memory)

-- ---- objects

pub object_printed : (t : List ℕ) (p : Parts) (a b : Known) (r : Done)
    → Spells t p → OnOk r (Appends a b (line (object t p))) → IfErr r (λ f. (e : StreamError) × (f ≡ failures.Output e)) → Does (ParsesJson t) a b r
object_printed t p a b (Ok v) spelled written fails = (line (object t p), inl (p, spelled, refl), written)
object_printed t p a b (Err f) spelled written fails = subst (λ x. Does (ParsesJson t) a b (Err x)) (sym fails.1) (inl tt)

-- ---- pairs

abbrev value_in : List ℕ → Option (List ℕ) → Option (List ℕ)
value_in name q = option_map (λ x. unwrap_or x.1 []) (find (is_named name) (pairs_left q))

pub value_printed : (o : Option (List ℕ)) (q bytes : List ℕ) (a b : Known) (r : Done)
    → o ≡ Some q → bytes ≡ decoded q → Writes (line bytes) a b r → Does (PrintsIfPresent (option_map decoded o)) a b r
value_printed o q bytes a b r is decodes written =
    subst (λ x. Does (PrintsIfPresent (option_map decoded x)) a b r) (sym is)
    (answered (Prints (decoded q)) (line bytes) a b r (ap (λ x. Printed (line x)) decodes) written)

pub value_absent : (o : Option (List ℕ)) (a b : Known) (r : Done) → o ≡ None → r ≡ Err failures.Absent → b ≡ a → Does (PrintsIfPresent (option_map decoded o)) a b r
value_absent o a b r none is kept =
    subst (λ x. Does (PrintsIfPresent (option_map decoded x)) a b r) (sym none) (subst (Does (PrintsIfPresent None) a b) (sym is) (inr (refl, kept)))

pub pair_of : (t name q : List ℕ) (p : Parts) (o : Option (List ℕ)) (a b : Known) (r : Done)
    → Spells t p → p.query ≡ Some q → o ≡ option_map (λ x. unwrap_or x.1 []) (find (is_named name) (pairs q))
    → Does (PrintsIfPresent (option_map decoded o)) a b r → Does (GetsPair name t) a b r
pair_of t name q p o a b r spelled present is done =
    of_reference t p (λ x. PrintsIfPresent (option_map decoded (value_in name x.query))) a b r spelled
    (subst (λ x. Does (PrintsIfPresent (option_map decoded x)) a b r) (is ∙ ap (value_in name) (sym present)) done)

pub pair_without_query : (t name : List ℕ) (p : Parts) (a b : Known) (r : Done)
    → Spells t p → p.query ≡ None → r ≡ Err failures.Absent → b ≡ a → Does (GetsPair name t) a b r
pair_without_query t name p a b r spelled none is kept =
    of_reference t p (λ x. PrintsIfPresent (option_map decoded (value_in name x.query))) a b r spelled
    (value_absent (value_in name p.query) a b r (ap (value_in name) none) is kept)

pub pair_or_empty_of : (t name q : List ℕ) (p : Parts) (o : Option (List ℕ)) (a b : Known) (r : Done)
    → Spells t p → p.query ≡ Some q → o ≡ option_map (λ x. unwrap_or x.1 []) (find (is_named name) (pairs q))
    → Writes (line (unwrap_or o [])) a b r → Does (GetsPairOrEmpty name t) a b r
pair_or_empty_of t name q p o a b r spelled present is written =
    of_reference t p (λ x. Prints (unwrap_or (value_in name x.query) [])) a b r spelled
    (answered (Prints (unwrap_or (value_in name p.query) [])) (line (unwrap_or o [])) a b r
    (ap (λ x. Printed (line (unwrap_or x []))) (is ∙ ap (value_in name) (sym present))) written)

pub pair_or_empty_without_query : (t name : List ℕ) (p : Parts) (a b : Known) (r : Done)
    → Spells t p → p.query ≡ None → Writes (line []) a b r → Does (GetsPairOrEmpty name t) a b r
pair_or_empty_without_query t name p a b r spelled none written =
    of_reference t p (λ x. Prints (unwrap_or (value_in name x.query) [])) a b r spelled
    (answered (Prints (unwrap_or (value_in name p.query) [])) (line []) a b r
    (ap (λ x. Printed (line (unwrap_or (value_in name x) []))) (sym none)) written)

pub text_written : (o : Option (List ℕ)) (q : List ℕ) (a b : Known) (r : Done) → o ≡ Some q → Writes (line q) a b r → Writes (line (unwrap_or o [])) a b r
text_written o q a b r is written = subst (λ x. Writes (line (unwrap_or x [])) a b r) (sym is) written

pub empty_written : (o : Option (List ℕ)) (a b : Known) (r : Done) → o ≡ None → Writes (line []) a b r → Writes (line (unwrap_or o [])) a b r
empty_written o a b r none written = subst (λ x. Writes (line (unwrap_or x [])) a b r) (sym none) written

-- ---- hosts under domains

-- the answer to a reference whose host is under the domain, or not
under : (t : List ℕ) (d : Host) (is : Bool) (inside outside : Answer)
    → IsOfReference {A = Bool} t (λ q x. IsTrue x ↔ IsUnder d q) (Ok is) → HasHostUnder d t inside outside (if is then inside else outside)
under t d is inside outside found = inl (found.0, found.1, decided (IsUnder d found.0) is inside outside found.2)

pub host_found : (t : List ℕ) (d h : Host) (p : Parts) (is : Bool) → Spells t p → host_of p ≡ Some h → (IsTrue is ↔ hosts.IsWithin h d)
    → IsOfReference {A = Bool} t (λ q x. IsTrue x ↔ IsUnder d q) (Ok is)
host_found t d h p is spelled present decides = (p, spelled, subst (λ o. IsTrue is ↔ IsSomeAnd o (λ g. hosts.IsWithin g d)) (sym present) decides)

pub no_host_found : (t : List ℕ) (d : Host) (p : Parts) → Spells t p → host_of p ≡ None
    → IsOfReference {A = Bool} t (λ q x. IsTrue x ↔ IsUnder d q) (Ok false)
no_host_found t d p spelled none =
    (p, spelled, subst (λ o. IsTrue false ↔ IsSomeAnd o (λ g. hosts.IsWithin g d)) (sym none) ((λ x. absurd (false≢true x)), (λ x. absurd x)))

pub reference_rejected : (t : List ℕ) (d : Host) (e : URIReferenceError) (r : Result Bool Failure)
    → fault t ≡ Some e → r ≡ Err (failures.Reference e) → IsOfReference {A = Bool} t (λ q x. IsTrue x ↔ IsUnder d q) r
reference_rejected t d e r wrong is = subst (IsOfReference {A = Bool} t (λ q x. IsTrue x ↔ IsUnder d q)) (sym is) (e, wrong, refl)

pub found_under : (t : List ℕ) (d : Host) (is : Bool) (r : Done) → IsOfReference {A = Bool} t (λ q x. IsTrue x ↔ IsUnder d q) (Ok is)
    → MatchResult r (λ _. is ≡ true) (λ f. (f ≡ failures.Outside) × (is ≡ false)) → Finds (HasHostUnder d t (Printed []) Negative) r
found_under t d is r found holds = tested (HasHostUnder d t (Printed []) Negative) is r (under t d is (Printed []) Negative found) holds

pub found_no_reference : (t : List ℕ) (d : Host) (inside outside : Answer) (f : Failure) (r : Done)
    → IsOfReference {A = Bool} t (λ q x. IsTrue x ↔ IsUnder d q) (Err f) → r ≡ Err f → Finds (HasHostUnder d t inside outside) r
found_no_reference t d inside outside f r wrong is =
    found_rejected t (λ p. IfSo (IsUnder d p) inside outside) wrong.0 r wrong.1 (is ∙ ap (λ x. Err x) wrong.2)

pub printed_under : (t : List ℕ) (d : Host) (is : Bool) (x y : Known) (r : Done) → IsOfReference {A = Bool} t (λ q x. IsTrue x ↔ IsUnder d q) (Ok is)
    → Writes (line_if is t) x y r → Does (PrintsHostWithin d t) x y r
printed_under t d is x y r found written =
    answered (PrintsHostWithin d t) (line_if is t) x y r
    (subst (PrintsHostWithin d t) (line_or_nothing is t) (under t d is (Printed (line t)) (Printed []) found)) written

pub unread_reference : (t : List ℕ) (d : Host) (f : Failure) (x y : Known) (r : Done)
    → IsOfReference {A = Bool} t (λ q x. IsTrue x ↔ IsUnder d q) (Err f) → r ≡ Err f → y ≡ x → Does (PrintsHostWithin d t) x y r
unread_reference t d f x y r wrong is kept =
    found_nothing (PrintsHostWithin d t) x y r (found_no_reference t d (Printed (line t)) (Printed []) f r wrong is) kept

abbrev InDomain : Result Host HostError → List ℕ → Answer → Type 0
InDomain found t a = MatchResult found (λ d. HasHostUnder d t (Printed []) Negative a) (λ e. a ≡ Rejected)

pub in_domain : (domain t : List ℕ) (d : Host) (r : Done)
    → reading domain ≡ Ok d → Finds (HasHostUnder d t (Printed []) Negative) r → Finds (HostWithin domain t) r
in_domain domain t d r read found = subst (λ x. Finds (InDomain x t) r) (sym read) found

pub no_domain : (domain t : List ℕ) (x : HostError) (e : URIReferenceError) (r : Done)
    → reading domain ≡ Err x → r ≡ Err (failures.Reference e) → Finds (HostWithin domain t) r
no_domain domain t x e r wrong is = subst (Finds (HostWithin domain t)) (sym is) (subst (λ y. InDomain y t Rejected) (sym wrong) refl)

-- ---- parts

pub part_written : {T : Type 0} (text : T → List ℕ) (o : Option T) (a b : Known) (r : Result Bool Failure)
    → MatchOption o (WritesIfPresent None a b r) (λ v. WritesIfPresent (Some (text v)) a b r) → WritesIfPresent (option_map text o) a b r
part_written text None a b r written = written
part_written text (Some v) a b r written = written

pub text_part_written : (o : Option (List ℕ)) (a b : Known) (r : Result Bool Failure)
    → MatchOption o (WritesIfPresent None a b r) (λ v. WritesIfPresent (Some v) a b r) → WritesIfPresent o a b r
text_part_written None a b r written = written
text_part_written (Some v) a b r written = written

pub present_origin : (o : Option Origin) (g : Origin) (bytes : List ℕ) (a b : Known)
    → o ≡ Some g → bytes ≡ origin.text g → Appends a b bytes → WritesIfPresent (option_map origin.text o) a b (Ok true)
present_origin o g bytes a b is same written =
    subst (λ x. WritesIfPresent (option_map origin.text x) a b (Ok true)) (sym is) (refl, subst (Appends a b) same written)

pub absent_origin : (o : Option Origin) (a b : Known) → o ≡ None → b ≡ a → WritesIfPresent (option_map origin.text o) a b (Ok false)
absent_origin o a b is kept = subst (λ x. WritesIfPresent (option_map origin.text x) a b (Ok false)) (sym is) (refl, kept)

-- a reference without a scheme has no origin
schemeless : (p : Parts) → is_some p.scheme ≡ false → origin.origin p ≡ None
schemeless p none = of_scheme p.scheme none
  where
    of_scheme : (s : Option Scheme) → is_some s ≡ false
        → option_and_then (λ scheme. option_and_then (λ host. option_map {U = Origin} (λ port. record { scheme = scheme; host = host; port = port }) (port_or_default p)) (origin.named_host p)) s ≡ None
    of_scheme None none = refl
    of_scheme (Some s) none = absurd (false≢true (sym none))

pub no_origin : (p : Parts) (a b : Known) → is_some p.scheme ≡ false → b ≡ a → WritesIfPresent (option_map origin.text (origin.origin p)) a b (Ok false)
no_origin p a b none kept = absent_origin (origin.origin p) a b (schemeless p none) kept

got_part : (o : Option (List ℕ)) (present : Bool) (a b c : Known) (r : Done)
    → WritesIfPresent o a b (Ok present) → present ≡ true → Writes (line []) b c r → Does (PrintsIfPresent o) a c r
got_part None present a b c r part is written = absurd (false≢true (sym part.0 ∙ is))
got_part (Some t) present a b c (Ok v) part is written = (line t, refl, Appends-trans a b c t (line []) part.1 written)
got_part (Some t) present a b c (Err f) part is written = inl written

pub got : (t : List ℕ) (q : Part) (p : Parts) (present : Bool) (a b c : Known) (r : Done)
    → Spells t p → WritesIfPresent (part_text q p) a b (Ok present) → present ≡ true → Writes (line []) b c r → Does (Gets q t) a c r
got t q p present a b c r spelled part is written =
    of_reference t p (λ x. PrintsIfPresent (part_text q x)) a c r spelled (got_part (part_text q p) present a b c r part is written)

no_part : (o : Option (List ℕ)) (present : Bool) (a b : Known)
    → WritesIfPresent o a b (Ok present) → present ≡ false → Does (PrintsIfPresent o) a b (Err failures.Absent)
no_part None present a b part is = inr (refl, part.1)
no_part (Some t) present a b part is = absurd (false≢true (sym is ∙ part.0))

pub not_got : (t : List ℕ) (q : Part) (p : Parts) (present : Bool) (a b : Known) (r : Done)
    → Spells t p → WritesIfPresent (part_text q p) a b (Ok present) → present ≡ false → r ≡ Err failures.Absent → Does (Gets q t) a b r
not_got t q p present a b r spelled part absent is =
    subst (Does (Gets q t) a b) (sym is)
    (of_reference t p (λ x. PrintsIfPresent (part_text q x)) a b (Err failures.Absent) spelled (no_part (part_text q p) present a b part absent))

pub nothing_got : (t : List ℕ) (q : Part) (p : Parts) (present : Bool) (a b : Known)
    → Spells t p → WritesIfPresent (part_text q p) a b (Ok present) → present ≡ false → ⊥ ⊎ (Gets q t Negative × (b ≡ a))
nothing_got t q p present a b spelled part absent = not_got t q p present a b (Err failures.Absent) spelled part absent refl

part_ended : (o : Option (List ℕ)) (a b : Known) (f : Failure) → WritesIfPresent o a b (Err f) → EndsWork f
part_ended None a b f ends = ends
part_ended (Some t) a b f ends = ends

pub not_written : (q : Part) (p : Parts) (Is : Answer → Type 0) (start a b : Known) (f : Failure) (r : Done)
    → WritesIfPresent (part_text q p) a b (Err f) → r ≡ Err f → Does Is start b r
not_written q p Is start a b f r failed is = ended Is f start b r (part_ended (part_text q p) a b f failed) is

part_or_empty : (o : Option (List ℕ)) (present : Bool) (a b : Known) → WritesIfPresent o a b (Ok present) → Appends a b (unwrap_or o [])
part_or_empty None present a b part = subst (λ x. Appends a x []) (sym part.1) (Appends-nil a)
part_or_empty (Some t) present a b part = part.1

lined : (bytes : List ℕ) (a b c : Known) (r : Done) → Appends a b bytes → Writes (line []) b c r → Writes (line bytes) a c r
lined bytes a b c (Ok v) first second = Appends-trans a b c bytes (line []) first second
lined bytes a b c (Err f) first second = second

pub got_or_empty : (t : List ℕ) (q : Part) (p : Parts) (present : Bool) (a b c : Known) (r : Done)
    → Spells t p → WritesIfPresent (part_text q p) a b (Ok present) → Writes (line []) b c r → Does (GetsOrEmpty q t) a c r
got_or_empty t q p present a b c r spelled part written =
    of_reference t p (λ x. Prints (unwrap_or (part_text q x) [])) a c r spelled
    (answered (Prints (unwrap_or (part_text q p) [])) (line (unwrap_or (part_text q p) [])) a c r refl
    (lined (unwrap_or (part_text q p) []) a b c r (part_or_empty (part_text q p) present a b part) written))

-- ---- components of a kind

encoded_of : (kind t : List ℕ) (c : Class) (bytes : List ℕ) → class_of kind ≡ Some c → bytes ≡ encoded c t → Encodes kind t (Printed (line bytes))
encoded_of kind t c bytes named is =
    subst (λ o. MatchOption o (Printed (line bytes) ≡ Unknown) (λ k. Prints (encoded k t) (Printed (line bytes)))) (sym named) (ap (λ x. Printed (line x)) is)

pub encoded_out : (kind t : List ℕ) (c : Class) (x : Result (List ℕ) AllocError) (a b : Known) (r : Done)
    → class_of kind ≡ Some c → IfOk x (λ u. u ≡ encoded c t) → MatchResult x (λ u. Writes (line u) a b r) (λ _. Ended r) → Does (Encodes kind t) a b r
encoded_out kind t c (Ok u) a b r named is written = answered (Encodes kind t) (line u) a b r (encoded_of kind t c u named is) written
encoded_out kind t c (Err e) a b (Ok v) named is written = absurd written
encoded_out kind t c (Err e) a b (Err f) named is written = inl written

pub no_kind : (kind t : List ℕ) (a b : Known) (r : Done) → class_of kind ≡ None → r ≡ Err failures.Usage → b ≡ a → Does (Encodes kind t) a b r
no_kind kind t a b r none is kept =
    subst (Does (Encodes kind t) a b) (sym is)
    (inr (subst (λ o. MatchOption o (Unknown ≡ Unknown) (λ k. Prints (encoded k t) Unknown)) (sym none) refl, kept))

-- ---- the pairs of a query

-- Of the lines of the pairs these bytes are written. These pairs are left.
pub record WritingPairs (old new : Known) (left : List Pair) (whole : List ℕ) : Type 0 where
  pub done : List ℕ
  pub written : Appends old new done
  pub rest : done ++ pair_lines left ≡ whole

pub pairs_start : (a : Known) (left ps : List Pair) → left ≡ ps → WritingPairs a a left (pair_lines ps)
pairs_start a left ps is = record { done = []; written = Appends-nil a; rest = ap (λ l. pair_lines l) is }

pub pairs_next : (a b c : Known) (p : Pair) (now left : List Pair) (whole : List ℕ)
    → now ≡ p ∷ left → WritingPairs a b now whole → Appends b c (line (piece_of p)) → WritingPairs a c left whole
pairs_next a b c p now left whole first w written = record {
  done = w.done ++ line (piece_of p);
  written = Appends-trans a b c w.done (line (piece_of p)) w.written written;
  rest = append_assoc w.done (line (piece_of p)) (pair_lines left) ∙ ap (λ l. w.done ++ pair_lines l) (sym first) ∙ w.rest;
}

pub pairs_end : (a b : Known) (left : List Pair) (whole : List ℕ) → left ≡ [] → WritingPairs a b left whole → Appends a b whole
pairs_end a b left whole ended_here w =
    subst (Appends a b) (sym (append-nil w.done) ∙ ap (λ l. w.done ++ pair_lines l) (sym ended_here) ∙ w.rest) w.written

pub valued : (name value : List ℕ) (o : Option (List ℕ)) (a b : Known)
    → o ≡ Some value → Appends a b (line (name ++ equals_sign ∷ value)) → Appends a b (line (piece_of (name, o)))
valued name value o a b is written = subst (λ x. Appends a b (line (piece_of (name, x)))) (sym is) written

pub valueless : (name : List ℕ) (o : Option (List ℕ)) (a b : Known) (r : Done) → o ≡ None → Writes (line name) a b r → Writes (line (piece_of (name, o))) a b r
valueless name o a b r none written =
    subst (λ x. Writes (line (piece_of (name, x))) a b r) (sym none) (subst (λ l. Writes (line l) a b r) (sym (append-nil name)) written)

pub pairs_printed : (t q : List ℕ) (p : Parts) (a b : Known) (r : Done)
    → Spells t p → p.query ≡ Some q → Writes (pair_lines (pairs q)) a b r → Does (Pairs t) a b r
pairs_printed t q p a b r spelled present written =
    of_reference t p (λ x. PrintsPairs x.query) a b r spelled
    (answered (PrintsPairs p.query) (pair_lines (pairs q)) a b r (subst (λ o. PrintsPairs o (Printed (pair_lines (pairs q)))) (sym present) refl) written)

pub no_pairs : (t : List ℕ) (p : Parts) (a b : Known) (r : Done) → Spells t p → p.query ≡ None → r ≡ Err failures.Absent → b ≡ a → Does (Pairs t) a b r
no_pairs t p a b r spelled none is kept =
    subst (Does (Pairs t) a b) (sym is)
    (of_reference t p (λ x. PrintsPairs x.query) a b (Err failures.Absent) spelled (inr (subst (λ o. PrintsPairs o Negative) (sym none) refl, kept)))

-- ---- several parts

abbrev pub parts_text : Parts → List Part → List ℕ
parts_text p qs = join_with_byte tab (map (λ q. unwrap_or (part_text q p) []) qs)

-- what precedes the next part
abbrev pub separator_after : List Part → List ℕ
separator_after [] = []
separator_after (q ∷ qs) = tab ∷ []

one_part_more : (p : Parts) (q : Part) (qs : List Part)
    → parts_text p (qs ++ q ∷ []) ≡ parts_text p qs ++ (separator_after qs ++ unwrap_or (part_text q p) [])
one_part_more p q [] = refl
one_part_more p q (x ∷ []) = refl
one_part_more p q (x ∷ y ∷ qs) =
    let text = unwrap_or (part_text x p) [] in
    ap (λ l. text ++ (tab ∷ l)) (one_part_more p q (y ∷ qs)) ∙ sym (append_assoc text (tab ∷ parts_text p (y ∷ qs)) (tab ∷ unwrap_or (part_text q p) []))

separated : (q : Part) (qs : List Part) → tab ∷ [] ≡ separator_after (qs ++ q ∷ [])
separated q [] = refl
separated q (x ∷ qs) = refl

-- These parts of the line are written.
pub record WritingParts (old new : Known) (p : Parts) (separator : List ℕ) (front : List Part) : Type 0 where
  pub written : Appends old new (parts_text p front)
  pub next : separator ≡ separator_after front

pub parts_start : (a : Known) (p : Parts) → WritingParts a a p [] []
parts_start a p = record { written = Appends-nil a; next = refl }

pub parts_next : (a b c d : Known) (p : Parts) (separator : List ℕ) (q : Part) (present : Bool) (front more : List Part)
    → WritingParts a b p separator front → Appends b c separator → WritesIfPresent (part_text q p) c d (Ok present) → more ≡ front ++ q ∷ []
    → WritingParts a d p (tab ∷ []) more
parts_next a b c d p separator q present front more w second third is =
    let text = unwrap_or (part_text q p) [] in
    let between = subst (Appends b c) w.next second in
    let all = Appends-trans a b d (parts_text p front) (separator_after front ++ text) w.written (Appends-trans b c d (separator_after front) text between (part_or_empty (part_text q p) present c d third)) in
    record {
      written = subst (Appends a d) (sym (one_part_more p q front) ∙ ap (parts_text p) (sym is)) all;
      next = separated q front ∙ ap separator_after (sym is);
    }

pub parts_end : (t : List ℕ) (p : Parts) (a b c : Known) (r : Done) (separator : List ℕ) (parts front : List Part)
    → Spells t p → WritingParts a b p separator front → Writes (line []) b c r → front ≡ parts → Does (GetsParts parts t) a c r
parts_end t p a b c r separator parts front spelled w written all =
    of_reference t p (λ x. Prints (parts_text x parts)) a c r spelled
    (answered (Prints (parts_text p parts)) (line (parts_text p parts)) a c r refl
    (lined (parts_text p parts) a b c r (subst (λ l. Appends a b (parts_text p l)) all w.written) written))

-- ---- lines

abbrev AnswersTask : Task → List ℕ → Known → Known → Done → Type 0
AnswersTask task t a b r = Does (λ x. AnswersLine task t x) a b r

pub run_parse : (task : Task) (t : List ℕ) (a b : Known) (r : Done) → task ≡ tasks.Parse → Does (ParsesJson t) a b r → Does (λ x. AnswersLine task t x) a b r
run_parse task t a b r is done = subst (λ w. AnswersTask w t a b r) (sym is) done

pub run_check : (task : Task) (t : List ℕ) (a b : Known) (r : Done) → task ≡ tasks.Check → Finds (Checks t) r → b ≡ a → Does (λ x. AnswersLine task t x) a b r
run_check task t a b r is found kept = subst (λ w. AnswersTask w t a b r) (sym is) (found_nothing (Checks t) a b r found kept)

pub run_get : (task : Task) (q : Part) (t : List ℕ) (a b : Known) (r : Done) → task ≡ tasks.Get q → Does (GetsOrEmpty q t) a b r → Does (λ x. AnswersLine task t x) a b r
run_get task q t a b r is done = subst (λ w. AnswersTask w t a b r) (sym is) done

pub run_normalize : (task : Task) (t : List ℕ) (a b : Known) (r : Done) → task ≡ tasks.Normalize → Does (Normalizes t) a b r → Does (λ x. AnswersLine task t x) a b r
run_normalize task t a b r is done = subst (λ w. AnswersTask w t a b r) (sym is) done

pub run_normalize_port : (task : Task) (t : List ℕ) (a b : Known) (r : Done) → task ≡ tasks.NormalizePort → Does (NormalizesPort t) a b r → Does (λ x. AnswersLine task t x) a b r
run_normalize_port task t a b r is done = subst (λ w. AnswersTask w t a b r) (sym is) done

pub run_key : (task : Task) (t : List ℕ) (a b : Known) (r : Done) → task ≡ tasks.Key → Does (Keys t) a b r → Does (λ x. AnswersLine task t x) a b r
run_key task t a b r is done = subst (λ w. AnswersTask w t a b r) (sym is) done

pub run_audit : (task : Task) (t : List ℕ) (a b : Known) (r : Done) → task ≡ tasks.Audit → Does (Audits t) a b r → Does (λ x. AnswersLine task t x) a b r
run_audit task t a b r is done = subst (λ w. AnswersTask w t a b r) (sym is) done

pub run_equal : (task : Task) (t : List ℕ) (a b : Known) (r : Done) → task ≡ tasks.Equal → Does (OfPair t Compares) a b r → Does (λ x. AnswersLine task t x) a b r
run_equal task t a b r is done = subst (λ w. AnswersTask w t a b r) (sym is) done

pub run_check_equal : (task : Task) (t : List ℕ) (a b : Known) (r : Done) → task ≡ tasks.CheckEqual → Finds (OfPair t ChecksEqual) r → b ≡ a → Does (λ x. AnswersLine task t x) a b r
run_check_equal task t a b r is found kept = subst (λ w. AnswersTask w t a b r) (sym is) (found_nothing (OfPair t ChecksEqual) a b r found kept)

pub run_resolve : (task : Task) (base : Viewed) (t : List ℕ) (a b : Known) (r : Done) → task ≡ tasks.Resolve base → Does (ResolvesAgainst base.parts t) a b r → Does (λ x. AnswersLine task t x) a b r
run_resolve task base t a b r is done = subst (λ w. AnswersTask w t a b r) (sym is) done

pub run_relativize : (task : Task) (base : Parts) (t : List ℕ) (a b : Known) (r : Done) → task ≡ tasks.Relativize base → Does (RelativizesAgainst base t) a b r → Does (λ x. AnswersLine task t x) a b r
run_relativize task base t a b r is done = subst (λ w. AnswersTask w t a b r) (sym is) done

pub run_pair : (task : Task) (name : Bor (List ℕ)) (t : List ℕ) (a b : Known) (r : Done) → task ≡ tasks.Pair name → Does (GetsPairOrEmpty name.now t) a b r → Does (λ x. AnswersLine task t x) a b r
run_pair task name t a b r is done = subst (λ w. AnswersTask w t a b r) (sym is) done

pub run_within : (task : Task) (base : Viewed) (t : List ℕ) (a b : Known) (r : Done) → task ≡ tasks.Within base → Does (PrintsWithin base.parts t) a b r → Does (λ x. AnswersLine task t x) a b r
run_within task base t a b r is done = subst (λ w. AnswersTask w t a b r) (sym is) done

pub run_host_within : (task : Task) (domain : Host) (t : List ℕ) (a b : Known) (r : Done) → task ≡ tasks.HostWithin domain → Does (PrintsHostWithin domain t) a b r → Does (λ x. AnswersLine task t x) a b r
run_host_within task domain t a b r is done = subst (λ w. AnswersTask w t a b r) (sym is) done

pub run_escape : (task : Task) (t : List ℕ) (a b : Known) (r : Done) → task ≡ tasks.Escape → Does (Escapes t) a b r → Does (λ x. AnswersLine task t x) a b r
run_escape task t a b r is done = subst (λ w. AnswersTask w t a b r) (sym is) done

pub run_escape_link : (task : Task) (t : List ℕ) (a b : Known) (r : Done) → task ≡ tasks.EscapeLink → Does (EscapesLink t) a b r → Does (λ x. AnswersLine task t x) a b r
run_escape_link task t a b r is done = subst (λ w. AnswersTask w t a b r) (sym is) done

pub run_edit : (task : Task) (steps : Vec Step Global) (ss : List Step) (t : List ℕ) (a b : Known) (r : Done)
    → task ≡ tasks.Edit steps → ss ≡ steps.items → Does (EditsLine (steps_made ss) t) a b r → Does (λ x. AnswersLine task t x) a b r
run_edit task steps ss t a b r is same done =
    subst (λ w. AnswersTask w t a b r) (sym is) (subst (λ l. Does (EditsLine (steps_made l) t) a b r) same done)

pub run_get_parts : (task : Task) (parts : Vec Part Global) (qs : List Part) (t : List ℕ) (a b : Known) (r : Done)
    → task ≡ tasks.GetParts parts → qs ≡ parts.items → Does (GetsParts qs t) a b r → Does (λ x. AnswersLine task t x) a b r
run_get_parts task parts qs t a b r is same done =
    subst (λ w. AnswersTask w t a b r) (sym is) (subst (λ ps. Does (GetsParts ps t) a b r) same done)
