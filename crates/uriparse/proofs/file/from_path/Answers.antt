use Rattle.std.proofs.Common.{◌≡◌, ◌∷◌, false, Ok, Err, inl, sym, ap, subst, ◌∙◌, rules}
use Rattle.std.specs.List.{list_any, slice_split}
use Rattle.uriparse_text.specs.Bytes.{slash}
use Rattle.uriparse_text.specs.Readings.{IsUnless}
use Rattle.uriparse_text.specs.declared.segment.error.PathError.TheVariants.{OutOfMemory}
use Rattle.uriparse_path.specs.Path.{PathParts, is_slash}
use Rattle.uriparse_path.specs.Faults.{reading}
use Rattle.uriparse.specs.declared.file.error.FileError.TheVariants as errors
use Rattle.uriparse.specs.File as spec
use Rattle.uriparse.proofs.lemmas.FileLemmas.{answered_err, answered_path, path_back}
use Rattle.uriparse.proofs.file.from_path.Goals as goal

pub returns-in_err-path-clause-answer : goal.returns-in_err-path-clause-answer
returns-in_err-path-clause-answer c =
    let rest = c.in-Some-eq47-default.rest.now in
    let whole : c.args.path.now ≡ slash ∷ rest = search rules in
    let none : list_any spec.is_nul rest ≡ false = search rules in
    let e = c.in_err-path.field-0.0 in
    let is : c.from_residual-in_err-path.result ≡ Err (errors.Path e) = search rules in
    let read = subst (λ t. IsUnless OutOfMemory (Err e) (reading t)) c.deref.ensures.value c.in_err-path.ensures.answer in
    subst (λ r. IsUnless (errors.Path OutOfMemory) r (spec.uri_of_path c.args.path.now)) (sym is)
    (subst (λ p. IsUnless (errors.Path OutOfMemory) (Err (errors.Path e)) (spec.uri_of_path p)) (sym whole)
    (answered_err rest c.in_ok-text.text.items e none c.in_ok-text.ensures read))

pub returns-clause-answer : goal.returns-clause-answer
returns-clause-answer c =
    let rest = c.in-Some-eq47-default.rest.now in
    let whole : c.args.path.now ≡ slash ∷ rest = search rules in
    let none : list_any spec.is_nul rest ≡ false = search rules in
    let v : PathParts = c.in_ok-path.path in
    let read = subst (λ t. IsUnless OutOfMemory (Ok v) (reading t)) c.deref.ensures.value c.in_ok-path.ensures.answer in
    let answered = answered_path rest c.in_ok-text.text.items v none c.in_ok-text.ensures read in
    let local : c.local_uri.result ≡ spec.file_uri (slash ∷ rest) =
    c.local_uri.ensures ∙ ap (λ (p : PathParts). spec.local_uri p.segments) c.in_ok-into_owned.ensures ∙ ap spec.local_uri answered.0 in
    inl (ap Ok local ∙ sym (ap spec.uri_of_path whole ∙ answered.1))

pub returns-clause-back : goal.returns-clause-back
returns-clause-back c =
    let rest = c.in-Some-eq47-default.rest.now in
    let whole : c.args.path.now ≡ slash ∷ rest = search rules in
    let none : list_any spec.is_nul rest ≡ false = search rules in
    let v : PathParts = c.in_ok-path.path in
    let read = subst (λ t. IsUnless OutOfMemory (Ok v) (reading t)) c.deref.ensures.value c.in_ok-path.ensures.answer in
    let answered = answered_path rest c.in_ok-text.text.items v none c.in_ok-text.ensures read in
    let local : c.local_uri.result ≡ spec.file_uri (slash ∷ rest) =
    c.local_uri.ensures ∙ ap (λ (p : PathParts). spec.local_uri p.segments) c.in_ok-into_owned.ensures ∙ ap spec.local_uri answered.0 in
    ap spec.path_of_uri local
    ∙ path_back rest (spec.encoded_pieces (slice_split is_slash rest)) none c.in_ok-text.ensures.back ∙ ap Ok (sym whole)
