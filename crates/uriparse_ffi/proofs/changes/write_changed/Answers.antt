use Rattle.std.proofs.Common.{Ok, Err, ap, ◌∙◌}
use Rattle.uriparse_reference.specs.Change.{changing}
use Rattle.uriparse_reference.specs.View.{Viewed}
use Rattle.uriparse_reference.specs.declared.uri_reference.change.ChangeError.TheVariants as errors
use Rattle.uriparse_ffi.specs.Changes.{wanted_in}
use Rattle.uriparse_ffi.specs.Code as spec
use Rattle.uriparse_ffi.proofs.lemmas.ChangeLemmas.{changed_as}
use Rattle.uriparse_ffi.proofs.lemmas.TextLemmas.{no_error, no_ok, ok_is}
use Rattle.uriparse_ffi.proofs.changes.write_changed.Goals as goal

pub returns-then-are_changes-clause-written : goal.returns-then-are_changes-clause-written
returns-then-are_changes-clause-written c p v s k made =
    let wanted = wanted_in c.args.values.now c.args.wanted.now in
    changed_as (changing wanted c.in-Ok.view.text) (Ok v) c.args.out.now c.write_changed_of.new.out c.write_changed_of.new.needed c.write_changed_of.result
    c.write_changed_of.ensures (ap (λ (u : Viewed). changing wanted u.text) (ok_is c.in-Ok.view _ (c.in-Ok.ensures.found p s)) ∙ made)

pub returns-then-are_changes-clause-host : goal.returns-then-are_changes-clause-host
returns-then-are_changes-clause-host c p s k made =
    let wanted = wanted_in c.args.values.now c.args.wanted.now in
    changed_as (changing wanted c.in-Ok.view.text) (Err errors.MissingHost) c.args.out.now c.write_changed_of.new.out c.write_changed_of.new.needed
    c.write_changed_of.result c.write_changed_of.ensures
    (ap (λ (u : Viewed). changing wanted u.text) (ok_is c.in-Ok.view _ (c.in-Ok.ensures.found p s)) ∙ made)

pub returns-then-are_changes-clause-rejected : goal.returns-then-are_changes-clause-rejected
returns-then-are_changes-clause-rejected c p e s k made =
    let wanted = wanted_in c.args.values.now c.args.wanted.now in
    changed_as (changing wanted c.in-Ok.view.text) (Err (errors.Reference e)) c.args.out.now c.write_changed_of.new.out c.write_changed_of.new.needed
    c.write_changed_of.result c.write_changed_of.ensures
    (ap (λ (u : Viewed). changing wanted u.text) (ok_is c.in-Ok.view _ (c.in-Ok.ensures.found p s)) ∙ made)

pub returns-then-are_changes-clause-refused : goal.returns-then-are_changes-clause-refused
returns-then-are_changes-clause-refused c e h = absurd (no_error c.in-Ok.view (spec.code_of e) (c.in-Ok.ensures.fault e h))

pub returns-in-Err-clause-written : goal.returns-in-Err-clause-written
returns-in-Err-clause-written c p v s k made = absurd (no_ok c.in-Err.code _ (c.in-Err.ensures.found p s))

pub returns-in-Err-clause-host : goal.returns-in-Err-clause-host
returns-in-Err-clause-host c p s k made = absurd (no_ok c.in-Err.code _ (c.in-Err.ensures.found p s))

pub returns-in-Err-clause-rejected : goal.returns-in-Err-clause-rejected
returns-in-Err-clause-rejected c p e s k made = absurd (no_ok c.in-Err.code _ (c.in-Err.ensures.found p s))

pub returns-in-Err-clause-malformed : goal.returns-in-Err-clause-malformed
returns-in-Err-clause-malformed c p s k = absurd (no_ok c.in-Err.code _ (c.in-Err.ensures.found p s))
