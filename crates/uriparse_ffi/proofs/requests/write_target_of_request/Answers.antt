use Rattle.std.proofs.Common.{ap, subst, ◌∙◌}
use Rattle.uriparse_text.specs.Readings.{fault_in}
use Rattle.uriparse_reference.specs.Reference.{Parts, is_abempty}
use Rattle.uriparse_ffi.specs.Put.{IsPut}
use Rattle.uriparse_ffi.specs.Requests.{origin_form}
use Rattle.uriparse_ffi.proofs.lemmas.ParseLemmas.{cut_of, no_fault, read_one}
use Rattle.uriparse_ffi.proofs.requests.write_target_of_request.Goals as goal

pub returns-in-Ok-clause-written : goal.returns-in-Ok-clause-written
returns-in-Ok-clause-written c p s slash =
    let t = c.args.text.now in
    let path = c.in-Ok.ensures.is_cut ∙ (cut_of t p s).path in
    let query = c.bytes_of.ensures ∙ c.to_text-query.ensures ∙ ap (λ (q : Parts). q.query) (read_one t p _ s c.in-Ok.ensures.is_read) in
    let put = c.write_form.ensures.written (ap is_abempty path ∙ slash) in
    subst (λ h. IsPut (origin_form h p.query) c.args.out.now c.write_form.new.out c.write_form.new.needed c.write_form.result) path
    (subst (λ q. IsPut (origin_form c.in-Ok.pieces.tail.path.now q) c.args.out.now c.write_form.new.out c.write_form.new.needed c.write_form.result) query put)

pub returns-in-Ok-clause-without : goal.returns-in-Ok-clause-without
returns-in-Ok-clause-without c p s slash =
    c.write_form.ensures.without (ap is_abempty (c.in-Ok.ensures.is_cut ∙ (cut_of c.args.text.now p s).path) ∙ slash)

pub returns-in-Err-clause-written : goal.returns-in-Err-clause-written
returns-in-Err-clause-written c p s slash = absurd (no_fault c.args.text.now p c.in-Err.error s (ap fault_in c.in-Err.ensures))

pub returns-in-Err-clause-without : goal.returns-in-Err-clause-without
returns-in-Err-clause-without c p s slash = absurd (no_fault c.args.text.now p c.in-Err.error s (ap fault_in c.in-Err.ensures))
