use Rattle.std.proofs.Common.{◌++◌, Some, refl, ap, ◌∙◌}
use Rattle.std.proofs.lemmas.Option.{slice_get_read}
use Rattle.uri_commands.specs.Edits.{name_text}
use Rattle.uri_commands.proofs.EditLemmas.{drops_next}
use Rattle.uri_commands.proofs.edit.dropped_names.Goals as goal

pub others-preserved : goal.others-preserved
others-preserved c =
    let found = c.in-Some-DropPair.ensures.lookup in
    drops_next c.args.name.now c.args.others.now c.others.names.items _ c.in-Some-DropPair.name c.others.count c.others.invariant
    (slice_get_read c.args.others.now _ c.others.count c.in-Some-DropPair.field-0.now refl found.3.0 found.1
    ∙ ap (λ x. Some x) c.in-Some-DropPair.field-0-is)
    (c.in_ok-push_name-2.ensures ∙ ap (λ l. l ++ name_text c.as_bytes-in-Some-DropPair.result.now) c.in_ok-push.ensures.items
    ∙ ap (λ t. (c.others.names.items ++ _) ++ name_text t) c.as_bytes-in-Some-DropPair.ensures.value)
