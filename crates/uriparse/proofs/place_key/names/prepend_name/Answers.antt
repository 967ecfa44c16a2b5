use Rattle.std.proofs.Common.{sym, ◌∙◌, subst}
use Rattle.uriparse_text.specs.Canonical.{canonical_lowered}
use Rattle.uriparse_text.specs.Ends.{EndsWith}
use Rattle.uriparse.proofs.lemmas.PlaceNameLemmas.{labels_without, name_of_labels, name_whole}
use Rattle.uriparse.proofs.place_key.names.prepend_name.Goals as goal

pub returns-then-has_labels-clause-puts : goal.returns-then-has_labels-clause-puts
returns-then-has_labels-clause-puts c = λ t h.
    let name = canonical_lowered c.args.name.now in
    subst (EndsWith c.prepend.new.out c.prepend.result)
    (name_of_labels name _ t c.split_end_dot.ensures.spelled (sym (labels_without name _ c.split_end_dot.ensures.spelled) ∙ sym c.has_labels.ensures ∙ c.if-has_labels.true))
    (c.prepend.ensures.puts _ (c.prepend_labels-len.ensures.puts t h))

pub returns-else-has_labels-clause-puts : goal.returns-else-has_labels-clause-puts
returns-else-has_labels-clause-puts c = λ t h.
    let name = canonical_lowered c.args.name.now in
    subst (EndsWith c.prepend-else-has_labels.new.out c.prepend-else-has_labels.result)
    (name_whole name t (sym (labels_without name _ c.split_end_dot.ensures.spelled) ∙ sym c.has_labels.ensures ∙ c.if-has_labels.false))
    (c.prepend-else-has_labels.ensures.puts _ (c.prepend_ended-len.ensures.puts t h))
