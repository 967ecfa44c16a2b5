use Rattle.uriparse.proofs.lemmas.PlaceNameLemmas.{put_label, put_last}
use Rattle.std.proofs.Common.{◌∙◌}
use Rattle.uriparse.proofs.place_key.names.prepend_labels.Goals as goal

pub labels-preserved : goal.labels-preserved
labels-preserved c = record {
  room = c.prepend_ended-total.ensures.room ∙ c.labels.invariant.room;
  formed = c.in-Some.ensures.formed;
  put = put_label c.args.text.now c.labels.rest.now c.in-Some.after.now c.in-Some.label.now c.args.out.now c.labels.out c.prepend_ended-total.new.out c.args.len
      c.labels.total c.prepend_ended-total.result c.labels.invariant.put c.in-Some.ensures.cut c.prepend_ended-total.ensures.puts;
}

pub returns-clause-puts : goal.returns-clause-puts
returns-clause-puts c =
    put_last c.args.text.now c.labels.rest.now c.args.out.now c.labels.out c.prepend_ended.new.out c.args.len c.labels.total c.prepend_ended.result
    c.labels.invariant.put c.in_default.ensures.cut c.prepend_ended.ensures.puts
