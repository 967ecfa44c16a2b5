use Rattle.std.proofs.Common.{◌≤◌, [], length, arith}
use Rattle.uriparse_text.proofs.lemmas.tokens.StartLemmas.{starts_none, writes_whole}
use Rattle.uriparse_text.proofs.query.put.write_text.Goals as goal

pub returns : goal.returns
returns g c =
    let text = g.A.Appending.text c.args.text.now in
    let counted = (c.append_to-needed.ensures.appends [] (starts_none [])).size in
    let room : length text ≤ length c.args.out.now = omega arith in
    writes_whole text c.args.out.now c.append_to.new.out c.append_to.result (c.append_to.ensures.appends [] (starts_none c.args.out.now))
    c.append_to.ensures.room c.append_to.ensures.rest room (omega arith)
