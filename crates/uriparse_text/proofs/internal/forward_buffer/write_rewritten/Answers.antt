use Rattle.std.proofs.Common.{◌≤◌, [], length, arith}
use Rattle.uriparse_text.proofs.lemmas.tokens.StartLemmas.{starts_none, writes_whole}
use Rattle.uriparse_text.proofs.internal.forward_buffer.write_rewritten.Goals as goal
use Rattle.uriparse_text.proofs.internal.forward_buffer.write_rewritten.Goals.{then-not-fits+else-needed-out, else-not-fits}

pub returns : goal.returns
returns g c =
    let text = g.R.Rewriting.rewritten c.args.way.now c.args.text.now in
    let room : length text ≤ length c.args.out.now = elim c.if-not-fits.branch [
      | then-not-fits+else-needed-out w ↦
          let counted = (w.append_rewritten-needed.ensures.appends [] (starts_none [])).size in omega arith
      | else-not-fits w ↦ c.requires.fits (cc)
    ] in
    writes_whole text c.args.out.now c.append_rewritten.new.out c.append_rewritten.result
    (c.append_rewritten.ensures.appends [] (starts_none c.args.out.now)) c.append_rewritten.ensures.room c.append_rewritten.ensures.rest room (omega arith)
