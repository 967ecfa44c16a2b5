use Rattle.std.proofs.Common.{◌≤◌, length, arith}
use Rattle.uriparse_text.proofs.lemmas.tokens.StartLemmas.{writes_whole}
use Rattle.uriparse_reference.specs.Escaped.{escaped}
use Rattle.uriparse_reference.proofs.lemmas.reading.EscapedEndLemmas.{escaped_no_longer}
use Rattle.uriparse_reference.proofs.uri_reference.escape.write.escape_invalid_into.Goals as goal
use Rattle.uriparse_reference.proofs.uri_reference.escape.write.escape_invalid_into.Goals.{then-text-out+else-needed-out, else-text-out}

pub returns : goal.returns
returns c =
    let text = escaped c.args.text.now in
    let room : length text ≤ length c.args.out.now = elim c.if-text-out.branch [
      | then-text-out+else-needed-out w ↦ let counted = w.write_components-needed.ensures.starts.size in omega arith
      | else-text-out w ↦ omega (arith, escaped_no_longer c.args.text.now)
    ] in
    writes_whole text c.args.out.now c.write_components.new.out c.write_components.result c.write_components.ensures.starts
    c.write_components.ensures.room c.write_components.ensures.rest room (omega arith)
