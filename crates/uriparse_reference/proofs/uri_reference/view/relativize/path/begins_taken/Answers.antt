use Rattle.std.proofs.Common.{◌≡◌, true, false, length, sym, ap, ◌∙◌, rules}
use Rattle.std.specs.Prelude.{◌==◌}
use Rattle.uriparse_path.specs.Relate.{is_taken}
use Rattle.uriparse_path.specs.Relative.{has_colon}
use Rattle.uriparse_reference.proofs.lemmas.writing.RelativePathLemmas.{taken_colon, taken_empty, taken_is}
use Rattle.uriparse_reference.proofs.uri_reference.view.relativize.path.begins_taken.Goals as goal

pub returns-then-is_empty : goal.returns-then-is_empty
returns-then-is_empty c =
    let first = c.split_at_delimiter.result.0.now in
    let empty : (length first == 0) ≡ true = search rules in
    c.if-is_empty.true ∙ sym (taken_is c.args.text.now ∙ ap is_taken (sym c.split_at_delimiter.ensures.front) ∙ taken_empty first empty)

pub returns-else-is_empty : goal.returns-else-is_empty
returns-else-is_empty c =
    let first = c.split_at_delimiter.result.0.now in
    let some : (length first == 0) ≡ false = search rules in
    let colon : c.contains.result ≡ has_colon first = search rules in
    colon ∙ sym (taken_is c.args.text.now ∙ ap is_taken (sym c.split_at_delimiter.ensures.front) ∙ taken_colon first some)
