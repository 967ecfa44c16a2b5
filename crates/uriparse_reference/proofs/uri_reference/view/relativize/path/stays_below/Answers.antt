use Rattle.std.proofs.Common.{length, sym, ap, ◌∙◌, arith, rules}
use Rattle.uriparse_reference.proofs.lemmas.writing.RelativePathLemmas.{directories_more}
use Rattle.uriparse_reference.proofs.uri_reference.view.relativize.path.stays_below.Goals as goal

pub returns-in-Some : goal.returns-in-Some
returns-in-Some c =
    let more = ap length (directories_more c.args.base.now c.in-Some.field-0.0.now c.in-Some.field-0.1.now (search rules)) in
    c.is_some.ensures ∙ sym (c.after_shared.ensures.below (omega (arith, more)))
