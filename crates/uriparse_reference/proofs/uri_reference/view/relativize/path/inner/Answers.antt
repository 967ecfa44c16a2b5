use Rattle.std.proofs.Common.{◌≡◌, true, false, sym, ◌∙◌, rules}
use Rattle.uriparse_path.specs.Path.{spelled}
use Rattle.uriparse_path.proofs.lemmas.text.PathTextLemmas.{text-spelled}
use Rattle.uriparse_reference.specs.Relate.{stands_alone}
use Rattle.uriparse_reference.proofs.lemmas.writing.RelativePathLemmas.{inner_led, inner_none, inner_whole}
use Rattle.uriparse_reference.proofs.uri_reference.view.relativize.path.inner.Goals as goal

pub returns-in-Some : goal.returns-in-Some
returns-in-Some c = (c.in-Some.ensures.0, inner_led (spelled c.args.base.now) (spelled c.args.target.now) c.in-Some.ensures.0 c.in-Some.ensures.1, c.in-Some.ensures.2)

pub returns-then-stands_alone : goal.returns-then-stands_alone
returns-then-stands_alone c =
    let alone : stands_alone (spelled c.args.target.now) ≡ true = search rules in
    (spelled c.args.target.now, inner_whole (spelled c.args.base.now) (spelled c.args.target.now) c.in_default.ensures alone, c.whole_path.ensures ∙ sym (text-spelled c.args.target.now))

pub returns : goal.returns
returns c =
    let alone : stands_alone (spelled c.args.target.now) ≡ false = search rules in
    inner_none (spelled c.args.base.now) (spelled c.args.target.now) c.in_default.ensures alone
