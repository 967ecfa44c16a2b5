use Rattle.std.proofs.Common.{◌≡◌, subst}
use Rattle.std.specs.Prelude.{IfOk, string_bytes}
use Rattle.uriparse_reference.specs.Relate.{relative}
use Rattle.uriparse_reference.proofs.lemmas.writing.RelativeTextLemmas.{printed}
use Rattle.uriparse_reference.proofs.uri_reference.view.relativize.relativize_to_string.Goals as goal

pub make_string-requires : goal.make_string-requires
make_string-requires c = (relative c.args.base.now.parts c.args.target.now.parts, c.relative.ensures.of, c.relative.ensures.valid)

pub returns : goal.returns
returns c =
    subst (λ t. IfOk c.make_string.result (λ s. string_bytes s ≡ t))
    (printed c.relative.result (relative c.args.base.now.parts c.args.target.now.parts) c.relative.ensures.of) c.make_string.ensures
