use Rattle.std.proofs.Common.{subst}
use Rattle.uriparse_reference.specs.Into.{Writes}
use Rattle.uriparse_reference.specs.Relate.{relative}
use Rattle.uriparse_reference.proofs.lemmas.writing.RelativeTextLemmas.{printed}
use Rattle.uriparse_reference.proofs.uri_reference.view.relativize.relativize_into.Goals as goal

pub write-requires : goal.write-requires
write-requires c = (relative c.args.base.now.parts c.args.target.now.parts, c.relative.ensures.of, c.relative.ensures.valid)

pub returns : goal.returns
returns c =
    subst (λ t. Writes t c.write.result c.args.out.now c.write.new.out)
    (printed c.relative.result (relative c.args.base.now.parts c.args.target.now.parts) c.relative.ensures.of) c.write.ensures
