use Rattle.std.proofs.Common.{◌≡◌, None, rules}
use Rattle.uriparse_scheme.specs.Scheme.{fault}
use Rattle.uriparse_scheme.proofs.lemmas.schemes.SchemeLemmas.{no_fault}
use Rattle.uriparse_scheme.proofs.scheme.Scheme.try_from_bytes.Goals as goal

pub of_checked-requires : goal.of_checked-requires
of_checked-requires c =
    let none : fault c.args.bytes.now ≡ None = search rules in
    (no_fault c.args.bytes.now).0 none
