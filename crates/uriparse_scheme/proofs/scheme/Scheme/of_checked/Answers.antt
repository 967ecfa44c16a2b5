use Rattle.std.proofs.Common.{◌≡◌, None, rules}
use Rattle.std.specs.Str.{str_to_ascii_lowercase}
use Rattle.uriparse_scheme.specs.Registered.{registered_named}
use Rattle.uriparse_scheme.proofs.scheme.Scheme.of_checked.Goals as goal

pub of_checked-requires : goal.of_checked-requires
of_checked-requires c =
    let lacks : registered_named (str_to_ascii_lowercase c.args.bytes.now) ≡ None = search rules in
    record { scheme = c.requires; nameless = lacks }
