use Rattle.std.proofs.Common.{◌≡◌, length, rules}
use Rattle.uriparse_reference.specs.Escaped.{escaped}
use Rattle.uriparse_ffi.proofs.coding.write_escaped.Goals as goal

pub returns : goal.returns
returns c =
    let room : length c.escape_invalid_into.new.out ≡ length c.args.out.now = search rules in
    c.answer_room.ensures (escaped c.args.text.now) c.args.out.now c.escape_invalid_into.new.out room c.escape_invalid_into.ensures
