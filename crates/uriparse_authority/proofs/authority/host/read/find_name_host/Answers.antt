use Rattle.std.proofs.Common.{◌≡◌, None, Some, refl, rules}
use Rattle.uriparse_authority.proofs.authority.host.read.find_name_host.Goals as goal

pub returns : goal.returns
returns c =
    let none : c.parse_bytes.result ≡ None = search rules in
    rw c.found_name.ensures
    (refl, c.requires.inside, (λ a s. let some : c.parse_bytes.result ≡ Some a = c.parse_bytes.ensures.only a s in cc))
