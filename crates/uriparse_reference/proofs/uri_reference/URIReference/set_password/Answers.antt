use Rattle.std.proofs.Common.{◌≡◌, Some, rules}
use Rattle.std.specs.Prelude.{IfSome}
use Rattle.uriparse_authority.specs.Authority.{with_password}
use Rattle.uriparse_authority.specs.Password.{IsPassword}
use Rattle.uriparse_reference.specs.Reference.{Parts}
use Rattle.uriparse_reference.proofs.lemmas.edits.BesideLemmas.{valid_password}
use Rattle.uriparse_reference.proofs.uri_reference.URIReference.set_password.Goals as goal

pub invariant_of-self-2 : goal.invariant_of-self-2
invariant_of-self-2 c =
    let inside = c.self.inside in
    let old : Parts = record { scheme = inside.scheme; authority = inside.authority; path = inside.path; query = inside.query; fragment = inside.fragment } in
    let own : inside.authority ≡ Some c.in-Some.authority = search rules in
    let new : c.set_password-ok.new.self ≡ with_password c.in-Some.authority c.args.password = search rules in
    let given : IfSome c.args.password IsPassword = search rules in
    valid_password old c.in-Some.authority c.set_password-ok.new.self c.args.password own new c.self.invariant given
