use Rattle.std.proofs.Common.{◌≡◌, sym, subst}
use Rattle.std.specs.Prelude.{IfSome}
use Rattle.uriparse_scheme.specs.Registered.{name_of}
use Rattle.uriparse_scheme.proofs.lemmas.schemes.CutLemmas.{known_named}
use Rattle.uriparse_scheme.proofs.scheme.split.scheme_if.Goals as goal

pub returns-in-Some : goal.returns-in-Some
returns-in-Some c =
    sym (known_named c.in-Some.scheme c.args.text.now (subst (λ o. IfSome o (λ s. c.args.text.now ≡ name_of s)) c.in-Some.is c.requires.known))
