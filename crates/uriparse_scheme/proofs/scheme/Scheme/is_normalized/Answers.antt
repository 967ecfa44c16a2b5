use Rattle.std.proofs.Common.{refl}
use Rattle.uriparse_scheme.proofs.lemmas.schemes.NormalLemmas.{registered_is_normal}
use Rattle.uriparse_scheme.proofs.scheme.Scheme.is_normalized.Goals as goal

pub returns-in-Registered : goal.returns-in-Registered
returns-in-Registered c = (λ _. registered_is_normal c.args.self.now c.in-Registered.field-0 c.in-Registered.is, λ _. refl)

pub returns-in-Unregistered : goal.returns-in-Unregistered
returns-in-Unregistered c = rw c.in-Unregistered.is c.is_normalized.ensures
