use Rattle.std.proofs.Common.{refl}
use Rattle.std.specs.Prelude.{codes}
use Rattle.uri_commands.specs.Output as spec
use Rattle.uri_commands.proofs.OutputLemmas.{found_nothing}
use Rattle.uri_commands.proofs.RunLemmas.{found_on_two, on_two}
use Rattle.uri_commands.proofs.commands.run_plain_on_two.Goals as goal

pub returns-in-equal-clause-does : goal.returns-in-equal-clause-does
returns-in-equal-clause-does g c =
    on_two c.args.name.now (codes "equal") c.args.first.now c.args.second.now c.as_bytes.result.now c.as_bytes-in-equal.result.now spec.Compares _ _ c.equal.result c.in-equal.is c.as_bytes.ensures.value c.as_bytes-in-equal.ensures.value (λ d. d)
    c.equal.ensures

pub returns-in-resolve-clause-does : goal.returns-in-resolve-clause-does
returns-in-resolve-clause-does g c =
    on_two c.args.name.now (codes "resolve") c.args.first.now c.args.second.now c.as_bytes-in-resolve.result.now c.as_bytes-in-resolve-2.result.now spec.Resolves _ _ c.resolve.result c.in-resolve.is c.as_bytes-in-resolve.ensures.value c.as_bytes-in-resolve-2.ensures.value (λ d. d)
    c.resolve.ensures

pub returns-in-relativize-clause-does : goal.returns-in-relativize-clause-does
returns-in-relativize-clause-does g c =
    on_two c.args.name.now (codes "relativize") c.args.first.now c.args.second.now c.as_bytes-in-relativize.result.now c.as_bytes-in-relativize-2.result.now spec.Relativizes _ _ c.relativize.result c.in-relativize.is c.as_bytes-in-relativize.ensures.value c.as_bytes-in-relativize-2.ensures.value (λ d. d)
    c.relativize.ensures

pub returns-in-within-clause-does : goal.returns-in-within-clause-does
returns-in-within-clause-does g c =
    on_two c.args.name.now (codes "within") c.args.first.now c.args.second.now c.as_bytes-in-within.result.now c.as_bytes-in-within-2.result.now spec.Within _ _ c.within.result c.in-within.is c.as_bytes-in-within.ensures.value c.as_bytes-in-within-2.ensures.value (λ d. d)
    (found_nothing (spec.Within c.as_bytes-in-within.result.now c.as_bytes-in-within-2.result.now) _ _ c.within.result c.within.ensures refl)

pub returns-in-text-clause-does : goal.returns-in-text-clause-does
returns-in-text-clause-does g c =
    on_two c.args.name.now (codes "host-within") c.args.first.now c.args.second.now c.args.first.now c.as_bytes-in-text.result.now spec.HostWithin _ _ c.host_within.result c.in-text.is refl c.as_bytes-in-text.ensures.value (λ d. d)
    (found_nothing (spec.HostWithin c.args.first.now c.as_bytes-in-text.result.now) _ _ c.host_within.result c.host_within.ensures refl)

pub returns-in-within-clause-finds : goal.returns-in-within-clause-finds
returns-in-within-clause-finds g c = λ _. (
  found_on_two c.args.name.now (codes "within") c.args.first.now c.args.second.now c.as_bytes-in-within.result.now c.as_bytes-in-within-2.result.now spec.Within c.within.result
      c.in-within.is c.as_bytes-in-within.ensures.value c.as_bytes-in-within-2.ensures.value (λ d. d) c.within.ensures,
  refl,
)

pub returns-in-text-clause-finds : goal.returns-in-text-clause-finds
returns-in-text-clause-finds g c = λ _. (
  found_on_two c.args.name.now (codes "host-within") c.args.first.now c.args.second.now c.args.first.now c.as_bytes-in-text.result.now spec.HostWithin c.host_within.result
      c.in-text.is refl c.as_bytes-in-text.ensures.value (λ d. d) c.host_within.ensures,
  refl,
)
