use Rattle.std.proofs.Common.{sym, ap, ◌∙◌}
use Rattle.std.specs.Str.{str_to_ascii_lowercase}
use Rattle.uriparse_scheme.specs.Registered.{registered_named}
use Rattle.uriparse_scheme.proofs.lemmas.table.TableLemmas.{named-name}
use Rattle.uriparse_scheme.proofs.scheme.find.registered_named.Goals as goal

pub returns-in-Some : goal.returns-in-Some
returns-in-Some c =
    let name = c.as_bytes.ensures.value ∙ c.name.ensures.value in
    let same = c.eq_ignore_ascii_case.ensures.test.0 c.if-eq_ignore_ascii_case.true ∙ ap str_to_ascii_lowercase name in
    sym (ap registered_named same ∙ named-name c.in-Some.scheme)
