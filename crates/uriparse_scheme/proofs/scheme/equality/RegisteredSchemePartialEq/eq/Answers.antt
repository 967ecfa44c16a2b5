use Rattle.std.proofs.Common.{ap, ◌∙◌}
use Rattle.std.specs.Prelude.{bytes_eq}
use Rattle.uriparse_scheme.specs.Registered.{name_of}
use Rattle.uriparse_scheme.proofs.lemmas.table.TableLemmas.{same_from_names}
use Rattle.uriparse_scheme.proofs.scheme.equality.RegisteredSchemePartialEq.eq.Goals as goal

pub returns : goal.returns
returns c =
    c.eq.ensures
    ∙ ap (λ n. bytes_eq n c.name-2.result.now) c.name.ensures.value
    ∙ ap (bytes_eq (name_of c.args.self.now)) c.name-2.ensures.value
    ∙ same_from_names c.args.self.now c.args.other.now
