use Rattle.uriparse_text.proofs.lemmas.classes.ClassLemmas.{well_formed-in_class}
use Rattle.uriparse_text.proofs.internal.text.Text.as_bytes.Goals as goal

pub returns-clause-formed : goal.returns-clause-formed
returns-clause-formed g c = well_formed-in_class g.K.TextKind.class _ c.as_str.ensures.class
