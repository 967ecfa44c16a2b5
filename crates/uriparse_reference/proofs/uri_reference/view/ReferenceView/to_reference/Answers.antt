use Rattle.uriparse_scheme.proofs.lemmas.schemes.CutLemmas.{is_scheme_text}
use Rattle.uriparse_reference.proofs.lemmas.reading.ViewLemmas.{assembled_valid}
use Rattle.uriparse_reference.proofs.uri_reference.view.ReferenceView.to_reference.Goals as goal

pub to_reference-requires-clause-scheme : goal.to_reference-requires-clause-scheme
to_reference-requires-clause-scheme c = is_scheme_text c.self.inside.text.now c.self.inside.pieces.scheme.now c.self.invariant.is_scheme

pub to_reference-requires-clause-valid : goal.to_reference-requires-clause-valid
to_reference-requires-clause-valid c = assembled_valid _ _ _ _ _ _ _ _ _ _ c.self.invariant c.in-Ok.ensures.path
