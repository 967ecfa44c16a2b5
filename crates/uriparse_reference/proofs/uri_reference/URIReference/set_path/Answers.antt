use Rattle.std.proofs.Common.{◌∙◌}
use Rattle.uriparse_reference.proofs.lemmas.edits.EditLemmas.{tested_path}
use Rattle.uriparse_reference.proofs.uri_reference.URIReference.set_path.Goals as goal

pub invariant_of-self : goal.invariant_of-self
invariant_of-self c =
    tested_path _ c.args.path c.put_path.new.held c.is_some.result c.is_some-has_authority.result c.path_conflict.result c.self.invariant
    c.path_conflict.ensures.listed c.is_some.ensures c.is_some-has_authority.ensures c.path_conflict.ensures.refusal c.in-None.is
    (c.put_path.ensures ∙ c.adjusted_path.ensures)
