use Rattle.std.proofs.Common.{rules}
use Rattle.std.specs.Prelude.{IfSome}
use Rattle.uriparse_text.specs.Query.{IsQuery}
use Rattle.uriparse_text.specs.Fragment.{IsFragment}
use Rattle.uriparse_authority.specs.Authority as authority
use Rattle.uriparse_reference.specs.Reference.{Parts}
use Rattle.uriparse_reference.proofs.lemmas.edits.EditLemmas.{tested_parts}
use Rattle.uriparse_reference.proofs.uri_reference.URIReference.from_parts.Goals as goal

pub invariant_of-result : goal.invariant_of-result
invariant_of-result c =
    let given : Parts = record { scheme = c.args.scheme; authority = c.args.authority; path = c.args.path; query = c.args.query; fragment = c.args.fragment } in
    let is_authority : IfSome c.args.authority authority.Valid = search rules in
    let is_query : IfSome c.args.query IsQuery = search rules in
    let is_fragment : IfSome c.args.fragment IsFragment = search rules in
    tested_parts given c.adjusted_path.result c.is_some-has_scheme.result c.is_some-has_authority.result c.path_conflict.result
    (search rules) is_authority c.path_conflict.ensures.listed is_query is_fragment c.is_some-has_scheme.ensures
    c.is_some-has_authority.ensures c.path_conflict.ensures.refusal c.in-None.is c.adjusted_path.ensures
