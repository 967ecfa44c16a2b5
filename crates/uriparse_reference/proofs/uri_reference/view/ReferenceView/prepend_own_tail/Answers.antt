use Rattle.std.proofs.Common.{ap, subst}
use Rattle.uriparse_text.specs.Ends.{EndsWith}
use Rattle.uriparse_path.specs.Dots.{undot}
use Rattle.uriparse_path.specs.Edits.{with_dot_prefix_unless}
use Rattle.uriparse_path.specs.Path.{spelled, text}
use Rattle.uriparse_reference.proofs.lemmas.writing.TargetLemmas.{same_tail}
use Rattle.uriparse_reference.proofs.uri_reference.view.ReferenceView.prepend_own_tail.Goals as goal

pub returns-clause-ends : goal.returns-clause-ends
returns-clause-ends c =
    let p = c.args.self.now.parts in
    subst (EndsWith c.prepend_undotted.new.out c.prepend_undotted.result)
    (same_tail c.query.result c.fragment.result p.query p.fragment
    (text (with_dot_prefix_unless c.args.has_authority (spelled (undot c.path_bytes.result.now)))) _
    c.query.ensures c.fragment.ensures
    (ap (λ t. text (with_dot_prefix_unless c.args.has_authority (spelled (undot t)))) c.path_bytes.ensures.text))
    (c.prepend_undotted.ensures.puts _ c.prepend_query_and_fragment-len.ensures.ends)
