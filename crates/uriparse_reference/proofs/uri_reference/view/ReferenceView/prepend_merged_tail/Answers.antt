use Rattle.std.proofs.Common.{◌≤◌, ◌∙◌, sym, ap, length, subst}
use Rattle.std.specs.Prelude.{is_some}
use Rattle.uriparse_text.specs.Ends.{EndsWith}
use Rattle.uriparse_path.specs.Dots.{replayed}
use Rattle.uriparse_path.specs.Edits.{with_dot_prefix_unless}
use Rattle.uriparse_path.specs.Merge.{merged}
use Rattle.uriparse_path.specs.Path.{is_rooted, max_segments, spelled, text}
use Rattle.uriparse_reference.proofs.lemmas.writing.TargetLemmas.{merged_relative, merged_short, merged_undot, same_tail}
use Rattle.uriparse_reference.proofs.uri_reference.view.ReferenceView.prepend_merged_tail.Goals as goal

pub prepend_merged-requires-clause-short : goal.prepend_merged-requires-clause-short
prepend_merged-requires-clause-short c =
    let b = c.args.self.now.parts in
    let r = c.args.reference.now.parts in
    subst (λ u. length (merged (spelled u) (spelled c.path_bytes-2.result.now)).segments ≤ max_segments) (sym c.path_bytes.ensures.text)
    (subst (λ u. length (merged (spelled (text b.path)) (spelled u)).segments ≤ max_segments) (sym c.path_bytes-2.ensures.text)
    (merged_short b r c.path_bytes.ensures.valid c.path_bytes-2.ensures.valid c.requires.merged c.requires.short))

pub prepend_merged-requires-clause-relative : goal.prepend_merged-requires-clause-relative
prepend_merged-requires-clause-relative c = ap is_rooted c.path_bytes-2.ensures.text ∙ merged_relative c.args.reference.now.parts c.requires.merged

pub returns-clause-ends : goal.returns-clause-ends
returns-clause-ends c =
    let b = c.args.self.now.parts in
    let r = c.args.reference.now.parts in
    subst (EndsWith c.prepend_merged.new.out c.prepend_merged.result)
    (same_tail c.query.result c.fragment.result r.query r.fragment
    (text (with_dot_prefix_unless c.has_authority-has_authority.result
    (spelled (text (replayed (merged (spelled c.path_bytes.result.now) (spelled c.path_bytes-2.result.now))))))) _
    c.query.ensures c.fragment.ensures
    (ap (λ v. text (with_dot_prefix_unless v (spelled (text (replayed (merged (spelled c.path_bytes.result.now) (spelled c.path_bytes-2.result.now)))))))
    c.has_authority-has_authority.ensures
    ∙ ap (λ u. text (with_dot_prefix_unless (is_some b.authority) (spelled (text (replayed (merged (spelled u) (spelled c.path_bytes-2.result.now))))))) c.path_bytes.ensures.text
    ∙ ap (λ u. text (with_dot_prefix_unless (is_some b.authority) (spelled (text (replayed (merged (spelled (text b.path)) (spelled u))))))) c.path_bytes-2.ensures.text
    ∙ ap (λ u. text (with_dot_prefix_unless (is_some b.authority) (spelled u))) (merged_undot b r c.path_bytes.ensures.valid c.path_bytes-2.ensures.valid c.requires.merged)))
    (c.prepend_merged.ensures.puts _ c.prepend_query_and_fragment-len.ensures.ends)
