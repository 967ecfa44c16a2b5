use Rattle.std.proofs.Common.{◌≡◌, ◌++◌, ◌||◌, ◌∙◌, length, ap, subst, arith}
use Rattle.std.specs.List.{slice_split}
use Rattle.uriparse_text.specs.Ends.{EndsWith}
use Rattle.uriparse_text.specs.declared.internal.backward_buffer.Form.TheVariants.{AsIs}
use Rattle.uriparse_path.specs.Path.{is_rooted, is_slash, max_segments, pieces, root, spelled, text}
use Rattle.uriparse_path.specs.Dots.{all_but_last, replayed}
use Rattle.uriparse_path.specs.Edits.{with_dot_prefix_unless}
use Rattle.uriparse_path.specs.Merge.{merged}
use Rattle.uriparse_path.specs.Remaining.{process_all, remaining_text, remaining_of, nothing}
use Rattle.uriparse_path.proofs.lemmas.left.UndottedLemmas.{merged_left, merged_text, pieces_relative}
use Rattle.uriparse_path.proofs.path.text.write.prepend_merged.Goals as goal

pub process-state-requires-clause-few : goal.process-state-requires-clause-few
unfolding max_segments
process-state-requires-clause-few c =
    let short = c.requires.reference.short in
    let here : length (pieces c.args.reference.now) ≡ length (slice_split is_slash c.args.reference.now) =
    ap length (pieces_relative c.args.reference.now c.requires.relative) in
    let none = c.none.ensures.double_dots in
    omega arith

pub process_directory-state-requires-clause-few : goal.process_directory-state-requires-clause-few
unfolding max_segments
process_directory-state-requires-clause-few c =
    let short = c.requires.reference.short in
    let base = c.requires.base.short in
    let here : length (pieces c.args.reference.now) ≡ length (slice_split is_slash c.args.reference.now) =
    ap length (pieces_relative c.args.reference.now c.requires.relative) in
    let rest : length (slice_split is_slash c.split_root-rooted.result.1.now) ≡ length (pieces c.args.base.now) =
    ap (λ u. length (slice_split is_slash u)) c.split_root-rooted.ensures.rest in
    let none = c.none.ensures.double_dots in
    let double_dots = c.process-state.ensures.double_dots in
    omega arith

pub returns-clause-puts : goal.returns-clause-puts
returns-clause-puts c = λ t h.
    let base = c.args.base.now in
    let reference = c.args.reference.now in
    let ended = c.ends_in_dots-ended.result in
    let rest = c.split_root-rooted.result.1.now in
    let left = process_all (all_but_last (slice_split is_slash rest)) (remaining_of (slice_split is_slash reference)) in
    let end = c.prepend_root_prefix.ensures.puts AsIs ended left t
    (c.process_directory-state.ensures.is (remaining_of (slice_split is_slash reference)) t
    (c.process-state.ensures.is nothing t (c.none.ensures.is AsIs ended c.args.out.now t h))) in
    let whole : left ≡ remaining_of (merged (spelled base) (spelled reference)).segments =
    ap (λ x. process_all (all_but_last (slice_split is_slash x)) (remaining_of (slice_split is_slash reference))) c.split_root-rooted.ensures.rest
    ∙ merged_left base reference c.requires.relative in
    let same : root (c.split_root-rooted.result.0 || left.removed) ++ remaining_text AsIs ended left.kept ≡ text (replayed (merged (spelled base) (spelled reference))) =
    ap (λ l. root (c.split_root-rooted.result.0 || l.removed) ++ remaining_text AsIs ended l.kept) whole
    ∙ ap (λ v. root (v || (remaining_of (merged (spelled base) (spelled reference)).segments).removed)
    ++ remaining_text AsIs ended (remaining_of (merged (spelled base) (spelled reference)).segments).kept) c.split_root-rooted.ensures.root
    ∙ ap (λ v. root (is_rooted base || (remaining_of (merged (spelled base) (spelled reference)).segments).removed)
    ++ remaining_text AsIs v (remaining_of (merged (spelled base) (spelled reference)).segments).kept) c.ends_in_dots-ended.ensures
    ∙ merged_text base reference c.requires.relative c.requires.base c.requires.reference c.requires.short in
    subst (λ x. EndsWith c.prepend_root_prefix.new.out c.prepend_root_prefix.result (text (with_dot_prefix_unless c.args.has_authority (spelled x)) ++ t)) same end
