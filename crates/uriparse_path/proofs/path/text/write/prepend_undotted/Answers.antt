use Rattle.std.proofs.Common.{◌≡◌, ◌++◌, ◌||◌, ◌∙◌, length, ap, subst, arith}
use Rattle.std.specs.List.{slice_split}
use Rattle.uriparse_text.specs.Ends.{EndsWith, formed}
use Rattle.uriparse_text.specs.declared.internal.token.Case.TheVariants.{Kept}
use Rattle.uriparse_path.specs.Path.{is_slash, max_segments, pieces, root, spelled, text}
use Rattle.uriparse_path.specs.Dots.{is_dot_segment, undot}
use Rattle.uriparse_path.specs.Edits.{with_dot_prefix_unless}
use Rattle.uriparse_path.specs.Relative.{is_last}
use Rattle.uriparse_path.specs.Last.{IsLast}
use Rattle.uriparse_path.specs.Remaining.{remaining_text, remaining_of, nothing}
use Rattle.uriparse_path.proofs.lemmas.left.UndottedLemmas.{kept_whole, undotted_text}
use Rattle.uriparse_path.proofs.path.text.write.prepend_undotted.Goals as goal

pub process-state-requires-clause-few : goal.process-state-requires-clause-few
unfolding max_segments
process-state-requires-clause-few c =
    let short = c.requires.short in
    let rest : length (slice_split is_slash c.split_root-rooted.result.1.now) ≡ length (pieces c.args.text.now) =
    ap (λ u. length (slice_split is_slash u)) c.split_root-rooted.ensures.rest in
    let none = c.none.ensures.double_dots in
    omega arith

pub stays_whole-requires : goal.stays_whole-requires
stays_whole-requires c = subst (IsLast c.last_dots-last.result) c.split_root-rooted.ensures.rest c.last_dots-last.ensures

pub returns-clause-puts : goal.returns-clause-puts
returns-clause-puts c = λ t h.
    let form = c.args.form in
    let u = c.args.text.now in
    let ended = c.ends_in_dots-ended.result in
    let rest = c.split_root-rooted.result.1.now in
    let end = c.prepend_root_prefix.ensures.puts form ended (remaining_of (slice_split is_slash rest)) t
    (c.process-state.ensures.is nothing t (c.none.ensures.is form ended c.args.out.now t h)) in
    let same : root (c.split_root-rooted.result.0 || (remaining_of (slice_split is_slash rest)).removed) ++ remaining_text form ended (remaining_of (slice_split is_slash rest)).kept
    ≡ formed form Kept (undot u) =
    ap (λ v. root (c.split_root-rooted.result.0 || (remaining_of (slice_split is_slash rest)).removed) ++ remaining_text form v (remaining_of (slice_split is_slash rest)).kept)
    c.ends_in_dots-ended.ensures
    ∙ ap (λ x. root (c.split_root-rooted.result.0 || (remaining_of (slice_split is_slash x)).removed)
    ++ remaining_text form (is_last is_dot_segment (slice_split is_slash x)) (remaining_of (slice_split is_slash x)).kept) c.split_root-rooted.ensures.rest
    ∙ ap (λ v. root (v || (remaining_of (pieces u)).removed) ++ remaining_text form (is_last is_dot_segment (pieces u)) (remaining_of (pieces u)).kept)
    c.split_root-rooted.ensures.root
    ∙ undotted_text form u c.requires in
    subst (λ x. EndsWith c.prepend_root_prefix.new.out c.prepend_root_prefix.result (text (with_dot_prefix_unless c.args.has_authority (spelled x)) ++ t)) same end

pub returns-then-stays_whole-clause-puts : goal.returns-then-stays_whole-clause-puts
returns-then-stays_whole-clause-puts c = λ t h.
    kept_whole c.args.form c.args.has_authority c.args.text.now t c.prepend_formed.new.out c.prepend_formed.result c.requires
    (c.stays_whole.ensures.with_dot_prefix c.if-stays_whole.true) (c.stays_whole.ensures.dots c.if-stays_whole.true) (c.prepend_formed.ensures.puts t h)
