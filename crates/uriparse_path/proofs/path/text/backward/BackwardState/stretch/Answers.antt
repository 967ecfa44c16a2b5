use Rattle.std.proofs.Common.{◌≡◌, ◌∷◌, [], ◌∙◌, false, refl, ap, sym, subst, arith}
use Rattle.std.specs.List.{slice_split}
use Rattle.std.specs.Option.{option_copied}
use Rattle.uriparse_path.specs.Path.{is_slash}
use Rattle.uriparse_path.specs.Dots.{has_dot_segment, is_dot_segment}
use Rattle.uriparse_path.specs.Text.{pieces_left}
use Rattle.uriparse_path.proofs.lemmas.left.BackwardLemmas.{Walked, undotted_parts, walked_all, walked_end, walked_run}
use Rattle.uriparse_path.proofs.path.text.backward.BackwardState.stretch.Goals.{After-split_last}
use Rattle.uriparse_path.proofs.path.text.backward.BackwardState.stretch.Goals as goal

parts : (c : After-split_last) → (has_dot_segment (pieces_left (option_copied c.split_last.result.0)) ≡ false) × (is_dot_segment c.split_last.result.1.now ≡ false)
parts c =
    undotted_parts (pieces_left (option_copied c.split_last.result.0)) c.split_last.result.1.now (slice_split is_slash c.removed.rest.now)
    c.split_last.ensures c.removed.invariant.dots

walked : (c : After-split_last)
    → Walked c.args.form c.args.ended (slice_split is_slash c.args.text.now) (pieces_left (option_copied c.split_last.result.0)) c.args.self
    c.remove-state.result c.args.out.now c.args.out.now
walked c =
    let out = c.args.out.now in
    walked_run c.args.form c.args.ended (slice_split is_slash c.args.text.now) (slice_split is_slash c.removed.rest.now)
    (pieces_left (option_copied c.split_last.result.0)) (c.split_last.result.1.now ∷ []) c.args.self c.removed.state c.remove-state.result
    out out out c.removed.invariant.walked c.split_last.ensures (omega arith) (omega (arith, c.remove-state.ensures.double_dots)) refl
    (λ l t h. c.remove-state.ensures.is c.split_last.result.1.now (parts c).1 c.args.form c.args.ended l out t h)

pub removed-preserved : goal.removed-preserved
removed-preserved c =
    let at = (goal.at.removed-preserved c).After-split_last in
    let left = ap (λ o. pieces_left (option_copied o)) c.in-Some.is in
    record {
      walked = subst (λ ss. Walked c.args.form c.args.ended (slice_split is_slash c.args.text.now) ss c.args.self c.remove-state.result c.args.out.now c.args.out.now)
          left (walked at);
      dots = sym (ap has_dot_segment left) ∙ (parts at).0;
      few = let before = c.removed.invariant.few in omega (arith, c.remove-state.ensures.double_dots);
    }

pub returns-in-None-clause-is : goal.returns-in-None-clause-is
returns-in-None-clause-is c = λ l t h.
    let at = (goal.at.returns-in-None-clause-is c).After-split_last in
    walked_end c.args.form c.args.ended (slice_split is_slash c.args.text.now) (pieces_left (option_copied c.split_last.result.0)) c.args.self
    c.remove-state.result c.args.out.now c.args.out.now l t (walked at) (ap (λ o. pieces_left (option_copied o)) c.in-None.is) h

pub returns-clause-is : goal.returns-clause-is
returns-clause-is c = λ l t h.
    walked_all c.args.form c.args.ended (slice_split is_slash c.args.text.now) (slice_split is_slash c.removed.rest.now) c.args.self c.removed.state
    c.keep.result c.args.out.now c.args.out.now c.keep.new.out l t c.removed.invariant.walked c.keep.ensures.is h
