use Rattle.std.proofs.Common.{◌≡◌, ◌∷◌, ◌∙◌, true, drop, ap, sym, subst}
use Rattle.std.specs.List.{list_all, slice_split}
use Rattle.std.specs.Option.{option_copied}
use Rattle.std.proofs.lemmas.Bool.{and_parts}
use Rattle.uriparse_text.specs.Cuts.{part}
use Rattle.uriparse_text.specs.Segment.{is_segment}
use Rattle.uriparse_path.specs.Path.{is_slash}
use Rattle.uriparse_path.specs.Dots.{has_dot_segment, is_dot_segment}
use Rattle.uriparse_path.specs.Relative.{is_first}
use Rattle.uriparse_path.specs.Text.{pieces_left}
use Rattle.uriparse_path.specs.Remaining.{IsBackwardState, process_all}
use Rattle.uriparse_path.proofs.lemmas.text.TextWalkLemmas.{left_cut}
use Rattle.uriparse_path.proofs.path.text.backward.BackwardState.step.Goals.{After-without_delimiter}
use Rattle.uriparse_path.proofs.path.text.backward.BackwardState.step.Goals as goal

cut : (c : After-without_delimiter) → slice_split is_slash c.args.text.now ≡ c.split_at_delimiter.result.0.now ∷ pieces_left (option_copied c.without_delimiter.result)
cut c =
    left_cut c.args.text.now c.split_at_delimiter.result.0.now (option_copied c.without_delimiter.result) c.split_at_delimiter.ensures.front
    (c.without_delimiter.ensures ∙ ap part c.split_at_delimiter.ensures.rest)

each : (c : After-without_delimiter)
    → (is_segment c.split_at_delimiter.result.0.now ≡ true) × (list_all is_segment (pieces_left (option_copied c.without_delimiter.result)) ≡ true)
each c = and_parts _ _ (sym (ap (list_all is_segment) (cut c)) ∙ c.requires.segments)

first : (c : After-without_delimiter) → is_dot_segment c.split_at_delimiter.result.0.now ≡ true
first c = sym (ap (is_first is_dot_segment) (cut c)) ∙ c.requires.first

pub stretch-requires-clause-segments : goal.stretch-requires-clause-segments
stretch-requires-clause-segments c =
    sym (ap (λ o. list_all is_segment (pieces_left (option_copied o))) c.in-Some.is)
    ∙ (each (goal.at.stretch-requires-clause-segments c).After-without_delimiter).1

pub stretch-requires-clause-dots : goal.stretch-requires-clause-dots
stretch-requires-clause-dots c =
    sym (ap (λ o. has_dot_segment (pieces_left (option_copied o))) c.in-Some.is)
    ∙ sym (ap (λ l. has_dot_segment (drop 1 l)) (cut (goal.at.stretch-requires-clause-dots c).After-without_delimiter)) ∙ c.requires.later

pub add_double_dot-requires-clause-segment : goal.add_double_dot-requires-clause-segment
add_double_dot-requires-clause-segment c = (each (goal.at.add_double_dot-requires-clause-segment c).After-without_delimiter).0

pub add_double_dot-requires-clause-dots : goal.add_double_dot-requires-clause-dots
add_double_dot-requires-clause-dots c = first (goal.at.add_double_dot-requires-clause-dots c).After-without_delimiter

pub add_double_dot-requires-in-None-clause-segment : goal.add_double_dot-requires-in-None-clause-segment
add_double_dot-requires-in-None-clause-segment c = (each (goal.at.add_double_dot-requires-in-None-clause-segment c).After-without_delimiter).0

pub add_double_dot-requires-in-None-clause-dots : goal.add_double_dot-requires-in-None-clause-dots
add_double_dot-requires-in-None-clause-dots c = first (goal.at.add_double_dot-requires-in-None-clause-dots c).After-without_delimiter

pub returns-in-Some-clause-is : goal.returns-in-Some-clause-is
returns-in-Some-clause-is c = λ l t is.
    let whole = cut (goal.at.returns-in-Some-clause-is c).After-without_delimiter
    ∙ ap (λ o. c.split_at_delimiter.result.0.now ∷ pieces_left (option_copied o)) c.in-Some.is in
    subst (λ ss. IsBackwardState c.args.form c.args.ended (process_all ss l) c.add_double_dot.result c.stretch.new.out t) (sym whole)
    (c.add_double_dot.ensures.is c.args.form c.args.ended (process_all (slice_split is_slash c.in-Some.later.now) l) c.stretch.new.out t (c.stretch.ensures.is l t is))

pub returns-in-None-clause-is : goal.returns-in-None-clause-is
returns-in-None-clause-is c = λ l t is.
    let whole = cut (goal.at.returns-in-None-clause-is c).After-without_delimiter
    ∙ ap (λ o. c.split_at_delimiter.result.0.now ∷ pieces_left (option_copied o)) c.in-None.is in
    subst (λ ss. IsBackwardState c.args.form c.args.ended (process_all ss l) c.add_double_dot-in-None.result c.args.out.now t) (sym whole)
    (c.add_double_dot-in-None.ensures.is c.args.form c.args.ended l c.args.out.now t is)
