use Rattle.std.proofs.Common.{◌≡◌, ◌∷◌, [], ℕ, List, arith, ap, ◌∙◌, ◌&&◌, ◌||◌, cond, not, length, take}
use Rattle.uriparse_text.specs.Bytes.{dot}
use Rattle.uriparse_path.specs.Path.{starts_with_empty_segment}
use Rattle.uriparse_path.specs.Dots.{is_dot_segment}
use Rattle.uriparse_path.specs.Relative.{is_last, is_first, has_colon, closed, needs_leading_dot, filled, reduced}
use Rattle.uriparse_path.proofs.lemmas.normal.RelativeLengthLemmas.{length_closed_end, length_shaped}
use Rattle.uriparse_path.proofs.path.reduce.shape.Goals.{After-reduce-left}
use Rattle.uriparse_path.proofs.path.reduce.shape.Goals as goal

-- the segments that are left, with their end
abbrev end : (l : List (List ℕ)) → List (List ℕ)
end l = closed (is_last is_dot_segment l) (reduced l)

left_end : (c : After-reduce-left)
    → closed c.ends_in_dots-ended_in_dots.result (take c.reduce-left.result c.reduce-left.new.segments) ≡ end c.args.segments.now
left_end c =
    ap (λ v. closed v (take c.reduce-left.result c.reduce-left.new.segments)) c.ends_in_dots-ended_in_dots.ensures
    ∙ ap (closed (is_last is_dot_segment c.args.segments.now)) c.reduce-left.ensures.left

pub close-kept-requires-clause-room : goal.close-kept-requires-clause-room
close-kept-requires-clause-room c =
    let at = (goal.at.close-kept-requires-clause-room c).After-reduce-left in
    omega (arith, ap length (left_end at), length_closed_end c.args.segments.now (omega arith) c.requires.shown, c.reduce-left.ensures.len)

pub returns-clause-shaped : goal.returns-clause-shaped
returns-clause-shaped c =
    let at = (goal.at.returns-clause-shaped c).After-reduce-left in
    let kept : take c.close-kept.result c.close-kept.new.segments ≡ end c.args.segments.now = c.close-kept.ensures.closed ∙ left_end at in
    let guards : c.needs_leading_dot-with_leading_dot.result ≡ needs_leading_dot c.args.segments.now (end c.args.segments.now) =
    c.needs_leading_dot-with_leading_dot.ensures
    ∙ ap (λ u. starts_with_empty_segment u || (is_first has_colon u && not c.has_first_colon-had_colon.result)) kept
    ∙ ap (λ v. starts_with_empty_segment (end c.args.segments.now) || (is_first has_colon (end c.args.segments.now) && not v))
    c.has_first_colon-had_colon.ensures in
    ap (λ v. filled (cond v ((dot ∷ []) ∷ take c.close-kept.result c.close-kept.new.segments)
    (take c.close-kept.result c.close-kept.new.segments))) guards
    ∙ ap (λ u. filled (cond (needs_leading_dot c.args.segments.now (end c.args.segments.now)) ((dot ∷ []) ∷ u) u)) kept

pub returns-clause-room : goal.returns-clause-room
returns-clause-room c = omega (arith, length_shaped c.args.segments.now (omega arith) c.requires.shown)
