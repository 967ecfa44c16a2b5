use Rattle.std.proofs.Common.{◌≡◌, ◌<◌, ◌∷◌, true, length, sym, ap, subst, ◌∙◌, arith}
use Rattle.std.specs.List.{list_all}
use Rattle.std.specs.Option.{option_copied}
use Rattle.std.proofs.lemmas.Bool.{and_parts, false≢true}
use Rattle.uriparse_text.specs.Cuts.{part}
use Rattle.uriparse_text.specs.Segment.{is_segment}
use Rattle.uriparse_path.specs.Text.{pieces_left}
use Rattle.uriparse_path.proofs.lemmas.text.TextWalkLemmas.{left_cut}
use Rattle.uriparse_path.proofs.path.text.SegmentsIterator.next.Goals.{After-without_delimiter-self-inside}
use Rattle.uriparse_path.proofs.path.text.SegmentsIterator.next.Goals as goal

-- the first piece, then those that are left
cut : (c : After-without_delimiter-self-inside)
    → pieces_left (option_copied c.self.inside.rest) ≡ c.split_at_delimiter.result.0.now ∷ pieces_left (option_copied c.without_delimiter-self-inside.result)
cut c =
    ap (λ r. pieces_left (option_copied r)) c.in_ok-rest.was
    ∙ left_cut c.in_ok-rest.rest.now c.split_at_delimiter.result.0.now (option_copied c.without_delimiter-self-inside.result) c.split_at_delimiter.ensures.front
    (c.without_delimiter-self-inside.ensures ∙ ap part c.split_at_delimiter.ensures.rest)

each : (c : After-without_delimiter-self-inside)
    → list_all is_segment (c.split_at_delimiter.result.0.now ∷ pieces_left (option_copied c.without_delimiter-self-inside.result)) ≡ true
each c = ap (list_all is_segment) (sym (cut c)) ∙ c.self.invariant

pub text_from_checked-requires : goal.text_from_checked-requires
text_from_checked-requires c = record {
  inside = (and_parts _ _ (each (goal.at.text_from_checked-requires c).After-without_delimiter-self-inside)).0;
  canonical = λ h. absurd (false≢true h);
}

pub invariant_of-self : goal.invariant_of-self
invariant_of-self c = (and_parts _ _ (each (goal.at.invariant_of-self c).After-without_delimiter-self-inside)).1

pub returns-clause-steps : goal.returns-clause-steps
returns-clause-steps c =
    sym c.self.view_is ∙ cut (goal.at.returns-clause-steps c).After-without_delimiter-self-inside
    ∙ ap (λ s. s ∷ pieces_left (option_copied c.without_delimiter-self-inside.result)) (sym c.text_from_checked.ensures)

pub returns-clause-goes : goal.returns-clause-goes
returns-clause-goes c =
    let whole = sym c.self.view_is ∙ cut (goal.at.returns-clause-goes c).After-without_delimiter-self-inside in
    record {
      on = λ _. (tt, tt, subst (λ l. length (pieces_left (option_copied c.without_delimiter-self-inside.result)) < length l) (sym whole) (omega arith));
      keeps = tt;
      rests = λ _. tt;
    }
