use Rattle.std.proofs.Common.{◌≡◌, true, sym, ap, subst, ◌∙◌}
use Rattle.std.specs.List.{list_all}
use Rattle.std.proofs.lemmas.Bool.{and_parts}
use Rattle.uriparse_text.specs.Segment.{is_segment}
use Rattle.uriparse_path.specs.Dots.{is_dot_segment}
use Rattle.uriparse_path.specs.Relative.{is_first}
use Rattle.uriparse_path.proofs.lemmas.text.TextWalkLemmas.{pieces_cut}
use Rattle.uriparse_path.proofs.path.text.last.has_dots_first.Goals as goal

pub is_dots-requires : goal.is_dots-requires
is_dots-requires c =
    subst (λ s. is_segment s ≡ true) (sym c.split_at_delimiter.ensures.front)
    (and_parts _ _ (sym (ap (list_all is_segment) (pieces_cut c.args.text.now)) ∙ c.requires)).0

pub returns : goal.returns
returns c =
    c.is_dots.ensures ∙ ap is_dot_segment c.split_at_delimiter.ensures.front ∙ sym (ap (is_first is_dot_segment) (pieces_cut c.args.text.now))
