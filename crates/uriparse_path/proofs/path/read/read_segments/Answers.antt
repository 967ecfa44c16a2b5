use Rattle.std.proofs.Common.{◌≡◌, ◌∷◌, [], false, arith, refl, sym, ap, ◌∙◌}
use Rattle.std.proofs.lemmas.Bool.{eqb-true, and_parts}
use Rattle.std.specs.List.{list_all, list_any, slice_split}
use Rattle.uriparse_path.specs.Path.{is_slash}
use Rattle.uriparse_text.specs.Segment.{is_segment}
use Rattle.uriparse_path.specs.Counts.{begins_with_dot}
use Rattle.uriparse_path.proofs.lemmas.text.SplitLemmas.{one_piece}
use Rattle.uriparse_path.proofs.lemmas.reading.NoEscapeLemmas.{any_push}
use Rattle.uriparse_path.proofs.lemmas.list.SegmentCountLemmas.{unescaped_stays}
use Rattle.uriparse_path.proofs.path.read.read_segments.Goals as goal

pub text_from_checked-requires : goal.text_from_checked-requires
text_from_checked-requires c =
    let one : slice_split is_slash c.args.text.now ≡ c.args.text.now ∷ [] = one_piece c.args.text.now (omega arith) in record {
      inside = (and_parts _ _ (ap (list_all is_segment) (sym one) ∙ c.requires.segments)).0;
      canonical = λ e. unescaped_stays _ (c.requires.escaped (eqb-true c.args.escaped 0 e));
    }

pub returns-then-count-eq1-clause-segments : goal.returns-then-count-eq1-clause-segments
returns-then-count-eq1-clause-segments c =
    let t = c.args.text.now in
    let one : slice_split is_slash t ≡ t ∷ [] = one_piece t (omega arith) in (
      c.one-only.ensures ∙ ap (λ s. s ∷ []) c.text_from_checked.ensures ∙ sym one,
      c.is_dotted.ensures ∙ any_push begins_with_dot [] t false refl ∙ ap (list_any begins_with_dot) (sym one),
    )
