use Rattle.std.proofs.Common.{◌≡◌, ◌++◌, ◌∷◌, [], ◌∙◌, sym, ap, subst}
use Rattle.std.specs.List.{slice_split}
use Rattle.std.specs.Option.{option_copied}
use Rattle.uriparse_path.specs.Path.{is_slash}
use Rattle.uriparse_path.specs.Dots.{all_but_last}
use Rattle.uriparse_path.specs.Text.{pieces_left}
use Rattle.uriparse_path.specs.Remaining.{IsBackwardState, process_all}
use Rattle.uriparse_path.proofs.lemmas.merge.MergedNormalFormLemmas.{all_but_last_push}
use Rattle.uriparse_path.proofs.path.text.backward.BackwardState.process_directory.Goals as goal

pub returns-in-Some-clause-is : goal.returns-in-Some-clause-is
returns-in-Some-clause-is c = λ l t is.
    let front = slice_split is_slash c.in-Some.front.now in
    let directory : all_but_last (slice_split is_slash c.args.text.now) ≡ front =
    ap all_but_last (c.split_last.ensures ∙ ap (λ o. pieces_left (option_copied o) ++ c.split_last.result.1.now ∷ []) c.in-Some.is)
    ∙ all_but_last_push front c.split_last.result.1.now in
    subst (λ ss. IsBackwardState c.args.form c.args.ended (process_all ss l) c.process.result c.process.new.out t) (sym directory) (c.process.ensures.is l t is)
