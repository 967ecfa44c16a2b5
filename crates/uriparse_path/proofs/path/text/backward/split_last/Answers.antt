use Rattle.std.proofs.Common.{◌++◌, ◌∷◌, [], ◌∙◌, ◌+◌, take, sym, ap, rules}
use Rattle.std.specs.List.{slice_split}
use Rattle.std.proofs.lemmas.List.{take_rest}
use Rattle.uriparse_path.specs.Path.{is_slash}
use Rattle.uriparse_path.proofs.lemmas.text.SplitLemmas.{pieces-piece}
use Rattle.uriparse_path.proofs.lemmas.left.BackwardLemmas.{cut_last, none_slash}
use Rattle.uriparse_path.proofs.path.text.backward.split_last.Goals as goal

pub returns-in-Some : goal.returns-in-Some
returns-in-Some c =
    let t = c.args.text.now in
    let at = c.in-Some.at in
    cut_last t at (search rules) (search rules) (search rules) ∙ ap (λ s. slice_split is_slash (take at t) ++ s ∷ []) (sym (take_rest t (at + 1)))

pub returns-in-None : goal.returns-in-None
returns-in-None c = pieces-piece c.args.text.now (none_slash c.args.text.now (search rules))
