use Rattle.std.proofs.Common.{◌∷◌, ap, sym, ◌∙◌}
use Rattle.uriparse_text.specs.Coding.{decoded}
use Rattle.uriparse_text.proofs.lemmas.tokens.CodingLemmas.{decoded-cons, decoded-nil}
use Rattle.uriparse_text.proofs.internal.ambiguous.split_represented.Goals as goal

pub returns-in-Some : goal.returns-in-Some
returns-in-Some c =
    decoded-cons c.args.text.now c.in-Some.after.now c.in-Some.token c.in-Some.ensures.cut ∙ ap (λ b. b ∷ decoded c.in-Some.after.now) (sym c.value.ensures)

pub returns-in-None : goal.returns-in-None
returns-in-None c = decoded-nil c.args.text.now c.in-None.ensures.cut
