use Rattle.uriparse_path.proofs.lemmas.left.BackwardLemmas.{placed_text}
use Rattle.uriparse_path.proofs.path.text.backward.Placed.prepend_text.Goals as goal

pub returns-clause-placed : goal.returns-clause-placed
returns-clause-placed c = λ u t is.
    placed_text c.args.form c.args.text.now u t c.args.out.now c.prepend_formed.new.out c.args.self _ is
    c.begins_with_slash.ensures c.begins_with_two.ensures c.prepend_formed.ensures.puts
