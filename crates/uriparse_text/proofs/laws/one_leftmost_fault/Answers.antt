use Rattle.uriparse_text.proofs.lemmas.classes.GrammarLemmas.{in_class, none_iff, leftmost}
use Rattle.uriparse_text.proofs.laws.one_leftmost_fault.Goals as goal

pub returns : goal.returns
returns c = record { class = in_class; none = none_iff; offset = leftmost }
