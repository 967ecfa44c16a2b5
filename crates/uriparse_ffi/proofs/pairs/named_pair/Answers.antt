use Rattle.std.proofs.Common.{◌≡◌, false, sym, ◌∙◌, rules}
use Rattle.std.specs.Prelude.{is_some}
use Rattle.uriparse_text.specs.Pairs.{is_named, pairs}
use Rattle.uriparse_text.proofs.lemmas.readings.NamedLemmas.{find_at, find_none}
use Rattle.uriparse_ffi.proofs.lemmas.PairLemmas.{named_at}
use Rattle.uriparse_ffi.proofs.lemmas.TextLemmas.{no_some}
use Rattle.uriparse_ffi.proofs.pairs.named_pair.Goals as goal

pub returns-in_err-left-clause-found : goal.returns-in_err-left-clause-found
returns-in_err-left-clause-found c = λ p is.
    let none : is_some c.find_pair.result ≡ false = search rules in
    absurd (no_some p (sym is ∙ find_none (is_named c.args.name.now) (pairs c.args.query.now) (sym c.find_pair.ensures.some ∙ none)))

pub returns-clause-found : goal.returns-clause-found
returns-clause-found c = λ p is.
    named_at c.args.name.now c.args.query.now c.in_ok-left.left.now p c.in_ok-left.ensures.place is c.pair_at.result c.pair_at.ensures.found
    c.pair_at.ensures.others

pub returns-clause-none : goal.returns-clause-none
returns-clause-none c = λ is.
    absurd (no_some _ (sym (find_at (is_named c.args.name.now) c.args.query.now c.in_ok-left.left.now c.in_ok-left.ensures.place) ∙ is))
