use Rattle.std.proofs.Common.{◌≡◌, ◌≤◌, false, drop, length, sym, ap, subst, ◌∙◌, rules}
use Rattle.std.specs.Prelude.{is_some}
use Rattle.std.specs.List.{find, list_any}
use Rattle.uriparse_text.specs.Pairs.{is_named, pairs, pairs_left}
use Rattle.uriparse_text.specs.Written.{IsFirstAt}
use Rattle.uriparse_text.proofs.lemmas.readings.NamedLemmas.{find_at, find_none}
use Rattle.uriparse_ffi.proofs.lemmas.PairLemmas.{left_some, next_named_at, to_end}
use Rattle.uriparse_ffi.proofs.lemmas.TextLemmas.{no_some}
use Rattle.uriparse_ffi.proofs.pairs.next_named_pair.Goals as goal

pub returns-in_err-left-clause-found : goal.returns-in_err-left-clause-found
returns-in_err-left-clause-found c = λ p is.
    let q = c.args.query.now in
    let named = is_named c.args.name.now in
    let within : c.args.at ≤ length q = search rules in
    let none : is_some c.find_pair.result ≡ false = search rules in
    let there = sym (ap (λ o. find named (pairs_left o)) (left_some q c.args.at within)) ∙ is in
    absurd (no_some p (sym there ∙ find_none named (pairs (drop c.args.at q)) (sym (c.find_pair.ensures.some ∙ ap (λ t. list_any named (pairs t)) (to_end q c.args.at)) ∙ none)))

pub returns-clause-found : goal.returns-clause-found
returns-clause-found c = λ p is.
    let q = c.args.query.now in
    let named = is_named c.args.name.now in
    let within : c.args.at ≤ length q = search rules in
    let there = sym (ap (λ o. find named (pairs_left o)) (left_some q c.args.at within)) ∙ is in
    next_named_at c.args.name.now q c.in_ok-left.left.now c.args.at p within
    (subst (λ t. IsFirstAt named t c.in_ok-left.left.now) (to_end q c.args.at) c.in_ok-left.ensures.place) there c.pair_at.result c.pair_at.ensures.found c.pair_at.ensures.others

pub returns-clause-none : goal.returns-clause-none
returns-clause-none c = λ is.
    let q = c.args.query.now in
    let named = is_named c.args.name.now in
    let within : c.args.at ≤ length q = search rules in
    let there = sym (ap (λ o. find named (pairs_left o)) (left_some q c.args.at within)) ∙ is in
    absurd (no_some _ (sym (find_at named (drop c.args.at q) c.in_ok-left.left.now (subst (λ t. IsFirstAt named t c.in_ok-left.left.now) (to_end q c.args.at) c.in_ok-left.ensures.place)) ∙ there))
