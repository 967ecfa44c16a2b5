use Rattle.std.proofs.Common.{◌≡◌, ◌++◌, ◌-◌, false, length, sym, ap, subst, take, ◌∙◌, rules}
use Rattle.std.specs.Prelude.{is_some}
use Rattle.std.specs.Option.{option_copied}
use Rattle.uriparse_text.specs.Bytes.{ampersand}
use Rattle.uriparse_text.specs.Cuts.{after, part}
use Rattle.uriparse_text.specs.Pairs.{Pair, encoded_pair, is_named, joined_pairs, pairs, pairs_left, piece_of, without_name}
use Rattle.uriparse_text.specs.Starts.{Appends}
use Rattle.uriparse_text.proofs.lemmas.readings.PutPairLemmas.{ended_pairs, front_at, led, set_at}
use Rattle.uriparse_text.proofs.lemmas.readings.SetLemmas.{set_at_end}
use Rattle.uriparse_text.proofs.lemmas.tokens.StartLemmas.{appends_both, leaves_both}
use Rattle.uriparse_text.proofs.query.put.WithPairAppending.append_to.Goals as goal

pub returns-in_default-clause-appends : goal.returns-in_default-clause-appends
returns-in_default-clause-appends c =
    let name = c.args.self.now.0.name.now in
    let new : Pair = (c.args.self.now.0.name.now, option_copied c.args.self.now.0.value) in
    let none : is_some c.find_pair.result ≡ false = search rules in
    subst (λ ps. Appends (joined_pairs ps) c.args.out.now c.args.len c.append_to.new.out c.append_to.result)
    (sym (set_at_end name (encoded_pair new) (pairs c.args.self.now.0.query.now) (sym c.find_pair.ensures.some ∙ none))) c.append_to.ensures.appends

pub returns-clause-appends : goal.returns-clause-appends
returns-clause-appends c =
    let q = c.args.self.now.0.query.now in
    let name = c.args.self.now.0.name.now in
    let new : Pair = (c.args.self.now.0.name.now, option_copied c.args.self.now.0.value) in
    let left = c.in-Some.left.now in
    let at = c.in-Some.ensures.place in
    let cutting : option_copied c.without_delimiter.result ≡ after ampersand left = c.without_delimiter.ensures ∙ ap part c.split_at_delimiter.ensures.rest in
    let front = take (length q - length left) q in
    let piece = piece_of (encoded_pair new) in
    let others = led (without_name name (pairs_left (option_copied c.without_delimiter.result))) in
    subst (λ t. Appends t c.args.out.now c.args.len c.append_others.new.out c.append_others.result)
    (ap (λ t. t ++ (piece ++ others)) (front_at (is_named name) q left at)
    ∙ ap (λ o. ended_pairs at.others ++ (piece ++ led (without_name name (pairs_left o)))) cutting ∙ sym (set_at name (encoded_pair new) q left at))
    (appends_both front (piece ++ others) c.args.out.now c.append-len.new.out c.append_others.new.out c.args.len c.append-len.result c.append_others.result
    c.append-len.ensures.appends
    (appends_both piece others c.append-len.new.out c.append_pair-len.new.out c.append_others.new.out c.append-len.result c.append_pair-len.result
    c.append_others.result c.append_pair-len.ensures.appends c.append_others.ensures.appends))

pub returns-clause-rest : goal.returns-clause-rest
returns-clause-rest c =
    leaves_both _ _ _ _ _ _ c.append-len.ensures.rest (leaves_both _ _ _ _ _ _ c.append_pair-len.ensures.rest c.append_others.ensures.rest)
