use Rattle.std.proofs.Common.{◌≡◌, ◌++◌, List, false, sym, ap, subst, ◌∙◌, rules}
use Rattle.std.specs.Prelude.{is_some, not}
use Rattle.std.specs.List.{filter}
use Rattle.std.specs.Option.{option_copied}
use Rattle.uriparse_text.specs.Bytes.{ampersand}
use Rattle.uriparse_text.specs.Cuts.{after, before, part}
use Rattle.uriparse_text.specs.Pairs.{Pair, is_among_names, joined_pairs, pairs, pairs_left}
use Rattle.uriparse_text.specs.Starts.{Appends}
use Rattle.uriparse_text.proofs.lemmas.readings.PutPairLemmas.{filter_none, joined_at, led}
use Rattle.uriparse_text.proofs.lemmas.tokens.StartLemmas.{appends_both, appends_none, leaves_both}
use Rattle.uriparse_text.proofs.query.put.WithoutAppending.append_to.Goals as goal

pub returns-in_default-clause-appends : goal.returns-in_default-clause-appends
returns-in_default-clause-appends c =
    let none : is_some c.from_first.result ≡ false = search rules in
    subst (λ ps. Appends (joined_pairs ps) c.args.out.now c.args.len c.args.out.now c.args.len)
    (sym (filter_none (λ p. not (is_among_names (pairs c.args.self.now.names.now) p)) (pairs c.args.self.now.query.now) (sym c.from_first.ensures.some ∙ none)))
    (appends_none c.args.out.now c.args.len)

pub returns-clause-appends : goal.returns-clause-appends
returns-clause-appends c =
    let left = c.in-Some.left.now in
    let cutting : option_copied c.without_delimiter.result ≡ after ampersand left = c.without_delimiter.ensures ∙ ap part c.split_at_delimiter.ensures.rest in
    let kept = λ (ps : List Pair). filter (λ p. not (is_among_names (pairs c.args.self.now.names.now) p)) ps in
    let others = led (kept (pairs_left (option_copied c.without_delimiter.result))) in
    subst (λ t. Appends t c.args.out.now c.args.len c.append_others.new.out c.append_others.result)
    (ap (λ t. t ++ others) c.split_at_delimiter.ensures.front ∙ ap (λ o. before ampersand left ++ led (kept (pairs_left o))) cutting
    ∙ sym (joined_at (λ p. not (is_among_names (pairs c.args.self.now.names.now) p)) c.args.self.now.query.now left c.in-Some.ensures.place))
    (appends_both c.split_at_delimiter.result.0.now others c.args.out.now c.append-len.new.out c.append_others.new.out c.args.len c.append-len.result
    c.append_others.result c.append-len.ensures.appends c.append_others.ensures.appends)

pub returns-clause-rest : goal.returns-clause-rest
returns-clause-rest c = leaves_both _ _ _ _ _ _ c.append-len.ensures.rest c.append_others.ensures.rest
