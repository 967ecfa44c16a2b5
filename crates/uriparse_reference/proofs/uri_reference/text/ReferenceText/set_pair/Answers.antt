use Rattle.std.proofs.Common.{◌≡◌, ◌∙◌, Some, ap, subst}
use Rattle.std.specs.Prelude.{MatchResult}
use Rattle.std.specs.Option.{option_copied}
use Rattle.uriparse_text.specs.Pairs.{encoded_pair, pairs_left, with_pair}
use Rattle.uriparse_reference.specs.PairEdits.{pairs_of}
use Rattle.uriparse_reference.specs.TextEdits.{with_query}
use Rattle.uriparse_reference.specs.View.{Viewed}
use Rattle.uriparse_reference.proofs.lemmas.edits.PairEditLemmas.{back_made, parts_made, query_made}
use Rattle.uriparse_reference.proofs.uri_reference.text.ReferenceText.set_pair.Goals as goal

pub returns-clause-text : goal.returns-clause-text
returns-clause-text c =
    let v = c.args.self.now in
    let queries = c.query.ensures ∙ ap (λ (v : Viewed). v.parts.query) c.as_view.ensures.view in
    let made : pairs_left (Some c.in_ok-query.query) ≡ with_pair c.args.name.now (encoded_pair (c.args.name.now, option_copied c.args.value)) (pairs_of v.parts) = c.in_ok-query.ensures.pairs ∙ ap (λ o. with_pair c.args.name.now (encoded_pair (c.args.name.now, option_copied c.args.value)) (pairs_left o)) queries in
    subst (λ o. MatchResult c.set_query.result (λ _. c.set_query.new.self.text ≡ with_query v.text o) (λ _. c.set_query.new.self ≡ v))
    (query_made (Some c.in_ok-query.query) (with_pair c.args.name.now (encoded_pair (c.args.name.now, option_copied c.args.value)) (pairs_of v.parts)) made) c.set_query.ensures.text

pub returns-clause-parts : goal.returns-clause-parts
returns-clause-parts c =
    let v = c.args.self.now in
    let queries = c.query.ensures ∙ ap (λ (v : Viewed). v.parts.query) c.as_view.ensures.view in
    let made : pairs_left (Some c.in_ok-query.query) ≡ with_pair c.args.name.now (encoded_pair (c.args.name.now, option_copied c.args.value)) (pairs_of v.parts) = c.in_ok-query.ensures.pairs ∙ ap (λ o. with_pair c.args.name.now (encoded_pair (c.args.name.now, option_copied c.args.value)) (pairs_left o)) queries in
    parts_made c.set_query.result v.parts c.set_query.new.self.parts (Some c.in_ok-query.query) (with_pair c.args.name.now (encoded_pair (c.args.name.now, option_copied c.args.value)) (pairs_of v.parts)) made c.set_query.ensures.parts

pub returns-clause-back : goal.returns-clause-back
returns-clause-back c =
    let v = c.args.self.now in
    let queries = c.query.ensures ∙ ap (λ (v : Viewed). v.parts.query) c.as_view.ensures.view in
    let made : pairs_left (Some c.in_ok-query.query) ≡ with_pair c.args.name.now (encoded_pair (c.args.name.now, option_copied c.args.value)) (pairs_of v.parts) = c.in_ok-query.ensures.pairs ∙ ap (λ o. with_pair c.args.name.now (encoded_pair (c.args.name.now, option_copied c.args.value)) (pairs_left o)) queries in
    back_made c.args.name.now c.set_query.result v.parts c.set_query.new.self.parts c.in_ok-query.query _ _ made c.in_ok-query.ensures.back (returns-clause-parts c)
