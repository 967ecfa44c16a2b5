use Rattle.std.proofs.Common.{◌≡◌, [], Some, None, ap, sym, ◌∙◌}
use Rattle.std.specs.Prelude.{unwrap_or}
use Rattle.std.specs.Option.{option_map}
use Rattle.std.proofs.lemmas.Slice.Eq.{bytes_eq-Decides}
use Rattle.uriparse.specs.Coding.{decoded}
use Rattle.uriparse.specs.Pairs.{Pair, decoded_pair, is_named, pairs}
use Rattle.examples.proofs.PairLemmas.{only_one, some_mapped}
use Rattle.examples.proofs.queries.has_page_that_is_set.Goals as goal

pub returns-in-Some : goal.returns-in-Some
returns-in-Some c =
    let found = only_one decoded_pair (is_named _) (pairs c.in_ok-query.query) _ c.in_ok-query.ensures.back in
    let value = some_mapped decoded found.0.1 c.args.page.now (ap (λ (p : Pair). p.1) found.2) in
    let there : Some c.in-Some.value ≡ Some (unwrap_or found.0.1 []) = sym c.in-Some.is ∙ c.pair.ensures ∙ ap (option_map (λ (p : Pair). unwrap_or p.1 [])) found.1 in
    let same : c.in-Some.value ≡ unwrap_or found.0.1 [] = cc in
    c.eq.ensures ∙ (bytes_eq-Decides _ _).1
    (c.as_slice.ensures.value ∙ c.in_ok-decode-in-Some.ensures.bytes ∙ ap decoded (same ∙ ap (λ o. unwrap_or o []) value.1) ∙ value.2)

pub returns : goal.returns
returns c =
    let found = only_one decoded_pair (is_named _) (pairs c.in_ok-query.query) _ c.in_ok-query.ensures.back in
    let both : Some (unwrap_or found.0.1 []) ≡ None = sym (ap (option_map (λ (p : Pair). unwrap_or p.1 [])) found.1) ∙ sym c.pair.ensures ∙ c.in-None.is in
    absurd (cc)
