use Rattle.std.proofs.Common.{◌≡◌, [], false, Some, None, sym, ap, subst, ◌∙◌, refl, rules}
use Rattle.std.specs.Prelude.{IfSome, is_some, unwrap_or}
use Rattle.std.specs.List.{find}
use Rattle.std.specs.Option.{option_copied, option_map}
use Rattle.uriparse_text.specs.Bytes.{ampersand, equals_sign}
use Rattle.uriparse_text.specs.Cuts.{after, before, part}
use Rattle.uriparse_text.specs.Query.{IsQuery}
use Rattle.uriparse_text.specs.Pairs.{Pair, is_named, pairs, pairs_left}
use Rattle.uriparse_text.proofs.lemmas.readings.NamedLemmas.{find_at, find_none, or_empty, query_or_empty, value_query}
use Rattle.uriparse_reference.proofs.uri_reference.view.ReferenceView.pair.Goals as goal

pub returns-in_err-left : goal.returns-in_err-left
returns-in_err-left c =
    let q = c.in_ok-query.query.now in
    let there : Some q ≡ c.args.self.now.parts.query = c.in_ok-query.ensures.bytes in
    let none : is_some c.find_pair.result ≡ false = search rules in
    let empty : c.from_residual-in_err-left.result ≡ None = search rules in
    empty
    ∙ sym (ap (option_map (λ (p : Pair). unwrap_or p.1 []))
    (ap (λ o. find (is_named c.args.name.now) (pairs_left o)) (sym there)
    ∙ find_none (is_named c.args.name.now) (pairs q) (sym c.find_pair.ensures.some ∙ none)))

pub checked_text-requires : goal.checked_text-requires
checked_text-requires c =
    let q = c.in_ok-query.query.now in
    let left = c.in_ok-left.left.now in
    let there : Some q ≡ c.args.self.now.parts.query = c.in_ok-query.ensures.bytes in
    let query : IsQuery q = subst (λ o. IfSome o IsQuery) (sym there) c.in_ok-query.ensures.valid in
    let value : option_copied c.without_delimiter.result ≡ after equals_sign (before ampersand left) =
    c.without_delimiter.ensures ∙ ap part c.split_at_delimiter-2.ensures.rest ∙ ap (after equals_sign) c.split_at_delimiter.ensures.front in
    subst IsQuery (sym (or_empty c.without_delimiter.result _ _ c.unwrap_or.ensures refl ∙ ap (λ o. unwrap_or o []) value))
    (query_or_empty (after equals_sign (before ampersand left)) (value_query (is_named c.args.name.now) q left c.in_ok-left.ensures.place query))

pub returns : goal.returns
returns c =
    let q = c.in_ok-query.query.now in
    let left = c.in_ok-left.left.now in
    let there : Some q ≡ c.args.self.now.parts.query = c.in_ok-query.ensures.bytes in
    let value : option_copied c.without_delimiter.result ≡ after equals_sign (before ampersand left) =
    c.without_delimiter.ensures ∙ ap part c.split_at_delimiter-2.ensures.rest ∙ ap (after equals_sign) c.split_at_delimiter.ensures.front in
    ap Some (c.checked_text.ensures ∙ or_empty c.without_delimiter.result _ _ c.unwrap_or.ensures refl ∙ ap (λ o. unwrap_or o []) value)
    ∙ sym (ap (option_map (λ (p : Pair). unwrap_or p.1 []))
    (ap (λ o. find (is_named c.args.name.now) (pairs_left o)) (sym there)
    ∙ find_at (is_named c.args.name.now) q left c.in_ok-left.ensures.place))
