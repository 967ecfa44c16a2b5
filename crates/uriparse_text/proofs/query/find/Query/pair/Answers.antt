use Rattle.std.proofs.Common.{◌≡◌, [], false, Some, None, sym, ap, subst, ◌∙◌, refl, rules}
use Rattle.std.specs.Prelude.{is_some, unwrap_or}
use Rattle.std.specs.List.{find, list_any}
use Rattle.std.specs.Option.{option_copied, option_map}
use Rattle.uriparse_text.specs.Bytes.{ampersand, equals_sign}
use Rattle.uriparse_text.specs.Cuts.{after, before, part}
use Rattle.uriparse_text.specs.Query.{IsQuery}
use Rattle.uriparse_text.specs.Pairs.{Pair, is_named, pairs}
use Rattle.uriparse_text.proofs.lemmas.readings.NamedLemmas.{find_at, find_none, or_empty, query_or_empty, value_query}
use Rattle.uriparse_text.proofs.query.find.Query.pair.Goals as goal

pub returns-in_err-left : goal.returns-in_err-left
returns-in_err-left c =
    let none : is_some c.find_pair.result ≡ false = search rules in
    let empty : c.from_residual.result ≡ None = search rules in
    empty
    ∙ sym (ap (option_map (λ (p : Pair). unwrap_or p.1 []))
    (find_none (is_named c.args.name.now) (pairs c.args.self.now)
    (ap (λ q. list_any (is_named c.args.name.now) (pairs q)) (sym c.as_bytes.ensures.value) ∙ sym c.find_pair.ensures.some ∙ none)))

pub checked_text-requires : goal.checked_text-requires
checked_text-requires c =
    let left = c.in_ok-left.left.now in
    let query : IsQuery c.as_bytes.result.now = search rules in
    let value : option_copied c.without_delimiter.result ≡ after equals_sign (before ampersand left) =
    c.without_delimiter.ensures ∙ ap part c.split_at_delimiter-2.ensures.rest ∙ ap (after equals_sign) c.split_at_delimiter.ensures.front in
    subst IsQuery (sym (or_empty c.without_delimiter.result _ _ c.unwrap_or.ensures refl ∙ ap (λ o. unwrap_or o []) value))
    (query_or_empty (after equals_sign (before ampersand left)) (value_query (is_named c.args.name.now) c.as_bytes.result.now left c.in_ok-left.ensures.place query))

pub returns : goal.returns
returns c =
    let left = c.in_ok-left.left.now in
    let value : option_copied c.without_delimiter.result ≡ after equals_sign (before ampersand left) =
    c.without_delimiter.ensures ∙ ap part c.split_at_delimiter-2.ensures.rest ∙ ap (after equals_sign) c.split_at_delimiter.ensures.front in
    ap Some (c.checked_text.ensures ∙ or_empty c.without_delimiter.result _ _ c.unwrap_or.ensures refl ∙ ap (λ o. unwrap_or o []) value)
    ∙ sym (ap (option_map (λ (p : Pair). unwrap_or p.1 []))
    (ap (λ q. find (is_named c.args.name.now) (pairs q)) (sym c.as_bytes.ensures.value)
    ∙ find_at (is_named c.args.name.now) c.as_bytes.result.now left c.in_ok-left.ensures.place))
