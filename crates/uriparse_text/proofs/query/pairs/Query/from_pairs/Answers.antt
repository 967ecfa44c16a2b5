use Rattle.std.proofs.Common.{◌≡◌, ◌<◌, ◌++◌, map, sym, ap, subst, ◌∙◌}
use Rattle.std.proofs.lemmas.List.{length-map}
use Rattle.uriparse_text.specs.Query.{IsQuery}
use Rattle.uriparse_text.specs.Pairs.{pairs, decoded_pair, form_decoded_pair, encoded_pair, joined_pairs, given}
use Rattle.uriparse_text.proofs.lemmas.readings.PairLemmas.{joined_query, written_back}
use Rattle.uriparse_text.proofs.lemmas.tokens.BackLemmas.{form_back}
use Rattle.uriparse_text.proofs.query.pairs.Query.from_pairs.Goals as goal

pub text_from_checked_vec-requires : goal.text_from_checked_vec-requires
text_from_checked_vec-requires c =
    let is : c.push_pairs.new.text.items ≡ joined_pairs (map encoded_pair (map given c.args.pairs.now)) =
    c.in_ok-push_pairs.ensures.text ∙ ap (λ l. l ++ joined_pairs (map encoded_pair (map given c.args.pairs.now))) c.in_ok-text.ensures.items in
    subst IsQuery (sym is) (joined_query (map given c.args.pairs.now))

pub returns-clause-back : goal.returns-clause-back
returns-clause-back c = λ some.
    let is : c.text_from_checked_vec.result ≡ joined_pairs (map encoded_pair (map given c.args.pairs.now)) =
    c.text_from_checked_vec.ensures ∙ c.in_ok-push_pairs.ensures.text
    ∙ ap (λ l. l ++ joined_pairs (map encoded_pair (map given c.args.pairs.now))) c.in_ok-text.ensures.items in
    ap (λ q. map decoded_pair (pairs q)) is
    ∙ written_back (map given c.args.pairs.now) (subst (λ n. 0 < n) (sym (length-map c.args.pairs.now given)) some) c.in_ok-push_pairs.ensures.bytes

pub returns-clause-form_back : goal.returns-clause-form_back
returns-clause-form_back c = λ some.
    let is : c.text_from_checked_vec.result ≡ joined_pairs (map encoded_pair (map given c.args.pairs.now)) =
    c.text_from_checked_vec.ensures ∙ c.in_ok-push_pairs.ensures.text
    ∙ ap (λ l. l ++ joined_pairs (map encoded_pair (map given c.args.pairs.now))) c.in_ok-text.ensures.items in
    ap (λ q. map form_decoded_pair (pairs q)) is
    ∙ form_back (map given c.args.pairs.now) (subst (λ n. 0 < n) (sym (length-map c.args.pairs.now given)) some) c.in_ok-push_pairs.ensures.bytes
