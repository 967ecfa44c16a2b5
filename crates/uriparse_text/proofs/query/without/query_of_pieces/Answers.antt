use Rattle.std.proofs.Common.{◌≡◌, ◌<◌, ◌-◌, length, take, map, sym, ap, subst, ◌∙◌, rules}
use Rattle.std.specs.Vec.{vec_len}
use Rattle.uriparse_text.specs.Query.{IsQuery}
use Rattle.uriparse_text.specs.Pairs.{pair_of, pairs}
use Rattle.uriparse_text.proofs.lemmas.readings.WithoutLemmas.{none_written, shortened}
use Rattle.uriparse_text.proofs.query.without.query_of_pieces.Goals as goal

pub returns-in-None : goal.returns-in-None
returns-in-None c = λ ss w.
    let none : length c.args.text.items ≡ 0 = search rules in
    ap (map pair_of) (sym (none_written ss c.args.text.items w none))

pub text_from_checked_vec-requires : goal.text_from_checked_vec-requires
text_from_checked_vec-requires c =
    let some : 0 < length c.args.text.items = search rules in
    let size : vec_len c.args.text ≡ length c.args.text.items = search rules in
    let left = c.pop.ensures.rest ∙ ap (λ n. take (n - 1) c.args.text.items) size in
    subst IsQuery (sym left) (shortened c.requires.0 c.args.text.items c.requires.1 some).0

pub returns : goal.returns
returns c = λ ss w.
    let some : 0 < length c.args.text.items = search rules in
    let size : vec_len c.args.text ≡ length c.args.text.items = search rules in
    let left = c.pop.ensures.rest ∙ ap (λ n. take (n - 1) c.args.text.items) size in
    ap pairs (c.text_from_checked_vec.ensures ∙ left) ∙ (shortened ss c.args.text.items w some).1
