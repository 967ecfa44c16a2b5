use Rattle.std.proofs.Common.{◌≡◌, ◌-◌, length, take, ap, subst, sym, ◌∙◌, rules}
use Rattle.std.specs.Vec.{vec_len}
use Rattle.uriparse_text.specs.Query.{IsQuery}
use Rattle.uriparse_text.specs.Pairs.{pairs}
use Rattle.uriparse_text.proofs.lemmas.readings.WithoutLemmas.{shortened, some_written}
use Rattle.uriparse_text.proofs.query.set.query_of_pieces.Goals as goal

pub text_from_checked_vec-requires : goal.text_from_checked_vec-requires
text_from_checked_vec-requires c =
    let size : vec_len c.args.text ≡ length c.args.text.items = search rules in
    let left = c.pop-last.ensures.rest ∙ ap (λ n. take (n - 1) c.args.text.items) size in
    let some = some_written c.requires.0 c.args.text.items c.requires.1 c.requires.2 in
    subst IsQuery (sym left) (shortened c.requires.0 c.args.text.items c.requires.1 some).0

pub returns : goal.returns
returns c = λ ss w.
    let size : vec_len c.args.text ≡ length c.args.text.items = search rules in
    let left = c.pop-last.ensures.rest ∙ ap (λ n. take (n - 1) c.args.text.items) size in
    let some = some_written c.requires.0 c.args.text.items c.requires.1 c.requires.2 in
    ap pairs (c.text_from_checked_vec.ensures ∙ left) ∙ (shortened ss c.args.text.items w some).1
