use Rattle.std.proofs.Common.{◌≡◌, ◌∷◌, [], Some, sym, subst, rules}
use Rattle.std.specs.Option.{option_copied}
use Rattle.uriparse_text.specs.Bytes.{equals_sign}
use Rattle.uriparse_text.specs.Pairs.{encoded_in_pair, encoded_pair, piece_of}
use Rattle.uriparse_text.specs.Starts.{Appends}
use Rattle.uriparse_text.proofs.lemmas.tokens.StartLemmas.{appends_both, leaves_both}
use Rattle.uriparse_text.proofs.query.put.append_pair.Goals as goal

pub returns-clause-appends : goal.returns-clause-appends
returns-clause-appends c =
    let is : c.args.value ≡ Some c.in-Some.value = search rules in
    let name = encoded_in_pair c.args.name.now in
    let value = encoded_in_pair c.in-Some.value.now in
    subst (λ o. Appends (piece_of (encoded_pair (c.args.name.now, option_copied o))) c.args.out.now c.args.len c.append_to.new.out c.append_to.result) (sym is)
    (appends_both name (equals_sign ∷ value) c.args.out.now c.append_to-len.new.out c.append_to.new.out c.args.len c.append_to-len.result c.append_to.result
    c.append_to-len.ensures.appends
    (appends_both (equals_sign ∷ []) value c.append_to-len.new.out c.append-len.new.out c.append_to.new.out c.append_to-len.result c.append-len.result
    c.append_to.result c.append-len.ensures.appends c.append_to.ensures.appends))

pub returns-clause-rest : goal.returns-clause-rest
returns-clause-rest c =
    leaves_both _ _ _ _ _ _ c.append_to-len.ensures.rest (leaves_both _ _ _ _ _ _ c.append-len.ensures.rest c.append_to.ensures.rest)
