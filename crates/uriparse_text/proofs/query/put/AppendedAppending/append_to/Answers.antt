use Rattle.std.proofs.Common.{◌++◌, subst}
use Rattle.std.specs.Option.{option_copied}
use Rattle.uriparse_text.specs.Pairs.{Pair, encoded_pair, piece_of}
use Rattle.uriparse_text.specs.Starts.{Appends}
use Rattle.uriparse_text.proofs.lemmas.readings.PutPairLemmas.{appended_text}
use Rattle.uriparse_text.proofs.lemmas.tokens.StartLemmas.{appends_both, leaves_both}
use Rattle.uriparse_text.proofs.query.put.AppendedAppending.append_to.Goals as goal

pub returns-clause-appends : goal.returns-clause-appends
returns-clause-appends c =
    let q = c.args.self.now.query.now in
    let mark = c.mark_after.result.now in
    let new : Pair = (c.args.self.now.name.now, option_copied c.args.self.now.value) in
    subst (λ t. Appends t c.args.out.now c.args.len c.append_pair.new.out c.append_pair.result) (appended_text q mark new c.mark_after.ensures.pairs)
    (appends_both (q ++ mark) (piece_of (encoded_pair new)) c.args.out.now c.append-len-2.new.out c.append_pair.new.out c.args.len c.append-len-2.result
    c.append_pair.result
    (appends_both q mark c.args.out.now c.append-len.new.out c.append-len-2.new.out c.args.len c.append-len.result c.append-len-2.result
    c.append-len.ensures.appends c.append-len-2.ensures.appends)
    c.append_pair.ensures.appends)

pub returns-clause-rest : goal.returns-clause-rest
returns-clause-rest c =
    leaves_both _ _ _ _ _ _ c.append-len.ensures.rest (leaves_both _ _ _ _ _ _ c.append-len-2.ensures.rest c.append_pair.ensures.rest)
