use Rattle.std.proofs.Common.{◌≡◌, [], ◌∷◌, Some, sym, subst, rules}
use Rattle.uriparse_text.specs.Bytes.{colon}
use Rattle.uriparse_text.specs.Cuts.{ahead}
use Rattle.uriparse_text.specs.Starts.{Appends}
use Rattle.uriparse_scheme.specs.Cuts.{if_some}
use Rattle.uriparse_text.proofs.lemmas.tokens.StartLemmas.{appends_both, leaves_both}
use Rattle.uriparse_reference.proofs.uri_reference.escape.write.append_scheme.Goals as goal

pub returns-clause-appends : goal.returns-clause-appends
returns-clause-appends c =
    let some : if_some c.args.scheme.now ≡ Some c.args.scheme.now = search rules in
    subst (λ o. Appends (ahead colon o) c.args.out.now c.args.len c.append.new.out c.append.result) (sym some)
    (appends_both c.args.scheme.now (colon ∷ []) _ _ _ _ _ _ c.append-len.ensures.appends c.append.ensures.appends)

pub returns-clause-rest : goal.returns-clause-rest
returns-clause-rest c = leaves_both _ _ _ _ _ _ c.append-len.ensures.rest c.append.ensures.rest
