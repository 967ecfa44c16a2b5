use Rattle.std.proofs.Common.{[], refl, ap, subst, ◌∙◌}
use Rattle.uriparse_text.specs.Cuts.{part}
use Rattle.uriparse_text.specs.Starts.{Appends}
use Rattle.uriparse_text.proofs.lemmas.tokens.StartLemmas.{appends_both, leaves_both}
use Rattle.uriparse_reference.proofs.lemmas.reading.EscapedEndLemmas.{pushed_end}
use Rattle.uriparse_reference.proofs.uri_reference.escape.write.append_end.Goals as goal

pub returns-clause-appends : goal.returns-clause-appends
returns-clause-appends c =
    subst (λ u. Appends u c.args.out.now c.args.len c.append_following.new.out c.append_following.result)
    (pushed_end c.args.end.now c.split_canonical_prefix.result.0.now c.split_canonical_prefix.result.1.now _ _ [] _ _ c.split_canonical_prefix.ensures.whole
    c.split_canonical_prefix.ensures.front.inside c.split_at_delimiter.ensures.front (c.without_delimiter.ensures ∙ ap part c.split_at_delimiter.ensures.rest) refl refl)
    (appends_both _ _ _ _ _ _ _ _ (appends_both _ _ _ _ _ _ _ _ c.append-len.ensures.appends c.append_escaped-len.ensures.appends)
    c.append_following.ensures.appends)

pub returns-clause-rest : goal.returns-clause-rest
returns-clause-rest c =
    leaves_both _ _ _ _ _ _ (leaves_both _ _ _ _ _ _ c.append-len.ensures.rest c.append_escaped-len.ensures.rest) c.append_following.ensures.rest
