use Rattle.std.proofs.Common.{◌≡◌, ap, subst, ◌∙◌}
use Rattle.std.specs.Prelude.{OnOk}
use Rattle.uriparse_text.specs.Cuts.{part}
use Rattle.uriparse_reference.proofs.lemmas.reading.EscapedEndLemmas.{pushed_end}
use Rattle.uriparse_reference.proofs.uri_reference.escape.push_end.Goals as goal

pub returns : goal.returns
returns c =
    subst (λ u. OnOk c.push_following.result (c.push_following.new.escaped.items ≡ u))
    (pushed_end c.args.end.now c.split_canonical_prefix.result.0.now c.split_canonical_prefix.result.1.now _ _ c.args.escaped.now.items _ _ c.split_canonical_prefix.ensures.whole
    c.split_canonical_prefix.ensures.front.inside c.split_at_delimiter.ensures.front (c.without_delimiter.ensures ∙ ap part c.split_at_delimiter.ensures.rest)
    c.in_ok-extend_from_slice.ensures.items c.in_ok-push_escaped.ensures)
    c.push_following.ensures
