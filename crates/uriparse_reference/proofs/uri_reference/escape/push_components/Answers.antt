use Rattle.std.proofs.Common.{◌≡◌, ap, subst, ◌∙◌}
use Rattle.std.specs.Prelude.{OnOk}
use Rattle.uriparse_reference.specs.Cuts.{cut_authority, without_authority}
use Rattle.uriparse_reference.proofs.lemmas.reading.EscapedEndLemmas.{pushed}
use Rattle.uriparse_reference.proofs.uri_reference.escape.push_components.Goals as goal

pub returns : goal.returns
returns c =
    subst (λ u. OnOk c.push_end.result (c.push_end.new.escaped.items ≡ u))
    (pushed c.args.text.now c.args.escaped.now.items _ _ _ _ _ c.split_scheme-cut.ensures.scheme
    (c.split_authority.ensures.authority ∙ ap cut_authority c.split_scheme-cut.ensures.rest)
    (c.split_authority.ensures.rest ∙ ap without_authority c.split_scheme-cut.ensures.rest) c.in_ok-push_scheme.ensures c.in_ok-push_authority.ensures)
    c.push_end.ensures
