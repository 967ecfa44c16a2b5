use Rattle.std.proofs.Common.{[], refl, ap, subst, ◌∙◌}
use Rattle.uriparse_text.specs.Starts.{StartsWith}
use Rattle.uriparse_text.proofs.lemmas.tokens.StartLemmas.{leaves_both, starts_none}
use Rattle.uriparse_reference.specs.Cuts.{cut_authority, without_authority}
use Rattle.uriparse_reference.proofs.lemmas.reading.EscapedEndLemmas.{pushed}
use Rattle.uriparse_reference.proofs.uri_reference.escape.write.write_components.Goals as goal

pub returns-clause-starts : goal.returns-clause-starts
returns-clause-starts c =
    subst (StartsWith c.append_end.new.out c.append_end.result)
    (pushed c.args.text.now [] _ _ _ _ _ c.split_scheme-cut.ensures.scheme
    (c.split_authority.ensures.authority ∙ ap cut_authority c.split_scheme-cut.ensures.rest)
    (c.split_authority.ensures.rest ∙ ap without_authority c.split_scheme-cut.ensures.rest) refl refl)
    (c.append_end.ensures.appends _ (c.append_authority-len.ensures.appends _ (c.append_scheme-len.ensures.appends _ (starts_none c.args.out.now))))

pub returns-clause-rest : goal.returns-clause-rest
returns-clause-rest c =
    leaves_both _ _ _ _ _ _ (leaves_both _ _ _ _ _ _ c.append_scheme-len.ensures.rest c.append_authority-len.ensures.rest) c.append_end.ensures.rest
