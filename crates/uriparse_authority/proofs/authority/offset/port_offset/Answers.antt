use Rattle.std.proofs.Common.{length, ap, ◌∙◌, sym}
use Rattle.std.specs.Prelude.{unwrap_or}
use Rattle.uriparse_text.proofs.lemmas.readings.CutLemmas.{offset_or_length}
use Rattle.uriparse_authority.specs.Offset.{port_offset}
use Rattle.uriparse_authority.specs.Port.{is_other}
use Rattle.uriparse_authority.proofs.authority.offset.port_offset.Goals as goal

pub returns-in-InvalidCharacter-clause-offset : goal.returns-in-InvalidCharacter-clause-offset
returns-in-InvalidCharacter-clause-offset c =
    let text = c.args.text.now in
    c.unwrap_or.ensures ∙ ap (λ o. unwrap_or o (length text)) c.other_in_port.ensures ∙ offset_or_length is_other text
    ∙ sym (ap (λ e. port_offset e text) c.in-InvalidCharacter.is)
