use Rattle.std.proofs.Common.{ap, sym, ◌∙◌}
use Rattle.std.specs.Option.{option_and_then}
use Rattle.std.specs.Str.Parse.{without_leading_plus}
use Rattle.uri_commands.specs.Options.{fields_before}
use Rattle.uri_commands.proofs.OptionLemmas.{numbered, preceded}
use Rattle.uri_commands.proofs.options.read_column.Goals as goal

pub returns-in_err-ok : goal.returns-in_err-ok
returns-in_err-ok c =
    let number = sym (numbered (without_leading_plus c.args.number.now) c.parse.result c.parse.ensures.value.0) ∙ sym c.ok.ensures.value ∙ c.in_err-ok.was in
    c.from_residual.ensures ∙ sym (ap (option_and_then fields_before) number)

pub returns : goal.returns
returns c =
    let number = sym (numbered (without_leading_plus c.args.number.now) c.parse.result c.parse.ensures.value.0) ∙ sym c.ok.ensures.value ∙ c.in_ok-ok.was in
    preceded c.in_ok-ok.field-0 c.checked_sub.result c.checked_sub.ensures ∙ sym (ap (option_and_then fields_before) number)
