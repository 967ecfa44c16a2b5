use Rattle.std.proofs.Common.{◌≡◌, ◌++◌, IsUtf8, sym, ap, subst, ◌∙◌}
use Rattle.uriparse_text.specs.Tokens.{is_well_formed}
use Rattle.uriparse_reference.specs.Escaped.{escaped}
use Rattle.uriparse_reference.specs.Reading.{fault}
use Rattle.uriparse_reference.proofs.lemmas.reading.EscapedLemmas.{utf8-escaped, escaped_again, faultless_stays, fault-escaped}
use Rattle.uriparse_reference.proofs.lemmas.reading.EscapedTokenLemmas.{escaped_well_formed}
use Rattle.uriparse_reference.proofs.uri_reference.escape.escape_invalid.Goals as goal

pub from_utf8_unchecked-requires : goal.from_utf8_unchecked-requires
from_utf8_unchecked-requires c =
    let is : c.push_components.new.escaped.items ≡ escaped c.args.text.now =
    c.in_ok-push_components.ensures ∙ ap (λ l. l ++ escaped c.args.text.now) c.in_ok-escaped.ensures.items in
    subst IsUtf8 (sym is) (utf8-escaped c.args.text.now)

pub returns-clause-text : goal.returns-clause-text
returns-clause-text c =
    ap (λ v. v.items) c.from_utf8_unchecked.ensures.value ∙ c.in_ok-push_components.ensures
    ∙ ap (λ l. l ++ escaped c.args.text.now) c.in_ok-escaped.ensures.items

pub returns-clause-kept : goal.returns-clause-kept
returns-clause-kept c = λ none. returns-clause-text c ∙ faultless_stays c.args.text.now none

pub returns-clause-again : goal.returns-clause-again
returns-clause-again c =
    ap escaped (returns-clause-text c) ∙ escaped_again c.args.text.now ∙ sym (returns-clause-text c)

pub returns-clause-formed : goal.returns-clause-formed
returns-clause-formed c =
    ap is_well_formed (returns-clause-text c) ∙ escaped_well_formed c.args.text.now

pub returns-clause-left : goal.returns-clause-left
returns-clause-left c = ap fault (returns-clause-text c) ∙ fault-escaped c.args.text.now
