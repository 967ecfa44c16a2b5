use Rattle.std.proofs.Common.{◌≡◌, ◌+◌, true, drop, get_or, sym, ap, ◌∙◌}
use Rattle.std.proofs.lemmas.List.{take_rest}
use Rattle.uriparse_text.specs.Tokens.{is_escape}
use Rattle.uriparse_text.proofs.lemmas.canonical.RaiseLemmas.{digits_raised, fewer_changed}
use Rattle.uriparse_text.proofs.internal.canonical_escape.raise.Goals as goal

escape : (c : goal.After-to_ascii_uppercase-then-is_escape) → is_escape (get_or c.args.text.now c.args.at 0) (drop (c.args.at + 1) c.args.text.now) ≡ true
escape c =
    ap (is_escape (get_or c.args.text.now c.args.at 0)) (sym (take_rest c.args.text.now (c.args.at + 1)))
    ∙ sym c.is_escape.ensures ∙ c.if-is_escape.true

pub returns-then-is_escape-clause-raises : goal.returns-then-is_escape-clause-raises
returns-then-is_escape-clause-raises c =
    digits_raised c.args.text.now c.args.at (escape c) _ _ c.to_ascii_uppercase.ensures.value c.to_ascii_uppercase-then-is_escape.ensures.value

pub returns-then-is_escape-clause-fewer : goal.returns-then-is_escape-clause-fewer
returns-then-is_escape-clause-fewer c =
    fewer_changed c.args.text.now c.args.at (escape c) _ _ c.to_ascii_uppercase.ensures.value c.to_ascii_uppercase-then-is_escape.ensures.value c.requires
