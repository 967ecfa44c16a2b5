use Rattle.std.proofs.Common.{◌≡◌, None, Some, sym, ◌∙◌, rules}
use Rattle.uriparse_text.specs.Cuts.{from_first}
use Rattle.uriparse_scheme.specs.Cuts.{after_colon, ends_scheme}
use Rattle.uriparse_scheme.proofs.lemmas.schemes.CutLemmas.{cut_there, uncut_there, uncut_nowhere}
use Rattle.uriparse_scheme.proofs.scheme.split.split_any_scheme.Goals as goal

pub returns-in_default : goal.returns-in_default
returns-in_default c =
    let none : after_colon (from_first ends_scheme c.args.text.now) ≡ None = search rules in
    let cut = uncut_nowhere c.args.text.now none in
    record { scheme = cut.scheme; known = tt; rest = cut.rest; colon = cut.colon }

pub returns-else-is_scheme : goal.returns-else-is_scheme
returns-else-is_scheme c =
    let some : after_colon (from_first ends_scheme c.args.text.now) ≡ Some c.in-Some.following.now = search rules in
    let cut = uncut_there c.args.text.now c.split_at_scheme_end.result.0.now c.in-Some.following.now some c.split_at_scheme_end.ensures.front
    (sym c.is_scheme.ensures ∙ c.if-is_scheme.false) in
    record { scheme = cut.scheme; known = tt; rest = cut.rest; colon = cut.colon }

pub returns-then-is_scheme : goal.returns-then-is_scheme
returns-then-is_scheme c =
    let some : after_colon (from_first ends_scheme c.args.text.now) ≡ Some c.in-Some.following.now = search rules in
    let cut = cut_there c.args.text.now c.split_at_scheme_end.result.0.now c.in-Some.following.now some c.split_at_scheme_end.ensures.front
    (sym c.is_scheme.ensures ∙ c.if-is_scheme.true) in
    record { scheme = cut.scheme; known = tt; rest = cut.rest; colon = cut.colon }
