use Rattle.std.proofs.Common.{◌≡◌, ◌+◌, ◌-◌, ◌++◌, ◌∷◌, [], None, Some, sym, ap, subst, ◌∙◌, arith}
use Rattle.std.specs.Option.{option_copied}
use Rattle.uriparse_text.specs.Cuts.{after, before, part}
use Rattle.uri_commands.specs.Columns.{AreFields, tab}
use Rattle.uri_commands.proofs.ColumnLemmas.{fields-more, too_few, whole-more}
use Rattle.uri_commands.proofs.columns.split_fields.Goals as goal

pub returns-in_default : goal.returns-in_default
returns-in_default c =
    let front = c.fields.invariant.front in
    let none : after tab c.fields.rest.now ≡ None =
    sym (c.without_delimiter.ensures ∙ ap part c.split_at_delimiter.ensures.rest) ∙ ap option_copied c.in_default.is in
    too_few c.args.line.now front.0 c.fields.rest.now (c.args.count - c.fields.left) c.args.count front.1 front.2 none
    (omega (arith, c.fields.invariant.within, c.fields-test.true))

pub fields-preserved : goal.fields-preserved
fields-preserved c =
    let front = c.fields.invariant.front in
    let rest = c.fields.rest.now in
    let some : after tab rest ≡ Some c.in-Some.later.now =
    sym (c.without_delimiter.ensures ∙ ap part c.split_at_delimiter.ensures.rest) ∙ ap option_copied c.in-Some.is in
    let more : c.args.count - c.fields.left + 1 ≡ c.args.count - (c.fields.left - 1) = omega
    (arith, c.fields.invariant.within, c.fields-test.true) in
    record {
      within = omega (arith, c.fields.invariant.within);
      front = (
        front.0 ++ (before tab rest ++ tab ∷ []),
        whole-more c.args.line.now front.0 rest c.in-Some.later.now front.1 some,
        subst (λ n. AreFields n (front.0 ++ (before tab rest ++ tab ∷ []))) more
            (fields-more (c.args.count - c.fields.left) front.0 rest c.in-Some.later.now front.2 some),
      );
    }
