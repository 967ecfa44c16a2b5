use Rattle.std.proofs.Common.{◌≡◌, ◌+◌, ◌++◌, sym, ap, subst, ◌∙◌, arith, length, length-append, take, drop}
use Rattle.uriparse_text.specs.Cuts.{before, from_first}
use Rattle.uri_commands.specs.Columns.{IsCut, is_tab, tab}
use Rattle.uri_commands.proofs.ColumnLemmas.{cut_text, text_len, text_parts}
use Rattle.uri_commands.proofs.columns.cut_line.Goals as goal

pub split_at-requires : goal.split_at-requires
split_at-requires c =
    let begun = c.in-Some-split_fields.begun.now in
    let last = c.in-Some-split_fields.last.now in
    let cut : c.in-Some.rest.now ≡ begun ++ last = c.in-Some-split_fields.ensures.0 in
    let field : c.split_at_delimiter.result.0.now ≡ before tab last = c.split_at_delimiter.ensures.front in
    omega (arith, text_len c.in-Some.rest.now begun last cut, ap length field)

pub returns : goal.returns
returns c =
    let line = c.args.line.now in
    let front = c.in-Some.front.now in
    let rest = c.in-Some.rest.now in
    let begun = c.in-Some-split_fields.begun.now in
    let last = c.in-Some-split_fields.last.now in
    let cut : rest ≡ begun ++ last = c.in-Some-split_fields.ensures.0 in
    let len : length begun + length c.split_at_delimiter.result.0.now ≡ length (begun ++ before tab last) =
    ap (λ u. length begun + length u) c.split_at_delimiter.ensures.front ∙ sym (length-append begun (before tab last)) in
    let parts = text_parts rest begun last cut in
    let text : c.split_at.result.0.now ≡ begun ++ before tab last = c.split_at.ensures.front ∙ ap (λ n. take n rest) len ∙ parts.0 in
    let back : c.split_at.result.1.now ≡ from_first is_tab last = c.split_at.ensures.back ∙ ap (λ n. drop n rest) len ∙ parts.1 in
    subst (λ u. IsCut c.args.skipped c.args.width line front u c.split_at.result.1.now) (sym text)
    (subst (λ u. IsCut c.args.skipped c.args.width line front (begun ++ before tab last) u) (sym back)
    (cut_text c.args.skipped c.args.width line front rest begun last c.requires c.in-Some.ensures.0 c.in-Some.ensures.1 cut
    c.in-Some-split_fields.ensures.1))
