use Rattle.std.proofs.Common.{◌≡◌, true, false, drop, sym, ap, ◌∙◌}
use Rattle.uriparse_path.specs.Path.{starts_with_empty_segment}
use Rattle.uriparse_path.proofs.lemmas.text.PathTextLemmas.{spelled-text, respelled_shown, respelled_absolute, respelled_hidden}
use Rattle.uriparse_path.proofs.path.start.respell.Goals as goal

pub returns-then-not-starts_with_empty_segment : goal.returns-then-not-starts_with_empty_segment
returns-then-not-starts_with_empty_segment c =
    let shown : starts_with_empty_segment c.args.path.now.segments ≡ false = ap starts_with_empty_segment (sym c.segments.ensures.value) ∙ sym c.starts_with_empty_segment.ensures
    ∙ c.if-not-starts_with_empty_segment.true in
    sym (spelled-text c.args.path.now c.segments.ensures.listed ∙ respelled_shown c.args.path.now shown)

pub returns-then-is_absolute : goal.returns-then-is_absolute
returns-then-is_absolute c =
    sym (spelled-text c.args.path.now c.segments.ensures.listed ∙ respelled_absolute c.args.path.now (sym c.is_absolute.ensures ∙ c.if-is_absolute.true))

pub returns : goal.returns
returns c =
    let hidden : starts_with_empty_segment c.args.path.now.segments ≡ true = ap starts_with_empty_segment (sym c.segments.ensures.value) ∙ sym c.starts_with_empty_segment.ensures
    ∙ c.if-not-starts_with_empty_segment.false in
    ap (λ l. record { absolute = true; segments = l }) (c.remove_first.ensures ∙ ap (λ q. drop 1 q.segments) c.path.view_is)
    ∙ sym (spelled-text c.args.path.now c.segments.ensures.listed
    ∙ respelled_hidden c.args.path.now hidden (sym c.is_absolute.ensures ∙ c.if-is_absolute.false))
