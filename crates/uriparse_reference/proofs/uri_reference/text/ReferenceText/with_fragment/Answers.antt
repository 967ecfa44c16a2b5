use Rattle.std.proofs.Common.{◌≡◌, ◌∙◌, ap, sym, subst}
use Rattle.std.specs.Prelude.{IfOk, IfSome, string_bytes}
use Rattle.uriparse_text.specs.Query.{IsQuery}
use Rattle.uriparse_reference.specs.TextEdits.{with_end}
use Rattle.uriparse_reference.specs.View.{Viewed}
use Rattle.uriparse_reference.proofs.lemmas.reading.TextEditLemmas.{fragment_end, fragment_set}
use Rattle.uriparse_reference.proofs.uri_reference.text.ReferenceText.with_fragment.Goals as goal

pub with_end-requires-clause-query : goal.with_end-requires-clause-query
with_end-requires-clause-query c =
    subst (λ o. IfSome o IsQuery) (sym (c.query.ensures ∙ ap (λ (v : Viewed). v.parts.query) c.as_view-view.ensures.view)) c.as_view-view.ensures.spelled.is_query

pub returns-clause-text : goal.returns-clause-text
returns-clause-text c =
    let t = c.args.self.now.text in
    let p = c.args.self.now.parts in
    let same = c.as_view-view.ensures.view in
    subst (λ u. IfOk c.with_end.result (λ s. string_bytes s ≡ u))
    (ap (λ (v : Viewed). with_end v.text c.query.result c.args.fragment.now) same
    ∙ fragment_end t p c.as_view-view.ensures.spelled c.query.result c.args.fragment.now (c.query.ensures ∙ ap (λ (v : Viewed). v.parts.query) same))
    c.with_end.ensures

pub returns-clause-spelled : goal.returns-clause-spelled
returns-clause-spelled c = fragment_set c.args.self.now.text c.args.self.now.parts c.as_view-view.ensures.spelled c.args.fragment.now c.requires
