use Rattle.std.proofs.Common.{◌≡◌, ◌∙◌, ap, sym, subst}
use Rattle.std.specs.Prelude.{IfOk, IfSome, string_bytes}
use Rattle.uriparse_text.specs.Fragment.{IsFragment}
use Rattle.uriparse_reference.specs.TextEdits.{with_end}
use Rattle.uriparse_reference.specs.View.{Viewed}
use Rattle.uriparse_reference.proofs.lemmas.reading.TextEditLemmas.{query_end, query_set}
use Rattle.uriparse_reference.proofs.uri_reference.text.ReferenceText.with_query.Goals as goal

pub with_end-requires-clause-fragment : goal.with_end-requires-clause-fragment
with_end-requires-clause-fragment c =
    subst (λ o. IfSome o IsFragment) (sym (c.fragment.ensures ∙ ap (λ (v : Viewed). v.parts.fragment) c.as_view-view.ensures.view)) c.as_view-view.ensures.spelled.is_fragment

pub returns-clause-text : goal.returns-clause-text
returns-clause-text c =
    let t = c.args.self.now.text in
    let p = c.args.self.now.parts in
    let same = c.as_view-view.ensures.view in
    subst (λ u. IfOk c.with_end.result (λ s. string_bytes s ≡ u))
    (ap (λ (v : Viewed). with_end v.text c.args.query.now c.fragment.result) same
    ∙ query_end t p c.as_view-view.ensures.spelled c.args.query.now c.fragment.result (c.fragment.ensures ∙ ap (λ (v : Viewed). v.parts.fragment) same))
    c.with_end.ensures

pub returns-clause-spelled : goal.returns-clause-spelled
returns-clause-spelled c = query_set c.args.self.now.text c.args.self.now.parts c.as_view-view.ensures.spelled c.args.query.now c.requires
