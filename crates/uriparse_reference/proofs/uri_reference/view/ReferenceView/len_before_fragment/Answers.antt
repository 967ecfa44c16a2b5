use Rattle.std.proofs.Common.{◌≡◌, ◌-◌, ◌∙◌, length, take, sym, ap, subst, arith, rules}
use Rattle.std.specs.Prelude.{None}
use Rattle.uriparse_reference.specs.Reference.{Spells}
use Rattle.uriparse_reference.specs.TextEdits.{with_fragment}
use Rattle.uriparse_reference.proofs.lemmas.reading.TextEditLemmas.{fragment_cut}
use Rattle.uriparse_reference.proofs.uri_reference.view.ReferenceView.len_before_fragment.Goals as goal

pub returns-clause-text : goal.returns-clause-text
returns-clause-text c =
    let p = c.args.self.now.parts in
    let same : c.as_bytes-text.result.now ≡ c.args.self.now.text = search rules in
    ap (λ t. take (length c.as_bytes-text.result.now - c.prepend_query_and_fragment-len.result) t) (sym same)
    ∙ (fragment_cut c.as_bytes-text.result.now p (subst (λ t. Spells t p) (sym same) c.as_str.ensures.spelled) c.fragment.result c.fragment.ensures
    c.prepend_query_and_fragment-len.new.out c.prepend_query_and_fragment-len.result c.prepend_query_and_fragment-len.ensures.ends (omega arith)).1
    ∙ ap (λ t. with_fragment t None) same
