use Rattle.std.proofs.Common.{◌≡◌, ◌∙◌, sym, ap, subst, arith, rules}
use Rattle.std.specs.Prelude.{None}
use Rattle.uriparse_reference.specs.Reference.{Spells}
use Rattle.uriparse_reference.specs.TextEdits.{with_end}
use Rattle.uriparse_reference.proofs.lemmas.reading.TextEditLemmas.{front_cut}
use Rattle.uriparse_reference.proofs.uri_reference.view.ReferenceView.without_end.Goals as goal

pub returns : goal.returns
returns c =
    let p = c.args.self.now.parts in
    let same : c.as_bytes-text.result.now ≡ c.args.self.now.text = search rules in
    (front_cut c.as_bytes-text.result.now p (subst (λ t. Spells t p) (sym same) c.as_str.ensures.spelled) c.query.result c.fragment.result
    c.query.ensures c.fragment.ensures c.prepend_query_and_fragment-len.new.out c.prepend_query_and_fragment-len.result c.prepend_query_and_fragment-len.ensures.ends (omega arith)).1
    ∙ ap (λ t. with_end t None None) same
