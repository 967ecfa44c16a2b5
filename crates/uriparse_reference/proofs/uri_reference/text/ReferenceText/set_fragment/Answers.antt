use Rattle.std.proofs.Common.{◌∙◌, ap, sym}
use Rattle.std.specs.Prelude.{Ok, string_bytes}
use Rattle.uriparse_reference.specs.TextEdits.{with_fragment}
use Rattle.uriparse_reference.specs.View.{Viewed}
use Rattle.uriparse_reference.proofs.lemmas.reading.TextEditLemmas.{made_stands}
use Rattle.uriparse_reference.proofs.uri_reference.text.ReferenceText.set_fragment.Goals as goal

pub checked_text-requires : goal.checked_text-requires
checked_text-requires c =
    let p = c.args.self.now.parts in
    (made_stands (string_bytes c.in_ok-with_fragment.field-0) (with_fragment c.args.self.now.text c.args.fragment) (record p { fragment = c.args.fragment })
    c.with_fragment.ensures.spelled c.in_ok-with_fragment.ensures.text).0

pub returns-clause-parts : goal.returns-clause-parts
returns-clause-parts c =
    let p = c.args.self.now.parts in
    let made =
    made_stands (string_bytes c.in_ok-with_fragment.field-0) (with_fragment c.args.self.now.text c.args.fragment) (record p { fragment = c.args.fragment })
    c.with_fragment.ensures.spelled c.in_ok-with_fragment.ensures.text in
    ap Ok (sym (ap (λ (v : Viewed). v.parts) (c.checked_text.ensures ∙ made.1)))
