use Rattle.std.proofs.Common.{◌≡◌, ◌∙◌, ap, sym, rules}
use Rattle.std.specs.Prelude.{string_bytes}
use Rattle.uriparse_reference.specs.Normal.{normal}
use Rattle.uriparse_reference.specs.Reference.{print}
use Rattle.uriparse_reference.specs.View.{Viewed}
use Rattle.uriparse_reference.proofs.lemmas.reading.OwnedTextLemmas.{stands}
use Rattle.uriparse_reference.proofs.lemmas.reading.ReadBackLemmas.{normal_parts}
use Rattle.uriparse_reference.proofs.uri_reference.text.ReferenceText.normalize.Goals as goal

pub returns-in-Some-clause-parts : goal.returns-in-Some-clause-parts
returns-in-Some-clause-parts c reads =
    let p = c.args.self.now.parts in
    let same : string_bytes c.in-Some.text ≡ print (normal p) = search rules in
    ap (λ (v : Viewed). v.parts) c.checked_text.ensures
    ∙ normal_parts c.args.self.now.text (string_bytes c.in-Some.text) p c.other_normal_text.ensures.spelled same reads

pub returns-in_default-clause-parts : goal.returns-in_default-clause-parts
returns-in_default-clause-parts c reads =
    let t = c.args.self.now.text in
    let p = c.args.self.now.parts in
    let s = c.other_normal_text.ensures.spelled in
    let same : print (normal p) ≡ t = search rules in
    sym (stands t p s).1 ∙ normal_parts t t p s (sym same) reads
