use Rattle.std.proofs.Common.{◌≡◌, ap, sym, subst, rules}
use Rattle.std.specs.Prelude.{IfSome, string_bytes}
use Rattle.uriparse_reference.specs.OwnedText.{AreOffsets, IsReference}
use Rattle.uriparse_reference.specs.View.{Viewed}
use Rattle.uriparse_reference.proofs.lemmas.reading.TextEditLemmas.{cut_point, cut_stands}
use Rattle.uriparse_reference.proofs.uri_reference.text.ReferenceText.remove_fragment.Goals as goal

pub truncate-requires : goal.truncate-requires
truncate-requires c = λ short.
    cut_point _ c.as_view.result c.args.self.now c.self.view_is c.as_view.ensures.view c.as_view.ensures.spelled c.len_before_fragment-len.result
    c.len_before_fragment-len.ensures.within

pub known_offsets-self-inside-requires : goal.known_offsets-self-inside-requires
known_offsets-self-inside-requires c =
    let same : c.as_bytes.result.now ≡ string_bytes c.truncate.new.self = search rules in
    let is = (cut_stands _ c.as_view.result c.args.self.now c.self.view_is c.as_view.ensures.view c.as_view.ensures.spelled c.len_before_fragment-len.result
    (string_bytes c.truncate.new.self) c.truncate.ensures.bytes c.len_before_fragment-len.ensures.text) in
    subst IsReference (sym same) is.0

pub invariant_of-self : goal.invariant_of-self
invariant_of-self c =
    let same : c.as_bytes.result.now ≡ string_bytes c.truncate.new.self = search rules in
    let is = (cut_stands _ c.as_view.result c.args.self.now c.self.view_is c.as_view.ensures.view c.as_view.ensures.spelled c.len_before_fragment-len.result
    (string_bytes c.truncate.new.self) c.truncate.ensures.bytes c.len_before_fragment-len.ensures.text) in
    (is.0, subst (λ t. IfSome c.known_offsets-self-inside.result (λ x. AreOffsets t x)) same c.known_offsets-self-inside.ensures)

pub returns-clause-parts : goal.returns-clause-parts
returns-clause-parts c =
    let is = (cut_stands _ c.as_view.result c.args.self.now c.self.view_is c.as_view.ensures.view c.as_view.ensures.spelled c.len_before_fragment-len.result
    (string_bytes c.truncate.new.self) c.truncate.ensures.bytes c.len_before_fragment-len.ensures.text) in
    ap (λ (v : Viewed). v.parts) is.1
