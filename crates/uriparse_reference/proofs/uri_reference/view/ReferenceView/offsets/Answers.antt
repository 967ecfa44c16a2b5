use Rattle.std.proofs.Common.{◌≡◌, ◌==◌, ◌-◌, ℕ, cond, length, refl, rules}
use Rattle.uriparse_reference.specs.declared.uri_reference.view.offsets.Offsets.{Offsets}
use Rattle.uriparse_reference.specs.OwnedText.{AreOffsets}
use Rattle.uriparse_reference.proofs.lemmas.reading.OwnedTextLemmas.{offsets_are}
use Rattle.uriparse_reference.proofs.uri_reference.view.ReferenceView.offsets.Goals as goal

pub returns : goal.returns
returns c =
    let inside = c.self.inside in
    let tail = c.self.inside.pieces.tail in
    let has_query : ℕ = c.words-has_query.result.0 in
    let has_fragment : ℕ = c.words-has_fragment.result.0 in
    let offsets : Offsets =
    record {
      scheme = c.in_ok-narrow.field-0;
      path = c.in_ok-narrow-2.field-0;
      query = c.in_ok-narrow-3.field-0;
      fragment = c.in_ok-narrow-4.field-0;
      count = c.in_ok-narrow-5.field-0;
      name = c.in_ok-narrow-6.field-0;
      port = c.authority_words-authority_kind.result.2;
      known = c.self.inside.pieces.known;
      authority_kind = c.authority_words-authority_kind.result.0;
      has_query = c.words-has_query.result.0;
      has_fragment = c.words-has_fragment.result.0;
      escaped = c.from.result;
    } in
    let fragment : offsets.fragment ≡ cond (has_fragment == 0) (length inside.text.now) (length inside.text.now - c.words-has_fragment.result.1 - 1) = search rules in
    let query : offsets.query ≡ cond (has_query == 0) offsets.fragment (offsets.fragment - c.words-has_query.result.1 - 1) = search rules in
    let path : offsets.path ≡ offsets.query - length tail.path.now = search rules in
    let scheme : offsets.scheme ≡ length inside.pieces.scheme.now = search rules in
    let count : offsets.count ≡ tail.count = search rules in
    let name : offsets.name ≡ c.authority_words-authority_kind.result.1 = search rules in
    let escaped : offsets.escaped ≡ 0 → tail.escaped ≡ 0 = search rules in
    let are : AreOffsets inside.text.now offsets =
    offsets_are inside.text.now inside.pieces.scheme.now inside.pieces.known inside.pieces.authority tail.path.now tail.count tail.escaped tail.query tail.fragment
    c.self.invariant has_query c.words-has_query.result.1 c.words-has_query.ensures has_fragment c.words-has_fragment.result.1
    c.words-has_fragment.ensures c.authority_words-authority_kind.result.0 c.authority_words-authority_kind.result.1 c.authority_words-authority_kind.result.2 c.authority_words-authority_kind.ensures offsets
    fragment query path scheme count name refl refl refl refl refl escaped in
    search rules
