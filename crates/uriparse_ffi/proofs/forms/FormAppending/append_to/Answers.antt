use Rattle.std.proofs.Common.{◌≡◌, ◌∷◌, [], List, ℕ, ap, arith, length, refl, ◌∙◌, rules}
use Rattle.uriparse_text.specs.Coding.{form_decoded}
use Rattle.uriparse_text.proofs.lemmas.tokens.CodingLemmas.{form_decoded-nil}
use Rattle.uriparse_text.proofs.lemmas.tokens.StartLemmas.{writing_last, writing_next}
use Rattle.uriparse_ffi.proofs.forms.FormAppending.append_to.Goals as goal

nothing : (t : List ℕ) → length t ≡ 0 → t ≡ []
nothing [] e = refl
nothing (b ∷ t) e = absurd (omega (arith, e))

pub loop-b-preserved : goal.loop-b-preserved
loop-b-preserved c =
    let front : c.loop-b.rest.now ≡ c.in-Some.field-0-0.now ∷ c.in-Some.after.now = search rules in
    writing_next _ _ (form_decoded c.split_byte-byte.result.1.now) (c.split_byte-byte.result.0 ∷ []) _ _ _ _ _ _ c.loop-b.invariant
    (ap form_decoded front ∙ c.split_byte-byte.ensures.cut) c.append-total.ensures.appends c.append-total.ensures.room c.append-total.ensures.rest

pub returns-clause-appends : goal.returns-clause-appends
returns-clause-appends c =
    let none : length c.loop-b.rest.now ≡ 0 = search rules in
    writing_last _ _ _ _ _ _ c.loop-b.invariant (form_decoded-nil c.loop-b.rest.now (nothing c.loop-b.rest.now none))
