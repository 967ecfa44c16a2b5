use Rattle.std.proofs.Common.{◌≡◌, ℕ, List, [], ◌∷◌, ◌++◌, length, refl, sym, ap, ◌∙◌, arith}
use Rattle.std.specs.Prelude.{slice_index}
use Rattle.std.specs.Option.{option_copied}
use Rattle.std.proofs.Output.{has_written_styled_append, has_written_styled_of_eq}
use Rattle.uriparse_text.specs.Cuts.{following}
use Rattle.uriparse_reference.proofs.uri_reference.print.write_after.Goals as goal

one_byte : (mark : List ℕ) → length mark ≡ 1 → mark ≡ slice_index mark 0 ∷ []
one_byte [] h = absurd (omega (arith, h))
one_byte (b ∷ []) h = refl
one_byte (b ∷ c ∷ t) h = absurd (omega (arith, h))

pub returns-in_ok-write_str-2-clause-styled : goal.returns-in_ok-write_str-2-clause-styled
returns-in_ok-write_str-2-clause-styled g c flush ok =
    let first = c.in_ok-write_str.ensures.styled flush refl in
    let second = c.in_ok-write_str-2.ensures.styled first.flush refl in
    has_written_styled_of_eq _ _ _ _ _
    (ap (λ m. m ++ c.in-Some.text.now) (one_byte c.args.mark.now c.requires)
    ∙ sym (ap (λ o. following (slice_index c.args.mark.now 0) (option_copied o)) c.in-Some.is))
    (has_written_styled_append _ _ _ _ _ _ first second)
