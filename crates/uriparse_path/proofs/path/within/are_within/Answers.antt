use Rattle.std.proofs.Common.{sym, ◌∙◌, arith}
use Rattle.std.proofs.lemmas.Bool.{false≢true}
use Rattle.uriparse_path.proofs.lemmas.left.PathWithinLemmas.{directory_iff, none_left, same_left, within_alone, within_directory, within_from}
use Rattle.uriparse_path.proofs.path.within.are_within.Goals as goal

pub returns-then-not-has_directory : goal.returns-then-not-has_directory
returns-then-not-has_directory g c =
    let iff = directory_iff _ _ _ c.has_directory.result (same_left _ _ _ _ _ _ c.again.ensures) c.has_directory.ensures in (
      λ h. absurd (false≢true h),
      λ w. absurd (false≢true (sym c.if-not-has_directory.true ∙ iff.1 (within_directory _ _ _ c.in-Some.last c.in-Some.ensures.cut w))),
    )

pub returns-then-has_slash : goal.returns-then-has_slash
returns-then-has_slash g c =
    let iff = directory_iff _ _ _ c.has_directory.result (same_left _ _ _ _ _ _ c.again.ensures) c.has_directory.ensures in
    let some = c.is_some-has_slash.ensures.0 c.if-has_slash.true in (
      λ h. within_from _ _ _ c.in-Some.last c.in-Some.ensures.cut (iff.0 c.if-not-has_directory.false) (λ none. absurd (omega (arith, some, none))),
      λ w. c.if-has_slash.true,
    )

pub returns-else-has_slash : goal.returns-else-has_slash
returns-else-has_slash g c =
    let iff = directory_iff _ _ _ c.has_directory.result (same_left _ _ _ _ _ _ c.again.ensures) c.has_directory.ensures in
    let none = none_left _ c.is_some-has_slash.result c.is_some-has_slash.ensures c.if-has_slash.false in (
      λ h. within_from _ _ _ c.in-Some.last c.in-Some.ensures.cut (iff.0 c.if-not-has_directory.false) (λ _. c.are_equal.ensures.0 h),
      λ w. c.are_equal.ensures.1 (within_alone _ _ _ c.in-Some.last c.in-Some.ensures.cut w none),
    )
