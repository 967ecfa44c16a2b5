-- What the calls report on which readers may disagree.
use Rattle.std.specs.Prelude.{ℕ, ◌+◌, if◌then◌else◌, is_some}
use Rattle.uriparse_reference.specs.Reference.{Parts}
use Rattle.uriparse.specs.Disagreement.{disagrees}
use Rattle.uriparse.specs.declared.uri.disagreement.Disagreement.TheVariants as reasons
use Rattle.uriparse_ffi.specs.Checks.{flag}

-- the sum of a flag for each reason for which readers may disagree on a URI; a relative reference has no scheme, and that flag alone
abbrev pub disagreement_flags : Parts → ℕ
disagreement_flags p =
    if is_some p.scheme
    then flag 1 (disagrees reasons.Scheme p) + flag 2 (disagrees reasons.NoHost p) + flag 4 (disagrees reasons.LaterAddress p)
    + flag 8 (disagrees reasons.EscapedName p) + flag 16 (disagrees reasons.NumericName p) + flag 32 (disagrees reasons.EncodedName p)
    + flag 64 (disagrees reasons.EscapedDots p) + flag 128 (disagrees reasons.UserInformation p)
    else 1
