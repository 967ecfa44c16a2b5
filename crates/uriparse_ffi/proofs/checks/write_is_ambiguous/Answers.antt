use Rattle.std.proofs.Common.{refl, ◌∙◌}
use Rattle.uriparse_text.specs.declared.internal.class.Class.TheVariants.{Segment}
use Rattle.uriparse_text.specs.Segment.{error_of}
use Rattle.uriparse_text.proofs.lemmas.readings.ReadingLemmas.{exact_in}
use Rattle.uriparse_ffi.proofs.lemmas.TextLemmas.{no_ok}
use Rattle.uriparse_ffi.proofs.checks.write_is_ambiguous.Goals as goal

pub returns-in-Err-clause-checked : goal.returns-in-Err-clause-checked
returns-in-Err-clause-checked c = λ is.
    absurd (no_ok c.in-Err.error c.args.segment.now (c.in-Err.ensures ∙ (exact_in Segment error_of).again c.args.segment.now c.args.segment.now (record { same = refl; fine = is })))
