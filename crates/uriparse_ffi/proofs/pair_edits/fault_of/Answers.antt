use Rattle.std.proofs.Common.{Some, refl, ap, ◌∙◌}
use Rattle.uriparse_text.specs.declared.internal.class.Class.TheVariants.{Query}
use Rattle.uriparse_text.specs.Query.{error_of}
use Rattle.uriparse_text.proofs.lemmas.readings.ReadingLemmas.{exact_in}
use Rattle.uriparse_ffi.proofs.lemmas.TextLemmas.{err_is, no_ok}
use Rattle.uriparse_ffi.proofs.pair_edits.fault_of.Goals as goal

pub returns-in-Err-clause-none : goal.returns-in-Err-clause-none
returns-in-Err-clause-none c = λ is.
    absurd (no_ok c.in-Err.error c.args.query.now
    (c.in-Err.ensures ∙ (exact_in Query error_of).again c.args.query.now c.args.query.now (record { same = refl; fine = is })))

pub returns-in-Err-clause-fault : goal.returns-in-Err-clause-fault
returns-in-Err-clause-fault c = λ e h. ap Some (err_is c.in-Err.error e (c.in-Err.ensures ∙ h))
