use Rattle.std.proofs.Common.{◌≡◌, ◌<◌, length, Err, sym, subst, rules}
use Rattle.uriparse_text.specs.Readings.{unless_fault}
use Rattle.uriparse_reference.specs.Reading.{fault}
use Rattle.uriparse_reference.proofs.lemmas.reading.OffsetLemmas.{before_end, failed}
use Rattle.uriparse_reference.proofs.uri_reference.URIReference.first_fault.Goals as goal

pub returns-in-Err-clause-within : goal.returns-in-Err-clause-within
returns-in-Err-clause-within c =
    let text = c.args.bytes.now in
    let told : unless_fault (fault text) (tt {0}) ≡ Err c.in-Err.error = search rules in
    subst (λ n. n < length text) (sym c.offset_of.ensures.offset) (before_end text c.in-Err.error (failed (fault text) (tt {0}) c.in-Err.error told))
