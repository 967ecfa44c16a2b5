use Rattle.uriparse_text.proofs.lemmas.addresses.PutLemmas.{DigitsPut}
use Rattle.uriparse_text.proofs.address.printed.prepend_decimal.Given as goal

abbrev pub invariant-digits : goal.invariant-digits
invariant-digits l = DigitsPut l.number l.left l.initial.out l.len l.out l.total

abbrev pub decreases-digits : goal.decreases-digits
decreases-digits l = l.left
