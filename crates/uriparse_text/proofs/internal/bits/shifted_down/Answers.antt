use Rattle.uriparse_text.proofs.lemmas.scans.BitLemmas.{bit_at_shr}
use Rattle.uriparse_text.proofs.internal.bits.shifted_down.Goals as goal

pub returns : goal.returns
returns c k = bit_at_shr c.args.m c.args.by k
