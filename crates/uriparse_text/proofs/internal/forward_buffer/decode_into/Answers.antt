use Rattle.std.proofs.Common.{arith}
use Rattle.std.proofs.lemmas.Bool.{leb-true}
use Rattle.uriparse_text.proofs.lemmas.tokens.PieceLemmas.{decoding_keeps, decoded_no_longer}
use Rattle.uriparse_text.proofs.internal.forward_buffer.decode_into.Goals as goal

pub write_rewritten-requires-clause-keeps : goal.write_rewritten-requires-clause-keeps
write_rewritten-requires-clause-keeps c = decoding_keeps

pub write_rewritten-requires-clause-fits : goal.write_rewritten-requires-clause-fits
write_rewritten-requires-clause-fits c = λ h. omega (arith, decoded_no_longer c.args.text.now, leb-true _ _ h)
