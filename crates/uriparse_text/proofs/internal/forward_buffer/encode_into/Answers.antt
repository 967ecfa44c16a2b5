use Rattle.std.proofs.Common.{◌≡◌, true, length, ap, sym, arith}
use Rattle.std.proofs.lemmas.Bool.{leb-true}
use Rattle.uriparse_text.specs.Coding.{are_bytes}
use Rattle.uriparse_text.proofs.lemmas.tokens.PieceLemmas.{each_byte, encoded_length, encoded_without_none}
use Rattle.uriparse_text.proofs.internal.forward_buffer.encode_into.Goals as goal

pub write_rewritten-requires-clause-fits : goal.write_rewritten-requires-clause-fits
write_rewritten-requires-clause-fits c = λ h.
    let bytes : are_bytes c.args.bytes.now ≡ true = each_byte c.args.bytes.now (λ k l. omega (arith, c.type_inv.bytes k)) in
    omega (arith, encoded_length c.args.class c.args.bytes.now, ap length (encoded_without_none c.args.class c.args.bytes.now bytes), leb-true _ _ h)

pub returns : goal.returns
returns c =
    let bytes : are_bytes c.args.bytes.now ≡ true = each_byte c.args.bytes.now (λ k l. omega (arith, c.type_inv.bytes k)) in
    rw (sym (encoded_without_none c.args.class c.args.bytes.now bytes)) c.write_rewritten.ensures
