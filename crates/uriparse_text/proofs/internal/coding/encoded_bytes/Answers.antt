use Rattle.std.proofs.Common.{◌≡◌, true, sym, arith, rules}
use Rattle.uriparse_text.specs.Coding.{are_bytes}
use Rattle.uriparse_text.proofs.lemmas.tokens.PieceLemmas.{each_byte, encoded_without_none}
use Rattle.uriparse_text.proofs.internal.coding.encoded_bytes.Goals as goal

pub returns-clause-text : goal.returns-clause-text
returns-clause-text c =
    let bytes : are_bytes c.args.bytes.now ≡ true = each_byte c.args.bytes.now (λ k l. omega (arith, c.type_inv.bytes k)) in
    rw (sym (encoded_without_none c.args.class c.args.bytes.now bytes)) (search rules)

pub returns-clause-bytes : goal.returns-clause-bytes
returns-clause-bytes c = each_byte c.args.bytes.now (λ k l. omega (arith, c.type_inv.bytes k))
