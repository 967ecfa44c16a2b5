use Rattle.std.proofs.Common.{◌≡◌, true, arith, rules}
use Rattle.uriparse_text.specs.Coding.{are_bytes}
use Rattle.uriparse_text.proofs.lemmas.tokens.PieceLemmas.{each_byte}
use Rattle.uriparse_text.proofs.internal.coding.push_encoded.Goals as goal

pub returns-clause-bytes : goal.returns-clause-bytes
returns-clause-bytes c =
    let bytes : are_bytes c.args.bytes.now ≡ true = each_byte c.args.bytes.now (λ k l. omega (arith, c.type_inv.bytes k)) in
    search rules
