use Rattle.std.proofs.Common.{◌≡◌, ℕ, List, true, take, Ok, Err, IfOk, subst, arith}
use Rattle.std.specs.Prelude.{Result}
use Rattle.uriparse_text.specs.declared.internal.class.Class.{Class}
use Rattle.uriparse_text.specs.declared.internal.forward_buffer.TooSmall.{TooSmall}
use Rattle.uriparse_text.specs.Coding.{are_bytes, decoded, encoded}
use Rattle.uriparse_text.specs.Starts.{Writes}
use Rattle.uriparse_text.proofs.lemmas.tokens.CodingLemmas.{decoded-written}
use Rattle.uriparse_text.proofs.lemmas.tokens.PieceLemmas.{each_byte}
use Rattle.uriparse_text.proofs.internal.text.Text.encode_into.Goals as goal

written_back : (class : Class) (bytes old new : List ℕ) (r : Result ℕ TooSmall) → are_bytes bytes ≡ true → Writes (encoded class bytes) r old new
    → IfOk r (λ n. decoded (take n new) ≡ bytes)
written_back class bytes old new (Ok n) h is = decoded-written class bytes old new n h is
written_back class bytes old new (Err e) h is = tt

pub returns-clause-back : goal.returns-clause-back
returns-clause-back g c =
    written_back g.K.TextKind.class c.args.bytes.now c.args.out.now c.encode_into.new.out c.encode_into.result
    (each_byte c.args.bytes.now (λ k l. omega (arith, c.type_inv.bytes k)))
    (subst (λ d. Writes (encoded d c.args.bytes.now) c.encode_into.result c.args.out.now c.encode_into.new.out) c.class.ensures c.encode_into.ensures)
