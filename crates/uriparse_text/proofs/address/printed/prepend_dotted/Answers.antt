use Rattle.std.proofs.Common.{◌≡◌, ◌++◌, ◌∷◌, decimal, sym, subst, append_assoc}
use Rattle.std.specs.Net.Text.{dotted_text}
use Rattle.uriparse_text.specs.Ends.{EndsWith}
use Rattle.uriparse_text.proofs.address.printed.prepend_dotted.Goals as goal

pub returns-clause-puts : goal.returns-clause-puts
returns-clause-puts c = λ t h.
    let end = c.prepend_decimal.ensures.puts _ (c.prepend-len-3.ensures.puts _ (c.prepend_decimal-len-3.ensures.puts _ (c.prepend-len-2.ensures.puts _
    (c.prepend_decimal-len-2.ensures.puts _ (c.prepend-len.ensures.puts _ (c.prepend_decimal-len.ensures.puts t h)))))) in
    let same : dotted_text c.args.a c.args.b c.args.c c.args.d ++ t
    ≡ decimal c.from-4.result ++ (46 ∷ (decimal c.from-3.result ++ (46 ∷ (decimal c.from-2.result ++ (46 ∷ (decimal c.from.result ++ t)))))) =
    simp (c.from.ensures, c.from-2.ensures, c.from-3.ensures, c.from-4.ensures, append_assoc) in
    subst (EndsWith c.prepend_decimal.new.out c.prepend_decimal.result) (sym same) end
