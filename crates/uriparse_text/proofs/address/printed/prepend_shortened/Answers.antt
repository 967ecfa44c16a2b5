use Rattle.std.proofs.Common.{◌≡◌, ◌++◌, ◌∷◌, ◌+◌, ◌∙◌, take, drop, sym, ap, subst, append_assoc}
use Rattle.std.proofs.lemmas.List.{take_rest}
use Rattle.std.specs.Net.Text.{groups_text, hex_groups_text}
use Rattle.uriparse_text.specs.Ends.{EndsWith}
use Rattle.uriparse_text.proofs.lemmas.addresses.PutLemmas.{long_text, short_text}
use Rattle.uriparse_text.proofs.address.printed.prepend_shortened.Goals as goal

pub returns-then-zeros-gt1-clause-puts : goal.returns-then-zeros-gt1-clause-puts
returns-then-zeros-gt1-clause-puts c = λ t h.
    let a = c.args.segments.now in
    let start = c.longest_zero_run-start.result.0 in
    let zeros = c.longest_zero_run-start.result.1 in
    let tail = groups_text (drop (start + zeros) a) in
    let following = subst (λ l. EndsWith c.prepend_groups-len.new.out c.prepend_groups-len.result (groups_text l ++ t)) (take_rest a (start + zeros))
    (c.prepend_groups-len.ensures.puts t h) in
    let same : hex_groups_text a ++ t ≡ groups_text (take start a) ++ (58 ∷ 58 ∷ (tail ++ t)) =
    ap (λ u. u ++ t) (long_text a start zeros c.longest_zero_run-start.ensures.value c.if-zeros-gt1.true)
    ∙ append_assoc (groups_text (take start a)) (58 ∷ 58 ∷ tail) t in
    subst (EndsWith c.prepend_groups.new.out c.prepend_groups.result) (sym same) (c.prepend_groups.ensures.puts _ (c.prepend-len.ensures.puts (tail ++ t) following))

pub returns-else-zeros-gt1-clause-puts : goal.returns-else-zeros-gt1-clause-puts
returns-else-zeros-gt1-clause-puts c = λ t h.
    subst (λ u. EndsWith c.prepend_groups-else-zeros-gt1.new.out c.prepend_groups-else-zeros-gt1.result (u ++ t))
    (sym (short_text c.args.segments.now c.longest_zero_run-start.result.0 c.longest_zero_run-start.result.1 c.longest_zero_run-start.ensures.value
    c.if-zeros-gt1.false))
    (c.prepend_groups-else-zeros-gt1.ensures.puts t h)
