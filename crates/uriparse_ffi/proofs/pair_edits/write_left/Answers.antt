use Rattle.std.proofs.Common.{◌≡◌, length, true, false, refl, sym, subst, ◌∙◌, rules}
use Rattle.std.proofs.lemmas.Bool.{false≢true}
use Rattle.uriparse_text.specs.Pairs.{joined_pairs, pairs, without_names}
use Rattle.uriparse_ffi.specs.Put.{IsPut}
use Rattle.uriparse_ffi.proofs.lemmas.PairLemmas.{not_none}
use Rattle.uriparse_ffi.proofs.pair_edits.write_left.Goals as goal

pub returns-then-is_empty-clause-written : goal.returns-then-is_empty-clause-written
returns-then-is_empty-clause-written c = λ p ps e.
    let empty : c.is_empty.result ≡ true = search rules in
    absurd (not_none (without_names (pairs c.args.names.now) (pairs c.args.query.now)) ps p e (c.is_empty.ensures.0 empty))

pub returns-then-is_empty-clause-nothing : goal.returns-then-is_empty-clause-nothing
returns-then-is_empty-clause-nothing c = λ e. record { reason = c.refuse.ensures.code; kept = refl; size = c.refuse.ensures.needed }

pub returns-clause-written : goal.returns-clause-written
returns-clause-written c = λ p ps e.
    let room : length c.write_text.new.out ≡ length c.args.out.now = search rules in
    subst (λ qs. IsPut (joined_pairs qs) c.args.out.now c.write_text.new.out c.answer_room.new.needed c.answer_room.result) e
    (c.answer_room.ensures (joined_pairs (without_names (pairs c.args.names.now) (pairs c.args.query.now))) c.args.out.now c.write_text.new.out room
    c.write_text.ensures)

pub returns-clause-nothing : goal.returns-clause-nothing
returns-clause-nothing c = λ e.
    let some : c.is_empty.result ≡ false = search rules in
    absurd (false≢true (sym some ∙ c.is_empty.ensures.1 e))
