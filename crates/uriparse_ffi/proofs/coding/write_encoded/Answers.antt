use Rattle.std.proofs.Common.{◌≡◌, length, refl, sym, ap, subst, ◌∙◌, rules}
use Rattle.uriparse_text.specs.Coding.{encoded}
use Rattle.uriparse_text.specs.Pairs.{encoded_in_pair}
use Rattle.uriparse_text.specs.Starts.{Writes}
use Rattle.uriparse_ffi.specs.Components.{class_of, pair_number}
use Rattle.uriparse_ffi.proofs.lemmas.TextLemmas.{no_some, some_is}
use Rattle.uriparse_ffi.proofs.coding.write_encoded.Goals as goal

pub returns-then-component-eq-PAIR-clause-written : goal.returns-then-component-eq-PAIR-clause-written
returns-then-component-eq-PAIR-clause-written c = λ k e.
    let at : c.args.component ≡ pair_number = search rules in
    absurd (no_some k (sym e ∙ ap class_of at))

pub returns-then-component-eq-PAIR-clause-pair : goal.returns-then-component-eq-PAIR-clause-pair
returns-then-component-eq-PAIR-clause-pair c = λ e.
    let room : length c.write_text.new.out ≡ length c.args.out.now = search rules in
    c.answer_room.ensures (encoded_in_pair c.args.bytes.now) c.args.out.now c.write_text.new.out room c.write_text.ensures

pub returns-then-component-eq-PAIR-clause-unknown : goal.returns-then-component-eq-PAIR-clause-unknown
returns-then-component-eq-PAIR-clause-unknown c = λ e other.
    let at : c.args.component ≡ pair_number = search rules in
    absurd (other at)

pub returns-in-Some-clause-written : goal.returns-in-Some-clause-written
returns-in-Some-clause-written c = λ k e.
    let room : length c.encode_into.new.out ≡ length c.args.out.now = search rules in
    let same : c.in-Some.class ≡ k = some_is c.in-Some.class k (c.in-Some.ensures ∙ e) in
    c.answer_room-in-Some.ensures (encoded k c.args.bytes.now) c.args.out.now c.encode_into.new.out room
    (subst (λ d. Writes (encoded d c.args.bytes.now) c.encode_into.result c.args.out.now c.encode_into.new.out) same c.encode_into.ensures)

pub returns-in-Some-clause-unknown : goal.returns-in-Some-clause-unknown
returns-in-Some-clause-unknown c = λ e. absurd (no_some c.in-Some.class (c.in-Some.ensures ∙ e))

pub returns-in-None-clause-written : goal.returns-in-None-clause-written
returns-in-None-clause-written c = λ k e. absurd (no_some k (sym (c.in-None.ensures ∙ e)))

pub returns-in-None-clause-unknown : goal.returns-in-None-clause-unknown
returns-in-None-clause-unknown c = λ e other. record { reason = c.refuse.ensures.code; kept = refl; size = c.refuse.ensures.needed }
