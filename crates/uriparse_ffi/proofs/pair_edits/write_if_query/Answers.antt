use Rattle.std.proofs.Common.{◌≡◌, length, Some, refl, sym, ap, ◌∙◌, rules}
use Rattle.uriparse_ffi.specs.Code.{query_code}
use Rattle.uriparse_ffi.proofs.lemmas.TextLemmas.{some_is}
use Rattle.uriparse_ffi.proofs.pair_edits.write_if_query.Goals as goal

pub returns-in-None-clause-written : goal.returns-in-None-clause-written
returns-in-None-clause-written g c = λ is.
    let room : length c.write_text.new.out ≡ length c.args.out.now = search rules in
    c.answer_room.ensures (g.A.Appending.text c.args.text.now) c.args.out.now c.write_text.new.out room c.write_text.ensures

pub returns-in-Some-clause-refused : goal.returns-in-Some-clause-refused
returns-in-Some-clause-refused g c = λ e h.
    let some : c.fault_of.result ≡ Some c.in-Some.error = search rules in
    record {
      reason = c.refuse.ensures.code ∙ c.of_query.ensures.code ∙ ap query_code (some_is c.in-Some.error e (sym some ∙ c.fault_of.ensures.fault e h));
      kept = refl;
      size = c.refuse.ensures.needed;
    }
