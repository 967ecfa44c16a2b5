use Rattle.std.proofs.Common.{◌≡◌, length, refl, sym, ap, subst, ◌∙◌, rules}
use Rattle.uriparse_text.specs.declared.internal.class.Class.TheVariants.{Query}
use Rattle.uriparse_text.specs.Coding.{decoded}
use Rattle.uriparse_text.specs.Query.{error_of}
use Rattle.uriparse_text.specs.Starts.{Writes}
use Rattle.uriparse_text.proofs.lemmas.readings.ReadingLemmas.{exact_in}
use Rattle.uriparse_ffi.specs.Code.{query_code}
use Rattle.uriparse_ffi.proofs.lemmas.TextLemmas.{err_is, no_error, no_ok}
use Rattle.uriparse_ffi.proofs.coding.write_decoded.Goals as goal

pub returns-in-Ok-clause-written : goal.returns-in-Ok-clause-written
returns-in-Ok-clause-written c = λ is.
    let room : length c.decode_into.new.out ≡ length c.args.out.now = search rules in
    let same : c.in-Ok.query ≡ c.args.text.now = ((exact_in Query error_of).found c.args.text.now c.in-Ok.query (sym c.in-Ok.ensures)).same in
    c.answer_room.ensures (decoded c.args.text.now) c.args.out.now c.decode_into.new.out room
    (subst (λ t. Writes (decoded t) c.decode_into.result c.args.out.now c.decode_into.new.out) same c.decode_into.ensures)

pub returns-in-Ok-clause-refused : goal.returns-in-Ok-clause-refused
returns-in-Ok-clause-refused c = λ e h. absurd (no_error c.in-Ok.query e (c.in-Ok.ensures ∙ h))

pub returns-in-Err-clause-written : goal.returns-in-Err-clause-written
returns-in-Err-clause-written c = λ is.
    absurd (no_ok c.in-Err.error c.args.text.now (c.in-Err.ensures ∙ (exact_in Query error_of).again c.args.text.now c.args.text.now (record { same = refl; fine = is })))

pub returns-in-Err-clause-refused : goal.returns-in-Err-clause-refused
returns-in-Err-clause-refused c = λ e h. record {
  reason = c.refuse.ensures.code ∙ c.of_query.ensures.code ∙ ap query_code (err_is c.in-Err.error e (c.in-Err.ensures ∙ h));
  kept = refl;
  size = c.refuse.ensures.needed;
}
