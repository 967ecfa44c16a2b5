use Rattle.std.proofs.Common.{◌≡◌, Ok, Err, inl, inr, length, sym, ap, ◌∙◌, rules}
use Rattle.std.proofs.lemmas.Bool.{false≢true}
use Rattle.std.specs.Prelude.{is_some}
use Rattle.uriparse_text.specs.Readings.{fault_in}
use Rattle.uriparse_scheme.proofs.lemmas.schemes.CutLemmas.{is_scheme_text}
use Rattle.uriparse_reference.specs.Reading.{parts_of, reading}
use Rattle.uriparse_reference.proofs.lemmas.reading.ReadingLemmas.{again, answered, path_segments}
use Rattle.uriparse_reference.proofs.lemmas.reading.ViewLemmas.{assembled_read, assembled_valid}
use Rattle.uriparse_reference.proofs.uri_reference.URIReference.try_from_bytes.Goals.{After-to_reference}
use Rattle.uriparse_reference.proofs.uri_reference.URIReference.try_from_bytes.Goals as goal

read : (c : After-to_reference) → reading c.args.bytes.now ≡ Ok c.to_reference.result
read c = rw (c.to_reference.ensures) (assembled_read _ _ _ _ _ _ _ _ _ _ c.in_ok-pieces.ensures c.in_ok-path.ensures.path)

pub to_reference-requires-clause-scheme : goal.to_reference-requires-clause-scheme
to_reference-requires-clause-scheme c = is_scheme_text c.args.bytes.now c.in_ok-pieces.pieces.scheme.now c.in_ok-pieces.ensures.is_scheme

pub to_reference-requires-clause-valid : goal.to_reference-requires-clause-valid
to_reference-requires-clause-valid c = assembled_valid _ _ _ _ _ _ _ _ _ _ c.in_ok-pieces.ensures c.in_ok-path.ensures.path

pub returns : goal.returns
returns c =
    let t = c.args.bytes.now in
    let all = answered t (Ok _) (inl (sym (read c))) in
    record { found = all.0; only = all.1; fault = all.2; always = all.3; takes_no_memory = λ p s one. sym (read c) ∙ again t p s }

pub returns-in_err-pieces : goal.returns-in_err-pieces
returns-in_err-pieces c =
    let t = c.args.bytes.now in
    let is : c.from_residual.result ≡ Err c.in_err-pieces.field-0.0 = search rules in
    let right : c.from_residual.result ≡ reading t = is ∙ sym c.in_err-pieces.ensures in
    let all = answered t c.from_residual.result (inl right) in
    record { found = all.0; only = all.1; fault = all.2; always = all.3; takes_no_memory = λ p s one. right ∙ again t p s }

pub returns-in_err-path : goal.returns-in_err-path
returns-in_err-path c =
    let t = c.args.bytes.now in
    let told = c.in_ok-pieces.ensures in
    let found = c.in_ok-pieces.pieces in
    let is : c.from_residual-in_err-path.result ≡ Err c.in_err-path.field-0.0 = search rules in
    let all = answered t c.from_residual-in_err-path.result (inr (ap fault_in told.is_read, is ∙ ap Err c.in_err-path.ensures.path)) in record {
      found = all.0;
      only = all.1;
      fault = all.2;
      always = all.3;
      takes_no_memory = λ p s one.
          let same : parts_of t found.authority found.tail.path.now found.tail.query found.tail.fragment ≡ p =
          let read : reading t ≡ Ok p = again t p s in let whole = told.is_read in cc in
          let count : found.tail.count ≡ 1 =
          told.is_counted ∙ ap length (sym (path_segments (is_some found.authority) found.tail.path.now)) ∙ ap (λ q. length q.path.segments) same ∙ one in
          absurd (false≢true (c.in_err-path.ensures.takes_no_memory count));
    }
