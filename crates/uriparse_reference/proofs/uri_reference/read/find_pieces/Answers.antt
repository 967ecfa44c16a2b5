use Rattle.std.proofs.Common.{◌≡◌, Ok, Err, refl, sym, ap, ◌∙◌, rules}
use Rattle.std.specs.Prelude.{Result, is_some}
use Rattle.std.specs.Option.{option_map}
use Rattle.uriparse_text.specs.Bytes.{question_mark, number_sign}
use Rattle.uriparse_text.specs.Cuts.{before, after, up_to}
use Rattle.uriparse_text.specs.Readings.{◌>>=◌, of_piece, if_present}
use Rattle.uriparse_authority.specs.Authority as authority
use Rattle.uriparse_path.specs.Faults.{ends_path}
use Rattle.uriparse_scheme.specs.Scheme.{named}
use Rattle.uriparse_reference.specs.declared.uri_reference.error.URIReferenceError.{URIReferenceError}
use Rattle.uriparse_reference.specs.declared.uri_reference.error.URIReferenceError.TheVariants as errors
use Rattle.uriparse_reference.specs.Cuts.{scheme_text, authority_text, cut_authority, without_authority, after_authority}
use Rattle.uriparse_reference.specs.Reading.{reading, text_tail}
use Rattle.uriparse_reference.specs.Reference.{is_noscheme}
use Rattle.uriparse_reference.proofs.lemmas.reading.CutLemmas.{bare_noscheme}
use Rattle.uriparse_reference.proofs.lemmas.reading.ReadingLemmas.{in_place, read_present, tail_answer, with_tail}
use Rattle.uriparse_reference.proofs.lemmas.reading.TailLemmas.{Tail}
use Rattle.uriparse_reference.proofs.uri_reference.read.find_pieces.Goals.{After-find_tail}
use Rattle.uriparse_reference.proofs.uri_reference.read.find_pieces.Goals as goal

told : (c : After-find_tail) (r : Result Tail URIReferenceError) → text_tail c.is_there-has_scheme.result c.is_some.result c.in_ok-authority.rest.now ≡ r
    → reading c.args.text.now ≡ (r >>= λ x. Ok (with_tail (option_map named (scheme_text c.args.text.now)) c.in_ok-authority.authority x))
told c r made =
    let t = c.args.text.now in
    let cut = c.split_scheme-cut.ensures in
    let found = c.in_ok-authority.ensures in
    let a = c.in_ok-authority.authority in
    let u = c.in_ok-authority.rest.now in
    let is_rest : u ≡ after_authority t = found.1 ∙ ap without_authority cut.rest in
    let read : of_piece errors.Authority (if_present authority.reading (authority_text t)) ≡ Ok a =
    ap (λ v. of_piece errors.Authority (if_present authority.reading (cut_authority v))) (sym cut.rest) ∙ found.0 in
    tail_answer t (option_map named (scheme_text t)) (authority_text t) (up_to ends_path u) (after question_mark (before number_sign u))
    (after number_sign u) a refl refl
    (ap (up_to ends_path) is_rest) (ap (λ u. after question_mark (before number_sign u)) is_rest)
    (ap (after number_sign) is_rest) read
    c.is_there-has_scheme.result c.is_some.result (c.is_there-has_scheme.ensures ∙ ap is_some cut.scheme) (c.is_some.ensures ∙ read_present (authority_text t) a read) r made

pub find_tail-requires : goal.find_tail-requires
find_tail-requires c s a =
    let t = c.args.text.now in
    let cut = c.split_scheme-cut.ensures in
    let found = c.in_ok-authority.ensures in
    let read : of_piece errors.Authority (if_present authority.reading (authority_text t)) ≡ Ok c.in_ok-authority.authority =
    ap (λ v. of_piece errors.Authority (if_present authority.reading (cut_authority v))) (sym cut.rest) ∙ found.0 in
    ap (λ u. is_noscheme (up_to ends_path u)) (found.1 ∙ ap without_authority cut.rest)
    ∙ bare_noscheme t c.split_scheme-cut.result.has_colon_segment (sym (c.is_there-has_scheme.ensures ∙ ap is_some cut.scheme) ∙ s)
    (sym (c.is_some.ensures ∙ read_present (authority_text t) c.in_ok-authority.authority read) ∙ a) cut.colon

pub returns-in_err-tail : goal.returns-in_err-tail
returns-in_err-tail c =
    let e = c.in_err-tail.field-0.0 in
    let answered : c.from_residual-in_err-tail.result ≡ Err e = search rules in
    rw answered (told (goal.at.returns-in_err-tail c).After-find_tail (Err e) c.in_err-tail.ensures)

pub returns : goal.returns
returns c =
    let is = c.in_ok-tail.ensures in record {
      is_scheme = c.split_scheme-cut.ensures.scheme;
      is_known = c.split_scheme-cut.ensures.known;
      is_path = is.is_path;
      is_cut = is.is_cut ∙ ap (up_to ends_path) (c.in_ok-authority.ensures.1 ∙ ap without_authority c.split_scheme-cut.ensures.rest);
      is_counted = is.is_counted;
      has_no_escape = is.has_no_escape;
      is_read = told (goal.at.returns c).After-find_tail _ is.is_read
          ∙ ap Ok (in_place (option_map named (scheme_text c.args.text.now)) c.in_ok-authority.authority c.is_some.result
          c.is_some.ensures
          c.in_ok-tail.tail.path.now c.in_ok-tail.tail.query c.in_ok-tail.tail.fragment);
    }
