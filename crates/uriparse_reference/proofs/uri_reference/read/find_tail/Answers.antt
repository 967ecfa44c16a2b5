use Rattle.std.proofs.Common.{◌≡◌, Some, Ok, Err, length, sym, ap, ◌∙◌, rules}
use Rattle.uriparse_text.specs.Cuts.{up_to}
use Rattle.uriparse_path.specs.Path.{pieces}
use Rattle.uriparse_path.specs.Faults as paths
use Rattle.uriparse_path.specs.Faults.{ends_path}
use Rattle.uriparse_path.proofs.lemmas.reading.ReadingLemmas.{no_fault_iff}
use Rattle.uriparse_reference.specs.Cuts.{tail_query, tail_fragment}
use Rattle.uriparse_reference.specs.Reading.{after_reading}
use Rattle.uriparse_reference.specs.Reference.{is_noscheme, path_refusal}
use Rattle.uriparse_reference.proofs.lemmas.reading.TailLemmas.{refused_path, refused_offset, refused_after, accepted_tail, is_refused, is_placed}
use Rattle.uriparse_reference.specs.declared.uri_reference.error.URIReferenceError.TheVariants as errors
use Rattle.uriparse_reference.proofs.uri_reference.read.find_tail.Goals as goal

pub returns-in_err-front : goal.returns-in_err-front
returns-in_err-front c =
    let e = c.in_err-front.field-0.0 in
    let answered : c.from_residual.result ≡ Err (errors.Path e) = search rules in
    let is : paths.fault (up_to ends_path c.args.text.now) ≡ Some e = c.in_err-front.ensures in
    rw answered (refused_path c.args.has_scheme c.args.has_authority c.args.text.now e is)

pub check_path-requires : goal.check_path-requires
check_path-requires c s a = ap is_noscheme c.in_ok-front.ensures.1 ∙ c.requires s a

pub returns-in_err-check_path : goal.returns-in_err-check_path
returns-in_err-check_path c =
    let e = c.in_err-check_path.field-0.0 in
    let cut = c.in_ok-front.ensures in
    let front = c.in_ok-front.front in
    let answered : c.from_residual-in_err-check_path.result ≡ Err e = search rules in
    rw answered (refused_offset c.args.has_scheme c.args.has_authority c.args.text.now front.text.now front.following.now cut.0 cut.1 cut.2 e
    (is_refused (path_refusal c.args.has_scheme c.args.has_authority front.text.now) e c.in_err-check_path.ensures))

pub returns-in_err-query : goal.returns-in_err-query
returns-in_err-query c =
    let cut = c.in_ok-front.ensures in
    let front = c.in_ok-front.front in
    let e = c.in_err-query.field-0.0 in
    let answered : c.from_residual-in_err-query.result ≡ Err e = search rules in
    let refused : Err e ≡ after_reading (tail_query front.following.now) (tail_fragment front.following.now) = c.in_err-query.ensures in
    rw answered (refused_after c.args.has_scheme c.args.has_authority c.args.text.now front.text.now front.following.now cut.0 cut.1 cut.2
    (is_placed (path_refusal c.args.has_scheme c.args.has_authority front.text.now) c.in_ok-check_path.ensures) e refused)

pub returns : goal.returns
returns c =
    let cut = c.in_ok-front.ensures in
    let front = c.in_ok-front.front in
    let read : Ok (c.in_ok-query.query, c.in_ok-query.fragment) ≡ after_reading (tail_query front.following.now) (tail_fragment front.following.now) =
    c.in_ok-query.ensures in record {
      is_path = (no_fault_iff front.text.now).0 (ap paths.fault cut.1 ∙ cut.0);
      is_cut = cut.1;
      is_counted = cut.3 ∙ ap (λ t. length (pieces t)) (sym cut.1);
      has_no_escape = cut.4;
      is_read = accepted_tail c.args.has_scheme c.args.has_authority c.args.text.now front.text.now front.following.now cut.0 cut.1 cut.2
          (is_placed (path_refusal c.args.has_scheme c.args.has_authority front.text.now) c.in_ok-check_path.ensures) (c.in_ok-query.query, c.in_ok-query.fragment) read;
    }
