use Rattle.std.proofs.Common.{◌≡◌, ℕ, length, sym, ◌∙◌, ap, subst, true, take, inl, Err, Ok, rules}
use Rattle.std.proofs.lemmas.Bool.{false≢true}
use Rattle.std.specs.Prelude.{IfOk}
use Rattle.std.proofs.Math.Seq.{take-length}
use Rattle.uriparse_text.specs.Bytes.{percent}
use Rattle.uriparse_text.specs.Cuts.{lacks}
use Rattle.uriparse_path.specs.Path.{spelled, unrooted}
use Rattle.uriparse_path.specs.Faults.{measured, reading}
use Rattle.uriparse_path.proofs.lemmas.reading.NoEscapeLemmas.{rooted_lacks}
use Rattle.uriparse_path.proofs.lemmas.reading.ReadingLemmas.{counted_all, counted_len, counted_pieces, refused, not_refused, accepted, listed}
use Rattle.uriparse_path.proofs.path.Path.try_from_bytes.Goals as goal

pub returns-in_err-count-clause-answer : goal.returns-in_err-count-clause-answer
returns-in_err-count-clause-answer c =
    let t = c.args.bytes.now in
    let e = c.in_err-count.field-0.0 in
    let answered : c.from_residual.result ≡ Err e = search rules in
    inl (answered ∙ sym (refused t e
    (counted_all t c.split_root.result.1.now (measured c.count_segments.result) (Err e) c.split_root.ensures.rest c.count_segments.ensures.count (ap measured c.in_err-count.was))))

pub returns-in_err-count-clause-always : goal.returns-in_err-count-clause-always
returns-in_err-count-clause-always c =
    let t = c.args.bytes.now in
    let e = c.in_err-count.field-0.0 in
    let answered : c.from_residual.result ≡ Err e = search rules in
    λ _. answered ∙ sym (refused t e
    (counted_all t c.split_root.result.1.now (measured c.count_segments.result) (Err e) c.split_root.ensures.rest c.count_segments.ensures.count (ap measured c.in_err-count.was)))

pub counted_path-requires-clause-path : goal.counted_path-requires-clause-path
counted_path-requires-clause-path c =
    let t = c.args.bytes.now in
    let m : ℕ × ℕ = (c.in_ok-count.count, c.in_ok-count.field-0-1) in
    listed t m
    (counted_all t c.split_root.result.1.now (measured c.count_segments.result) (Ok m) c.split_root.ensures.rest c.count_segments.ensures.count (ap measured c.in_ok-count.was))

pub counted_path-requires-clause-count : goal.counted_path-requires-clause-count
counted_path-requires-clause-count c =
    let t = c.args.bytes.now in
    let m : ℕ × ℕ = (c.in_ok-count.count, c.in_ok-count.field-0-1) in
    counted_pieces t m
    (counted_all t c.split_root.result.1.now (measured c.count_segments.result) (Ok m) c.split_root.ensures.rest c.count_segments.ensures.count (ap measured c.in_ok-count.was))

pub counted_path-requires-clause-escaped : goal.counted_path-requires-clause-escaped
counted_path-requires-clause-escaped c h =
    let t = c.args.bytes.now in
    let m : ℕ × ℕ = (c.in_ok-count.count, c.in_ok-count.field-0-1) in
    let long = counted_len (unrooted t) m
    (counted_all t c.split_root.result.1.now (measured c.count_segments.result) (Ok m) c.split_root.ensures.rest c.count_segments.ensures.count (ap measured c.in_ok-count.was)) in
    let free = subst (λ r. IfOk r (λ n. n.2 ≡ 0 → lacks percent (take n.1 c.split_root.result.1.now) ≡ true)) c.in_ok-count.was c.count_segments.ensures.escaped h in
    rooted_lacks t (ap (lacks percent) (sym (ap (λ n. take n (unrooted t)) long ∙ take-length (unrooted t)))
    ∙ ap (λ u. lacks percent (take m.1 u)) (sym c.split_root.ensures.rest) ∙ free)

pub returns-in_err-counted_path-clause-always : goal.returns-in_err-counted_path-clause-always
returns-in_err-counted_path-clause-always c =
    let t = c.args.bytes.now in
    let m : ℕ × ℕ = (c.in_ok-count.count, c.in_ok-count.field-0-1) in
    λ h. absurd (not_refused t m
    (counted_all t c.split_root.result.1.now (measured c.count_segments.result) (Ok m) c.split_root.ensures.rest c.count_segments.ensures.count (ap measured c.in_ok-count.was)) h)

pub returns-in_err-count-clause-takes_no_memory : goal.returns-in_err-count-clause-takes_no_memory
returns-in_err-count-clause-takes_no_memory c p read one =
    let t = c.args.bytes.now in
    let e = c.in_err-count.field-0.0 in
    let answered : c.from_residual.result ≡ Err e = search rules in
    answered ∙ sym (refused t e
    (counted_all t c.split_root.result.1.now (measured c.count_segments.result) (Err e) c.split_root.ensures.rest c.count_segments.ensures.count (ap measured c.in_err-count.was)))
    ∙ read

pub returns-in_err-counted_path-clause-takes_no_memory : goal.returns-in_err-counted_path-clause-takes_no_memory
returns-in_err-counted_path-clause-takes_no_memory c p read one =
    let t = c.args.bytes.now in
    let m : ℕ × ℕ = (c.in_ok-count.count, c.in_ok-count.field-0-1) in
    let all = counted_all t c.split_root.result.1.now (measured c.count_segments.result) (Ok m) c.split_root.ensures.rest c.count_segments.ensures.count
    (ap measured c.in_ok-count.was) in
    let whole : reading t ≡ Ok (spelled t) = accepted t m all in
    let same : spelled t ≡ p = cc in
    absurd (false≢true (c.in_err-counted_path.ensures.takes_no_memory (counted_pieces t m all ∙ ap (λ q. length q.segments) same ∙ one)))

pub returns-clause-takes_no_memory : goal.returns-clause-takes_no_memory
returns-clause-takes_no_memory c p read one =
    let t = c.args.bytes.now in
    let m : ℕ × ℕ = (c.in_ok-count.count, c.in_ok-count.field-0-1) in
    ap Ok c.in_ok-counted_path.ensures.path ∙ sym (accepted t m
    (counted_all t c.split_root.result.1.now (measured c.count_segments.result) (Ok m) c.split_root.ensures.rest c.count_segments.ensures.count (ap measured c.in_ok-count.was)))
    ∙ read

pub returns-clause-answer : goal.returns-clause-answer
returns-clause-answer c =
    let t = c.args.bytes.now in
    let m : ℕ × ℕ = (c.in_ok-count.count, c.in_ok-count.field-0-1) in
    inl (ap Ok c.in_ok-counted_path.ensures.path ∙ sym (accepted t m
    (counted_all t c.split_root.result.1.now (measured c.count_segments.result) (Ok m) c.split_root.ensures.rest c.count_segments.ensures.count (ap measured c.in_ok-count.was))))

pub returns-clause-always : goal.returns-clause-always
returns-clause-always c =
    let t = c.args.bytes.now in
    let m : ℕ × ℕ = (c.in_ok-count.count, c.in_ok-count.field-0-1) in
    λ h. absurd (not_refused t m
    (counted_all t c.split_root.result.1.now (measured c.count_segments.result) (Ok m) c.split_root.ensures.rest c.count_segments.ensures.count (ap measured c.in_ok-count.was)) h)
