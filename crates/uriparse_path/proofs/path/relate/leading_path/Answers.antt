use Rattle.std.proofs.Common.{◌≡◌, true, length, ◌+◌, ◌-◌, ◌<◌, take, drop, Some, false, refl, sym, subst, arith, rules}
use Rattle.std.proofs.lemmas.List.{take_rest}
use Rattle.uriparse_path.specs.Relate.{may_lead, leading}
use Rattle.uriparse_path.proofs.lemmas.reading.ReadingLemmas.{limit_is}
use Rattle.uriparse_path.proofs.lemmas.merge.LeadingPathLemmas.{no_room, led_path, listed_leading}
use Rattle.uriparse_path.proofs.path.relate.leading_path.Goals as goal

pub returns-then-directories-left-ge-MAX_SEGMENTS : goal.returns-then-directories-left-ge-MAX_SEGMENTS
returns-then-directories-left-ge-MAX_SEGMENTS c =
    sym (no_room c.args.base.now c.args.target.now c.segments.result.now c.directory-directories.result.now c.segments-segments.result.now
    c.shared_len-shared.result c.segments.ensures.value c.directory-directories.ensures c.segments-segments.ensures.value c.shared_len-shared.ensures.apart
    (rw (sym (take_rest c.directory-directories.result.now c.shared_len-shared.result), sym (take_rest c.segments-segments.result.now c.shared_len-shared.result))
    (omega arith)))

pub relative_segments-requires : goal.relative_segments-requires
relative_segments-requires c =
    let front = c.directory-directories.result.now in
    let own = c.segments-segments.result.now in
    let n = c.shared_len-shared.result in
    subst (λ m. length (take (length front - n) (drop n front)) + length (take (length own - n) (drop n own)) < m) limit_is (omega arith)

pub of-requires-clause-listed : goal.of-requires-clause-listed
of-requires-clause-listed c =
    let front = c.directory-directories.result.now in
    let own = c.segments-segments.result.now in
    let n = c.shared_len-shared.result in
    let may : may_lead c.args.base.now c.args.target.now ≡ true = search rules in
    let list = c.in_ok-segments.segments in
    let is_leading : Some (record { absolute = false; segments = list }) ≡ leading c.args.base.now c.args.target.now =
    led_path c.args.base.now c.args.target.now c.segments.result.now front own n c.segments.ensures.value c.directory-directories.ensures
    c.segments-segments.ensures.value c.shared_len-shared.ensures.apart (record { absolute = false; segments = list }) list (take (length front - n) (drop n front))
    (take (length own - n) (drop n own)) may (rw (sym (take_rest front n), sym (take_rest own n)) (omega arith)) (take_rest front n) (take_rest own n)
    c.in_ok-segments.ensures refl in
    listed_leading c.args.base.now c.args.target.now (record { absolute = false; segments = list }) c.segments-segments.ensures.listed (sym is_leading)

pub returns : goal.returns
returns c =
    let front = c.directory-directories.result.now in
    let own = c.segments-segments.result.now in
    let n = c.shared_len-shared.result in
    let may : may_lead c.args.base.now c.args.target.now ≡ true = search rules in
    led_path c.args.base.now c.args.target.now c.segments.result.now front own n c.segments.ensures.value c.directory-directories.ensures
    c.segments-segments.ensures.value c.shared_len-shared.ensures.apart c.of.result c.in_ok-segments.segments (take (length front - n) (drop n front))
    (take (length own - n) (drop n own)) may
    (rw (sym (take_rest front n), sym (take_rest own n)) (omega arith)) (take_rest front n) (take_rest own n) c.in_ok-segments.ensures c.of.ensures
