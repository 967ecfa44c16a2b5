use Rattle.std.proofs.Common.{◌≡◌, ℕ, List, [], ◌∷◌, ap, refl, sym, subst, ◌∙◌, true, take, Err, Ok, arith, rules}
use Rattle.std.proofs.lemmas.Bool.{and_from}
use Rattle.uriparse_text.specs.Readings.{unless_fault}
use Rattle.std.specs.Prelude.{IfOk}
use Rattle.uriparse_text.specs.Bytes.{percent}
use Rattle.uriparse_text.specs.Cuts.{lacks, up_to}
use Rattle.uriparse_path.specs.declared.path.TheConstants.{MAX_SEGMENTS}
use Rattle.uriparse_path.specs.Path.{unrooted}
use Rattle.uriparse_path.specs.Faults.{ends_path, measured}
use Rattle.uriparse_path.proofs.lemmas.reading.CountingWalkLemmas.{answer}
use Rattle.uriparse_path.proofs.lemmas.reading.ReadingLemmas.{counted_front, refused_front, front_counts, following_front, front_before}
use Rattle.uriparse_path.proofs.lemmas.reading.FaultLemmas.{within_none}
use Rattle.uriparse_path.proofs.lemmas.reading.NoEscapeLemmas.{front_lacks}
use Rattle.uriparse_text.proofs.lemmas.canonical.DotLemmas.{empty_segment}
use Rattle.uriparse_path.proofs.path.read.split_path.Goals as goal

pub returns-in_err-count : goal.returns-in_err-count
returns-in_err-count c =
    let text = c.args.text.now in
    let e = c.in_err-count.field-0.0 in
    let told : measured c.count_segments.result ≡ answer MAX_SEGMENTS (up_to ends_path c.split_root.result.1.now) = c.count_segments.ensures.count in
    let was : measured c.count_segments.result ≡ Err e = ap measured c.in_err-count.was in
    let counted : answer MAX_SEGMENTS (up_to ends_path (unrooted text)) ≡ Err e =
    ap (λ t. answer MAX_SEGMENTS (up_to ends_path t)) (sym c.split_root.ensures.rest) ∙ sym told ∙ was in
    let answered : c.from_residual.result ≡ Err e = search rules in
    rw answered (refused_front text e counted)

pub returns : goal.returns
returns c =
    let text = c.args.text.now in
    let m : ℕ × ℕ = (c.in_ok-count.count, c.in_ok-count.len) in
    let told : measured c.count_segments.result ≡ answer MAX_SEGMENTS (up_to ends_path c.split_root.result.1.now) = c.count_segments.ensures.count in
    let was : measured c.count_segments.result ≡ Ok m = ap measured c.in_ok-count.was in
    let counted : answer MAX_SEGMENTS (up_to ends_path (unrooted text)) ≡ Ok m =
    ap (λ t. answer MAX_SEGMENTS (up_to ends_path t)) (sym c.split_root.ensures.rest) ∙ sym told ∙ was in
    let following = c.split_at-2.ensures.back ∙ following_front text c.split_root.result.1.now c.in_ok-count.len c.split_root.ensures.rest (front_counts text m counted).1 in
    let front = c.split_at-3.ensures.front ∙ front_before text c.split_at-2.result.1.now following in (
      counted_front text m counted,
      front,
      following,
      (front_counts text m counted).0,
      λ h. ap (lacks percent) front
          ∙ front_lacks text c.in_ok-count.len (front_counts text m counted).1
          (ap (λ t. lacks percent (take c.in_ok-count.len t)) (sym c.split_root.ensures.rest)
          ∙ subst (λ r. IfOk r (λ n. n.2 ≡ 0 → lacks percent (take n.1 c.split_root.result.1.now) ≡ true)) c.in_ok-count.was c.count_segments.ensures.escaped h),
    )

-- a path that ends at once has one segment
no_front : (t : List ℕ) → up_to ends_path (unrooted t) ≡ [] → answer MAX_SEGMENTS (up_to ends_path (unrooted t)) ≡ Ok (1, 0)
no_front t none =
    ap (answer MAX_SEGMENTS) none
    ∙ ap (λ f. unless_fault f (1, 0)) ((within_none MAX_SEGMENTS ([] ∷ [])).1 (omega arith, and_from _ _ empty_segment refl))

pub returns-then-ends_at_once : goal.returns-then-ends_at_once
returns-then-ends_at_once c =
    let text = c.args.text.now in
    let rest = c.split_root.result.1.now in
    let counted = no_front text (ap (up_to ends_path) (sym c.split_root.ensures.rest) ∙ c.ends_at_once.ensures c.if-ends_at_once.true) in
    let counts = front_counts text (1, 0) counted in
    let following = following_front text rest 0 c.split_root.ensures.rest counts.1 in
    let front = c.split_at.ensures.front ∙ front_before text rest following in (
      counted_front text (1, 0) counted,
      front,
      following,
      counts.0,
      λ h. ap (lacks percent) front ∙ front_lacks text 0 counts.1 refl,
    )
