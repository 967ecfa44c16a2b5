use Rattle.std.proofs.Common.{◌≡◌, ◌≤◌, ◌+◌, length, drop, ap, subst, ◌∙◌, refl, rules, arith}
use Rattle.std.specs.Prelude.{min}
use Rattle.std.proofs.Math.Nat.{min-eq_left}
use Rattle.std.proofs.lemmas.List.{length-drop}
use Rattle.uriparse_text.specs.Bytes.{ampersand}
use Rattle.uriparse_text.specs.Cuts.{before}
use Rattle.uriparse_text.specs.Pairs.{pair_of, pairs_left, piece_of}
use Rattle.uriparse_text.specs.Starts.{most}
use Rattle.uriparse_text.proofs.lemmas.readings.PairLemmas.{piece_back}
use Rattle.uriparse_ffi.specs.Pairs.{IsPairAt, left_from}
use Rattle.uriparse_ffi.proofs.lemmas.PairLemmas.{cut_size, first_is, next_left, not_none, to_end}
use Rattle.uriparse_ffi.proofs.pairs.pair_at.Goals as goal

pub returns-clause-found : goal.returns-clause-found
returns-clause-found c p ps h =
    let within : c.args.at ≤ length c.args.query.now = search rules in
    let first = first_is _ _ _ p (next_left c.args.query.now c.args.at within) ps h in
    let piece : c.split_at_delimiter.result.0.now ≡ before ampersand (drop c.args.at c.args.query.now) =
    c.split_at_delimiter.ensures.front ∙ ap (before ampersand) (to_end c.args.query.now c.args.at) in
    (refl, subst (λ r. IsPairAt c.args.at r c.place_pair.result) (ap pair_of piece ∙ first.0) c.place_pair.ensures)

pub returns-clause-others : goal.returns-clause-others
returns-clause-others c p ps h short =
    let q = c.args.query.now in
    let at = c.args.at in
    let within : at ≤ length q = search rules in
    let first = first_is _ _ _ p (next_left q at within) ps h in
    let s = before ampersand (drop at q) in
    let piece : c.split_at_delimiter.result.0.now ≡ s = c.split_at_delimiter.ensures.front ∙ ap (before ampersand) (to_end q at) in
    let size : length (piece_of (pair_of c.split_at_delimiter.result.0.now)) ≡ length s = ap length (piece_back c.split_at_delimiter.result.0.now ∙ piece) in
    let whole = cut_size ampersand (drop at q) in
    let rest = length-drop at q in
    let fits : at + length s + 1 ≤ most = omega arith in
    let next : c.place_pair.result.next ≡ at + length s + 1 =
    c.place_pair.ensures.next ∙ ap (λ n. min (at + n + 1) most) size ∙ min-eq_left fits in
    ap (λ n. pairs_left (left_from q n)) next ∙ first.1

pub returns-clause-none : goal.returns-clause-none
returns-clause-none c h =
    let within : c.args.at ≤ length c.args.query.now = search rules in
    absurd (not_none _ _ _ (next_left c.args.query.now c.args.at within) h)
