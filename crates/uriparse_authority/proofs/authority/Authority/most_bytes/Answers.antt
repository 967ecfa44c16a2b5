use Rattle.std.proofs.Common.{ℕ, ◌+◌, ◌≤◌, length, inl, subst, arith}
use Rattle.uriparse_text.proofs.lemmas.readings.SaturatingLemmas.{most_more, most_of}
use Rattle.uriparse_authority.specs.Authority.{print}
use Rattle.uriparse_authority.proofs.lemmas.authorities.LengthLemmas.{length-print}
use Rattle.uriparse_authority.proofs.authority.Authority.most_bytes.Goals as goal

pub returns : goal.returns
returns c =
    let m : ℕ = 18446744073709551615 in
    let username = c.len_of.result in
    let password = c.len_of-2.result in
    let first = most_more m 8 8 username c.saturating_add.result (inl (omega arith)) c.saturating_add.ensures in
    let second = most_more m (8 + username) c.saturating_add.result password c.saturating_add-2.result first c.saturating_add-2.ensures in
    let third =
    most_more m (8 + username + password) c.saturating_add-2.result c.most_bytes.result c.saturating_add-3.result second c.saturating_add-3.ensures in
    let inside = length-print _ c.self.invariant in
    let printed : length (print c.args.self.now) ≤ 8 + username + password + c.most_bytes.result =
    subst (λ p. length (print p) ≤ 8 + username + password + c.most_bytes.result) c.self.view_is
    (omega (arith, inside, c.len_of.ensures, c.len_of-2.ensures, c.most_bytes.ensures)) in
    most_of m (length (print c.args.self.now)) (8 + username + password + c.most_bytes.result) c.saturating_add-3.result printed third
