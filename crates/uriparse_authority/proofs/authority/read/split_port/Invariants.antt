use Rattle.std.proofs.Common.{◌≡◌, ℕ, true, List, ◌++◌, length}
use Rattle.uriparse_text.specs.Cuts.{none_pass}
use Rattle.uriparse_authority.specs.Authority.{ends_host}
use Rattle.uriparse_authority.proofs.authority.read.split_port.Given as goal

-- what follows the front has neither a colon nor a bracket
pub record IsFollowing (text front : List ℕ) : Type 0 where
  pub following : List ℕ
  pub whole : text ≡ front ++ following
  pub plain : none_pass ends_host following ≡ true

abbrev pub invariant-loop-last : goal.invariant-loop-last
invariant-loop-last l = IsFollowing l.text l.front

abbrev pub decreases-loop-last : goal.decreases-loop-last
decreases-loop-last l = length l.front
