-- Links that lead to a host.
use Rattle.std.specs.Prelude.{◌≡◌, ℕ, Bool, false, ◌||◌, List}
use Rattle.std.specs.Option.{IsSomeAnd}
use Rattle.uriparse.specs.HostValue.{Host}
use Rattle.uriparse.specs.Host as host
use Rattle.uriparse.specs.HostWithin.{has_escapes, hides_address, may_be_numeric}
use Rattle.uriparse.specs.Reference.{Parts, Spells, host_of}

-- The text spells a reference whose host equals this one: both are of one kind, and have one canonical text.
abbrev pub LeadsTo : List ℕ → Host → Type 0
LeadsTo t h = (p : Parts) × Spells t p × IsSomeAnd (host_of p) (λ g. host.key g ≡ host.key h)

-- A reader may take the name for another host: for an address that it hides or for one by its last label, or for what its escapes stand for.
abbrev pub is_deceptive : Host → Bool
is_deceptive h = hides_address h || may_be_numeric h || has_escapes h

-- the host is a name, which readers take for no other host
pub record IsPlainName (h : Host) : Type 0 where
  pub name : host.kind h ≡ host.Kind.Name
  pub plain : is_deceptive h ≡ false
