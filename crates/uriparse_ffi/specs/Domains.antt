-- A host within one of several domains, which spaces separate in one string.
use Rattle.std.specs.Prelude.{◌≡◌, ◌⊎◌, ℕ, Bool, not, ◌==◌, List, [], ◌∷◌, Option, Some, None, Ok}
use Rattle.std.specs.List.{filter, slice_split}
use Rattle.std.specs.Option.{option_or}
use Rattle.uriparse_text.specs.Bytes.{space}
use Rattle.uriparse_text.specs.Readings.{fault_in}
use Rattle.uriparse_authority.specs.Host.{reading}
use Rattle.uriparse_authority.specs.Within.{is_empty}
use Rattle.uriparse_authority.specs.declared.authority.error.HostError.{HostError}
use Rattle.uriparse_authority.specs.declared.authority.host.Host.{Host}
use Rattle.uriparse_reference.specs.Reference.{Parts}
use Rattle.uriparse_ffi.specs.Checks.{IsHostWithin}

abbrev pub is_space : ℕ → Bool
is_space b = b == space

-- the domains of a string: what stands between its spaces, unless that is nothing
abbrev pub domains : List ℕ → List (List ℕ)
domains t = filter (λ d. not (is_empty d)) (slice_split is_space t)

-- the error of the first one that is no host
abbrev pub first_error : List (List ℕ) → Option HostError
first_error [] = None
first_error (d ∷ ds) = option_or (fault_in (reading d)) (first_error ds)

-- the string spells a host, and the reference's host is that or within it
abbrev pub IsWithinDomain : Parts → List ℕ → Type 0
IsWithinDomain p d = (h : Host) × (reading d ≡ Ok h) × IsHostWithin p h

-- so does one of the domains
abbrev pub IsWithinOne : Parts → List (List ℕ) → Type 0
IsWithinOne p [] = ⊥
IsWithinOne p (d ∷ ds) = IsWithinDomain p d ⊎ IsWithinOne p ds

-- ---- words of private functions' clauses

-- the domains of what is left of a string, if anything is
abbrev pub domains_left : Option (List ℕ) → List (List ℕ)
domains_left None = []
domains_left (Some t) = domains t
