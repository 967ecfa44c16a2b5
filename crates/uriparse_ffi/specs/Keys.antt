-- What a sort key is of, by flags.
use Rattle.std.specs.Prelude.{ℕ, ◌/◌, ◌%◌, ◌==◌, nat_lt, if◌then◌else◌, Option, Some, None}
use Rattle.uriparse.specs.declared.sort_key.KeyForm.{KeyForm}

-- 1: of the normal form; 2: without a default port; 4: without the fragment
abbrev pub form_of_flags : ℕ → KeyForm
form_of_flags n = record { normalized = n % 2 == 1; without_default_port = n / 2 % 2 == 1; without_fragment = n / 4 % 2 == 1 }

-- what these flags ask for; other bits have no meaning
abbrev pub form_of : ℕ → Option KeyForm
form_of n = if nat_lt n 8 then Some (form_of_flags n) else None
