-- Where a component of a text begins and ends.
use Rattle.std.specs.Prelude.{ℕ, ◌+◌, List, length, Option, Some, None}
use Rattle.uriparse_ffi.specs.declared.span.UriSpan.{UriSpan}

-- the span of a component that begins there, or of none
abbrev pub span : ℕ → Option (List ℕ) → UriSpan
span at None = record { begin = 0; end = 0; present = 0 }
span at (Some t) = record { begin = at; end = at + length t; present = 1 }
