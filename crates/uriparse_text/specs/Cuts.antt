-- How a text is put together from pieces and marks, and how it is cut at marks.
use Rattle.std.specs.Prelude.{ℕ, Bool, ◌==◌, not, if◌then◌else◌, List, [], ◌∷◌, ◌++◌, Option, Some, None, unwrap_or}
use Rattle.std.specs.Option.{option_map}
use Rattle.std.specs.List.{list_all, list_any}

-- no byte of the text is this one
abbrev pub lacks : ℕ → List ℕ → Bool
lacks mark t = list_all (λ b. not (b == mark)) t

-- no byte of the text passes
abbrev pub none_pass : (ℕ → Bool) → List ℕ → Bool
none_pass p t = list_all (λ b. not (p b)) t

-- ---- putting together

-- [ mark text ]
abbrev pub following : ℕ → Option (List ℕ) → List ℕ
following mark None = []
following mark (Some t) = mark ∷ t

-- [ text mark ]
abbrev pub ahead : ℕ → Option (List ℕ) → List ℕ
ahead mark None = []
ahead mark (Some t) = t ++ mark ∷ []

-- ---- cutting

-- what precedes the first byte that passes, or all if none does
abbrev pub up_to : (ℕ → Bool) → List ℕ → List ℕ
up_to p [] = []
up_to p (b ∷ t) = if p b then [] else b ∷ up_to p t

-- the first byte that passes, and what follows it, or nothing
abbrev pub from_first : (ℕ → Bool) → List ℕ → List ℕ
from_first p [] = []
from_first p (b ∷ t) = if p b then b ∷ t else from_first p t

-- the last byte that passes, and what follows it, or nothing
abbrev pub from_last : (ℕ → Bool) → List ℕ → List ℕ
from_last p [] = []
from_last p (b ∷ t) = if list_any p t then from_last p t else if p b then b ∷ t else []

-- what precedes the last byte that passes, or all if none does
abbrev pub up_to_last : (ℕ → Bool) → List ℕ → List ℕ
up_to_last p [] = []
up_to_last p (b ∷ t) = if list_any p t then b ∷ up_to_last p t else if p b then [] else b ∷ t

-- what follows the first byte of a rest, if it has one
abbrev pub part : List ℕ → Option (List ℕ)
part [] = None
part (_ ∷ t) = Some t

-- the text before the first mark, and the text after it
abbrev pub before : ℕ → List ℕ → List ℕ
before mark t = up_to (λ b. b == mark) t

abbrev pub after : ℕ → List ℕ → Option (List ℕ)
after mark t = part (from_first (λ b. b == mark) t)

-- the text that a first mark ends, if there is one; and what is left after it, or all
abbrev pub front : ℕ → List ℕ → Option (List ℕ)
front mark t = option_map (λ _. before mark t) (after mark t)

abbrev pub rest : ℕ → List ℕ → List ℕ
rest mark t = unwrap_or (after mark t) t
