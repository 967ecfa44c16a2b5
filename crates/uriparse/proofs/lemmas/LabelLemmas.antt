-- The labels of a name, one after another.
use Rattle.std.proofs.Common.{◌≡◌, ℕ, ◌<◌, Bool, true, false, cond, List, [], ◌∷◌, length, Option, Some, None, refl, sym, ap, ◌∙◌, arith}
use Rattle.std.specs.Prelude.{◌||◌}
use Rattle.std.specs.List.{list_any, slice_split, onto_first}
use Rattle.std.proofs.lemmas.List.Splits.{slice_split-cons_no, slice_split-cons_yes}
use Rattle.uriparse_text.specs.Cuts.{from_first, part, up_to}
use Rattle.uriparse_authority.specs.Within.{is_dot}

-- the labels of what is left, or none if nothing is left, not even an empty label
abbrev pub labels_left : Option (List ℕ) → List (List ℕ)
labels_left None = []
labels_left (Some t) = slice_split is_dot t

-- the first label, and those of what follows the dot after it
labels_cut : (t : List ℕ) → slice_split is_dot t ≡ up_to is_dot t ∷ labels_left (part (from_first is_dot t))
labels_cut [] = refl
labels_cut (b ∷ t) = at_byte (is_dot b) refl (labels_cut t)
  where
    at_byte : (v : Bool) → is_dot b ≡ v → slice_split is_dot t ≡ up_to is_dot t ∷ labels_left (part (from_first is_dot t))
        → slice_split is_dot (b ∷ t) ≡ cond v [] (b ∷ up_to is_dot t) ∷ labels_left (part (cond v (b ∷ t) (from_first is_dot t)))
    at_byte true e rest = slice_split-cons_yes is_dot b t e
    at_byte false e rest = slice_split-cons_no is_dot b t e ∙ ap (onto_first b) rest

pub next_label : (p : List ℕ → Bool) (t label : List ℕ) (o : Option (List ℕ)) → label ≡ up_to is_dot t → o ≡ part (from_first is_dot t)
    → list_any p (slice_split is_dot t) ≡ (p label || list_any p (labels_left o))
next_label p t label o e k =
    ap (list_any p) (labels_cut t) ∙ ap (λ l. p l || list_any p (labels_left (part (from_first is_dot t)))) (sym e)
    ∙ ap (λ u. p label || list_any p (labels_left u)) (sym k)

pub fewer_labels : (t : List ℕ) (o : Option (List ℕ)) → o ≡ part (from_first is_dot t) → length (labels_left o) < length (labels_left (Some t))
fewer_labels t o e =
    let here : length (labels_left o) ≡ length (labels_left (part (from_first is_dot t))) = ap (λ u. length (labels_left u)) e in
    omega (arith, here, ap length (labels_cut t))
