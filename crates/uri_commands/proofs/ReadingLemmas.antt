-- What is said of the one reference that a text spells, by reading the text.
use Rattle.std.proofs.Common.{◌≡◌, ◌↔◌, inl, ℕ, true, List, Result, Ok, Err, refl}
use Rattle.std.specs.Prelude.{MatchResult, is_some}
use Rattle.uriparse.specs.Reading.{reading}
use Rattle.uriparse.specs.Reference.{Parts, Spells}
use Rattle.uriparse.specs.URIReferenceError.{URIReferenceError}
use Rattle.uri_commands.specs.Output.{Answer, OfReference, OfUri}

-- reading finds what a text spells
abbrev pub Reads : Type 0
Reads = (t : List ℕ) (p : Parts) → (reading t ≡ Ok p) ↔ Spells t p

pub of_reference : Reads → (t : List ℕ) (Is : Parts → Answer → Type 0) (a : Answer) → MatchResult (reading t) (λ p. Is p a) (λ e. ⊥)
    → OfReference t Is a
of_reference reads t Is a = by_result (reading t) refl
  where
    by_result : (r : Result Parts URIReferenceError) → reading t ≡ r → MatchResult r (λ p. Is p a) (λ e. ⊥) → OfReference t Is a
    by_result (Ok p) is h = inl (p, (reads t p).0 is, h)
    by_result (Err e) is h = absurd h

pub of_two : Reads → (t u : List ℕ) (Is : Parts → Parts → Answer → Type 0) (a : Answer)
    → MatchResult (reading t) (λ p. MatchResult (reading u) (λ q. Is p q a) (λ e. ⊥)) (λ e. ⊥) → OfReference t (λ p. OfReference u (Is p)) a
of_two reads t u Is a = by_result (reading t) refl
  where
    by_result : (r : Result Parts URIReferenceError) → reading t ≡ r
        → MatchResult r (λ p. MatchResult (reading u) (λ q. Is p q a) (λ e. ⊥)) (λ e. ⊥)
        → OfReference t (λ p. OfReference u (Is p)) a
    by_result (Ok p) is h = inl (p, (reads t p).0 is, of_reference reads u (Is p) a h)
    by_result (Err e) is h = absurd h

pub of_uri : Reads → (t : List ℕ) (Is : Parts → Answer → Type 0) (a : Answer)
    → MatchResult (reading t) (λ p. (is_some p.scheme ≡ true) × Is p a) (λ e. ⊥)
    → OfUri t Is a
of_uri reads t Is a = by_result (reading t) refl
  where
    by_result : (r : Result Parts URIReferenceError) → reading t ≡ r → MatchResult r (λ p. (is_some p.scheme ≡ true) × Is p a) (λ e. ⊥)
        → OfUri t Is a
    by_result (Ok p) is h = inl (p, (reads t p).0 is, h.0, h.1)
    by_result (Err e) is h = absurd h

pub of_base : Reads → (t u : List ℕ) (Is : Parts → Parts → Answer → Type 0) (a : Answer)
    → MatchResult (reading t) (λ p. (is_some p.scheme ≡ true) × MatchResult (reading u) (λ q. Is p q a) (λ e. ⊥)) (λ e. ⊥)
    → OfUri t (λ p. OfReference u (Is p)) a
of_base reads t u Is a = by_result (reading t) refl
  where
    by_result : (r : Result Parts URIReferenceError) → reading t ≡ r
        → MatchResult r (λ p. (is_some p.scheme ≡ true) × MatchResult (reading u) (λ q. Is p q a) (λ e. ⊥)) (λ e. ⊥)
        → OfUri t (λ p. OfReference u (Is p)) a
    by_result (Ok p) is h = inl (p, (reads t p).0 is, h.0, of_reference reads u (Is p) a h.1)
    by_result (Err e) is h = absurd h
