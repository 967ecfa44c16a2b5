-- A formatter as a writer that keeps the formatter's options.
use Rattle.std.proofs.Common.{◌≡◌, ℕ, List, [], ◌∷◌, Option, Some, None, Result, Ok, Err, OnOk, sym, ap, subst, ◌∙◌}
use Rattle.std.proofs.Output.{has_written_styled_nil, has_written_styled_append, has_written_styled_of_eq}
use Rattle.std.specs.List.{FoldsTo, concat}
use Rattle.std.specs.Fmt.{IsDefaultSpec, IsFlush, IsPlainFormatter, HasWritten, HasWrittenStyled, WritesInCalls, WritesText}
use Rattle.std.specs.Fmt.{DisplaysOnOk, DisplaysStyledOnOk}
use Rattle.std.specs.declared.fmt.Error.{Error}
use Rattle.std.specs.declared.fmt.Formatter.{Formatter}
use Rattle.uriparse_text.specs.declared.internal.print.Kept.{Kept}
use Rattle.uriparse_text.specs.Printing.{WritesStyled}

module _ {W : Type 0} (took : W → List ℕ → W → Type 0) where
  keeps_reference : (p : Kept W) (xs : List (List ℕ)) (q : Kept W) → FoldsTo (WritesStyled took) p xs q → q.f.ghost_name ≡ p.f.ghost_name
  keeps_reference p [] q h = ap (λ (x : Kept W). x.f.ghost_name) (sym h)
  keeps_reference p (x ∷ xs) q h = keeps_reference h.0 xs q h.2 ∙ h.1.same_reference

  written_in_calls : (p : Kept W) (xs : List (List ℕ)) (q : Kept W) → FoldsTo (WritesStyled took) p xs q → IsFlush p.f.now
      → HasWrittenStyled took p.f.now (concat xs) q.f.now
  written_in_calls p [] q h flush = subst (λ (x : Kept W). HasWrittenStyled took p.f.now [] x.f.now) h (has_written_styled_nil took p.f.now flush)
  written_in_calls p (x ∷ xs) q h flush =
      let first = h.1.wrote flush in
      has_written_styled_append took _ _ _ _ _ first (written_in_calls h.0 xs q h.2 first.flush)

  -- what is written through the writer p, which ends as q; x is what the lent formatter ends as
  wrote_all : (bs : List ℕ) (p q : Kept W) (x : Formatter W) → WritesInCalls (WritesStyled took) p bs q
      → (p.f.ghost_name ≡ q.f.ghost_name → x ≡ q.f.now) → IsFlush p.f.now → HasWrittenStyled took p.f.now bs x
  wrote_all bs p q x h e flush =
      subst (λ (y : Formatter W). HasWrittenStyled took p.f.now bs y) (sym (e (sym (keeps_reference p h.parts q h.calls))))
      (has_written_styled_of_eq took _ _ _ _ h.whole (written_in_calls p h.parts q h.calls flush))

  pub displays_styled : (o : Option (List ℕ)) (p q : Kept W) (x : Formatter W) (r : Result (Unit {0}) Error)
      → OnOk r (WritesText (WritesStyled took) p o q) → (p.f.ghost_name ≡ q.f.ghost_name → x ≡ q.f.now)
      → DisplaysStyledOnOk took p.f.now r o x
  displays_styled None p q x r h e = tt
  displays_styled (Some bs) p q x (Ok u) h e = λ flush ok. wrote_all bs p q x h e flush
  displays_styled (Some bs) p q x (Err u) h e = λ flush ok. cc

  -- the same of a plain formatter, which stays plain
  plain_text : (f g : Formatter W) (bs : List ℕ) → HasWrittenStyled took f bs g → IsPlainFormatter f → HasWritten took f bs g
  plain_text f g bs h plain =
      record { wrote = h.wrote; plain = record { bare = subst IsDefaultSpec (sym h.spec) plain.bare; flush = h.flush } }

  pub displays : (o : Option (List ℕ)) (p q : Kept W) (x : Formatter W) (r : Result (Unit {0}) Error)
      → OnOk r (WritesText (WritesStyled took) p o q) → (p.f.ghost_name ≡ q.f.ghost_name → x ≡ q.f.now)
      → DisplaysOnOk took p.f.now r o x
  displays None p q x r h e = tt
  displays (Some bs) p q x r h e = λ plain ok. plain_text _ _ _ (displays_styled (Some bs) p q x r h e plain.flush ok) plain
