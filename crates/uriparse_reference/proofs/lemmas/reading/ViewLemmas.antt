-- What a view of a reference keeps of its text.
use Rattle.std.proofs.Common.{◌≡◌, ℕ, Bool, true, false, cond, List, [], ◌∷◌, Option, Some, None, Ok, length, refl, sym, ap, ◌∙◌, ◌&&◌, arith, subst}
use Rattle.std.specs.Prelude.{◌==◌, IfErr, IfOk, IfSome, Result, Err, is_some}
use Rattle.std.proofs.lemmas.Bool.Decides.{nat_tests}
use Rattle.uriparse_text.specs.Bytes.{slash}
use Rattle.uriparse_text.specs.Readings.{◌>>=◌, fault_in}
use Rattle.uriparse_path.specs.Path.{PathParts, pieces, text}
use Rattle.uriparse_path.proofs.lemmas.text.PathTextLemmas.{text-spelled}
use Rattle.uriparse_authority.specs.Authority.{AuthorityParts}
use Rattle.uriparse_scheme.specs.declared.scheme.registered.RegisteredScheme.{RegisteredScheme}
use Rattle.uriparse_reference.specs.declared.uri_reference.error.URIReferenceError.{URIReferenceError}
use Rattle.uriparse_reference.specs.Cuts.{path_text}
use Rattle.uriparse_reference.specs.Reading.{fault, reading, parts_of}
use Rattle.uriparse_reference.specs.Reference.{Parts, Spells, Valid, is_abempty, path_of}
use Rattle.uriparse_reference.specs.View.{AreFound, Viewed, assembled, viewed}
use Rattle.uriparse_reference.proofs.lemmas.reading.CutLemmas.{cut_again}
use Rattle.uriparse_reference.proofs.lemmas.reading.ReadingLemmas.{again, found, spelled_pieces}
use Rattle.uriparse_reference.proofs.lemmas.reading.SpellingLemmas.{authority_valid, valid}

-- the text spells the components that were found in it, and they are valid
pub found_spelled : (t s : List ℕ) (k : Option RegisteredScheme) (a : Option AuthorityParts) (h : List ℕ) (m n : ℕ) (q f : Option (List ℕ))
    → AreFound t s k a h m n q f → Spells t (parts_of t a h q f)
found_spelled t s k a h m n q f are = found t (parts_of t a h q f) are.is_read

pub found_valid : (t s : List ℕ) (k : Option RegisteredScheme) (a : Option AuthorityParts) (h : List ℕ) (m n : ℕ) (q f : Option (List ℕ))
    → AreFound t s k a h m n q f → Valid (parts_of t a h q f)
found_valid t s k a h m n q f are = valid t (parts_of t a h q f) (found_spelled t s k a h m n q f are)

-- the text is read as the components that are put together from what was found, with the path that was made
pub assembled_read : (t s : List ℕ) (k : Option RegisteredScheme) (a : Option AuthorityParts) (h : List ℕ) (m n : ℕ) (q f : Option (List ℕ)) (p : PathParts)
    → AreFound t s k a h m n q f → p ≡ path_of (is_some a) h → reading t ≡ Ok (assembled s a p q f)
assembled_read t s k a h m n q f p are made = rw (are.is_scheme, made) are.is_read

pub assembled_valid : (t s : List ℕ) (k : Option RegisteredScheme) (a : Option AuthorityParts) (h : List ℕ) (m n : ℕ) (q f : Option (List ℕ)) (p : PathParts)
    → AreFound t s k a h m n q f → p ≡ path_of (is_some a) h → Valid (assembled s a p q f)
assembled_valid t s k a h m n q f p are made = valid t _ (found t _ (assembled_read t s k a h m n q f p are made))

-- ---- what is viewed is the text with the components that are read

abbrev with_text : List ℕ → Result Parts URIReferenceError → Result Viewed URIReferenceError
with_text t r = do
  parts ← r
  Ok (record { text = t; parts = parts })

pub viewed_read : (t : List ℕ) (p : Parts) → reading t ≡ Ok p → viewed t ≡ Ok (record { text = t; parts = p })
viewed_read t p e = ap (with_text t) e

pub viewed_fault : (t : List ℕ) (x : URIReferenceError) → reading t ≡ Err x → viewed t ≡ Err x
viewed_fault t x e = ap (with_text t) e

pub viewed_again : (t : List ℕ) (p : Parts) → Spells t p → viewed t ≡ Ok (record { text = t; parts = p })
viewed_again t p s = viewed_read t p (again t p s)

pub viewed_text : (t : List ℕ) (r : Result Viewed URIReferenceError) → r ≡ viewed t → IfOk r (λ v. v.text ≡ t)
viewed_text t r e = subst (λ o. IfOk o (λ v. v.text ≡ t)) (sym e) (kept (reading t))
  where
    kept : (o : Result Parts URIReferenceError) → IfOk (with_text t o) (λ v. v.text ≡ t)
    kept (Ok p) = refl
    kept (Err x) = tt

pub viewed_spelled : (t : List ℕ) (r : Result Viewed URIReferenceError) → r ≡ viewed t → IfOk r (λ v. Spells t v.parts)
viewed_spelled t r e = subst (λ o. IfOk o (λ v. Spells t v.parts)) (sym e) (spelled (reading t) refl)
  where
    spelled : (o : Result Parts URIReferenceError) → reading t ≡ o → IfOk (with_text t o) (λ v. Spells t v.parts)
    spelled (Ok p) is = found t p is
    spelled (Err x) is = tt

pub viewed_faulty : (t : List ℕ) (r : Result Viewed URIReferenceError) → r ≡ viewed t → IfErr r (λ x. fault t ≡ Some x)
viewed_faulty t r e = subst (λ o. IfErr o (λ x. fault t ≡ Some x)) (sym e) (told (reading t) refl)
  where
    told : (o : Result Parts URIReferenceError) → reading t ≡ o → IfErr (with_text t o) (λ x. fault t ≡ Some x)
    told (Ok p) is = tt
    told (Err x) is = ap fault_in is

-- after an authority the path's text is empty or begins with a slash
abempty_spelled : (t : List ℕ) (p : Parts) → Spells t p → is_some p.authority ≡ true → is_abempty (path_text t) ≡ true
abempty_spelled t p s there =
    let cut = cut_again t s.scheme_text s.authority_text s.path_text p.query p.fragment (spelled_pieces t p s) s.whole in
    ap is_abempty cut.path ∙ held s.authority_text ((authority_valid s.authority_text p.authority s.is_authority).1 ∙ there) s.abempty
  where
    held : {Q : Type 0} (o : Option (List ℕ)) → is_some o ≡ true → IfSome o (λ _. Q) → Q
    held None e h = absurd (cc)
    held (Some x) e h = h

pub not_empty : (b : ℕ) (t : List ℕ) → (length (b ∷ t) == 0) ≡ false
not_empty b t = grind (arith, nat_tests)

-- so the text of the path is its own, or a slash if that is empty
pub text-path_of : (w : Bool) (h : List ℕ) → (w ≡ true → is_abempty h ≡ true) → text (path_of w h) ≡ cond ((length h == 0) && w) (slash ∷ []) h
text-path_of false [] e = refl
text-path_of true [] e = refl
text-path_of false (b ∷ t) e = text-spelled (b ∷ t) ∙ ap (λ v. cond (v && false) (slash ∷ []) (b ∷ t)) (sym (not_empty b t))
text-path_of true (b ∷ t) e =
    ap (λ v. text (record { absolute = v; segments = pieces (b ∷ t) })) (sym (e refl)) ∙ text-spelled (b ∷ t)
    ∙ ap (λ v. cond (v && true) (slash ∷ []) (b ∷ t)) (sym (not_empty b t))

pub found_path : (t s : List ℕ) (k : Option RegisteredScheme) (a : Option AuthorityParts) (h : List ℕ) (m n : ℕ) (q f : Option (List ℕ))
    → AreFound t s k a h m n q f → text (path_of (is_some a) h) ≡ cond ((length h == 0) && is_some a) (slash ∷ []) h
found_path t s k a h m n q f are =
    text-path_of (is_some a) h (λ there. ap is_abempty are.is_cut ∙ abempty_spelled t (parts_of t a h q f) (found_spelled t s k a h m n q f are) there)
