-- The reference that leads from a base to a target, and its text.
use Rattle.std.proofs.Common.{◌≡◌, ℕ, List, Option, sym, ap, ◌∙◌}
use Rattle.std.specs.Option.{option_map}
use Rattle.uriparse_scheme.specs.Scheme as schemes
use Rattle.uriparse_authority.specs.Authority as authorities
use Rattle.uriparse_path.specs.Path.{PathParts, spelled, text}
use Rattle.uriparse_reference.specs.Reference.{Parts, Spells, Valid, authority_part, joined, print, scheme_part}
use Rattle.uriparse_reference.specs.Relate.{inner, relative}
use Rattle.uriparse_reference.proofs.lemmas.reading.PrintedLemmas.{spelled_reads_back}
use Rattle.uriparse_reference.proofs.lemmas.reading.SpellingLemmas.{valid}
use Rattle.uriparse_reference.proofs.lemmas.resolving.RelativeLemmas.{relative_spelled}
use Rattle.uriparse_reference.proofs.lemmas.writing.EndLemmas.{path_spelled}
use Rattle.uriparse_reference.specs.declared.uri_reference.view.relativize.RelativeParts.{RelativeParts}
use Rattle.uriparse_reference.specs.RelativeText.{IsOf, path_text, text_of}

-- the text of the components is that of the reference
pub printed : (l : RelativeParts) (r : Parts) → IsOf l r → text_of l ≡ print r
printed l r is =
    ap (λ x. joined (option_map schemes.text x) (option_map authorities.print l.authority) (path_text l.path) l.query l.fragment) is.scheme
    ∙ ap (λ x. joined (scheme_part r) (option_map authorities.print x) (path_text l.path) l.query l.fragment) is.authority
    ∙ ap (λ x. joined (scheme_part r) (authority_part r) x l.query l.fragment) is.path
    ∙ ap (λ x. joined (scheme_part r) (authority_part r) (text r.path) x l.fragment) is.query
    ∙ ap (λ x. joined (scheme_part r) (authority_part r) (text r.path) r.query x) is.fragment

-- paths of one text are the same
pub same_path : (p q : Parts) (x y : List ℕ) → Valid p → Valid q → x ≡ text p.path → y ≡ text q.path → x ≡ y → p.path ≡ q.path
same_path p q x y v w e f h = sym (path_spelled p v) ∙ ap spelled (sym e ∙ h ∙ f) ∙ path_spelled q w

pub same_text : (p q : Parts) (x y : List ℕ) → x ≡ text p.path → y ≡ text q.path → p.path ≡ q.path → x ≡ y
same_text p q x y e f h = e ∙ ap text h ∙ sym f

-- what leads from one path to the other, by their texts
pub inner_of : (b t : Parts) (x y : List ℕ) (o : Option PathParts) → Valid b → Valid t → x ≡ text b.path → y ≡ text t.path
    → inner (spelled x) (spelled y) ≡ o → inner b.path t.path ≡ o
inner_of b t x y o v w e f h =
    sym (ap (λ u. inner (spelled u) (spelled y)) e ∙ ap (λ u. inner (spelled (text b.path)) (spelled u)) f
    ∙ ap (λ p. inner p (spelled (text t.path))) (path_spelled b v) ∙ ap (inner b.path) (path_spelled t w))
    ∙ h

-- its text spells it, since the texts of both were read
pub read_again : (t u : List ℕ) (b p : Parts) → Spells t b → Spells u p → Spells (print (relative b p)) (relative b p)
read_again t u b p s s' = relative_spelled b p (valid t b s) (valid u p s') (spelled_reads_back u p s')
