-- Building a reference from its components, editing one, and lists of edits.
use Rattle.std.specs.Prelude.{◌≡◌, ◌⊎◌, ℕ, suc, Bool, true, false, List, [], ◌∷◌, Option, Some, None, Result, Ok, Err, is_some}
use Rattle.uriparse_text.specs.Readings.{◌>>=◌, of_piece, unless_fault}
use Rattle.uriparse_path.specs.Path as path
use Rattle.uriparse_path.specs.Edits.{pushing}
use Rattle.uriparse_reference.specs.declared.uri_reference.edit.Edit.{Edit}
use Rattle.uriparse_reference.specs.declared.uri_reference.edit.Edit.TheVariants as edits
use Rattle.uriparse_reference.specs.declared.uri_reference.error.URIReferenceError.{URIReferenceError}
use Rattle.uriparse_text.specs.declared.segment.error.PathError.TheVariants.{OutOfMemory}
use Rattle.uriparse_reference.specs.declared.uri_reference.error.URIReferenceError.TheVariants as errors
use Rattle.uriparse_reference.specs.Reference.{Parts, path_refusal, print}
use Rattle.uriparse_reference.specs.Normal.{canonical_texts, normal}

-- the path as a reference holds it: made absolute with an authority, else the one that its text spells
abbrev pub placed : Bool → path.PathParts → path.PathParts
placed true h = path.made_absolute h
placed false h = path.spelled (path.text h)

-- why these components do not build a reference
abbrev pub refusal : Parts → Option URIReferenceError
refusal p = path_refusal (is_some p.scheme) (is_some p.authority) (path.text p.path)

-- the reference that these components build, or why they build none
abbrev pub of_parts : Parts → Result Parts URIReferenceError
of_parts p = unless_fault (refusal p) (record p { path = placed (is_some p.authority) p.path })

-- the reference after an edit, or the error of the edit
abbrev pub edited : Parts → Edit → Result Parts URIReferenceError
edited p (edits.Scheme (Some s)) = Ok (record p { scheme = Some s })
edited p (edits.Scheme None) =
    unless_fault (path_refusal false (is_some p.authority) (path.text p.path)) (record p { scheme = None })
edited p (edits.Authority (Some a)) = Ok (record p { authority = Some a; path = path.made_absolute p.path })
edited p (edits.Authority None) =
    unless_fault (path_refusal (is_some p.scheme) false (path.text p.path)) (record p { authority = None })
edited p (edits.Path h) = of_parts (record p { path = h })
edited p (edits.Query q) = Ok (record p { query = q })
edited p (edits.Fragment f) = Ok (record p { fragment = f })
edited p edits.Normalize = Ok (normal p)

-- The reference with a segment appended to its path, or why not: the path is full, or may not stand in the reference.
abbrev pub segment_pushed : Parts → List ℕ → Result Parts URIReferenceError
segment_pushed p s = of_piece errors.Path (pushing p.path (Ok s)) >>= (λ h. edited p (edits.Path h))

-- the components with one of them replaced, which may not build a reference; or their normal form
abbrev pub replaced : Parts → Edit → Parts
replaced p (edits.Scheme scheme) = record p { scheme = scheme }
replaced p (edits.Authority authority) = record p { authority = authority }
replaced p (edits.Path path) = record p { path = path }
replaced p (edits.Query query) = record p { query = query }
replaced p (edits.Fragment fragment) = record p { fragment = fragment }
replaced p edits.Normalize = normal p

-- The edit normalizes a reference that does not print as its normal form and has a text that is not canonical, and the error is that memory
-- ran out.
pub record WantsMemory (p : Parts) (e : Edit) (x : URIReferenceError) : Type 0 where
  pub normalises : e ≡ edits.Normalize
  pub differs : print (normal p) ≡ print p → ⊥
  pub spelled : canonical_texts p ≡ p → ⊥
  pub error : x ≡ errors.Path OutOfMemory

-- The edit fails with this error, by its rule or because memory ran out.
abbrev pub IsRefused : Parts → Edit → URIReferenceError → Type 0
IsRefused p e x = (edited p e ≡ Err x) ⊎ WantsMemory p e x

-- The error is that memory ran out.
abbrev pub IsOutOfMemory : Option URIReferenceError → Type 0
IsOutOfMemory o = o ≡ Some (errors.Path OutOfMemory)

-- From these components the first n edits of the list are accepted, one after another, and yield the components q. They are all the edits, or
-- the next one fails.
pub data Run : Parts → List Edit → ℕ → Parts → Option URIReferenceError → Type 0 where
  ends : (p : Parts) → Run p [] 0 p None
  stops : (p : Parts) (e : Edit) (es : List Edit) (x : URIReferenceError) → IsRefused p e x → Run p (e ∷ es) 0 p (Some x)
  goes : (p r q : Parts) (e : Edit) (es : List Edit) (n : ℕ) (o : Option URIReferenceError)
      → edited p e ≡ Ok r → Run r es n q o → Run p (e ∷ es) (suc n) q o
