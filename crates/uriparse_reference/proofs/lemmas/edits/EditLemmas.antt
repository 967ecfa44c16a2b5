-- The result of an edit is valid.
use Rattle.std.proofs.Common.{◌≡◌, ℕ, ◌+◌, suc, arith, Bool, true, false, cond, List, [], ◌∷◌, length, Option, Some, None, refl, sym, ap, ◌∙◌, subst, ◌||◌, inl}
use Rattle.std.specs.Prelude.{IfSome, is_some, Result, Ok, Err, MatchResult}
use Rattle.uriparse_text.specs.Readings.{unless_fault, Settles}
use Rattle.uriparse_text.specs.Query.{IsQuery}
use Rattle.uriparse_text.specs.Fragment.{IsFragment}
use Rattle.uriparse_path.specs.Path as path
use Rattle.uriparse_path.specs.Path.{PathParts, IsListed, has_two_slashes}
use Rattle.uriparse_path.proofs.lemmas.text.PathTextLemmas.{spelled-text, listed-respelled}
use Rattle.uriparse_authority.specs.Authority as authority
use Rattle.uriparse_authority.specs.Authority.{AuthorityParts}
use Rattle.uriparse_scheme.specs.declared.scheme.Scheme.{Scheme}
use Rattle.uriparse_scheme.specs.Scheme as scheme
use Rattle.uriparse_reference.specs.declared.uri_reference.error.URIReferenceError.{URIReferenceError}
use Rattle.uriparse_reference.specs.declared.uri_reference.error.URIReferenceError.TheVariants as errors
use Rattle.uriparse_reference.specs.Reference.{Parts, Valid, path_refusal, is_noscheme}
use Rattle.uriparse_reference.specs.declared.uri_reference.edit.Edit.{Edit}
use Rattle.uriparse_reference.specs.declared.uri_reference.edit.Edit.TheVariants as edits
use Rattle.uriparse_reference.specs.Edits.{placed, refusal, of_parts, edited, IsRefused, Run, ends, stops, goes}
use Rattle.uriparse_reference.proofs.lemmas.reading.SpellingLemmas.{HasPlace, placed_text, same_path}

-- a path as a reference holds it obeys the rules of a valid reference's path
pub has_place : (v w : Bool) (h : PathParts) → IsListed h.segments → path_refusal v w (path.text h) ≡ None → HasPlace v w (placed w h)
has_place v true h i k = record { is_path = i; absolute = λ _. refl; plain = refl; fit = refl }
has_place v false h i k = placed_text v false (path.text h) (subst (λ q. IsListed q.segments) (sym (spelled-text h i)) (listed-respelled h i)) k

pub if_there : {A : Type 0} {Q : Type 0} (a : Option A) → (is_some a ≡ true → Q) → IfSome a (λ _. Q)
if_there None h = tt
if_there (Some a) h = h refl

-- components that are not rejected build a valid reference
pub valid_parts : (p : Parts) → IfSome p.scheme scheme.Valid → IfSome p.authority authority.Valid → IsListed p.path.segments → IfSome p.query IsQuery
    → IfSome p.fragment IsFragment → refusal p ≡ None → Valid (record p { path = placed (is_some p.authority) p.path })
valid_parts p s a i q f k =
    let z = has_place (is_some p.scheme) (is_some p.authority) p.path i k in
    record {
      is_scheme = s;
      is_authority = a;
      is_path = z.is_path;
      absolute = if_there p.authority z.absolute;
      plain = z.plain;
      fit = z.fit;
      is_query = q;
      is_fragment = f;
    }

-- a path that may be in any reference may follow a scheme
pub with_scheme : (v w : Bool) (h : List ℕ) → path_refusal v w h ≡ None → path_refusal true w h ≡ None
with_scheme v true h k = refl
with_scheme v false h k = by_slashes (has_two_slashes h) k
  where
    by_slashes : (b : Bool)
        → cond b (Some errors.AbsolutePathStartsWithTwoSlashes) (cond (v || is_noscheme h) None (Some errors.SchemelessPathStartsWithColonSegment)) ≡ None
        → cond b (Some errors.AbsolutePathStartsWithTwoSlashes) None ≡ None
    by_slashes true k = cc
    by_slashes false k = refl

pub valid_scheme : (p : Parts) (s : Option Scheme) → Valid p → IfSome s scheme.Valid
    → path_refusal (is_some s) (is_some p.authority) (path.text p.path) ≡ None → Valid (record p { scheme = s })
valid_scheme p s v i k = record {
  is_scheme = i;
  is_authority = v.is_authority;
  is_path = v.is_path;
  absolute = v.absolute;
  plain = v.plain;
  fit = k;
  is_query = v.is_query;
  is_fragment = v.is_fragment;
}

pub valid_authority : (p : Parts) (a : AuthorityParts) → Valid p → authority.Valid a → Valid (record p { authority = Some a; path = path.made_absolute p.path })
valid_authority p a v i = record {
  is_scheme = v.is_scheme;
  is_authority = i;
  is_path = v.is_path;
  absolute = refl;
  plain = refl;
  fit = refl;
  is_query = v.is_query;
  is_fragment = v.is_fragment;
}

pub valid_no_authority : (p : Parts) → Valid p → path_refusal (is_some p.scheme) false (path.text p.path) ≡ None → Valid (record p { authority = None })
valid_no_authority p v k = record {
  is_scheme = v.is_scheme;
  is_authority = tt;
  is_path = v.is_path;
  absolute = tt;
  plain = v.plain;
  fit = k;
  is_query = v.is_query;
  is_fragment = v.is_fragment;
}

pub valid_path : (p : Parts) (h : PathParts) → Valid p → IsListed h.segments → path_refusal (is_some p.scheme) (is_some p.authority) (path.text h) ≡ None
    → Valid (record p { path = placed (is_some p.authority) h })
valid_path p h v i k = valid_parts (record p { path = h }) v.is_scheme v.is_authority i v.is_query v.is_fragment k

pub valid_query : (p : Parts) (q : Option (List ℕ)) → Valid p → IfSome q IsQuery → Valid (record p { query = q })
valid_query p q v i = record {
  is_scheme = v.is_scheme;
  is_authority = v.is_authority;
  is_path = v.is_path;
  absolute = v.absolute;
  plain = v.plain;
  fit = v.fit;
  is_query = i;
  is_fragment = v.is_fragment;
}

pub valid_fragment : (p : Parts) (f : Option (List ℕ)) → Valid p → IfSome f IsFragment → Valid (record p { fragment = f })
valid_fragment p f v i = record {
  is_scheme = v.is_scheme;
  is_authority = v.is_authority;
  is_path = v.is_path;
  absolute = v.absolute;
  plain = v.plain;
  fit = v.fit;
  is_query = v.is_query;
  is_fragment = i;
}

-- ---- an edit replaces a component

abbrev pub build : Option Scheme → Option AuthorityParts → PathParts → Option (List ℕ) → Option (List ℕ) → Parts
build scheme authority path query fragment = record { scheme = scheme; authority = authority; path = path; query = query; fragment = fragment }

-- a valid reference holds its path as it is
pub placed_same : (p : Parts) → Valid p → placed (is_some p.authority) p.path ≡ p.path
placed_same p v = by_authority p.authority v.absolute
  where
    make : Bool → PathParts
    make b = record { absolute = b; segments = p.path.segments }

    by_authority : (a : Option AuthorityParts) → IfSome a (λ _. p.path.absolute ≡ true) → placed (is_some a) p.path ≡ p.path
    by_authority None h = same_path p.path v.is_path v.plain
    by_authority (Some a) h = sym (ap make h)

pub accepts : (p q r : Parts) (o : Option URIReferenceError) → o ≡ None → q ≡ r → unless_fault o q ≡ Ok r
accepts p q r o e f = ap (λ x. unless_fault x q) e ∙ ap Ok f

-- the components of a valid reference build it
pub own_parts : (p : Parts) → Valid p → of_parts p ≡ Ok p
own_parts p v = accepts p (record p { path = placed (is_some p.authority) p.path }) p (refusal p) v.fit
    (ap (λ h. build p.scheme p.authority h p.query p.fragment) (placed_same p v))

-- ---- by the results of the tests of a path

-- a test that rejects nothing is right
pub no_refusal : (v w b d : Bool) (t : List ℕ) (o : Option URIReferenceError) → b ≡ v → d ≡ w → o ≡ path_refusal b d t → o ≡ None → path_refusal v w t ≡ None
no_refusal v w b d t o e f g h = ap (λ u. path_refusal u w t) (sym e) ∙ ap (λ u. path_refusal b u t) (sym f) ∙ (sym g ∙ h)

pub tested_path : (p : Parts) (h g : PathParts) (b d : Bool) (o : Option URIReferenceError) → Valid p → IsListed h.segments
    → b ≡ is_some p.scheme → d ≡ is_some p.authority → o ≡ path_refusal b d (path.text h) → o ≡ None → g ≡ placed d h → Valid (record p { path = g })
tested_path p h g b d o v i e f k l m =
    subst (λ u. Valid (record p { path = u })) (sym (m ∙ ap (λ u. placed u h) f))
    (valid_path p h v i (no_refusal (is_some p.scheme) (is_some p.authority) b d (path.text h) o e f k l))

pub tested_parts : (p : Parts) (g : PathParts) (b d : Bool) (o : Option URIReferenceError) → IfSome p.scheme scheme.Valid
    → IfSome p.authority authority.Valid → IsListed p.path.segments → IfSome p.query IsQuery → IfSome p.fragment IsFragment
    → b ≡ is_some p.scheme → d ≡ is_some p.authority → o ≡ path_refusal b d (path.text p.path) → o ≡ None → g ≡ placed d p.path
    → Valid (record p { path = g })
tested_parts p g b d o s a i q f e h k l m =
    subst (λ u. Valid (record p { path = u })) (sym (m ∙ ap (λ u. placed u p.path) h))
    (valid_parts p s a i q f (no_refusal (is_some p.scheme) (is_some p.authority) b d (path.text p.path) o e h k l))

-- ---- a scheme is set

pub edited_scheme : (p : Parts) (s : Option Scheme) → path_refusal (is_some s) (is_some p.authority) (path.text p.path) ≡ None
    → edited p (edits.Scheme s) ≡ Ok (record p { scheme = s })
edited_scheme p None k = accepts p (record p { scheme = None }) (record p { scheme = None }) _ k refl
edited_scheme p (Some s) k = refl

-- ---- an authority is set

pub edited_some : (p : Parts) (o : Option AuthorityParts) (h : PathParts) → is_some o ≡ true → h ≡ path.made_absolute p.path
    → edited p (edits.Authority o) ≡ Ok (build p.scheme o h p.query p.fragment)
edited_some p None h k e = cc
edited_some p (Some a) h k e = ap (λ g. Ok (build p.scheme (Some a) g p.query p.fragment)) (sym e)

pub valid_some : (p : Parts) (o : Option AuthorityParts) (h : PathParts) → is_some o ≡ true → h ≡ path.made_absolute p.path → Valid p
    → IfSome o authority.Valid → Valid (build p.scheme o h p.query p.fragment)
valid_some p None h k e v i = cc
valid_some p (Some a) h k e v i = subst (λ g. Valid (build p.scheme (Some a) g p.query p.fragment)) (sym e) (valid_authority p a v i)

pub edited_none : (p : Parts) (o : Option AuthorityParts) → is_some o ≡ false → path_refusal (is_some p.scheme) false (path.text p.path) ≡ None
    → edited p (edits.Authority o) ≡ Ok (build p.scheme o p.path p.query p.fragment)
edited_none p None h k = accepts p (record p { authority = None }) (record p { authority = None }) _ k refl
edited_none p (Some a) h k = cc

pub valid_none : (p : Parts) (o : Option AuthorityParts) → is_some o ≡ false → path_refusal (is_some p.scheme) false (path.text p.path) ≡ None → Valid p
    → Valid (build p.scheme o p.path p.query p.fragment)
valid_none p None h k v = valid_no_authority p v k
valid_none p (Some a) h k v = cc

-- ---- an edit of a list

-- components that are taken apart and put together again build what they built
pub remade : (p q : Parts) → p.scheme ≡ q.scheme → p.authority ≡ q.authority → p.path ≡ q.path → p.query ≡ q.query → p.fragment ≡ q.fragment
    → of_parts p ≡ of_parts q
remade p q s a h k f =
    ap (λ x. of_parts (build x p.authority p.path p.query p.fragment)) s ∙ ap (λ x. of_parts (build q.scheme x p.path p.query p.fragment)) a
    ∙ ap (λ x. of_parts (build q.scheme q.authority x p.query p.fragment)) h ∙ ap (λ x. of_parts (build q.scheme q.authority q.path x p.fragment)) k
    ∙ ap (λ x. of_parts (build q.scheme q.authority q.path q.query x)) f

-- the contract of a setter is the rule of the edit
pub settled : (old new : Parts) (d e : Edit) (r : Result (Unit {0}) URIReferenceError) → d ≡ e → Settles old new r (edited old e)
    → MatchResult r (λ _. edited old d ≡ Ok new) (λ x. IsRefused old d x × (new ≡ old))
settled old new d e (Ok u) same h = ap (edited old) same ∙ h
settled old new d e (Err x) same h = (inl (ap (edited old) same ∙ h.0), h.1)

-- ---- lists of edits

-- A run over the edits that are left, after i edits, is the end of a run over all of them.
abbrev pub Continues : Parts → List Edit → Parts → ℕ → List Edit → Type 0
Continues p all q i rest = (n : ℕ) (r : Parts) (o : Option URIReferenceError) → Run q rest n r o → Run p all (i + n) r o

pub step : (p q s : Parts) (all rest : List Edit) (i : ℕ) (e : Edit) → Continues p all q i (e ∷ rest) → edited q e ≡ Ok s → Continues p all s (i + 1) rest
step p q s all rest i e c k n r o h =
    let same : i + suc n ≡ (i + 1) + n = omega arith in
    subst (λ m. Run p all m r o) same (c (suc n) r o (goes q s r e rest n o k h))

pub stop : (p q r : Parts) (all rest : List Edit) (i : ℕ) (e : Edit) (x : URIReferenceError) → Continues p all q i (e ∷ rest) → IsRefused q e x → r ≡ q
    → Run p all i r (Some x)
stop p q r all rest i e x c k same =
    let none : i + 0 ≡ i = omega arith in
    subst (λ u. Run p all i u (Some x)) (sym same) (subst (λ m. Run p all m q (Some x)) none (c 0 q (Some x) (stops q e rest x k)))

pub empty : (l : List Edit) → length l ≡ 0 → l ≡ []
empty [] h = refl
empty (e ∷ l) h = absurd (omega (arith, h))

pub finish : (p q : Parts) (all rest : List Edit) (i : ℕ) → Continues p all q i rest → rest ≡ [] → i + length rest ≡ length all → Run p all (length all) q None
finish p q all rest i c none e =
    let last : i + 0 ≡ length all = ap (λ l. i + length l) (sym none) ∙ e in
    subst (λ m. Run p all m q None) last (c 0 q None (subst (λ l. Run q l 0 q None) (sym none) (ends q)))
