-- What a text spells is valid, and the printed text of a valid reference spells it.
use Rattle.std.proofs.Common.{◌≡◌, ℕ, Bool, true, false, cond, List, drop, Option, Some, None, refl, sym, ap, ◌∙◌, subst, ◌&&◌}
use Rattle.std.specs.Prelude.{not, IfSome, is_some}
use Rattle.std.specs.Option.{option_map}
use Rattle.std.proofs.lemmas.Bool.{false≢true}
use Rattle.uriparse_text.specs.Readings.{IfPresent}
use Rattle.uriparse_path.specs.Path.{PathParts, IsPath, IsListed}
use Rattle.uriparse_path.specs.Path as path
use Rattle.uriparse_path.proofs.lemmas.text.PathTextLemmas.{text-spelled, spelled-text}
use Rattle.uriparse_authority.specs.Authority as authority
use Rattle.uriparse_authority.specs.Authority.{AuthorityParts}
use Rattle.uriparse_authority.proofs.lemmas.authorities.AuthorityLemmas as authorities
use Rattle.uriparse_scheme.specs.declared.scheme.Scheme.{Scheme}
use Rattle.uriparse_scheme.specs.Scheme as scheme
use Rattle.uriparse_scheme.proofs.lemmas.schemes.SchemeLemmas as schemes
use Rattle.uriparse_reference.specs.Reference.{Parts, is_abempty, path_refusal, path_of, Spells, Valid, ReadsBack, Same, print}
use Rattle.uriparse_reference.proofs.lemmas.reading.ReadingLemmas.{scheme_back, authority_back}

-- ---- a valid reference's path, by its text

pub same_path : (h : PathParts) → IsListed h.segments → path.has_hidden_root h ≡ false → path.spelled (path.text h) ≡ h
same_path h is plain = spelled-text h is ∙ ap (λ v. cond {A = PathParts} v (record { absolute = true; segments = drop 1 h.segments }) h) plain

-- the path is the one that its text stands for, and the text is that of a path
pub record IsPlaced (v w : Bool) (h : PathParts) : Type 0 where
  pub is_path : IsPath (path.text h)
  pub abempty : w ≡ true → is_abempty (path.text h) ≡ true
  pub fit : path_refusal v w (path.text h) ≡ None
  pub same : h ≡ path_of w (path.text h)

pub valid_placed : (p : Parts) → Valid p → IsPlaced (is_some p.scheme) (is_some p.authority) p.path
valid_placed p v =
    let e = same_path p.path v.is_path v.plain in
    record {
      is_path = subst (λ q. IsListed q.segments) (sym e) v.is_path;
      abempty = λ there. by_flag p.path (flag p.authority v.absolute there);
      fit = v.fit;
      same = by_authority p.authority v.absolute p.path e;
    }
  where
    flag : (a : Option AuthorityParts) → IfSome a (λ _. p.path.absolute ≡ true) → is_some a ≡ true → p.path.absolute ≡ true
    flag (Some a) h there = h
    flag None h there = absurd (false≢true there)

    by_flag : (h : PathParts) → h.absolute ≡ true → is_abempty (path.text h) ≡ true
    by_flag h e = rw e refl

    make : Bool → PathParts → PathParts
    make v h = record { absolute = v; segments = h.segments }

    by_authority : (a : Option AuthorityParts) → IfSome a (λ _. p.path.absolute ≡ true) → (h : PathParts) → path.spelled (path.text p.path) ≡ p.path
        → p.path ≡ path_of (is_some a) (path.text p.path)
    by_authority None h q e = sym e
    by_authority (Some a) h q e = ap (λ v. make v p.path) h ∙ sym (ap (make true) e)

pub present : {A : Type 0} {Q : Type 0} (f : A → List ℕ) (a : Option A) → (is_some a ≡ true → Q) → IfSome (option_map f a) (λ _. Q)
present f None h = tt
present f (Some a) h = h refl

pub mapped : {A : Type 0} (f : A → List ℕ) (a : Option A) → is_some (option_map f a) ≡ is_some a
mapped f None = refl
mapped f (Some a) = refl

pub back : (p : Parts) → Valid p → ReadsBack p → Spells (print p) p
back p v r =
    let i = valid_placed p v in
    let x = mapped scheme.text p.scheme in
    let y = mapped authority.print p.authority in
    record {
      scheme_text = option_map scheme.text p.scheme;
      authority_text = option_map authority.print p.authority;
      path_text = path.text p.path;
      whole = refl;
      is_scheme = scheme_back p.scheme v.is_scheme;
      is_authority = authority_back p.authority v.is_authority r;
      is_path = i.is_path;
      abempty = present authority.print p.authority i.abempty;
      fit = rw (x, y) v.fit;
      is_query = v.is_query;
      is_fragment = v.is_fragment;
      path = rw y i.same;
    }

-- ---- what is spelled is valid

-- the path that a text stands for hides no slash
pub plain_spelled : (h : List ℕ) → IsPath h → path.has_hidden_root (path.spelled h) ≡ false
plain_spelled h is = by_flag (path.has_hidden_root (path.spelled h)) refl (sym (spelled-text (path.spelled h) is) ∙ ap path.spelled (text-spelled h))
  where
    by_flag : (v : Bool) → path.has_hidden_root (path.spelled h) ≡ v
        → cond {A = PathParts} v (record { absolute = true; segments = drop 1 (path.spelled h).segments }) (path.spelled h) ≡ path.spelled h → v ≡ false
    by_flag false e k = refl
    by_flag true e k = absurd (false≢true (sym (ap (λ b. not b && path.starts_with_empty_segment (path.spelled h).segments) (sym (ap (λ q. q.absolute) k))) ∙ e))

pub scheme_valid : (o : Option (List ℕ)) (s : Option Scheme) → IfPresent scheme.Spells o s → (IfSome s scheme.Valid) × (is_some o ≡ is_some s)
scheme_valid None None h = (tt, refl)
scheme_valid None (Some s) h = absurd h
scheme_valid (Some t) None h = absurd h
scheme_valid (Some t) (Some s) h = (schemes.valid_spelled t s h, refl)

pub authority_valid : (o : Option (List ℕ)) (a : Option AuthorityParts) → IfPresent authority.Spells o a → (IfSome a authority.Valid) × (is_some o ≡ is_some a)
authority_valid None None h = (tt, refl)
authority_valid None (Some s) h = absurd h
authority_valid (Some t) None h = absurd h
authority_valid (Some t) (Some a) h = (authorities.valid t a h, refl)

-- the rules of a valid reference's path, which depend only on the presence of an authority
pub record HasPlace (v w : Bool) (h : PathParts) : Type 0 where
  pub is_path : IsListed h.segments
  pub absolute : w ≡ true → h.absolute ≡ true
  pub plain : path.has_hidden_root h ≡ false
  pub fit : path_refusal v w (path.text h) ≡ None

pub placed_text : (v w : Bool) (h : List ℕ) → IsPath h → path_refusal v w h ≡ None → HasPlace v w (path_of w h)
placed_text v true h i k = record { is_path = i; absolute = λ _. refl; plain = refl; fit = refl }
placed_text v false h i k = record {
  is_path = i;
  absolute = λ e. absurd (false≢true e);
  plain = plain_spelled h i;
  fit = ap (path_refusal v false) (text-spelled h) ∙ k;
}

pub valid : (t : List ℕ) (p : Parts) → Spells t p → Valid p
valid t p s =
    let x = scheme_valid s.scheme_text p.scheme s.is_scheme in
    let y = authority_valid s.authority_text p.authority s.is_authority in
    let i = placed_text (is_some s.scheme_text) (is_some s.authority_text) s.path_text s.is_path s.fit in
    let z : HasPlace (is_some p.scheme) (is_some p.authority) p.path = rw (sym x.1, sym y.1, s.path) i in
    record {
      is_scheme = x.0;
      is_authority = y.0;
      is_path = z.is_path;
      absolute = flag p.authority z.absolute;
      plain = z.plain;
      fit = z.fit;
      is_query = s.is_query;
      is_fragment = s.is_fragment;
    }
  where
    flag : {Q : Type 0} (a : Option AuthorityParts) → (is_some a ≡ true → Q) → IfSome a (λ _. Q)
    flag None h = tt
    flag (Some a) h = h refl

pub back_same : (p : Parts) → Valid p → ReadsBack p → (q : Parts) × Spells (print p) q × Same p q
back_same p v r = (p, back p v r, record { spelling = refl; kinds = refl })
