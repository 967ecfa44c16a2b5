-- The printed text of each valid reference spells one, and so do those of its normal form and of a target.
use Rattle.std.proofs.Common.{◌≡◌, Result, Err, ℕ, Bool, true, false, cond, List, Option, Some, None, refl, sym, ap, subst, ◌∙◌}
use Rattle.std.specs.Prelude.{IfSome, MatchOption, is_some, nat_le, length}
use Rattle.std.specs.Option.{option_map}
use Rattle.uriparse_text.specs.Readings.{IfPresent}
use Rattle.uriparse_path.specs.Path as path
use Rattle.uriparse_path.specs.Path.{max_segments, pieces}
use Rattle.uriparse_authority.specs.Authority as authority
use Rattle.uriparse_authority.specs.Authority.{AuthorityParts}
use Rattle.uriparse_authority.proofs.lemmas.authorities.ReadBackLemmas.{authority_printed}
use Rattle.uriparse_scheme.specs.Scheme as scheme
use Rattle.uriparse_reference.specs.OwnedText.{IsReference, parts_in, viewed_in}
use Rattle.uriparse_reference.specs.Normal.{normal}
use Rattle.uriparse_reference.specs.Reference.{Parts, ReadsBack, Spells, Valid, print}
use Rattle.uriparse_reference.specs.View.{Viewed}
use Rattle.uriparse_reference.specs.declared.uri_reference.error.TargetError.{TargetError}
use Rattle.uriparse_reference.specs.Target.{dots_removed, is_empty, merge, target, target_of}
use Rattle.uriparse_reference.proofs.lemmas.normalizing.NormalFormLemmas.{normal_valid}
use Rattle.uriparse_reference.proofs.lemmas.reading.OwnedTextLemmas.{stands, viewed_stands}
use Rattle.uriparse_reference.proofs.lemmas.reading.PrintedLemmas.{spelled_reads_back}
use Rattle.uriparse_reference.proofs.lemmas.reading.ReadingLemmas.{scheme_back}
use Rattle.uriparse_reference.proofs.lemmas.reading.SpellingLemmas.{back, mapped, present, valid, valid_placed}
use Rattle.uriparse_reference.proofs.lemmas.resolving.ValidTargetLemmas.{chosen, target_valid}

some_printed : (a : Option AuthorityParts) → IfSome a authority.Valid
    → (b : Option AuthorityParts) × IfPresent authority.Spells (option_map authority.print a) b
some_printed None v = (None, tt)
some_printed (Some a) v = let b = authority_printed a v in (Some b.0, b.1)

pub printed_spelled : (p : Parts) → Valid p → (q : Parts) × Spells (print p) q
printed_spelled p v =
    let i = valid_placed p v in
    let x = mapped scheme.text p.scheme in
    let y = mapped authority.print p.authority in
    let b = some_printed p.authority v.is_authority in (
      record { scheme = p.scheme; authority = b.0; path = p.path; query = p.query; fragment = p.fragment },
      record {
        scheme_text = option_map scheme.text p.scheme;
        authority_text = option_map authority.print p.authority;
        path_text = path.text p.path;
        whole = refl;
        is_scheme = scheme_back p.scheme v.is_scheme;
        is_authority = b.1;
        is_path = i.is_path;
        abempty = present authority.print p.authority i.abempty;
        fit = rw (x, y) v.fit;
        is_query = v.is_query;
        is_fragment = v.is_fragment;
        path = rw y i.same;
      },
    )

pub printed_stands : (p : Parts) → Valid p → IsReference (print p)
printed_stands p v = let q = printed_spelled p v in (stands (print p) q.0 q.1).0

pub normal_stands : (t : List ℕ) (p : Parts) → Spells t p → IsReference (print (normal p))
normal_stands t p s = printed_stands (normal p) (normal_valid p (valid t p s))

-- a string that is the normal form's has its parts
pub normal_parts : (t u : List ℕ) (p : Parts) → Spells t p → u ≡ print (normal p) → ReadsBack (normal p) → parts_in u ≡ normal p
normal_parts t u p s e r = ap parts_in e ∙ (stands (print (normal p)) (normal p) (back (normal p) (normal_valid p (valid t p s)) r)).1

-- ---- targets

-- the authority of a target is that of its base or of its reference
chosen_reads_back : (c d x y : Bool) (b r : Parts) → ReadsBack b → ReadsBack r → IfSome (chosen c d x y b r) ReadsBack
chosen_reads_back true d x y b r h k = k
chosen_reads_back false true x y b r h k = k
chosen_reads_back false false true y b r h k = h
chosen_reads_back false false false true b r h k = h
chosen_reads_back false false false false b r h k = by_room (nat_le (length (pieces (merge b r))) max_segments)
  where
    by_room : (v : Bool) → IfSome (cond v (Some (target_of b.scheme b.authority (dots_removed (merge b r)) r.query r.fragment)) None) ReadsBack
    by_room true = h
    by_room false = tt

target_reads_back : (b r : Parts) → ReadsBack b → ReadsBack r → IfSome (target b r) ReadsBack
target_reads_back b r h k =
    chosen_reads_back (is_some r.scheme) (is_some r.authority) (is_empty (path.text r.path)) (path.is_rooted (path.text r.path)) b r h k

both_spelled : (o : Option Parts) → IfSome o Valid → IfSome o ReadsBack → IfSome o (λ p. Spells (print p) p)
both_spelled None v h = tt
both_spelled (Some p) v h = back p v h

pub target_spelled : (t u : List ℕ) (b r : Parts) → Spells t b → Spells u r → is_some b.scheme ≡ true → IfSome (target b r) (λ p. Spells (print p) p)
target_spelled t u b r s k h =
    both_spelled (target b r) (target_valid b r (valid t b s) (valid u r k) h)
    (target_reads_back b r (spelled_reads_back t b s) (spelled_reads_back u r k))

-- ---- the text that a resolver returned

module _ (t u : List ℕ) (b r : Parts) (is_base : Spells t b) (is_reference : Spells u r) where
  target_stands : {Q : Type 0} → (Q → ⊥) → is_some b.scheme ≡ true → (s : List ℕ) → MatchOption (target b r) Q (λ p. s ≡ print p)
      → IfSome (target b r) (λ p. viewed_in s ≡ record { text = print p; parts = p }) × IsReference s
  target_stands {Q} never h s is = by_target (target b r) (target_spelled t u b r is_base is_reference h) is
    where
      by_target : (o : Option Parts) → IfSome o (λ p. Spells (print p) p) → MatchOption o Q (λ p. s ≡ print p)
          → IfSome o (λ p. viewed_in s ≡ record { text = print p; parts = p }) × IsReference s
      by_target None spelled e = absurd (never e)
      by_target (Some p) spelled e =
          (ap viewed_in e ∙ viewed_stands (print p) p spelled, subst IsReference (sym e) (stands (print p) p spelled).0)

  -- A base without a scheme is rejected.
  pub resolved_stands : {P Q : Type 0} → (P → ⊥) → (Q → ⊥) → (s : List ℕ) → (is_some b.scheme ≡ false → P)
      → (is_some b.scheme ≡ true → MatchOption (target b r) Q (λ p. s ≡ print p)) → IsReference s
  resolved_stands {P} {Q} fails never s base is = by_scheme (is_some b.scheme) refl
    where
      by_scheme : (v : Bool) → is_some b.scheme ≡ v → IsReference s
      by_scheme true h = (target_stands never h s (is h)).1
      by_scheme false h = absurd (fails (base h))

  pub resolved_viewed : {Q : Type 0} (R : Type 0) → (Q → ⊥) → is_some b.scheme ≡ true → (s : List ℕ) (v : Viewed) → v ≡ viewed_in s
      → MatchOption (target b r) Q (λ p. s ≡ print p) → MatchOption (target b r) R (λ p. v ≡ record { text = print p; parts = p })
  resolved_viewed {Q} R never h s v same is = by_target (target b r) is (target_stands never h s is).0
    where
      by_target : (o : Option Parts) → MatchOption o Q (λ p. s ≡ print p) → IfSome o (λ p. viewed_in s ≡ record { text = print p; parts = p })
          → MatchOption o R (λ p. v ≡ record { text = print p; parts = p })
      by_target None e k = absurd (never e)
      by_target (Some p) e k = same ∙ k

-- the error of a resolver, whatever else it would have returned
pub same_error : (A B : Type 0) (o : Option Parts) (e x : TargetError) (F : Parts → Type 0)
    → MatchOption o (◌≡◌ {A = Result A TargetError} (Err e) (Err x)) F → MatchOption o (◌≡◌ {A = Result B TargetError} (Err e) (Err x)) F
same_error A B None e x F h = let same : e ≡ x = cc in ap Err same
same_error A B (Some p) e x F h = h
