-- What a change makes of a reference of one kind.
use Rattle.std.proofs.Common.{◌≡◌, ℕ, Bool, true, false, cond, List, Option, Some, None, Ok, Err, refl, sym, ap, ◌∙◌}
use Rattle.std.specs.Prelude.{Result, is_some}
use Rattle.std.specs.Bool.{beq}
use Rattle.std.specs.Option.{option_map}
use Rattle.uriparse_text.specs.Query as query
use Rattle.uriparse_text.specs.Fragment as fragment
use Rattle.uriparse_text.specs.Readings.{of_piece, if_present, IfPresent}
use Rattle.uriparse_text.proofs.lemmas.readings.ReadingLemmas.{IsExact, present_found, piece_found, bind_ok}
use Rattle.uriparse_scheme.specs.Scheme as scheme
use Rattle.uriparse_scheme.proofs.lemmas.schemes.SchemeLemmas.{reads}
use Rattle.uriparse_reference.specs.Change.{AuthorityStrings, Strings, authority_if, changed, changed_authority, changed_strings, changing, path_reading, strings, strings_reading}
use Rattle.uriparse_reference.specs.Change.{viewed_strings, whole, with_authority, ChangesTo}
use Rattle.uriparse_reference.specs.Cuts.{scheme_text}
use Rattle.uriparse_reference.specs.Reference.{Parts, Spells}
use Rattle.uriparse_reference.specs.View.{Viewed}
use Rattle.uriparse_reference.specs.Wanted.{Wanted, Wish}
use Rattle.uriparse_reference.specs.declared.uri_reference.change.ChangeError.{ChangeError}
use Rattle.uriparse_reference.specs.declared.uri_reference.change.ChangeError.TheVariants as changes
use Rattle.uriparse_reference.specs.declared.uri_reference.error.URIReferenceError.TheVariants as faults
use Rattle.uriparse_reference.proofs.lemmas.reading.TextEditLemmas.{own_cut}
use Rattle.uriparse.specs.ChangeOf.{if_of_kind, keeps_kind}
use Rattle.uriparse.specs.Kinds.{IsOfKind}
use Rattle.uriparse.specs.declared.change_of.KindChangeError.{KindChangeError}
use Rattle.uriparse.specs.declared.change_of.KindChangeError.TheVariants as errors

-- ---- the scheme of a changed reference

scheme_exact : IsExact scheme.Spells scheme.reading
scheme_exact = record { again = λ t s h. (reads t s).1 h; found = λ t s h. (reads t s).0 h }

both_present : {A : Type 0} (Spelled : List ℕ → A → Type 0) (o : Option (List ℕ)) (r : Option A) → IfPresent Spelled o r → is_some r ≡ is_some o
both_present Spelled None None h = refl
both_present Spelled None (Some x) h = absurd h
both_present Spelled (Some t) None h = absurd h
both_present Spelled (Some t) (Some x) h = refl

spelled_scheme : (t : List ℕ) (p : Parts) → Spells t p → is_some p.scheme ≡ is_some (scheme_text t)
spelled_scheme t p s =
    both_present scheme.Spells s.scheme_text p.scheme s.is_scheme ∙ ap is_some (sym (own_cut t p s).scheme)

read_scheme : (s : Strings) (p : Parts) → strings_reading s ≡ Ok p → is_some p.scheme ≡ is_some s.scheme
read_scheme s p k =
    let x = bind_ok (of_piece faults.Scheme (if_present scheme.reading s.scheme)) _ p k in
    let y = bind_ok (of_piece faults.Authority (authority_if s.authority)) _ p x.2 in
    let z = bind_ok (path_reading (is_some s.scheme) (is_some s.authority) s.path) _ p y.2 in
    let v = bind_ok (of_piece faults.Query (if_present query.reading s.query)) _ p z.2 in
    let w = bind_ok (of_piece faults.Fragment (if_present fragment.reading s.fragment)) _ p v.2 in
    let same : record { scheme = x.0; authority = y.0; path = z.0; query = v.0; fragment = w.0 } ≡ p = cc (w.2) in
    ap (λ (q : Parts). is_some q.scheme) (sym same)
    ∙ both_present scheme.Spells s.scheme x.0 (present_found scheme.Spells scheme.reading scheme_exact s.scheme x.0 (piece_found faults.Scheme _ x.0 x.1))

changed_scheme : (c : Wanted) (t : List ℕ) (v : Viewed) → changing c t ≡ Ok v → is_some v.parts.scheme ≡ is_some (changed c.scheme (scheme_text t))
unfolding changing
changed_scheme c t v h =
    let x = bind_ok (changed_strings c (strings t)) viewed_strings v h in
    let y = bind_ok (of_piece changes.Reference (strings_reading x.0)) _ v x.2 in
    let z = bind_ok (changed_authority c (strings t).authority (changed c.host (option_map (λ (a : AuthorityStrings). a.host) (strings t).authority))) _ x.0 x.1 in
    let view : record { text = whole x.0; parts = y.0 } ≡ v = cc (y.2) in
    let made : with_authority c (strings t) z.0 ≡ x.0 = cc (z.2) in
    ap (λ (u : Viewed). is_some u.parts.scheme) (sym view) ∙ read_scheme x.0 y.0 (piece_found changes.Reference _ y.0 y.1)
    ∙ ap (λ (s : Strings). is_some s.scheme) (sym made)

same_bool : (a b : Bool) → beq a b ≡ true → a ≡ b
same_bool true true h = refl
same_bool true false h = cc
same_bool false true h = cc
same_bool false false h = refl

-- a change that keeps the kind leaves a reference of the kind
kind_kept : (has : Bool) (c : Wanted) (t : List ℕ) (p : Parts) (v : Viewed) → Spells t p → IsOfKind has p → keeps_kind has c.scheme ≡ true
    → changing c t ≡ Ok v → IsOfKind has v.parts
kind_kept has c t p v s own keep h = changed_scheme c t v h ∙ by_wish c.scheme keep
  where
    by_wish : (w : Wish) → keeps_kind has w ≡ true → is_some (changed w (scheme_text t)) ≡ has
    by_wish None e = sym (spelled_scheme t p s) ∙ own
    by_wish (Some new) e = same_bool (is_some new) has e

-- ---- what was made of a reference of the kind is of the kind

keeps : (has : Bool) (c : Wanted) → ◌≡◌ {A = Result (Unit {0}) KindChangeError} (Ok tt) (if_of_kind has c) → keeps_kind has c.scheme ≡ true
keeps has c h = by_test (keeps_kind has c.scheme) h
  where
    by_test : (b : Bool) → ◌≡◌ {A = Result (Unit {0}) KindChangeError} (Ok tt) (cond b (Ok tt) (Err errors.OtherKind)) → b ≡ true
    by_test true h = refl
    by_test false h = cc

pub kind_made : (has : Bool) (c : Wanted) (t : List ℕ) (p : Parts) (u : Viewed) → Spells t p → IsOfKind has p
    → ◌≡◌ {A = Result (Unit {0}) KindChangeError} (Ok tt) (if_of_kind has c)
    → ChangesTo (λ (r v : Viewed). r ≡ v) (changing c t) (Ok u) → IsOfKind has u.parts
kind_made has c t p u s own k h = by_made (changing c t) refl h
  where
    by_made : (r : Result Viewed ChangeError) → changing c t ≡ r → ChangesTo (λ (r v : Viewed). r ≡ v) r (Ok u) → IsOfKind has u.parts
    by_made (Ok v) e m = ap (λ (q : Viewed). is_some q.parts.scheme) m ∙ kind_kept has c t p v s own (keeps has c k) e
    by_made (Err y) e m = absurd (cc)
