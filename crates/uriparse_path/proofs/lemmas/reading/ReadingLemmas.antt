-- From the walk over a text to what reading it returns.
use Rattle.std.proofs.Common.{◌≡◌, ◌↔◌, ℕ, ◌+◌, ◌-◌, Bool, true, false, cond, List, [], ◌∷◌, length, take, drop, Option, Some, None, Ok, Err, refl, sym, ap}
use Rattle.std.proofs.Common.{subst, ◌∙◌, arith, length-append}
use Rattle.std.specs.List.{slice_split}
use Rattle.std.proofs.Math.Seq.{drop-append_seam, take-append_seam}
use Rattle.std.proofs.lemmas.Bool.{eqb-true}
use Rattle.uriparse_text.specs.Bytes.{slash}
use Rattle.uriparse_text.specs.Cuts.{up_to, from_first}
use Rattle.uriparse_text.proofs.lemmas.readings.CutLemmas.{cut-whole}
use Rattle.std.specs.Prelude.{IsErr, Result}
use Rattle.uriparse_text.specs.Readings.{unless_fault}
use Rattle.uriparse_text.specs.declared.segment.error.PathError.{PathError}
use Rattle.uriparse_path.specs.declared.path.TheConstants.{MAX_SEGMENTS}
use Rattle.uriparse_path.specs.Path.{PathParts, IsListed, IsPath, is_slash, max_segments, unrooted, pieces, spelled}
use Rattle.uriparse_path.specs.Faults.{ends_path, path_front, fault_within, fault, reading}
use Rattle.uriparse_path.proofs.lemmas.text.SplitLemmas.{some_pieces}
use Rattle.uriparse_path.proofs.lemmas.reading.FaultLemmas.{within_none}
use Rattle.uriparse_path.proofs.lemmas.reading.CountingWalkLemmas.{answer}

-- the code's limit is the one of the definitions
pub limit_is : MAX_SEGMENTS ≡ max_segments
unfolding max_segments
limit_is = refl

-- a leading slash does not end a path
not_end : (b : ℕ) → is_slash b ≡ true → ends_path b ≡ false
not_end b e = ap ends_path (eqb-true b slash e)

pub front_unrooted : (t : List ℕ) → unrooted (up_to ends_path t) ≡ up_to ends_path (unrooted t)
front_unrooted [] = refl
front_unrooted (b ∷ t) = by_slash (is_slash b) refl
  where
    by_end : (w : Bool) → is_slash b ≡ false → unrooted (cond w [] (b ∷ up_to ends_path t)) ≡ cond w [] (b ∷ up_to ends_path t)
    by_end true e = refl
    by_end false e = rw e refl

    by_slash : (v : Bool) → is_slash b ≡ v → unrooted (cond (ends_path b) [] (b ∷ up_to ends_path t)) ≡ up_to ends_path (cond v t (b ∷ t))
    by_slash true e = ap (λ w. unrooted (cond w [] (b ∷ up_to ends_path t))) (not_end b e) ∙ ap (λ v. cond v (up_to ends_path t) (b ∷ up_to ends_path t)) e
    by_slash false e = by_end (ends_path b) e

after_unrooted : (t : List ℕ) → from_first ends_path (unrooted t) ≡ from_first ends_path t
after_unrooted [] = refl
after_unrooted (b ∷ t) = by_slash (is_slash b) refl
  where
    by_slash : (v : Bool) → is_slash b ≡ v → from_first ends_path (cond v t (b ∷ t)) ≡ cond (ends_path b) (b ∷ t) (from_first ends_path t)
    by_slash true e = sym (ap (λ w. cond w (b ∷ t) (from_first ends_path t)) (not_end b e))
    by_slash false e = refl

fault_is : (t : List ℕ) → fault t ≡ fault_within MAX_SEGMENTS (pieces t)
unfolding fault
fault_is t = ap (λ n. fault_within n (pieces t)) (sym limit_is)

-- a path that has to be the whole text
front_all : (t : List ℕ) → path_front false t ≡ t
front_all [] = refl
front_all (b ∷ t) = ap (λ u. b ∷ u) (front_all t)

-- what the walk returned, for the text that it was given
pub counted_all : (t rest : List ℕ) (r answered : Result (ℕ × ℕ) PathError) → rest ≡ unrooted t → r ≡ answer MAX_SEGMENTS (path_front false rest)
    → r ≡ answered → answer MAX_SEGMENTS (unrooted t) ≡ answered
counted_all t rest r answered is told was =
    ap (answer MAX_SEGMENTS) (sym (front_all (unrooted t))) ∙ ap (λ u. answer MAX_SEGMENTS (path_front false u)) (sym is) ∙ sym told ∙ was

pub refused : (t : List ℕ) (e : PathError) → answer MAX_SEGMENTS (unrooted t) ≡ Err e → reading t ≡ Err e
refused t e h = ap (λ f. unless_fault f (spelled t)) (fault_is t) ∙ by_fault (fault_within MAX_SEGMENTS (pieces t)) h
  where
    by_fault : (f : Option PathError) → unless_fault {A = ℕ × ℕ} f (length (pieces t), length (unrooted t)) ≡ Err e → unless_fault f (spelled t) ≡ Err e
    by_fault None h = cc
    by_fault (Some x) h = let same : x ≡ e = cc in ap Err same

no_fault : (t : List ℕ) (n : ℕ × ℕ) → answer MAX_SEGMENTS (unrooted t) ≡ Ok n → fault_within MAX_SEGMENTS (pieces t) ≡ None
no_fault t n h = by_fault (fault_within MAX_SEGMENTS (pieces t)) h
  where
    by_fault : (f : Option PathError) → unless_fault {A = ℕ × ℕ} f (length (pieces t), length (unrooted t)) ≡ Ok n → f ≡ None
    by_fault None h = refl
    by_fault (Some x) h = cc

pub accepted : (t : List ℕ) (n : ℕ × ℕ) → answer MAX_SEGMENTS (unrooted t) ≡ Ok n → reading t ≡ Ok (spelled t)
accepted t n h = ap (λ f. unless_fault f (spelled t)) (fault_is t ∙ no_fault t n h)

pub listed : (t : List ℕ) (n : ℕ × ℕ) → answer MAX_SEGMENTS (unrooted t) ≡ Ok n → IsListed (pieces t)
listed t n h =
    let clean = (within_none MAX_SEGMENTS (pieces t)).0 (no_fault t n h) in
    record { some = some_pieces (unrooted t); short = rw (sym limit_is) clean.0; each = clean.1 }

-- a text has no fault exactly if its pieces are the segments of a path
pub no_fault_iff : (t : List ℕ) → (fault t ≡ None) ↔ IsListed (pieces t)
no_fault_iff t =
    let clean = within_none MAX_SEGMENTS (pieces t) in (
      λ h. let parts = clean.0 (sym (fault_is t) ∙ h) in
          record { some = some_pieces (unrooted t); short = rw (sym limit_is) parts.0; each = parts.1 },
      λ is. fault_is t ∙ clean.1 (rw limit_is is.short, is.each),
    )

pub not_refused : (t : List ℕ) (n : ℕ × ℕ) → answer MAX_SEGMENTS (unrooted t) ≡ Ok n → IsErr (reading t) → ⊥
not_refused t n h refused =
    let no : IsErr {T = PathParts} {E = PathError} (Ok (spelled t)) = subst (λ r. IsErr r) (accepted t n h) refused in
    cc

-- reading is exact
pub reading-path : (t : List ℕ) → IsPath t → reading t ≡ Ok (spelled t)
reading-path t is = ap (λ f. unless_fault f (spelled t)) ((no_fault_iff t).1 is)

pub path_read : (t : List ℕ) (p : PathParts) → reading t ≡ Ok p → IsPath t × (p ≡ spelled t)
path_read t p h = by_fault (fault t) refl h
  where
    by_fault : (f : Option PathError) → fault t ≡ f → unless_fault f (spelled t) ≡ Ok p → IsPath t × (p ≡ spelled t)
    by_fault None e k = ((no_fault_iff t).0 e, cc)
    by_fault (Some x) e k = cc

-- ---- a path that ends before the text does

pub counted_front : (t : List ℕ) (n : ℕ × ℕ) → answer MAX_SEGMENTS (up_to ends_path (unrooted t)) ≡ Ok n → fault (up_to ends_path t) ≡ None
counted_front t n h =
    fault_is (up_to ends_path t) ∙ no_fault (up_to ends_path t) n (ap (answer MAX_SEGMENTS) (front_unrooted t) ∙ h)

pub refused_front : (t : List ℕ) (e : PathError) → answer MAX_SEGMENTS (up_to ends_path (unrooted t)) ≡ Err e → fault (up_to ends_path t) ≡ Some e
refused_front t e h = by_fault (fault (up_to ends_path t)) (refused (up_to ends_path t) e (ap (answer MAX_SEGMENTS) (front_unrooted t) ∙ h))
  where
    by_fault : (f : Option PathError) → unless_fault f (spelled (up_to ends_path t)) ≡ Err e → f ≡ Some e
    by_fault None k = cc
    by_fault (Some x) k = let same : x ≡ e = cc in ap Some same

ok_is : {A : Type 0} (x y : A) → ◌≡◌ {A = Result A PathError} (Ok x) (Ok y) → x ≡ y
ok_is x y h = cc

-- its number of segments and its length
pub front_counts : (t : List ℕ) (n : ℕ × ℕ) → answer MAX_SEGMENTS (up_to ends_path (unrooted t)) ≡ Ok n
    → (n.0 ≡ length (pieces (up_to ends_path t))) × (n.1 ≡ length (up_to ends_path (unrooted t)))
front_counts t n h = by_fault (fault_within MAX_SEGMENTS (slice_split is_slash front)) h
  where
    front : List ℕ
    front = up_to ends_path (unrooted t)

    by_fault : (f : Option PathError) → unless_fault {A = ℕ × ℕ} f (length (slice_split is_slash front), length front) ≡ Ok n
        → (n.0 ≡ length (pieces (up_to ends_path t))) × (n.1 ≡ length front)
    by_fault None k =
        let same = sym (ok_is {A = ℕ × ℕ} (length (slice_split is_slash front), length front) n k) in
        (ap (λ m. m.0) same ∙ ap (λ u. length (slice_split is_slash u)) (sym (front_unrooted t)), ap (λ m. m.1) same)
    by_fault (Some x) k = cc

-- the length of a text without fault
pub counted_pieces : (t : List ℕ) (n : ℕ × ℕ) → answer MAX_SEGMENTS (unrooted t) ≡ Ok n → n.0 ≡ length (pieces t)
counted_pieces t n h = by_fault (fault_within MAX_SEGMENTS (pieces t)) h
  where
    by_fault : (f : Option PathError) → unless_fault {A = ℕ × ℕ} f (length (pieces t), length (unrooted t)) ≡ Ok n → n.0 ≡ length (pieces t)
    by_fault None k = ap (λ m. m.0) (sym (ok_is {A = ℕ × ℕ} (length (pieces t), length (unrooted t)) n k))
    by_fault (Some x) k = cc

pub counted_len : (t : List ℕ) (n : ℕ × ℕ) → answer MAX_SEGMENTS t ≡ Ok n → n.1 ≡ length t
counted_len t n h = by_fault (fault_within MAX_SEGMENTS (slice_split is_slash t)) h
  where
    by_fault : (f : Option PathError) → unless_fault {A = ℕ × ℕ} f (length (slice_split is_slash t), length t) ≡ Ok n → n.1 ≡ length t
    by_fault None k = ap (λ m. m.1) (sym (ok_is {A = ℕ × ℕ} (length (slice_split is_slash t), length t) n k))
    by_fault (Some x) k = cc

-- what follows it, and the path itself
pub following_front : (t rest : List ℕ) (n : ℕ) → rest ≡ unrooted t → n ≡ length (up_to ends_path (unrooted t)) → drop n rest ≡ from_first ends_path t
following_front t rest n is long =
    ap (drop n) is ∙ ap (λ m. drop m (unrooted t)) long
    ∙ ap (drop (length (up_to ends_path (unrooted t)))) (sym (cut-whole ends_path (unrooted t)))
    ∙ drop-append_seam (up_to ends_path (unrooted t)) (from_first ends_path (unrooted t)) ∙ after_unrooted t

pub front_before : (t following : List ℕ) → following ≡ from_first ends_path t → take (length t - length following) t ≡ up_to ends_path t
front_before t following is =
    let whole = cut-whole ends_path t in
    let long : length (up_to ends_path t) + length (from_first ends_path t) ≡ length t =
    sym (length-append (up_to ends_path t) (from_first ends_path t)) ∙ ap length whole in
    let n : length t - length following ≡ length (up_to ends_path t) = omega (arith, ap length is, long) in
    ap (λ m. take m t) n ∙ ap (take (length (up_to ends_path t))) (sym whole) ∙ take-append_seam (up_to ends_path t) (from_first ends_path t)
