-- Cuts of a text undo its putting together.
use Rattle.std.proofs.Common.{◌≡◌, ℕ, Bool, true, false, cond, List, [], ◌∷◌, ◌++◌, Option, Some, None, refl, sym, ap, ◌∙◌, append-nil, append_assoc, ◌+◌, take}
use Rattle.std.proofs.Common.{drop, length, inl, inr, arith}
use Rattle.std.specs.Prelude.{not, ◌==◌, ◌||◌, IfSome, unwrap_or, position}
use Rattle.std.specs.Option.{option_map}
use Rattle.std.specs.List.{list_all, list_any, position_or_len}
use Rattle.std.proofs.Math.Numerals.{one-add}
use Rattle.std.proofs.lemmas.List.Sums.{prefix_len-le-length}
use Rattle.std.proofs.lemmas.Bool.{not-true, not_from_false, false≢true, and_parts, and_from, eqb-true, cases_lt, lt-ltb, le-ltb}
use Rattle.std.proofs.lemmas.List.Folds.{list_all-append}
use Rattle.uriparse_text.specs.declared.internal.class.Class.{Class}
use Rattle.uriparse_text.specs.Bytes.{percent, is_hex}
use Rattle.uriparse_text.specs.Classes.{is_plain}
use Rattle.uriparse_text.specs.Faults.{IsIn}
use Rattle.uriparse_text.specs.Cuts.{lacks, none_pass, following, ahead, up_to, from_first, from_last, up_to_last, part, before, after, front, rest}
use Rattle.uriparse_text.proofs.lemmas.classes.ClassLemmas.{bytes-in_class}

-- ---- bytes that a text does not have

-- what passes p is not a byte that doesn't
pub other_byte : (p : ℕ → Bool) (b c : ℕ) → p b ≡ false → p c ≡ true → not (c == b) ≡ true
other_byte p b c h k = by_test (c == b) refl
  where
    by_test : (v : Bool) → (c == b) ≡ v → not v ≡ true
    by_test true e = absurd (false≢true (sym h ∙ ap p (sym (eqb-true c b e)) ∙ k))
    by_test false e = refl

pub weaker : (p q : ℕ → Bool) → ((b : ℕ) → p b ≡ true → q b ≡ true) → (t : List ℕ) → list_all p t ≡ true → list_all q t ≡ true
weaker p q f [] h = refl
weaker p q f (b ∷ t) h = let both = and_parts _ _ h in and_from _ _ (f b both.0) (weaker p q f t both.1)

pub lacks_by : (p : ℕ → Bool) (b : ℕ) (t : List ℕ) → p b ≡ false → list_all p t ≡ true → lacks b t ≡ true
lacks_by p b t h k = weaker p (λ c. not (c == b)) (λ c e. other_byte p b c h e) t k

pub lacks-append : (b : ℕ) (t u : List ℕ) → lacks b t ≡ true → lacks b u ≡ true → lacks b (t ++ u) ≡ true
lacks-append b t u h k = list_all-append (λ c. not (c == b)) t u ∙ and_from _ _ h k

pub lacks-following : (b mark : ℕ) (o : Option (List ℕ)) → not (mark == b) ≡ true → IfSome o (λ t. lacks b t ≡ true) → lacks b (following mark o) ≡ true
lacks-following b mark None h k = refl
lacks-following b mark (Some t) h k = and_from _ _ h k

-- a text of a class has no byte that neither the class nor an escape has
pub lacks-in_class : (class : Class) (b : ℕ) → is_plain class b ≡ false → (percent == b) ≡ false → is_hex b ≡ false → (t : List ℕ) → IsIn class t
    → lacks b t ≡ true
lacks-in_class class b plain sign digit t h =
    bytes-in_class class (λ c. not (c == b)) (λ c e. other_byte (is_plain class) b c plain e) (not_from_false _ sign) (λ c e. other_byte is_hex b c digit e) t h

-- if a text does not have a byte, neither do both parts of it
pub lacks-left : (b : ℕ) (t u : List ℕ) → lacks b (t ++ u) ≡ true → lacks b t ≡ true
lacks-left b t u h = (and_parts (lacks b t) (lacks b u) (sym (list_all-append (λ c. not (c == b)) t u) ∙ h)).0

pub lacks-right : (b : ℕ) (t u : List ℕ) → lacks b (t ++ u) ≡ true → lacks b u ≡ true
lacks-right b t u h = (and_parts (lacks b t) (lacks b u) (sym (list_all-append (λ c. not (c == b)) t u) ∙ h)).1

-- ---- cuts at the first byte that passes

pub up_to-append : (p : ℕ → Bool) (t u : List ℕ) → none_pass p t ≡ true → up_to p (t ++ u) ≡ t ++ up_to p u
up_to-append p [] u h = refl
up_to-append p (b ∷ t) u h =
    let both = and_parts _ _ h in
    rw (not-true (p b) both.0) (ap (λ l. b ∷ l) (up_to-append p t u both.1))

pub from_first-append : (p : ℕ → Bool) (t u : List ℕ) → none_pass p t ≡ true → from_first p (t ++ u) ≡ from_first p u
from_first-append p [] u h = refl
from_first-append p (b ∷ t) u h =
    let both = and_parts _ _ h in
    rw (not-true (p b) both.0) (from_first-append p t u both.1)

-- no byte before the first that passes does, and the rest begins with one that does
pub up_to-none : (p : ℕ → Bool) (t : List ℕ) → none_pass p (up_to p t) ≡ true
up_to-none p [] = refl
up_to-none p (b ∷ t) = at_byte (p b) refl (up_to-none p t)
  where
    at_byte : (v : Bool) → p b ≡ v → none_pass p (up_to p t) ≡ true → none_pass p (cond v [] (b ∷ up_to p t)) ≡ true
    at_byte true e h = refl
    at_byte false e h = and_from _ _ (ap not e) h

pub from_first-head : (p : ℕ → Bool) (t : List ℕ) (m : ℕ) (r : List ℕ) → from_first p t ≡ m ∷ r → p m ≡ true
from_first-head p [] m r h = cc
from_first-head p (b ∷ t) m r h = at_byte (p b) refl (from_first-head p t m r) h
  where
    at_byte : (v : Bool) → p b ≡ v → (from_first p t ≡ m ∷ r → p m ≡ true) → cond v (b ∷ t) (from_first p t) ≡ m ∷ r → p m ≡ true
    at_byte true e f k = let same : b ≡ m = cc in ap p (sym same) ∙ e
    at_byte false e f k = f k

-- the two parts are the whole
pub cut-whole : (p : ℕ → Bool) (t : List ℕ) → up_to p t ++ from_first p t ≡ t
cut-whole p [] = refl
cut-whole p (b ∷ t) =
    elim (p b) as (λ v. cond v [] (b ∷ up_to p t) ++ cond v (b ∷ t) (from_first p t) ≡ b ∷ t)
    [ true ↦ refl | false ↦ ap (λ u. b ∷ u) (cut-whole p t) ]

rest_is : (mark : ℕ) (t : List ℕ) → from_first (λ b. b == mark) t ≡ following mark (after mark t)
rest_is mark [] = refl
rest_is mark (b ∷ t) = by_test (b == mark) refl (rest_is mark t)
  where
    by_test : (v : Bool) → (b == mark) ≡ v → from_first (λ b. b == mark) t ≡ following mark (part (from_first (λ b. b == mark) t))
        → cond v (b ∷ t) (from_first (λ b. b == mark) t) ≡ following mark (part (cond v (b ∷ t) (from_first (λ b. b == mark) t)))
    by_test true e h = ap (λ x. x ∷ t) (eqb-true b mark e)
    by_test false e h = h

-- t = before [ mark after ]
pub before_after : (mark : ℕ) (t : List ℕ) → before mark t ++ following mark (after mark t) ≡ t
before_after mark t = ap (λ u. before mark t ++ u) (sym (rest_is mark t)) ∙ cut-whole (λ b. b == mark) t

-- the texts before and after a delimiter have no byte that the whole does not have, and the one before it has no delimiter
pub lacks-before : (b mark : ℕ) (t : List ℕ) → lacks b t ≡ true → lacks b (before mark t) ≡ true
lacks-before b mark t h = lacks-left b (before mark t) (following mark (after mark t)) (ap (lacks b) (before_after mark t) ∙ h)

pub lacks-after : (b mark : ℕ) (t : List ℕ) → lacks b t ≡ true → IfSome (after mark t) (λ u. lacks b u ≡ true)
lacks-after b mark t h = by_after (after mark t) (lacks-right b (before mark t) (following mark (after mark t)) (ap (lacks b) (before_after mark t) ∙ h))
  where
    by_after : (o : Option (List ℕ)) → lacks b (following mark o) ≡ true → IfSome o (λ u. lacks b u ≡ true)
    by_after None k = tt
    by_after (Some u) k = (and_parts (not (mark == b)) (lacks b u) k).1

pub before-lacks : (mark : ℕ) (t : List ℕ) → lacks mark (before mark t) ≡ true
before-lacks mark t = up_to-none (λ b. b == mark) t

-- t = [ front mark ] rest
pub front_rest : (mark : ℕ) (t : List ℕ) → ahead mark (front mark t) ++ rest mark t ≡ t
front_rest mark t = by_after (after mark t) (before_after mark t)
  where
    by_after : (o : Option (List ℕ)) → before mark t ++ following mark o ≡ t → ahead mark (option_map (λ _. before mark t) o) ++ unwrap_or o t ≡ t
    by_after None h = refl
    by_after (Some r) h = append_assoc (before mark t) (mark ∷ []) r ∙ h

pub before_of : (mark : ℕ) (u : List ℕ) (o : Option (List ℕ)) → (mark == mark) ≡ true → lacks mark u ≡ true → before mark (u ++ following mark o) ≡ u
before_of mark u None r h = up_to-append (λ b. b == mark) u [] h ∙ append-nil u
before_of mark u (Some t) r h =
    up_to-append (λ b. b == mark) u (mark ∷ t) h ∙ ap (λ v. u ++ cond v [] (mark ∷ up_to (λ b. b == mark) t)) r ∙ append-nil u

pub after_of : (mark : ℕ) (u : List ℕ) (o : Option (List ℕ)) → (mark == mark) ≡ true → lacks mark u ≡ true → after mark (u ++ following mark o) ≡ o
after_of mark u None r h = ap part (from_first-append (λ b. b == mark) u [] h)
after_of mark u (Some t) r h =
    ap part (from_first-append (λ b. b == mark) u (mark ∷ t) h) ∙ ap (λ v. part (cond v (mark ∷ t) (from_first (λ b. b == mark) t))) r

pub front_of : (mark : ℕ) (s u : List ℕ) → (mark == mark) ≡ true → lacks mark s ≡ true
    → (front mark (ahead mark (Some s) ++ u) ≡ Some s) × (rest mark (ahead mark (Some s) ++ u) ≡ u)
front_of mark s u r h =
    let w : (s ++ mark ∷ []) ++ u ≡ s ++ following mark (Some u) = append_assoc s (mark ∷ []) u in
    let a : after mark ((s ++ mark ∷ []) ++ u) ≡ Some u = ap (after mark) w ∙ after_of mark s (Some u) r h in
    let b : before mark ((s ++ mark ∷ []) ++ u) ≡ s = ap (before mark) w ∙ before_of mark s (Some u) r h in
    (ap (λ o. option_map (λ _. before mark ((s ++ mark ∷ []) ++ u)) o) a ∙ ap Some b, ap (λ o. unwrap_or o ((s ++ mark ∷ []) ++ u)) a)

-- ---- by the place of the first byte that passes

pub take_offset : (p : ℕ → Bool) (t : List ℕ) → take (position_or_len p t) t ≡ up_to p t
take_offset p [] = refl
take_offset p (b ∷ t) =
    elim (p b) as (λ v. take (cond (not v) (1 + position_or_len p t) 0) (b ∷ t) ≡ cond v [] (b ∷ up_to p t))
    [ true ↦ refl | false ↦ rw one-add (ap (λ u. b ∷ u) (take_offset p t)) ]

pub drop_offset : (p : ℕ → Bool) (t : List ℕ) → drop (position_or_len p t) t ≡ from_first p t
drop_offset p [] = refl
drop_offset p (b ∷ t) =
    elim (p b) as (λ v. drop (cond (not v) (1 + position_or_len p t) 0) (b ∷ t) ≡ cond v (b ∷ t) (from_first p t))
    [ true ↦ refl | false ↦ rw one-add (drop_offset p t) ]

pub offset_or_length : (p : ℕ → Bool) (t : List ℕ) → unwrap_or (position p t) (length t) ≡ position_or_len p t
offset_or_length p t =
    let bound = prefix_len-le-length (λ b. not (p b)) t in
    elim (cases_lt (position_or_len p t) (length t)) [
      | inl below ↦ rw (lt-ltb _ _ below) refl
      | inr past ↦ rw (le-ltb _ _ past) (omega arith)
    ]

-- ---- the last byte that passes

pub any-none : (p : ℕ → Bool) (t : List ℕ) → none_pass p t ≡ true → list_any p t ≡ false
any-none p [] h = refl
any-none p (b ∷ t) h = let both = and_parts _ _ h in rw (not-true (p b) both.0, any-none p t both.1) refl

pub any-some : (p : ℕ → Bool) (t : List ℕ) (mark : ℕ) (u : List ℕ) → p mark ≡ true → list_any p (t ++ mark ∷ u) ≡ true
any-some p [] mark u h = rw h refl
any-some p (b ∷ t) mark u h = elim (p b) as (λ v. (v || list_any p (t ++ mark ∷ u)) ≡ true) [ true ↦ refl | false ↦ any-some p t mark u h ]

pub from_last-none : (p : ℕ → Bool) (t : List ℕ) → none_pass p t ≡ true → from_last p t ≡ []
from_last-none p [] h = refl
from_last-none p (b ∷ t) h = let both = and_parts _ _ h in rw (any-none p t both.1, not-true (p b) both.0) refl

pub from_last-of : (p : ℕ → Bool) (t : List ℕ) (mark : ℕ) (u : List ℕ) → p mark ≡ true → none_pass p u ≡ true → from_last p (t ++ mark ∷ u) ≡ mark ∷ u
from_last-of p [] mark u h k = rw (any-none p u k, h) refl
from_last-of p (b ∷ t) mark u h k = rw (any-some p t mark u h) (from_last-of p t mark u h k)

pub up_to_last-of : (p : ℕ → Bool) (t : List ℕ) (mark : ℕ) (u : List ℕ) → p mark ≡ true → none_pass p u ≡ true → up_to_last p (t ++ mark ∷ u) ≡ t
up_to_last-of p [] mark u h k = rw (any-none p u k, h) refl
up_to_last-of p (b ∷ t) mark u h k = rw (any-some p t mark u h) (ap (λ l. b ∷ l) (up_to_last-of p t mark u h k))

pub last-whole : (p : ℕ → Bool) (t : List ℕ) → up_to_last p t ++ from_last p t ≡ t
last-whole p [] = refl
last-whole p (b ∷ t) = at_rest (list_any p t) (p b) (last-whole p t)
  where
    at_rest : (v w : Bool) → up_to_last p t ++ from_last p t ≡ t
        → cond v (b ∷ up_to_last p t) (cond w [] (b ∷ t)) ++ cond v (from_last p t) (cond w (b ∷ t) []) ≡ b ∷ t
    at_rest true w h = ap (λ l. b ∷ l) h
    at_rest false true h = refl
    at_rest false false h = append-nil (b ∷ t)

neither : (v w : Bool) → not v ≡ true → not w ≡ true → not (v || w) ≡ true
neither true w h k = absurd (false≢true h)
neither false w h k = k

-- no byte of the text passes either of two tests
pub none_of_either : (p q : ℕ → Bool) (t : List ℕ) → none_pass p t ≡ true → none_pass q t ≡ true → none_pass (λ b. p b || q b) t ≡ true
none_of_either p q [] h k = refl
none_of_either p q (b ∷ t) h k =
    let l = and_parts (not (p b)) (none_pass p t) h in
    let r = and_parts (not (q b)) (none_pass q t) k in
    and_from _ _ (neither (p b) (q b) l.0 r.0) (none_of_either p q t l.1 r.1)

-- no byte of the text is either of two
pub none_of_two : (x y : ℕ) (t : List ℕ) → lacks x t ≡ true → lacks y t ≡ true → none_pass (λ b. b == x || b == y) t ≡ true
none_of_two x y t h k = none_of_either (λ b. b == x) (λ b. b == y) t h k
