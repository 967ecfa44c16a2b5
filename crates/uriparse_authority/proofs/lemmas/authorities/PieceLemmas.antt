-- Which delimiters the components of a text do not have; and which fault of a text is that of a longer one.
use Rattle.std.proofs.Common.{◌≡◌, ℕ, Bool, true, false, not, ◌&&◌, ◌||◌, List, [], ◌∷◌, ◌++◌, cond, Option, Some, None, Ok, Err, refl, sym, ap, subst, ◌∙◌}
use Rattle.std.proofs.Common.{append-nil}
use Rattle.std.proofs.lemmas.Bool.{false≢true, and_parts, not-true, eqb-true}
use Rattle.std.specs.Prelude.{◌==◌, IfSome, Result}
use Rattle.std.specs.List.{list_any}
use Rattle.std.specs.Option.{option_map}
use Rattle.uriparse_text.specs.Bytes.{colon, at_sign, right_bracket}
use Rattle.uriparse_text.specs.Cuts.{lacks, none_pass, following, before, after, up_to, from_first, from_last}
use Rattle.uriparse_text.specs.Readings.{◌>>=◌, fault_in}
use Rattle.uriparse_text.proofs.lemmas.readings.CutLemmas.{any-some, lacks_by, lacks-before, lacks-after, before_after, before-lacks, up_to-append}
use Rattle.uriparse_authority.specs.declared.authority.error.AuthorityError.{AuthorityError}
use Rattle.uriparse_authority.specs.Authority.{username_in, password_in, username_text, password_text, ends_authority, reading, fault, unless_rest}
use Rattle.uriparse_authority.specs.Authority.{whole_reading, host_and_port_text, host_text, port_text, ends_host, colon_part}
use Rattle.uriparse_authority.proofs.lemmas.authorities.CutLemmas.{whole_host}

-- ---- user information

pub username_lacks_at : (a : List ℕ) → IfSome (username_text a) (λ t. lacks at_sign t ≡ true)
username_lacks_at a = by_after (after at_sign a)
  where
    by_after : (o : Option (List ℕ)) → IfSome (username_in (option_map (λ _. before at_sign a) o)) (λ t. lacks at_sign t ≡ true)
    by_after None = tt
    by_after (Some r) = lacks-before at_sign colon (before at_sign a) (before-lacks at_sign a)

pub username_lacks_colon : (a : List ℕ) → IfSome (username_text a) (λ t. lacks colon t ≡ true)
username_lacks_colon a = by_after (after at_sign a)
  where
    by_after : (o : Option (List ℕ)) → IfSome (username_in (option_map (λ _. before at_sign a) o)) (λ t. lacks colon t ≡ true)
    by_after None = tt
    by_after (Some r) = before-lacks colon (before at_sign a)

pub password_lacks_at : (a : List ℕ) → IfSome (password_text a) (λ t. lacks at_sign t ≡ true)
password_lacks_at a = by_after (after at_sign a)
  where
    by_after : (o : Option (List ℕ)) → IfSome (password_in (option_map (λ _. before at_sign a) o)) (λ t. lacks at_sign t ≡ true)
    by_after None = tt
    by_after (Some r) = lacks-after at_sign colon (before at_sign a) (before-lacks at_sign a)

-- without a user name there is no user information, which an "@" would end
pub no_user_lacks_at : (a : List ℕ) → username_text a ≡ None → lacks at_sign a ≡ true
no_user_lacks_at a h = by_after (after at_sign a) refl h
  where
    by_after : (o : Option (List ℕ)) → after at_sign a ≡ o → username_in (option_map (λ _. before at_sign a) o) ≡ None → lacks at_sign a ≡ true
    by_after None e k =
        let whole : before at_sign a ≡ a =
        sym (append-nil (before at_sign a)) ∙ sym (ap (λ o. before at_sign a ++ following at_sign o) e) ∙ before_after at_sign a in
        subst (λ t. lacks at_sign t ≡ true) whole (before-lacks at_sign a)
    by_after (Some r) e k = absurd (cc)

-- ---- host and port

none_from : (p : ℕ → Bool) (t : List ℕ) → list_any p t ≡ false → none_pass p t ≡ true
none_from p [] h = refl
none_from p (b ∷ t) h = by_test (p b) (none_from p t) h
  where
    by_test : (v : Bool) → (list_any p t ≡ false → none_pass p t ≡ true) → (v || list_any p t) ≡ false → (not v && none_pass p t) ≡ true
    by_test true f k = absurd (false≢true (sym k))
    by_test false f k = f k

-- after the last byte that passes none does
after_last : (p : ℕ → Bool) (t : List ℕ) (b : ℕ) (u : List ℕ) → from_last p t ≡ b ∷ u → none_pass p u ≡ true
after_last p [] b u h = absurd (cc)
after_last p (c ∷ t) b u h = by_test (list_any p t) refl (p c) (after_last p t b u) h
  where
    by_test : (v : Bool) → list_any p t ≡ v → (w : Bool) → (from_last p t ≡ b ∷ u → none_pass p u ≡ true)
        → cond v (from_last p t) (cond w (c ∷ t) []) ≡ b ∷ u → none_pass p u ≡ true
    by_test true e w f k = f k
    by_test false e true f k = let same : t ≡ u = cc in subst (λ x. none_pass p x ≡ true) same (none_from p t e)
    by_test false e false f k = absurd (cc)

port_lacks_mark : (mark : ℕ) → not (ends_host mark) ≡ false → (a : List ℕ) → IfSome (port_text a) (λ t. lacks mark t ≡ true)
port_lacks_mark mark h a = by_rest (from_last ends_host (host_and_port_text a)) refl
  where
    by_test : (u : List ℕ) (v : Bool) → none_pass ends_host u ≡ true → IfSome (cond v (Some u) None) (λ t. lacks mark t ≡ true)
    by_test u true k = lacks_by (λ b. not (ends_host b)) mark u h k
    by_test u false k = tt

    by_rest : (r : List ℕ) → from_last ends_host (host_and_port_text a) ≡ r → IfSome (colon_part r) (λ t. lacks mark t ≡ true)
    by_rest [] e = tt
    by_rest (b ∷ u) e = by_test u (b == colon) (after_last ends_host (host_and_port_text a) b u e)

pub port_lacks_colon : (a : List ℕ) → IfSome (port_text a) (λ t. lacks colon t ≡ true)
port_lacks_colon a = port_lacks_mark colon refl a

pub port_lacks_bracket : (a : List ℕ) → IfSome (port_text a) (λ t. lacks right_bracket t ≡ true)
port_lacks_bracket a = port_lacks_mark right_bracket refl a

-- where a byte ends the host and it is no bracket, it is a colon
colon_or_bracket : (b : ℕ) → (b == right_bracket) ≡ false → ends_host b ≡ true → b ≡ colon
colon_or_bracket b other h = eqb-true b colon (by_test (b == colon) (b == right_bracket) other h)
  where
    by_test : (v w : Bool) → w ≡ false → (v || w) ≡ true → v ≡ true
    by_test true w e k = refl
    by_test false w e k = absurd (false≢true (sym e ∙ k))

abbrev BeginsWithColon : List ℕ → Type 0
BeginsWithColon r = (w : List ℕ) × (r ≡ colon ∷ w)

-- no bracket: so what ends the host last is a colon
colon_last : (v : List ℕ) → lacks right_bracket v ≡ true → list_any ends_host v ≡ true → BeginsWithColon (from_last ends_host v)
colon_last [] h k = absurd (false≢true k)
colon_last (b ∷ v) h k =
    let both = and_parts (not (b == right_bracket)) (lacks right_bracket v) h in
    by_test (list_any ends_host v) refl (colon_last v both.1) (ends_host b) (colon_or_bracket b (not-true (b == right_bracket) both.0)) k
  where
    by_test : (x : Bool) → list_any ends_host v ≡ x → (list_any ends_host v ≡ true → BeginsWithColon (from_last ends_host v)) → (y : Bool)
        → (y ≡ true → b ≡ colon) → (y || x) ≡ true → BeginsWithColon (cond x (from_last ends_host v) (cond y (b ∷ v) []))
    by_test true e f y g m = f e
    by_test false e f true g m = (v, ap (λ c. c ∷ v) (g refl))
    by_test false e f false g m = absurd (false≢true m)

colon_ends : (u v : List ℕ) → lacks right_bracket v ≡ true → BeginsWithColon (from_last ends_host (u ++ colon ∷ v))
colon_ends [] v h = by_test (list_any ends_host v) refl (colon_last v h)
  where
    by_test : (x : Bool) → list_any ends_host v ≡ x → (list_any ends_host v ≡ true → BeginsWithColon (from_last ends_host v))
        → BeginsWithColon (cond x (from_last ends_host v) (colon ∷ v))
    by_test true e f = f e
    by_test false e f = (v, refl)
colon_ends (b ∷ u) v h = rw (any-some ends_host u colon v refl) (colon_ends u v h)

-- a colon before which no bracket stands any more would start a port
pub no_port_bracket : (a u v : List ℕ) → port_text a ≡ None → host_text a ≡ u ++ colon ∷ v → lacks right_bracket v ≡ false
no_port_bracket a u v h e = by_test (lacks right_bracket v) refl
  where
    port_starts : BeginsWithColon (from_last ends_host (host_and_port_text a)) → ⊥
    port_starts (w, k) = let some : None ≡ Some w = sym h ∙ ap colon_part k in cc

    by_test : (x : Bool) → lacks right_bracket v ≡ x → x ≡ false
    by_test true k =
        let whole : host_and_port_text a ≡ u ++ colon ∷ v = sym (whole_host (host_and_port_text a) h) ∙ e in
        absurd (port_starts (subst (λ t. BeginsWithColon (from_last ends_host t)) (sym whole) (colon_ends u v k)))
    by_test false k = refl

-- ---- a fault and what follows it

refused : {A E : Type 0} (r : Result A E) (e : E) → fault_in r ≡ Some e → r ≡ Err e
refused (Ok x) e h = absurd (cc)
refused (Err x) e h = let same : x ≡ e = cc in ap Err same

-- the fault of an authority is that of each text that goes on after it
pub front_answers : (a : List ℕ) (b : ℕ) (u : List ℕ) (e : AuthorityError) → none_pass ends_authority a ≡ true → ends_authority b ≡ true → fault a ≡ Some e
    → whole_reading (a ++ b ∷ u) ≡ Err e
front_answers a b u e none ends h =
    let front : up_to ends_authority (a ++ b ∷ u) ≡ a =
    up_to-append ends_authority a (b ∷ u) none ∙ ap (λ v. a ++ cond v [] (b ∷ up_to ends_authority u)) ends ∙ append-nil a in
    ap (λ t. reading t >>= unless_rest (from_first ends_authority (a ++ b ∷ u))) front
    ∙ ap (λ r. r >>= unless_rest (from_first ends_authority (a ++ b ∷ u))) (refused (reading a) e h)
