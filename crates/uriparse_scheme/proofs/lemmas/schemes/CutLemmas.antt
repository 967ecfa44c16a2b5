-- How a text is cut at its scheme, by its first byte that ends one.
use Rattle.std.proofs.Common.{◌≡◌, ℕ, Bool, true, false, cond, List, [], ◌∷◌, ◌++◌, Option, Some, None, refl, sym, ap, ◌∙◌, subst}
use Rattle.std.proofs.Common.{append-nil, ◌&&◌, ◌||◌, inl, inr, arith}
use Rattle.std.specs.Prelude.{◌⊎◌, not, ◌==◌, IfSome, is_some, unwrap_or}
use Rattle.std.specs.Option.{option_map}
use Rattle.std.specs.List.{list_all}
use Rattle.std.proofs.lemmas.Bool.{false≢true, eqb-true}
use Rattle.std.proofs.lemmas.Bool.Decides.{nat_tests}
use Rattle.std.proofs.lemmas.List.Folds.{list_all-append}
use Rattle.uriparse_text.specs.Bytes.{slash, colon}
use Rattle.uriparse_text.specs.Cuts.{lacks, none_pass, before, after, front, rest, up_to, from_first}
use Rattle.uriparse_text.proofs.lemmas.readings.CutLemmas.{weaker, up_to-none, from_first-head, lacks_by, lacks-right, cut-whole, up_to-append}
use Rattle.uriparse_text.proofs.lemmas.readings.CutLemmas.{before_of, after_of}
use Rattle.uriparse_scheme.specs.declared.scheme.registered.RegisteredScheme.{RegisteredScheme}
use Rattle.uriparse_scheme.specs.declared.scheme.Scheme.TheVariants.{Registered}
use Rattle.uriparse_scheme.specs.Registered.{name_of}
use Rattle.uriparse_scheme.specs.Grammar.{is_scheme, is_scheme_byte}
use Rattle.uriparse_scheme.specs.Scheme.{named, registered_or}
use Rattle.uriparse_scheme.specs.Cuts.{if_scheme, if_some, scheme_text, ends_scheme, ends_segment, unless_scheme, after_colon, after_scheme, has_colon_segment}
use Rattle.uriparse_scheme.proofs.lemmas.schemes.GrammarLemmas.{scheme_bytes}
use Rattle.uriparse_scheme.proofs.lemmas.table.TableLemmas.{name_is_scheme, named-name}

pub scheme_colon : (s : List ℕ) → is_scheme s ≡ true → lacks colon s ≡ true
scheme_colon s h = lacks_by is_scheme_byte colon s refl (scheme_bytes s h)

-- ---- a text without a scheme

abbrev pub NoScheme : List ℕ → Type 0
NoScheme t = (after colon t ≡ None) ⊎ (list_all is_scheme_byte (before colon t) ≡ false)

pub no_scheme : (t : List ℕ) → NoScheme t → scheme_text t ≡ None
no_scheme t (inl e) = ap (λ o. if_scheme (option_map (λ _. before colon t) o)) e
no_scheme t (inr e) = by_after (after colon t)
  where
    at_scheme : (v : Bool) → is_scheme (before colon t) ≡ v → cond v (Some (before colon t)) None ≡ None
    at_scheme true h = absurd (false≢true (sym e ∙ scheme_bytes (before colon t) h))
    at_scheme false h = refl

    by_after : (o : Option (List ℕ)) → if_scheme (option_map (λ _. before colon t) o) ≡ None
    by_after None = refl
    by_after (Some r) = at_scheme (is_scheme (before colon t)) refl

pub slash_no_scheme : (t : List ℕ) → scheme_text (slash ∷ t) ≡ None
slash_no_scheme t = no_scheme (slash ∷ t) (inr refl)

-- ---- the first byte that ends a scheme

not_left : (v w : Bool) → not (v || w) ≡ true → not v ≡ true
not_left true w h = absurd (false≢true h)
not_left false w h = refl

not_right : (v w : Bool) → not (v || w) ≡ true → not w ≡ true
not_right true w h = absurd (false≢true h)
not_right false w h = h

-- no colon precedes it
front_lacks : (t : List ℕ) → lacks colon (up_to ends_scheme t) ≡ true
front_lacks t = weaker (λ b. not (ends_scheme b)) (λ b. not (b == colon)) (λ b h. not_left (b == colon) (ends_segment b) h) (up_to ends_scheme t)
    (up_to-none ends_scheme t)

-- the first segment does not end before it
front_in_segment : (t : List ℕ) → none_pass ends_segment (up_to ends_scheme t) ≡ true
front_in_segment t = weaker (λ b. not (ends_scheme b)) (λ b. not (ends_segment b)) (λ b h. not_right (b == colon) (ends_segment b) h)
    (up_to ends_scheme t) (up_to-none ends_scheme t)

no_scheme_byte : (b : ℕ) → ends_segment b ≡ true → is_scheme_byte b ≡ false
no_scheme_byte b h = grind (arith, nat_tests)

left_out : (v w : Bool) → (v && (false && w)) ≡ false
left_out true w = refl
left_out false w = refl

-- if it is no colon, there is no scheme
pub front_no_scheme : (t : List ℕ) → after_colon (from_first ends_scheme t) ≡ None → scheme_text t ≡ None
front_no_scheme t none = no_scheme t (by_rest (from_first ends_scheme t) refl none)
  where
    start : List ℕ
    start = up_to ends_scheme t

    at_colon : (m : ℕ) (r : List ℕ) (v : Bool) → (m == colon) ≡ v → (v || ends_segment m) ≡ true → cond v (Some r) None ≡ None
        → list_all is_scheme_byte (start ++ cond v [] (m ∷ before colon r)) ≡ false
    at_colon m r true e k h = cc
    at_colon m r false e k h =
        list_all-append is_scheme_byte start (m ∷ before colon r)
        ∙ ap (λ w. list_all is_scheme_byte start && (w && list_all is_scheme_byte (before colon r))) (no_scheme_byte m k)
        ∙ left_out (list_all is_scheme_byte start) (list_all is_scheme_byte (before colon r))

    by_rest : (l : List ℕ) → from_first ends_scheme t ≡ l → after_colon l ≡ None → NoScheme t
    by_rest [] e h =
        let whole : t ≡ start ++ [] = sym (cut-whole ends_scheme t) ∙ ap (λ l. start ++ l) e in
        inl (ap (after colon) whole ∙ after_of colon start None refl (front_lacks t))
    by_rest (m ∷ r) e h =
        let whole : t ≡ start ++ m ∷ r = sym (cut-whole ends_scheme t) ∙ ap (λ l. start ++ l) e in
        inr (ap (λ u. list_all is_scheme_byte (before colon u)) whole
        ∙ ap (list_all is_scheme_byte) (up_to-append (λ b. b == colon) start (m ∷ r) (front_lacks t))
        ∙ at_colon m r (m == colon) refl (from_first-head ends_scheme t m r e) h)

after_colon_is : (l u : List ℕ) → after_colon l ≡ Some u → l ≡ colon ∷ u
after_colon_is [] u h = cc
after_colon_is (b ∷ t) u h = at_byte (b == colon) refl h
  where
    at_byte : (v : Bool) → (b == colon) ≡ v → cond v (Some t) None ≡ Some u → b ∷ t ≡ colon ∷ u
    at_byte true e k = let same : t ≡ u = cc in ap (λ x. x ∷ t) (eqb-true b colon e) ∙ ap (λ x. colon ∷ x) same
    at_byte false e k = cc

colon_whole : (t u : List ℕ) → after_colon (from_first ends_scheme t) ≡ Some u → t ≡ up_to ends_scheme t ++ colon ∷ u
colon_whole t u some = sym (cut-whole ends_scheme t) ∙ ap (λ l. up_to ends_scheme t ++ l) (after_colon_is (from_first ends_scheme t) u some)

-- if it is a colon, it is the first one
pub front_colon : (t u : List ℕ) → after_colon (from_first ends_scheme t) ≡ Some u → (before colon t ≡ up_to ends_scheme t) × (after colon t ≡ Some u)
front_colon t u some =
    let whole = colon_whole t u some in (
      ap (before colon) whole ∙ before_of colon (up_to ends_scheme t) (Some u) refl (front_lacks t),
      ap (after colon) whole
          ∙ after_of colon (up_to ends_scheme t) (Some u) refl (front_lacks t),
    )

-- ---- whether the first segment has a colon

pub segment_colon : (t u : List ℕ) → after_colon (from_first ends_scheme t) ≡ Some u → lacks colon (up_to ends_segment t) ≡ false
segment_colon t u some = by_test (lacks colon (up_to ends_segment t)) refl
  where
    cut : up_to ends_segment t ≡ up_to ends_scheme t ++ colon ∷ up_to ends_segment u
    cut = ap (up_to ends_segment) (colon_whole t u some) ∙ up_to-append ends_segment (up_to ends_scheme t) (colon ∷ u) (front_in_segment t)

    by_test : (v : Bool) → lacks colon (up_to ends_segment t) ≡ v → v ≡ false
    by_test false e = refl
    by_test true e = absurd (false≢true
        (lacks-right colon (up_to ends_scheme t) (colon ∷ up_to ends_segment u) (sym (ap (lacks colon) cut) ∙ e)))

pub segment_no_colon : (t : List ℕ) → after_colon (from_first ends_scheme t) ≡ None → lacks colon (up_to ends_segment t) ≡ true
segment_no_colon t none = by_rest (from_first ends_scheme t) refl none
  where
    start : List ℕ
    start = up_to ends_scheme t

    at_end : (l : List ℕ) → from_first ends_scheme t ≡ l → up_to ends_segment l ≡ [] → lacks colon (up_to ends_segment t) ≡ true
    at_end l e ends =
        let whole : t ≡ start ++ l = sym (cut-whole ends_scheme t) ∙ ap (λ l. start ++ l) e in
        ap (λ u. lacks colon (up_to ends_segment u)) whole
        ∙ ap (lacks colon) (up_to-append ends_segment start l (front_in_segment t) ∙ ap (λ u. start ++ u) ends ∙ append-nil start)
        ∙ front_lacks t

    at_colon : (m : ℕ) (r : List ℕ) (v : Bool) → (m == colon) ≡ v → (v || ends_segment m) ≡ true → cond v (Some r) None ≡ None → ends_segment m ≡ true
    at_colon m r true e k h = cc
    at_colon m r false e k h = k

    by_rest : (l : List ℕ) → from_first ends_scheme t ≡ l → after_colon l ≡ None → lacks colon (up_to ends_segment t) ≡ true
    by_rest [] e h = at_end [] e refl
    by_rest (m ∷ r) e h =
        at_end (m ∷ r) e (ap (λ v. cond v [] (m ∷ up_to ends_segment r)) (at_colon m r (m == colon) refl (from_first-head ends_scheme t m r e) h))

-- ---- what is returned for a text: that of its scheme, or the empty text for none, what follows, and whether it has a colon segment

pub record IsCut (t s u : List ℕ) (c : Bool) : Type 0 where
  pub scheme : if_some s ≡ scheme_text t
  pub rest : u ≡ after_scheme t
  pub colon : c ≡ has_colon_segment t

pub uncut : (t : List ℕ) → scheme_text t ≡ None → (v c : Bool) → lacks colon (up_to ends_segment t) ≡ v → c ≡ not v → IsCut t [] t c
uncut t none v c lacking is = record {
  scheme = sym none;
  rest = sym (ap (λ o. unless_scheme o t (rest colon t)) none);
  colon = is ∙ ap not (sym lacking) ∙ sym (ap (λ o. not (is_some o) && not (lacks colon (up_to ends_segment t))) none);
}

before_is : (t u : List ℕ) → after colon t ≡ Some u → scheme_text t ≡ (if_scheme (Some (before colon t)))
before_is t u e = ap (λ o. if_scheme (option_map (λ _. before colon t) o)) e

never_empty : (s : List ℕ) → is_scheme s ≡ true → if_some s ≡ Some s
never_empty [] h = cc
never_empty (b ∷ s) h = refl

pub cut_there : (t s u : List ℕ) → after_colon (from_first ends_scheme t) ≡ Some u → s ≡ up_to ends_scheme t → is_scheme s ≡ true → IsCut t s u false
cut_there t s u some is_front is =
    let first = front_colon t u some in
    let k : before colon t ≡ s = first.0 ∙ sym is_front in
    let there : scheme_text t ≡ Some s = before_is t u first.1 ∙ rw (k, is) refl in
    record {
      scheme = never_empty s is ∙ sym there;
      rest = sym (ap (λ o. unless_scheme o t (rest colon t)) there ∙ ap (λ o. unwrap_or o t) first.1);
      colon = sym (ap (λ o. not (is_some o) && not (lacks colon (up_to ends_segment t))) there);
    }

pub uncut_there : (t s u : List ℕ) → after_colon (from_first ends_scheme t) ≡ Some u → s ≡ up_to ends_scheme t → is_scheme s ≡ false → IsCut t [] t true
uncut_there t s u some is_front is =
    let first = front_colon t u some in
    let k : before colon t ≡ s = first.0 ∙ sym is_front in
    uncut t (before_is t u first.1 ∙ rw (k, is) refl) false true (segment_colon t u some) refl

pub uncut_nowhere : (t : List ℕ) → after_colon (from_first ends_scheme t) ≡ None → IsCut t [] t false
uncut_nowhere t none = uncut t (front_no_scheme t none) true false (segment_no_colon t none) refl

-- ---- the scheme that was cut off

pub is_scheme_text : (t s : List ℕ) → if_some s ≡ scheme_text t → IfSome (if_some s) (λ s. is_scheme s ≡ true)
is_scheme_text t s e = subst (λ o. IfSome o (λ s. is_scheme s ≡ true)) (sym e) (by_front (front colon t))
  where
    by_test : (s : List ℕ) (v : Bool) → is_scheme s ≡ v → IfSome (cond v (Some s) None) (λ s. is_scheme s ≡ true)
    by_test s true is = is
    by_test s false is = tt

    by_front : (o : Option (List ℕ)) → IfSome (if_scheme o) (λ s. is_scheme s ≡ true)
    by_front None = tt
    by_front (Some s) = by_test s (is_scheme s) refl

pub known_named : (s : RegisteredScheme) (t : List ℕ) → t ≡ name_of s → option_map named (if_some t) ≡ Some (Registered s)
known_named s t e =
    ap (λ u. option_map named (if_some u)) e
    ∙ ap (option_map named) (never_empty (name_of s) (name_is_scheme s))
    ∙ ap (λ o. Some (registered_or (name_of s) o)) (named-name s)
