-- Reading a reference is exact.
use Rattle.std.proofs.Common.{◌≡◌, ℕ, Bool, true, false, cond, List, [], ◌∷◌, ◌++◌, drop, Option, Some, None, Ok, refl, sym, ap, ◌∙◌, subst, append_assoc, ◌&&◌}
use Rattle.std.proofs.Common.{inl, inr, arith}
use Rattle.std.specs.Prelude.{◌⊎◌, ◌==◌, IfSome, IfOk, IfErr, Result, Err, is_some}
use Rattle.std.specs.Option.{option_map}
use Rattle.std.proofs.lemmas.Bool.{false≢true, eqb-true}
use Rattle.std.proofs.lemmas.Bool.Decides.{nat_tests}
use Rattle.uriparse_text.specs.declared.internal.class.Class.TheVariants.{Query}
use Rattle.uriparse_text.specs.Bytes.{slash, colon, question_mark, number_sign}
use Rattle.uriparse_text.specs.Cuts.{following, ahead, before, after, front, rest, up_to, from_first}
use Rattle.uriparse_text.specs.Readings.{IsUnless, ◌>>=◌, of_piece, some_of, if_present, fault_in, unless_fault, IfPresent}
use Rattle.uriparse_text.specs.Query as query
use Rattle.uriparse_text.specs.Fragment as fragment
use Rattle.uriparse_text.proofs.lemmas.readings.CutLemmas.{from_first-head, cut-whole, before_after, front_rest}
use Rattle.uriparse_text.proofs.lemmas.readings.ReadingLemmas.{texts_again, texts_found, present_again, present_found, piece_found, bind_ok, none_or}
use Rattle.uriparse_path.specs.Path.{PathParts, IsPath, is_slash, is_rooted, has_two_slashes, pieces}
use Rattle.uriparse_path.specs.Faults as path_faults
use Rattle.uriparse_path.specs.Faults.{ends_path}
use Rattle.uriparse_path.proofs.lemmas.reading.ReadingLemmas.{reading-path, path_read}
use Rattle.uriparse_authority.specs.Authority as authority
use Rattle.uriparse_authority.specs.Authority.{AuthorityParts, ends_authority}
use Rattle.uriparse_authority.proofs.lemmas.authorities.AuthorityLemmas as authorities
use Rattle.uriparse_authority.proofs.lemmas.authorities.AuthorityLemmas.{LacksEnds}
use Rattle.uriparse_scheme.specs.declared.scheme.Scheme.{Scheme}
use Rattle.uriparse_scheme.specs.Scheme as scheme
use Rattle.uriparse_scheme.proofs.lemmas.schemes.SchemeLemmas as schemes
use Rattle.uriparse_text.specs.declared.segment.error.PathError.TheVariants.{OutOfMemory}
use Rattle.uriparse_reference.specs.declared.uri_reference.error.URIReferenceError.{URIReferenceError}
use Rattle.uriparse_reference.specs.declared.uri_reference.error.URIReferenceError.TheVariants as errors
use Rattle.uriparse_authority.specs.declared.authority.error.AuthorityError.{AuthorityError}
use Rattle.uriparse_reference.specs.Reference.{Parts, after_slashes, joined, is_abempty, path_refusal, path_of, Spells}
use Rattle.uriparse_reference.specs.Cuts.{if_scheme, scheme_text, unless_scheme, after_scheme, cut_authority, authority_text, without_authority}
use Rattle.uriparse_reference.specs.Cuts.{after_authority, path_text, query_text, fragment_text}
use Rattle.uriparse_reference.specs.Reading.{path_reading, tail_reading, reading, fault, IsAnswer}
use Rattle.uriparse_reference.proofs.lemmas.reading.TailLemmas.{Tail}
use Rattle.uriparse_reference.proofs.lemmas.reading.CutLemmas.{tail, ArePieces, cut_again, path_cut}

-- ---- what is spelled is read

pub schemes_are : (o : Option (List ℕ)) (s : Option Scheme) → IfPresent scheme.Spells o s
    → (IfSome o (λ t. scheme.is_scheme t ≡ true)) × (option_map scheme.named o ≡ s)
schemes_are None None h = (tt, refl)
schemes_are None (Some s) h = absurd h
schemes_are (Some t) None h = absurd h
schemes_are (Some t) (Some s) h = (h.grammar, ap Some (sym h.value))

pub authorities_end : (o : Option (List ℕ)) (a : Option AuthorityParts) → IfPresent authority.Spells o a → IfSome o LacksEnds
authorities_end None a h = tt
authorities_end (Some t) None h = absurd h
authorities_end (Some t) (Some p) h = authorities.spelled_lacks t p h

pub spelled_pieces : (t : List ℕ) (p : Parts) (s : Spells t p) → ArePieces s.scheme_text s.authority_text s.path_text p.query
spelled_pieces t p s = record {
  is_scheme = (schemes_are s.scheme_text p.scheme s.is_scheme).0;
  is_authority = authorities_end s.authority_text p.authority s.is_authority;
  is_path = s.is_path;
  abempty = s.abempty;
  fit = s.fit;
  is_query = s.is_query;
}

-- reading the path of a cut text
path_reading_is : (t : List ℕ) (s a : Option (List ℕ)) (h : List ℕ) → scheme_text t ≡ s → authority_text t ≡ a → path_text t ≡ h
    → path_reading (is_some (scheme_text t)) (is_some (authority_text t)) (path_text t) ≡ path_reading (is_some s) (is_some a) h
path_reading_is t s a h e f g =
    ap (λ o. path_reading (is_some o) (is_some (authority_text t)) (path_text t)) e ∙ ap (λ o. path_reading (is_some s) (is_some o) (path_text t)) f
    ∙ ap (path_reading (is_some s) (is_some a)) g

pub again : (t : List ℕ) (p : Parts) → Spells t p → reading t ≡ Ok p
unfolding reading
again t p s =
    let cut = cut_again t s.scheme_text s.authority_text s.path_text p.query p.fragment (spelled_pieces t p s) s.whole in
    let x : if_present authority.reading (authority_text t) ≡ Ok p.authority = ap (if_present authority.reading) cut.authority
    ∙ present_again authority.Spells authority.reading authorities.exact s.authority_text p.authority s.is_authority in
    let y : path_reading (is_some (scheme_text t)) (is_some (authority_text t)) (path_text t) ≡ Ok p.path =
    path_reading_is t s.scheme_text s.authority_text s.path_text cut.scheme cut.authority cut.path
    ∙ rw (reading-path s.path_text s.is_path, s.fit) (ap Ok (sym s.path)) in
    let v : if_present query.reading (query_text t) ≡ Ok p.query = ap (if_present query.reading) cut.query
    ∙ texts_again Query query.error_of p.query s.is_query in
    let w : if_present fragment.reading (fragment_text t) ≡ Ok p.fragment = ap (if_present fragment.reading) cut.fragment
    ∙ texts_again Query fragment.error_of p.fragment s.is_fragment in
    let n : option_map scheme.named (scheme_text t) ≡ p.scheme = ap (option_map scheme.named) cut.scheme
    ∙ (schemes_are s.scheme_text p.scheme s.is_scheme).1 in
    rw (x, y, v, w, n) refl

pub one_reading : (t : List ℕ) (p q : Parts) → Spells t p → Spells t q → p ≡ q
one_reading t p q h k = let e = again t p h in let f = again t q k in cc

-- ---- a text, put together from its cuts

pub scheme_whole : (t : List ℕ) → ahead colon (scheme_text t) ++ after_scheme t ≡ t
scheme_whole t = by_front (front colon t) (front_rest colon t)
  where
    by_front : (o : Option (List ℕ)) → ahead colon o ++ rest colon t ≡ t → ahead colon (if_scheme o) ++ unless_scheme (if_scheme o) t (rest colon t) ≡ t
    by_front None h = refl
    by_front (Some s) h =
        elim (scheme.is_scheme s) as (λ v. ahead colon (cond v (Some s) None) ++ unless_scheme (cond v (Some s) None) t (rest colon t) ≡ t)
        [ true ↦ h | false ↦ refl ]

pub two_slashes : (u : List ℕ) → has_two_slashes u ≡ true → slash ∷ slash ∷ drop 2 u ≡ u
two_slashes [] h = absurd (false≢true h)
two_slashes (b ∷ u) h = at_slash (is_slash b) refl h
  where
    second : (u : List ℕ) → is_rooted u ≡ true → slash ∷ drop 1 u ≡ u
    second [] h = absurd (false≢true h)
    second (c ∷ u) h = ap (λ x. x ∷ u) (sym (eqb-true c slash h))

    at_slash : (v : Bool) → is_slash b ≡ v → (v && is_rooted (cond v u (b ∷ u))) ≡ true → slash ∷ slash ∷ drop 1 u ≡ b ∷ u
    at_slash true e h = ap (λ x. slash ∷ x) (second u h) ∙ ap (λ x. x ∷ u) (sym (eqb-true b slash e))
    at_slash false e h = absurd (false≢true h)

pub authority_whole : (u : List ℕ) → after_slashes (cut_authority u) ++ without_authority u ≡ u
authority_whole u = at_test (has_two_slashes u) refl
  where
    at_test : (v : Bool) → has_two_slashes u ≡ v
        → after_slashes (cond v (Some (up_to ends_authority (drop 2 u))) None) ++ cond v (from_first ends_authority (drop 2 u)) u ≡ u
    at_test true e = ap (λ x. slash ∷ slash ∷ x) (cut-whole ends_authority (drop 2 u)) ∙ two_slashes u e
    at_test false e = refl

pub tail_whole : (u : List ℕ) → up_to ends_path u ++ tail (after question_mark (before number_sign u)) (after number_sign u) ≡ u
tail_whole u = ap (λ h. h ++ tail (after question_mark (before number_sign u)) (after number_sign u)) (path_cut u)
    ∙ sym (append_assoc (before question_mark (before number_sign u)) (following question_mark (after question_mark (before number_sign u)))
    (following number_sign (after number_sign u))) ∙ ap (λ x. x ++ following number_sign (after number_sign u)) (before_after question_mark (before number_sign u))
    ∙ before_after number_sign u

pub whole_is : (t : List ℕ) → t ≡ joined (scheme_text t) (authority_text t) (path_text t) (query_text t) (fragment_text t)
whole_is t = sym (ap (λ u. ahead colon (scheme_text t) ++ u) (ap (λ u. after_slashes (authority_text t) ++ u) (tail_whole (after_authority t))
    ∙ authority_whole (after_scheme t)) ∙ scheme_whole t)

pub schemes_spell : (t : List ℕ) → IfPresent scheme.Spells (scheme_text t) (option_map scheme.named (scheme_text t))
schemes_spell t = by_front (front colon t)
  where
    by_test : (s : List ℕ) (v : Bool) → scheme.is_scheme s ≡ v → IfPresent scheme.Spells (cond v (Some s) None) (option_map scheme.named (cond v (Some s) None))
    by_test s true e = record { grammar = e; value = refl }
    by_test s false e = tt

    by_front : (o : Option (List ℕ)) → IfPresent scheme.Spells (if_scheme o) (option_map scheme.named (if_scheme o))
    by_front None = tt
    by_front (Some s) = by_test s (scheme.is_scheme s) refl

-- once query and fragment are cut off, nothing or a slash follows the authority
pub abempty_cut : (u : List ℕ) → is_abempty (up_to ends_path (from_first ends_authority u)) ≡ true
abempty_cut u = ap is_abempty (path_cut (from_first ends_authority u)) ∙ by_rest (from_first ends_authority u) refl
  where
    by_ends : (b : ℕ) (r : List ℕ) (v w : Bool) → (b == number_sign) ≡ v → (b == question_mark) ≡ w → ends_authority b ≡ true
        → is_abempty (before question_mark (cond v [] (b ∷ before number_sign r))) ≡ true
    by_ends b r true w e f h = refl
    by_ends b r false true e f h = rw f refl
    by_ends b r false false e f h = rw f (grind (arith, nat_tests))

    by_rest : (l : List ℕ) → from_first ends_authority u ≡ l → is_abempty (before question_mark (before number_sign l)) ≡ true
    by_rest [] e = refl
    by_rest (b ∷ r) e = by_ends b r (b == number_sign) (b == question_mark) refl refl (from_first-head ends_authority u b r e)

pub abempty_text : (t : List ℕ) → IfSome (authority_text t) (λ _. is_abempty (path_text t) ≡ true)
abempty_text t = by_slashes (has_two_slashes (after_scheme t))
  where
    by_slashes : (v : Bool)
        → IfSome (cond v (Some (up_to ends_authority (drop 2 (after_scheme t)))) None)
        (λ _. is_abempty (up_to ends_path (cond v (from_first ends_authority (drop 2 (after_scheme t))) (after_scheme t))) ≡ true)
    by_slashes true = abempty_cut (drop 2 (after_scheme t))
    by_slashes false = tt

pub accepted : {A : Type 0} (o : Option URIReferenceError) (y x : A) → unless_fault o y ≡ Ok x → (o ≡ None) × (x ≡ y)
accepted None y x h = (refl, cc)
accepted (Some e) y x h = cc

-- a path that was read is a path, and may follow the scheme and the authority
placed_path : (v w : Bool) (h : List ℕ) (p : PathParts) → path_reading v w h ≡ Ok p → IsPath h × (path_refusal v w h ≡ None) × (p ≡ path_of w h)
placed_path v w h p k =
    let x = bind_ok (of_piece errors.Path (path_faults.reading h)) _ p k in
    let offset = accepted (path_refusal v w h) (path_of w h) p x.2 in
    ((path_read h x.0 (piece_found errors.Path _ x.0 x.1)).0, offset.0, offset.1)

spells_cuts : (t : List ℕ) (a : Option AuthorityParts) (h : PathParts) (q f : Option (List ℕ))
    → if_present authority.reading (authority_text t) ≡ Ok a
    → path_reading (is_some (scheme_text t)) (is_some (authority_text t)) (path_text t) ≡ Ok h
    → if_present query.reading (query_text t) ≡ Ok q → if_present fragment.reading (fragment_text t) ≡ Ok f
    → Spells t (record { scheme = option_map scheme.named (scheme_text t); authority = a; path = h; query = q; fragment = f })
spells_cuts t a h q f i j k l =
    let d = texts_found Query query.error_of (query_text t) q k in
    let e = texts_found Query fragment.error_of (fragment_text t) f l in
    let offset = placed_path (is_some (scheme_text t)) (is_some (authority_text t)) (path_text t) h j in
    record {
      scheme_text = scheme_text t;
      authority_text = authority_text t;
      path_text = path_text t;
      whole = rw (d.0, e.0) (whole_is t);
      is_scheme = schemes_spell t;
      is_authority = present_found authority.Spells authority.reading authorities.exact (authority_text t) a i;
      is_path = offset.0;
      abempty = abempty_text t;
      fit = offset.1;
      is_query = d.1;
      is_fragment = e.1;
      path = offset.2;
    }

pub found : (t : List ℕ) (p : Parts) → reading t ≡ Ok p → Spells t p
unfolding reading
found t p k =
    let x = bind_ok (of_piece errors.Authority (if_present authority.reading (authority_text t))) _ p k in
    let y = bind_ok (path_reading (is_some (scheme_text t)) (is_some (authority_text t)) (path_text t)) _ p x.2 in
    let v = bind_ok (of_piece errors.Query (if_present query.reading (query_text t))) _ p y.2 in
    let w = bind_ok (of_piece errors.Fragment (if_present fragment.reading (fragment_text t))) _ p v.2 in
    let e : record { scheme = option_map scheme.named (scheme_text t); authority = x.0; path = y.0; query = v.0; fragment = w.0 } ≡ p = cc (w.2) in
    subst (λ q. Spells t q) e (spells_cuts t x.0 y.0 v.0 w.0 (piece_found errors.Authority _ x.0 x.1) y.1 (piece_found errors.Query _ v.0 v.1)
    (piece_found errors.Fragment _ w.0 w.1))

pub none_exactly : (t : List ℕ) → ((fault t ≡ None) → ((p : Parts) × Spells t p)) × (((p : Parts) × Spells t p) → (fault t ≡ None))
none_exactly t = (
  (λ h. let r = none_or (reading t) h in (r.0, found t r.0 r.1)),
  (λ w. ap fault_in (again t w.0 w.1)),
)

pub scheme_back : (s : Option Scheme) → IfSome s scheme.Valid → IfPresent scheme.Spells (option_map scheme.text s) s
scheme_back None h = tt
scheme_back (Some s) h = schemes.spells_back s h

pub authority_back : (a : Option AuthorityParts) → IfSome a authority.Valid → IfSome a authority.ReadsBack
    → IfPresent authority.Spells (option_map authority.print a) a
authority_back None h k = tt
authority_back (Some a) h k = authorities.back a h k

-- ---- the results of the readers of the components

pub scheme_present : (t : List ℕ) → is_some (option_map scheme.named (scheme_text t)) ≡ is_some (scheme_text t)
scheme_present t = by_option (scheme_text t)
  where
    by_option : (o : Option (List ℕ)) → is_some (option_map scheme.named o) ≡ is_some o
    by_option None = refl
    by_option (Some s) = refl

abbrev pub with_tail : Option Scheme → Option AuthorityParts → Tail → Parts
with_tail s a x = record { scheme = s; authority = a; path = x.0; query = x.1; fragment = x.2 }

-- what a reader returns that reads the authority and then the components that follow it
module _ (t : List ℕ) (s : Option Scheme) (o : Option (List ℕ)) (h : List ℕ) (q f : Option (List ℕ)) (a : Option AuthorityParts)
    (scheme_is : s ≡ option_map scheme.named (scheme_text t)) (authority_is : o ≡ authority_text t) (path_is : h ≡ path_text t)
    (query_is : q ≡ query_text t) (fragment_is : f ≡ fragment_text t)
    (read : of_piece errors.Authority (if_present authority.reading o) ≡ Ok a) where
  tail_made : Result Tail URIReferenceError
  tail_made = tail_reading (is_some s) (is_some o) h q f

  by_tail : reading t ≡ (tail_made >>= λ x. Ok (with_tail s a x))
  unfolding reading tail_made
  by_tail =
      let has_scheme : is_some s ≡ is_some (scheme_text t) = ap is_some scheme_is ∙ scheme_present t in
      let has_authority : is_some o ≡ is_some (authority_text t) = ap is_some authority_is in
      rw (has_scheme, has_authority, scheme_is, path_is, query_is, fragment_is, sym authority_is, read) (by_results
      (path_reading (is_some (scheme_text t)) (is_some o) (path_text t)) (of_piece errors.Query (if_present query.reading (query_text t)))
      (of_piece errors.Fragment (if_present fragment.reading (fragment_text t))))
    where
      s' : Option Scheme
      s' = option_map scheme.named (scheme_text t)

      by_results : (h : Result PathParts URIReferenceError) (q f : Result (Option (List ℕ)) URIReferenceError)
          → (h >>= λ x. q >>= λ y. f >>= λ z. Ok (with_tail s' a (x, y, z)))
          ≡ ((h >>= λ x. q >>= λ y. f >>= λ z. Ok (x, y, z)) >>= λ x. Ok (with_tail s' a x))
      by_results (Ok x) (Ok y) (Ok z) = refl
      by_results (Ok x) (Ok y) (Err e) = refl
      by_results (Ok x) (Err e) f = refl
      by_results (Err e) q f = refl

  pub tail_answer : (v w : Bool) → v ≡ is_some (scheme_text t) → w ≡ is_some o → (r : Result Tail URIReferenceError) → tail_reading v w h q f ≡ r
      → reading t ≡ (r >>= λ x. Ok (with_tail s a x))
  unfolding tail_made
  tail_answer v w e k r made =
      let along : tail_reading (is_some s) (is_some o) h q f ≡ tail_reading v w h q f =
      ap (λ b. tail_reading b (is_some o) h q f) (ap is_some scheme_is ∙ scheme_present t ∙ sym e) ∙ ap (λ b. tail_reading v b h q f) (sym k) in
      by_tail ∙ ap (λ r. r >>= λ x. Ok (with_tail s a x)) (along ∙ made)

-- an authority was read if and only if the text has one
pub read_present : (o : Option (List ℕ)) (a : Option AuthorityParts) → of_piece errors.Authority (if_present authority.reading o) ≡ Ok a
    → is_some a ≡ is_some o
read_present None None h = refl
read_present None (Some p) h = cc
read_present (Some t) a h = by_reading (authority.reading t) a h
  where
    by_reading : (r : Result AuthorityParts AuthorityError) (a : Option AuthorityParts) → of_piece errors.Authority (some_of r) ≡ Ok a → is_some a ≡ true
    by_reading (Ok p) (Some q) k = refl
    by_reading (Ok p) None k = cc
    by_reading (Err e) a k = cc

-- whether a path follows an authority, by the authority that was read
pub in_place : (s : Option Scheme) (a : Option AuthorityParts) (w : Bool) → w ≡ is_some a → (h : List ℕ) (q f : Option (List ℕ))
    → with_tail s a (path_of w h, q, f) ≡ record { scheme = s; authority = a; path = path_of (is_some a) h; query = q; fragment = f }
in_place s a w e h q f = ap (λ w. with_tail s a (path_of w h, q, f)) e

pub read_whole : (t : List ℕ) (p : Parts) → IsAnswer t (Ok p) → reading t ≡ Ok p
read_whole t p (inl h) = sym h
read_whole t p (inr h) = let no = h.1 in absurd (cc)

-- ---- a reader's result in terms of the grammar

fault_first : (t : List ℕ) (e : URIReferenceError) → fault t ≡ Some e → reading t ≡ Err e
fault_first t e h = by_reading (reading t) h
  where
    by_reading : (r : Result Parts URIReferenceError) → fault_in r ≡ Some e → r ≡ Err e
    by_reading (Ok p) k = cc
    by_reading (Err x) k = let same : x ≡ e = cc in ap Err same

pub answered : (t : List ℕ) (r : Result Parts URIReferenceError) → IsAnswer t r
    → (IfOk r (λ p. Spells t p)) × ((p : Parts) → Spells t p → IsUnless (errors.Path OutOfMemory) r (Ok p))
    × (IfErr r (λ e. (fault t ≡ Some e) ⊎ (e ≡ errors.Path OutOfMemory))) × ((e : URIReferenceError) → fault t ≡ Some e → r ≡ Err e)
answered t r (inl h) = (by_answer r h, (λ p s. inl (h ∙ again t p s)), by_fault r h, (λ e k. h ∙ fault_first t e k))
  where
    by_answer : (r : Result Parts URIReferenceError) → r ≡ reading t → IfOk r (λ p. Spells t p)
    by_answer (Ok p) h = found t p (sym h)
    by_answer (Err e) h = tt

    by_fault : (r : Result Parts URIReferenceError) → r ≡ reading t → IfErr r (λ e. (fault t ≡ Some e) ⊎ (e ≡ errors.Path OutOfMemory))
    by_fault (Ok p) h = tt
    by_fault (Err e) h = inl (ap fault_in (sym h))
answered t r (inr h) =
    let want = h.1 in
    (rw want tt, (λ p s. inr want), rw want (inr refl), (λ e k. let no : None ≡ Some e = sym h.0 ∙ k in absurd (cc)))

-- the segments of a path are the pieces of its text, also where it is made absolute
pub path_segments : (has_authority : Bool) (h : List ℕ) → (path_of has_authority h).segments ≡ pieces h
path_segments true h = refl
path_segments false h = refl
