-- Where the fault of a text is.
use Rattle.std.proofs.Common.{◌≡◌, ℕ, ◌+◌, ◌-◌, ◌<◌, Bool, true, false, cond, List, [], ◌∷◌, length, Option, Some, None, Ok, Err, inl, inr, refl, sym, ap, ◌∙◌, subst, arith, length-append}
use Rattle.std.specs.Prelude.{◌⊎◌, ◌||◌, ◌==◌, Result, is_some}
use Rattle.std.specs.Option.{option_map}
use Rattle.uriparse_text.specs.declared.internal.class.Class.TheVariants as class
use Rattle.uriparse_text.specs.Bytes.{colon, question_mark, number_sign}
use Rattle.uriparse_text.specs.Cuts.{ahead, after, before, following, from_first, part, up_to}
use Rattle.uriparse_text.specs.Query as query
use Rattle.uriparse_text.specs.Fragment as fragment
use Rattle.uriparse_text.specs.Offset.{offset_after}
use Rattle.uriparse_text.specs.Readings.{◌>>=◌, fault_in, if_present, of_piece, some_of, unless_fault}
use Rattle.uriparse_text.proofs.lemmas.classes.OffsetLemmas.{present_before_end}
use Rattle.uriparse_text.proofs.lemmas.readings.CutLemmas.{before_after, cut-whole}
use Rattle.uriparse_text.specs.declared.segment.error.PathError.{PathError}
use Rattle.uriparse_path.specs.Path.{has_two_slashes, spelled}
use Rattle.uriparse_path.specs.Faults as path
use Rattle.uriparse_path.specs.Faults.{ends_path}
use Rattle.uriparse_path.specs.Offset as path_offset
use Rattle.uriparse_path.proofs.lemmas.reading.OffsetLemmas as path_lemmas
use Rattle.uriparse_authority.specs.declared.authority.error.AuthorityError.{AuthorityError}
use Rattle.uriparse_authority.specs.Authority as authority
use Rattle.uriparse_authority.specs.Offset as authority_offset
use Rattle.uriparse_authority.proofs.lemmas.authorities.OffsetLemmas as authority_lemmas
use Rattle.uriparse_scheme.specs.Scheme as scheme
use Rattle.uriparse_scheme.specs.declared.scheme.error.SchemeError.{SchemeError}
use Rattle.uriparse_reference.specs.declared.uri_reference.error.URIReferenceError.{URIReferenceError}
use Rattle.uriparse_reference.specs.declared.uri_reference.error.URIReferenceError.TheVariants as errors
use Rattle.uriparse_reference.specs.Reference.{after_slashes, is_noscheme, path_of, path_refusal}
use Rattle.uriparse_reference.specs.Cuts.{after_authority, after_scheme, authority_text, cut_authority, fragment_text, path_text, query_text, scheme_text, without_authority}
use Rattle.uriparse_reference.specs.Reading.{fault, path_reading, reading}
use Rattle.uriparse_reference.specs.Offset.{fault_offset, path_begin, tail_offset}
use Rattle.uriparse_reference.proofs.lemmas.reading.CutLemmas.{path_cut}
use Rattle.uriparse_reference.proofs.lemmas.reading.ReadingLemmas.{authority_whole, scheme_whole}
use Rattle.uriparse_reference.proofs.lemmas.reading.FaultSourceLemmas.{by_results}

-- ---- the length of what precedes each component

pub scheme_length : (t : List ℕ) → length t ≡ length (ahead colon (scheme_text t)) + length (after_scheme t)
scheme_length t = ap length (sym (scheme_whole t)) ∙ length-append (ahead colon (scheme_text t)) (after_scheme t)

pub slashes_length : (o : Option (List ℕ)) → length (after_slashes o) ≡ offset_after 2 length o
slashes_length None = refl
slashes_length (Some a) = omega arith

pub authority_length : (u : List ℕ) → length u ≡ offset_after 2 length (cut_authority u) + length (without_authority u)
authority_length u =
    let whole = ap length (sym (authority_whole u)) ∙ length-append (after_slashes (cut_authority u)) (without_authority u) in
    let front = slashes_length (cut_authority u) in
    omega (arith, whole, front)

following_length : (mark : ℕ) (o : Option (List ℕ)) → length (following mark o) ≡ offset_after 1 length o
following_length mark None = refl
following_length mark (Some t) = omega arith

pub mark_length : (mark : ℕ) (u : List ℕ) → length u ≡ length (before mark u) + offset_after 1 length (after mark u)
mark_length mark u =
    let whole = ap length (sym (before_after mark u)) ∙ length-append (before mark u) (following mark (after mark u)) in
    let last = following_length mark (after mark u) in
    omega (arith, whole, last)

pub path_length : (u : List ℕ) → length (before number_sign u) ≡ length (up_to ends_path u) + offset_after 1 length (after question_mark (before number_sign u))
path_length u =
    mark_length question_mark (before number_sign u)
    ∙ ap (λ h. length h + offset_after 1 length (after question_mark (before number_sign u))) (sym (path_cut u))

pub begin_length : (t : List ℕ) → length t ≡ path_begin t + length (after_authority t)
begin_length t =
    let whole = scheme_length t in
    let rest = authority_length (after_scheme t) in
    let front = slashes_length (authority_text t) in
    let joined = length-append (ahead colon (scheme_text t)) (after_slashes (authority_text t)) in
    omega (arith, whole, rest, front, joined)

-- ---- a fault is before the end

-- the error is that of a component
pub told_by : {A E : Type 0} (told : E → URIReferenceError) (r : Result A E) (e : URIReferenceError) (P : URIReferenceError → Type 0)
    → ((x : E) → r ≡ Err x → P (told x)) → fault_in (of_piece told r) ≡ Some e → P e
told_by told (Ok a) e P is k = cc
told_by told (Err x) e P is k = let same : told x ≡ e = cc in subst P same (is x refl)

present_authority : (o : Option (List ℕ)) (x : AuthorityError) → if_present authority.reading o ≡ Err x
    → offset_after 2 (authority_offset.fault_offset x) o < offset_after 2 length o
present_authority None x h = cc
present_authority (Some a) x h = let s = authority_lemmas.before_end a x (ap fault_in (some_error (authority.reading a) h)) in omega (arith, s)
  where
    some_error : {A : Type 0} (r : Result A AuthorityError) → some_of r ≡ Err x → r ≡ Err x
    some_error (Ok p) k = cc
    some_error (Err y) k = let same : y ≡ x = cc in ap Err same

-- a path that is refused for its beginning has one
refused_some : (v w : Bool) (h : List ℕ) (e : URIReferenceError) → path_refusal v w h ≡ Some e → 0 < length h
refused_some v true h e k = cc
refused_some true false [] e k = cc
refused_some false false [] e k = cc
refused_some v false (b ∷ h) e k = omega arith

pub refused_offset : (v w : Bool) (t h : List ℕ) (e : URIReferenceError) → path_refusal v w h ≡ Some e → fault_offset e t ≡ path_begin t
refused_offset v true t h e k = cc
refused_offset v false t h e k = by_tests (has_two_slashes h) (v || is_noscheme h) k
  where
    by_tests : (x y : Bool)
        → cond x (Some errors.AbsolutePathStartsWithTwoSlashes) (cond y None (Some errors.SchemelessPathStartsWithColonSegment)) ≡ Some e
        → fault_offset e t ≡ path_begin t
    by_tests true y i = let same : errors.AbsolutePathStartsWithTwoSlashes ≡ e = cc in ap (λ z. fault_offset z t) (sym same)
    by_tests false true i = cc
    by_tests false false i = let same : errors.SchemelessPathStartsWithColonSegment ≡ e = cc in ap (λ z. fault_offset z t) (sym same)

by_path : (t : List ℕ) (e : URIReferenceError) (v w : Bool) (h : List ℕ) → h ≡ path_text t → fault_in (path_reading v w h) ≡ Some e
    → fault_offset e t < path_begin t + length h
by_path t e v w h is k = by_fault (path.fault h) refl k
  where
    by_offset : (o : Option URIReferenceError) → path_refusal v w h ≡ o → fault_in (unless_fault o (path_of w h)) ≡ Some e → fault_offset e t < path_begin t + length h
    by_offset None f i = cc
    by_offset (Some x) f i =
        let same : x ≡ e = cc in
        let refused : path_refusal v w h ≡ Some e = f ∙ ap Some same in
        let some = refused_some v w h e refused in
        let offset = refused_offset v w t h e refused in
        omega (arith, some, offset)

    by_fault : (o : Option PathError) → path.fault h ≡ o
        → fault_in (of_piece errors.Path (unless_fault o (spelled h)) >>= λ _. unless_fault (path_refusal v w h) (path_of w h)) ≡ Some e
        → fault_offset e t < path_begin t + length h
    by_fault None f i = by_offset (path_refusal v w h) refl i
    by_fault (Some x) f i =
        let same : errors.Path x ≡ e = cc in
        let s = path_lemmas.before_end h x f in
        let offset = ap (λ y. fault_offset y t) (sym same) in
        let there = ap path_offset.fault_offset is in
        omega (arith, s, offset, there)

pub before_end : (t : List ℕ) (e : URIReferenceError) → fault t ≡ Some e → fault_offset e t < length t
unfolding reading
before_end t e h =
    told (by_results (of_piece errors.Authority (if_present authority.reading (authority_text t)))
    (path_reading (is_some (scheme_text t)) (is_some (authority_text t)) (path_text t)) (of_piece errors.Query (if_present query.reading (query_text t)))
    (of_piece errors.Fragment (if_present fragment.reading (fragment_text t)))
    (λ a p q f. record { scheme = option_map scheme.named (scheme_text t); authority = a; path = p; query = q; fragment = f }) e h)
  where
    told : (fault_in (of_piece errors.Authority (if_present authority.reading (authority_text t))) ≡ Some e)
        ⊎ ((fault_in (path_reading (is_some (scheme_text t)) (is_some (authority_text t)) (path_text t)) ≡ Some e)
        ⊎ ((fault_in (of_piece errors.Query (if_present query.reading (query_text t))) ≡ Some e)
        ⊎ (fault_in (of_piece errors.Fragment (if_present fragment.reading (fragment_text t))) ≡ Some e)))
        → fault_offset e t < length t
    told (inl k) = told_by errors.Authority _ e (λ y. fault_offset y t < length t) (λ x i.
        let s = present_authority (authority_text t) x i in
        let whole = scheme_length t in let rest = authority_length (after_scheme t) in omega (arith, s, whole, rest)) k
    told (inr (inl k)) =
        let s = by_path t e (is_some (scheme_text t)) (is_some (authority_text t)) (path_text t) refl k in
        let whole = begin_length t in let front = mark_length number_sign (after_authority t) in let path = path_length (after_authority t) in
        omega (arith, s, whole, front, path)
    told (inr (inr (inl k))) = told_by errors.Query _ e (λ y. fault_offset y t < length t) (λ x i.
        let s = present_before_end class.Query query.error_of (query_text t) x 1 i in
        let whole = begin_length t in let front = mark_length number_sign (after_authority t) in let path = path_length (after_authority t) in
        omega (arith, s, whole, front, path)) k
    told (inr (inr (inr k))) = told_by errors.Fragment _ e (λ y. fault_offset y t < length t) (λ x i.
        let s = present_before_end class.Query fragment.error_of (fragment_text t) x 1 i in
        let whole = begin_length t in let front = mark_length number_sign (after_authority t) in let path = path_length (after_authority t) in
        let last = following_length question_mark (query_text t) in
        omega (arith, s, whole, front, path, last)) k

-- ---- the places that are returned

module _ (t rest following : List ℕ) (is_rest : rest ≡ after_scheme t) (is_following : following ≡ without_authority rest) where
  pub rest_within : length t ≡ length (ahead colon (scheme_text t)) + length rest
  rest_within = scheme_length t ∙ ap (λ u. length (ahead colon (scheme_text t)) + length u) (sym is_rest)

  pub following_is : following ≡ after_authority t
  following_is = is_following ∙ ap without_authority is_rest

  pub following_within : length t ≡ path_begin t + length following
  following_within = begin_length t ∙ ap (λ u. path_begin t + length u) (sym following_is)

module _ (u front fragment path_part query_part : List ℕ) (is_front : front ≡ before number_sign u) (is_fragment : fragment ≡ from_first (λ b. b == number_sign) u)
    (is_path : path_part ≡ before question_mark front) (is_query : query_part ≡ from_first (λ b. b == question_mark) front) where
  pub path_there : path_part ≡ up_to ends_path u
  path_there = is_path ∙ ap (before question_mark) is_front ∙ sym (path_cut u)

  pub query_there : part query_part ≡ after question_mark (before number_sign u)
  query_there = ap part is_query ∙ ap (after question_mark) is_front

  pub front_within : length u ≡ length front + length fragment
  front_within =
      let whole = ap length (sym (cut-whole (λ b. b == number_sign) u)) ∙ length-append (before number_sign u) (from_first (λ b. b == number_sign) u) in
      let a = ap length is_front in let b = ap length is_fragment in omega (arith, whole, a, b)

  pub path_within : length front ≡ length path_part + length query_part
  path_within =
      let whole = ap length (sym (cut-whole (λ b. b == question_mark) front)) ∙ length-append (before question_mark front) (from_first (λ b. b == question_mark) front) in
      let a = ap length is_path in let b = ap length is_query in omega (arith, whole, a, b)

pub tail_there : (e : URIReferenceError) (t following : List ℕ) (n : ℕ) → following ≡ after_authority t → n ≡ tail_offset e following
    → ((x : AuthorityError) → e ≡ errors.Authority x → ⊥) → ((x : SchemeError) → e ≡ errors.Scheme x → ⊥)
    → length t - length following + n ≡ fault_offset e t
tail_there (errors.Authority x) t following n is found no_authority no_scheme = absurd (no_authority x refl)
tail_there (errors.Scheme x) t following n is found no_authority no_scheme = absurd (no_scheme x refl)
tail_there (errors.Path x) t following n is found no_authority no_scheme =
    let whole = begin_length t in let same = ap length is in let there = found ∙ ap (tail_offset (errors.Path x)) is in omega (arith, whole, same, there)
tail_there errors.AbsolutePathStartsWithTwoSlashes t following n is found no_authority no_scheme =
    let whole = begin_length t in let same = ap length is in omega (arith, whole, same, found)
tail_there errors.SchemelessPathStartsWithColonSegment t following n is found no_authority no_scheme =
    let whole = begin_length t in let same = ap length is in omega (arith, whole, same, found)
tail_there errors.MissingPath t following n is found no_authority no_scheme =
    let whole = begin_length t in let same = ap length is in omega (arith, whole, same, found)
tail_there (errors.Query x) t following n is found no_authority no_scheme =
    let whole = begin_length t in let same = ap length is in let there = found ∙ ap (tail_offset (errors.Query x)) is in omega (arith, whole, same, there)
tail_there (errors.Fragment x) t following n is found no_authority no_scheme =
    let whole = begin_length t in let same = ap length is in let there = found ∙ ap (tail_offset (errors.Fragment x)) is in
    let path = path_length (after_authority t) in let last = following_length question_mark (query_text t) in
    omega (arith, whole, same, there, path, last)

pub failed : {A E : Type 0} (o : Option E) (x : A) (e : E) → unless_fault o x ≡ Err e → o ≡ Some e
failed None x e h = cc
failed (Some y) x e h = let same : y ≡ e = cc in ap Some same
