-- The byte at the place of a text's fault.
use Rattle.std.proofs.Common.{◌≡◌, ℕ, ◌+◌, ◌↔◌, Bool, true, false, cond, List, [], ◌∷◌, ◌++◌, length, Option, Some, None, Err, inl, inr, refl, sym, ap, ◌∙◌, subst, arith, append_assoc, append-nil, length-append}
use Rattle.std.specs.Prelude.{◌⊎◌, ◌||◌, IsSomeAnd, is_some, slice_get}
use Rattle.std.specs.Option.{option_map}
use Rattle.uriparse_text.specs.declared.internal.class.Class.{Class}
use Rattle.uriparse_text.specs.declared.internal.class.Class.TheVariants as class
use Rattle.uriparse_text.specs.declared.fragment.FragmentError.{FragmentError}
use Rattle.uriparse_text.specs.declared.fragment.FragmentError.TheVariants as fragment_errors
use Rattle.uriparse_text.specs.declared.query.QueryError.{QueryError}
use Rattle.uriparse_text.specs.declared.query.QueryError.TheVariants as query_errors
use Rattle.uriparse_text.specs.declared.segment.error.PathError.{PathError}
use Rattle.uriparse_text.specs.declared.segment.error.PathError.TheVariants as path_errors
use Rattle.uriparse_text.specs.Bytes.{colon, percent, question_mark, number_sign, slash}
use Rattle.uriparse_text.specs.Cuts.{ahead, following, lacks, up_to}
use Rattle.uriparse_text.specs.Fragment as fragment
use Rattle.uriparse_text.specs.Offset as text_offset
use Rattle.uriparse_text.specs.Offset.{offset_after}
use Rattle.uriparse_text.specs.Query as query
use Rattle.uriparse_text.specs.Readings.{◌>>=◌, fault_in, if_present, of_piece, reading_in, unless_fault}
use Rattle.uriparse_path.specs.Path.{has_two_slashes, is_slash, spelled}
use Rattle.uriparse_path.specs.Faults as path
use Rattle.uriparse_path.specs.Offset as path_offset
use Rattle.uriparse_path.proofs.lemmas.reading.OffsetLemmas as path_lemmas
use Rattle.uriparse_authority.specs.declared.authority.error.AuthorityError.{AuthorityError}
use Rattle.uriparse_authority.specs.declared.authority.error.AuthorityError.TheVariants as authority_errors
use Rattle.uriparse_authority.specs.declared.authority.error.PasswordError.{PasswordError}
use Rattle.uriparse_authority.specs.declared.authority.error.PasswordError.TheVariants as password_errors
use Rattle.uriparse_authority.specs.declared.authority.error.UsernameError.{UsernameError}
use Rattle.uriparse_authority.specs.declared.authority.error.UsernameError.TheVariants as username_errors
use Rattle.uriparse_authority.specs.Authority as authority
use Rattle.uriparse_authority.specs.Offset as authority_offset
use Rattle.uriparse_authority.proofs.lemmas.authorities.OffsetByteLemmas as bytes
use Rattle.uriparse_authority.proofs.lemmas.authorities.OffsetByteLemmas.{carried, of_byte, sign_exactly, some_error}
use Rattle.uriparse_scheme.specs.Scheme as scheme
use Rattle.uriparse_reference.specs.declared.uri_reference.error.URIReferenceError.{URIReferenceError}
use Rattle.uriparse_reference.specs.declared.uri_reference.error.URIReferenceError.TheVariants as errors
use Rattle.uriparse_reference.specs.Reference.{after_slashes, is_noscheme, path_of, path_refusal}
use Rattle.uriparse_reference.specs.Cuts.{authority_text, fragment_text, path_text, query_text, scheme_text}
use Rattle.uriparse_reference.specs.Reading.{fault, path_reading, reading}
use Rattle.uriparse_reference.specs.Offset.{IsWrongByte, fault_offset, path_begin}
use Rattle.uriparse_reference.proofs.lemmas.reading.ReadingLemmas.{whole_is}
use Rattle.uriparse_reference.proofs.lemmas.reading.FaultSourceLemmas.{by_results, never_slashes}
use Rattle.uriparse_reference.proofs.lemmas.reading.OffsetLemmas.{refused_offset, told_by}

-- a component of a class after its delimiter
following_byte : {E : Type 0} (class : Class) (error_of : ℕ → E) (mark : ℕ) (t front rest : List ℕ) (o : Option (List ℕ)) (x : E)
    → t ≡ front ++ (following mark o ++ rest) → if_present (reading_in class error_of) o ≡ Err x
    → IsSomeAnd (slice_get t (length front + offset_after 1 (text_offset.fault_offset class) o)) (λ b. error_of b ≡ x)
following_byte class error_of mark t front rest None x whole k = absurd (cc)
following_byte class error_of mark t front rest (Some u) x whole k =
    let long = length-append front (mark ∷ []) in
    carried (λ b. error_of b ≡ x) t (front ++ mark ∷ []) u rest (text_offset.fault_offset class u) (length front + (1 + text_offset.fault_offset class u))
    (whole ∙ sym (append_assoc front (mark ∷ []) (u ++ rest))) (omega (arith, long))
    (of_byte class error_of u x (some_error (reading_in class error_of u) x k))

-- ---- the path

path_byte : (h : List ℕ) (x : PathError) → path.fault h ≡ Some x → IsSomeAnd (slice_get h (path_offset.fault_offset h)) (λ b. path.error_of b ≡ x)
path_byte h x f = by_byte (slice_get h (path_offset.fault_offset h)) (sym (path_lemmas.fault_there h) ∙ f)
  where
    by_byte : (o : Option ℕ) → option_map path.error_of o ≡ Some x → IsSomeAnd o (λ b. path.error_of b ≡ x)
    by_byte None k = absurd (cc)
    by_byte (Some b) k = cc

-- a first segment with a colon begins with no slash
colon_first : (h : List ℕ) → is_noscheme h ≡ false → IsSomeAnd (slice_get h 0) (λ b. is_slash b ≡ false)
colon_first [] k = absurd (cc)
colon_first (b ∷ h) k = by_slash (is_slash b) refl k
  where
    by_slash : (v : Bool) → is_slash b ≡ v → lacks colon (cond v [] (b ∷ up_to is_slash h)) ≡ false → is_slash b ≡ false
    by_slash true e i = cc
    by_slash false e i = e

-- a path that may not follow what precedes it
refused_byte : (v w : Bool) (h : List ℕ) (e : URIReferenceError) → (e ≡ errors.AbsolutePathStartsWithTwoSlashes → ⊥) → path_refusal v w h ≡ Some e
    → IsSomeAnd (slice_get h 0) (IsWrongByte e)
refused_byte v true h e never k = absurd (cc)
refused_byte v false h e never k = by_slashes (has_two_slashes h) k
  where
    by_colon : (x y : Bool) → is_noscheme h ≡ y → cond (x || y) None (Some errors.SchemelessPathStartsWithColonSegment) ≡ Some e → IsSomeAnd (slice_get h 0) (IsWrongByte e)
    by_colon true y f i = absurd (cc)
    by_colon false true f i = absurd (cc)
    by_colon false false f i =
        let same : errors.SchemelessPathStartsWithColonSegment ≡ e = cc in
        subst (λ z. IsSomeAnd (slice_get h 0) (IsWrongByte z)) same (colon_first h f)

    by_slashes : (x : Bool)
        → cond x (Some errors.AbsolutePathStartsWithTwoSlashes) (cond (v || is_noscheme h) None (Some errors.SchemelessPathStartsWithColonSegment)) ≡ Some e
        → IsSomeAnd (slice_get h 0) (IsWrongByte e)
    by_slashes true i = absurd (never (cc))
    by_slashes false i = by_colon v (is_noscheme h) refl i

by_path : (t : List ℕ) (e : URIReferenceError) (v w : Bool) (front h rest : List ℕ) → (e ≡ errors.AbsolutePathStartsWithTwoSlashes → ⊥)
    → t ≡ front ++ (h ++ rest) → path_begin t ≡ length front → h ≡ path_text t → fault_in (path_reading v w h) ≡ Some e
    → IsSomeAnd (slice_get t (fault_offset e t)) (IsWrongByte e)
by_path t e v w front h rest never whole begin is k = by_fault (path.fault h) refl k
  where
    by_offset : (o : Option URIReferenceError) → path_refusal v w h ≡ o → fault_in (unless_fault o (path_of w h)) ≡ Some e
        → IsSomeAnd (slice_get t (fault_offset e t)) (IsWrongByte e)
    by_offset None f i = absurd (cc)
    by_offset (Some x) f i =
        let same : x ≡ e = cc in
        let refused : path_refusal v w h ≡ Some e = f ∙ ap Some same in
        let there = refused_offset v w t h e refused in
        carried (IsWrongByte e) t front h rest 0 (fault_offset e t) whole (omega (arith, there, begin)) (refused_byte v w h e never refused)

    by_fault : (o : Option PathError) → path.fault h ≡ o
        → fault_in (of_piece errors.Path (unless_fault o (spelled h)) >>= λ _. unless_fault (path_refusal v w h) (path_of w h)) ≡ Some e
        → IsSomeAnd (slice_get t (fault_offset e t)) (IsWrongByte e)
    by_fault None f i = by_offset (path_refusal v w h) refl i
    by_fault (Some x) f i =
        let same : errors.Path x ≡ e = cc in
        let there = ap path_offset.fault_offset is in
        subst (λ z. IsSomeAnd (slice_get t (fault_offset z t)) (IsWrongByte z)) same
        (carried (λ b. path.error_of b ≡ x) t front h rest (path_offset.fault_offset h) (fault_offset (errors.Path x) t) whole (omega (arith, there, begin)) (path_byte h x f))

-- ---- the reference

module _ (t : List ℕ) where
  authority_byte : (front rest : List ℕ) (o : Option (List ℕ)) (x : AuthorityError) → t ≡ front ++ (after_slashes o ++ rest)
      → if_present authority.reading o ≡ Err x
      → IsSomeAnd (slice_get t (length front + offset_after 2 (authority_offset.fault_offset x) o)) (authority_offset.IsWrongByte x)
  authority_byte front rest None x whole k = absurd (cc)
  authority_byte front rest (Some a) x whole k =
      let long = length-append front (slash ∷ slash ∷ []) in
      carried (authority_offset.IsWrongByte x) t (front ++ slash ∷ slash ∷ []) a rest (authority_offset.fault_offset x a)
      (length front + (2 + authority_offset.fault_offset x a)) (whole ∙ sym (append_assoc front (slash ∷ slash ∷ []) (a ++ rest))) (omega (arith, long))
      (bytes.byte_there a x (ap fault_in (some_error (authority.reading a) x k)))

  whole_at_path : t ≡ ahead colon (scheme_text t) ++ after_slashes (authority_text t)
      ++ (path_text t ++ (following question_mark (query_text t) ++ following number_sign (fragment_text t)))
  whole_at_path =
      whole_is t
      ∙ sym (append_assoc (ahead colon (scheme_text t)) (after_slashes (authority_text t))
      (path_text t ++ (following question_mark (query_text t) ++ following number_sign (fragment_text t))))

  whole_at_query : t ≡ ahead colon (scheme_text t) ++ after_slashes (authority_text t) ++ path_text t
      ++ (following question_mark (query_text t) ++ following number_sign (fragment_text t))
  whole_at_query =
      whole_at_path
      ∙ sym (append_assoc (ahead colon (scheme_text t) ++ after_slashes (authority_text t)) (path_text t)
      (following question_mark (query_text t) ++ following number_sign (fragment_text t)))

  whole_at_fragment : t ≡ ahead colon (scheme_text t) ++ after_slashes (authority_text t) ++ path_text t ++ following question_mark (query_text t)
      ++ (following number_sign (fragment_text t) ++ [])
  whole_at_fragment =
      whole_at_query
      ∙ sym (append_assoc (ahead colon (scheme_text t) ++ after_slashes (authority_text t) ++ path_text t) (following question_mark (query_text t))
      (following number_sign (fragment_text t)))
      ∙ ap (λ z. ahead colon (scheme_text t) ++ after_slashes (authority_text t) ++ path_text t ++ following question_mark (query_text t) ++ z)
      (sym (append-nil (following number_sign (fragment_text t))))

  query_begin : length (ahead colon (scheme_text t) ++ after_slashes (authority_text t) ++ path_text t) ≡ path_begin t + length (path_text t)
  query_begin = length-append (ahead colon (scheme_text t) ++ after_slashes (authority_text t)) (path_text t)

  fragment_begin : length (ahead colon (scheme_text t) ++ after_slashes (authority_text t) ++ path_text t ++ following question_mark (query_text t))
      ≡ path_begin t + length (path_text t) + length (following question_mark (query_text t))
  fragment_begin =
      length-append (ahead colon (scheme_text t) ++ after_slashes (authority_text t) ++ path_text t) (following question_mark (query_text t))
      ∙ ap (λ n. n + length (following question_mark (query_text t))) query_begin

  pub byte_there : (e : URIReferenceError) → fault t ≡ Some e → IsSomeAnd (slice_get t (fault_offset e t)) (IsWrongByte e)
  unfolding reading
  byte_there e h =
      told (by_results (of_piece errors.Authority (if_present authority.reading (authority_text t)))
      (path_reading (is_some (scheme_text t)) (is_some (authority_text t)) (path_text t)) (of_piece errors.Query (if_present query.reading (query_text t)))
      (of_piece errors.Fragment (if_present fragment.reading (fragment_text t)))
      (λ a p q f. record { scheme = option_map scheme.named (scheme_text t); authority = a; path = p; query = q; fragment = f }) e h)
    where
      told : (fault_in (of_piece errors.Authority (if_present authority.reading (authority_text t))) ≡ Some e)
          ⊎ ((fault_in (path_reading (is_some (scheme_text t)) (is_some (authority_text t)) (path_text t)) ≡ Some e)
          ⊎ ((fault_in (of_piece errors.Query (if_present query.reading (query_text t))) ≡ Some e)
          ⊎ (fault_in (of_piece errors.Fragment (if_present fragment.reading (fragment_text t))) ≡ Some e)))
          → IsSomeAnd (slice_get t (fault_offset e t)) (IsWrongByte e)
      told (inl k) = told_by errors.Authority _ e (λ y. IsSomeAnd (slice_get t (fault_offset y t)) (IsWrongByte y)) (λ x i.
          authority_byte (ahead colon (scheme_text t)) (path_text t ++ (following question_mark (query_text t) ++ following number_sign (fragment_text t)))
          (authority_text t) x (whole_is t) i) k
      told (inr (inl k)) =
          by_path t e (is_some (scheme_text t)) (is_some (authority_text t)) (ahead colon (scheme_text t) ++ after_slashes (authority_text t)) (path_text t)
          (following question_mark (query_text t) ++ following number_sign (fragment_text t)) (λ is. never_slashes t (h ∙ ap Some is)) whole_at_path refl refl k
      told (inr (inr (inl k))) = told_by errors.Query _ e (λ y. IsSomeAnd (slice_get t (fault_offset y t)) (IsWrongByte y)) (λ x i.
          subst (λ n. IsSomeAnd (slice_get t (n + offset_after 1 (text_offset.fault_offset class.Query) (query_text t))) (λ b. query.error_of b ≡ x)) query_begin
          (following_byte class.Query query.error_of question_mark t (ahead colon (scheme_text t) ++ after_slashes (authority_text t) ++ path_text t)
          (following number_sign (fragment_text t)) (query_text t) x whole_at_query i)) k
      told (inr (inr (inr k))) = told_by errors.Fragment _ e (λ y. IsSomeAnd (slice_get t (fault_offset y t)) (IsWrongByte y)) (λ x i.
          subst (λ n. IsSomeAnd (slice_get t (n + offset_after 1 (text_offset.fault_offset class.Query) (fragment_text t))) (λ b. fragment.error_of b ≡ x)) fragment_begin
          (following_byte class.Query fragment.error_of number_sign t
          (ahead colon (scheme_text t) ++ after_slashes (authority_text t) ++ path_text t ++ following question_mark (query_text t)) [] (fragment_text t) x
          whole_at_fragment i)) k

-- ---- the byte is a `%` exactly for the error of an escape

pub username_escape : (t : List ℕ) (e : UsernameError) → fault t ≡ Some (errors.Authority (authority_errors.Username e))
    → (e ≡ username_errors.InvalidPercentEncoding) ↔ (slice_get t (fault_offset (errors.Authority (authority_errors.Username e)) t) ≡ Some percent)
username_escape t e h = bytes.username_sign (slice_get t (fault_offset (errors.Authority (authority_errors.Username e)) t)) e (byte_there t _ h)

pub password_escape : (t : List ℕ) (e : PasswordError) → fault t ≡ Some (errors.Authority (authority_errors.Password e))
    → (e ≡ password_errors.InvalidPercentEncoding) ↔ (slice_get t (fault_offset (errors.Authority (authority_errors.Password e)) t) ≡ Some percent)
password_escape t e h = bytes.password_sign (slice_get t (fault_offset (errors.Authority (authority_errors.Password e)) t)) e (byte_there t _ h)

path_sign : (o : Option ℕ) (e : PathError) → IsSomeAnd o (λ b. path.error_of b ≡ e) → option_map path.error_of o ≡ Some e
path_sign None e h = absurd h
path_sign (Some b) e h = ap Some h

pub path_escape : (t : List ℕ) (e : PathError) → fault t ≡ Some (errors.Path e)
    → (e ≡ path_errors.InvalidPercentEncoding) ↔ (slice_get t (fault_offset (errors.Path e) t) ≡ Some percent)
path_escape t e h =
    path_lemmas.escape_of_byte (slice_get t (fault_offset (errors.Path e) t)) e
    (path_sign (slice_get t (fault_offset (errors.Path e) t)) e (byte_there t (errors.Path e) h))

pub query_escape : (t : List ℕ) (e : QueryError) → fault t ≡ Some (errors.Query e)
    → (e ≡ query_errors.InvalidPercentEncoding) ↔ (slice_get t (fault_offset (errors.Query e) t) ≡ Some percent)
query_escape t e h =
    sign_exactly query_errors.InvalidPercentEncoding (λ _. query_errors.InvalidCharacter) (slice_get t (fault_offset (errors.Query e) t)) e (λ b k. cc)
    (byte_there t (errors.Query e) h)

pub fragment_escape : (t : List ℕ) (e : FragmentError) → fault t ≡ Some (errors.Fragment e)
    → (e ≡ fragment_errors.InvalidPercentEncoding) ↔ (slice_get t (fault_offset (errors.Fragment e) t) ≡ Some percent)
fragment_escape t e h =
    sign_exactly fragment_errors.InvalidPercentEncoding (λ _. fragment_errors.InvalidCharacter) (slice_get t (fault_offset (errors.Fragment e) t)) e (λ b k. cc)
    (byte_there t (errors.Fragment e) h)
