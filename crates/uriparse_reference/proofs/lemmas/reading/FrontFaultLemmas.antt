-- A text that is wrong at its first byte, whatever follows it.
use Rattle.std.proofs.Common.{◌≡◌, ℕ, Bool, true, false, cond, List, [], ◌∷◌, ◌++◌, length, Some, None, Err, inr, refl, sym, ap, ◌∙◌, arith}
use Rattle.std.specs.Prelude.{◌||◌, ◌==◌}
use Rattle.std.specs.Option.{option_map}
use Rattle.std.proofs.lemmas.Bool.{false≢true}
use Rattle.std.proofs.lemmas.Bool.Decides.{nat_tests}
use Rattle.uriparse_text.specs.declared.internal.class.Class.TheVariants.{Query, Segment}
use Rattle.uriparse_text.specs.Bytes.{colon, number_sign, question_mark, is_unreserved, is_sub_delim}
use Rattle.uriparse_text.specs.Classes.{is_plain}
use Rattle.uriparse_text.specs.Cuts.{ahead, up_to, rest}
use Rattle.uriparse_text.specs.Tokens.{is_escape}
use Rattle.uriparse_text.specs.Readings.{fault_in}
use Rattle.uriparse_text.specs.Segment as segment
use Rattle.uriparse_path.specs.Path.{is_slash, max_segments}
use Rattle.uriparse_path.specs.Faults as path
use Rattle.uriparse_path.specs.Faults.{ends_path}
use Rattle.uriparse_path.specs.Offset as path_offset
use Rattle.uriparse_path.proofs.lemmas.reading.FaultLemmas.{faulty_byte}
use Rattle.uriparse_path.proofs.lemmas.reading.OffsetLemmas.{offset-faulty}
use Rattle.uriparse_scheme.specs.Scheme as scheme
use Rattle.uriparse_scheme.proofs.lemmas.schemes.CutLemmas.{no_scheme}
use Rattle.uriparse_reference.specs.declared.uri_reference.error.URIReferenceError.TheVariants as errors
use Rattle.uriparse_reference.specs.Reference.{after_slashes}
use Rattle.uriparse_reference.specs.Cuts.{after_authority, after_scheme, authority_text, cut_authority, path_text, scheme_text, unless_scheme, without_authority}
use Rattle.uriparse_reference.specs.Reading.{reading}
use Rattle.uriparse_reference.specs.Offset.{fault_offset, first_fault, path_begin}

or_left : (v w : Bool) → (v || w) ≡ false → v ≡ false
or_left true w h = h
or_left false w h = refl

or_right : (v w : Bool) → (v || w) ≡ false → w ≡ false
or_right true w h = absurd (false≢true (sym h))
or_right false w h = h

no_scheme_byte : (b : ℕ) → is_plain Query b ≡ false → scheme.is_scheme_byte b ≡ false
unfolding is_plain is_unreserved is_sub_delim
no_scheme_byte b h = grind (arith, nat_tests)

no_segment_byte : (b : ℕ) → is_plain Query b ≡ false → is_plain Segment b ≡ false
unfolding is_plain
no_segment_byte b h = grind (arith, nat_tests)

no_slash : (b : ℕ) → is_plain Query b ≡ false → is_slash b ≡ false
unfolding is_plain
no_slash b h = grind (arith, nat_tests)

no_colon : (b : ℕ) → is_plain Query b ≡ false → (b == colon) ≡ false
unfolding is_plain
no_colon b h = grind (arith, nat_tests)

no_question_mark : (b : ℕ) → is_plain Query b ≡ false → (b == question_mark) ≡ false
unfolding is_plain
no_question_mark b h = grind (arith, nat_tests)

-- an escape at the front of a text that is cut is one of the whole
escape_front : (p : ℕ → Bool) (b : ℕ) (t : List ℕ) → is_escape b t ≡ false → is_escape b (up_to p t) ≡ false
escape_front p b [] h = refl
escape_front p b (c ∷ []) h = by_test (p c)
  where
    by_test : (v : Bool) → is_escape b (cond v [] (c ∷ [])) ≡ false
    by_test true = refl
    by_test false = refl
escape_front p b (c ∷ d ∷ t) h = by_test (p c) (p d)
  where
    by_test : (v w : Bool) → is_escape b (cond v [] (c ∷ cond w [] (d ∷ up_to p t))) ≡ false
    by_test true w = refl
    by_test false true = refl
    by_test false false = h

module _ (b : ℕ) (t : List ℕ) (wrong : (is_plain Query b || (b == number_sign || is_escape b t)) ≡ false) where
  outside : is_plain Query b ≡ false
  outside = or_left (is_plain Query b) (b == number_sign || is_escape b t) wrong

  after_class : (b == number_sign || is_escape b t) ≡ false
  after_class = or_right (is_plain Query b) (b == number_sign || is_escape b t) wrong

  no_fragment : (b == number_sign) ≡ false
  no_fragment = or_left (b == number_sign) (is_escape b t) after_class

  never : is_escape b (up_to ends_path t) ≡ false
  never = escape_front ends_path b t (or_right (b == number_sign) (is_escape b t) after_class)

  pub none_scheme : scheme_text (b ∷ t) ≡ None
  none_scheme = no_scheme (b ∷ t) (inr (rw (no_colon b outside, no_scheme_byte b outside) refl))

  whole : after_scheme (b ∷ t) ≡ b ∷ t
  whole = ap (λ o. unless_scheme o (b ∷ t) (rest colon (b ∷ t))) none_scheme

  pub none_authority : authority_text (b ∷ t) ≡ None
  none_authority = ap cut_authority whole ∙ rw (no_slash b outside) refl

  following : after_authority (b ∷ t) ≡ b ∷ t
  following = ap without_authority whole ∙ rw (no_slash b outside) refl

  path_is : path_text (b ∷ t) ≡ b ∷ up_to ends_path t
  path_is = ap (up_to ends_path) following ∙ rw (no_question_mark b outside, no_fragment) refl

  path_fault : path.fault (path_text (b ∷ t)) ≡ Some (segment.error_of b)
  unfolding path.fault max_segments
  path_fault = ap path.fault path_is
      ∙ rw (no_slash b outside) (faulty_byte 999999 b (up_to ends_path t) (no_segment_byte b outside) (no_slash b outside) never)

  -- so the path is wrong at once, before anything else is read
  pub front_read : reading (b ∷ t) ≡ Err (errors.Path (segment.error_of b))
  unfolding reading
  front_read = rw (none_authority, path_fault) refl

  begin : path_begin (b ∷ t) ≡ 0
  begin =
      ap (λ o. length (ahead colon o ++ after_slashes (authority_text (b ∷ t)))) none_scheme
      ∙ ap (λ o. length (after_slashes o)) none_authority

  there : path_offset.fault_offset (path_text (b ∷ t)) ≡ 0
  unfolding max_segments
  there =
      let first = offset-faulty 999999 b (up_to ends_path t) (rw (no_segment_byte b outside, never) refl) (no_slash b outside) in
      ap path_offset.fault_offset path_is ∙ rw (no_slash b outside) (omega (arith, first))

  pub front_offset : fault_offset (errors.Path (segment.error_of b)) (b ∷ t) ≡ 0
  front_offset = let x = begin in let y = there in omega (arith, x, y)

  pub front_first : first_fault (b ∷ t) ≡ Some (0, errors.Path (segment.error_of b))
  front_first =
      ap (λ r. option_map (λ e. (fault_offset e (b ∷ t), e)) (fault_in r)) front_read
      ∙ ap (λ n. Some (n, errors.Path (segment.error_of b))) front_offset
