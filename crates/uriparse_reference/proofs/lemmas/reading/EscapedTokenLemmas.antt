-- A text with escapes for the bytes that may not stand in it has no broken escape.
use Rattle.std.proofs.Common.{◌≡◌, ℕ, Bool, true, false, not, List, [], ◌∷◌, ◌++◌, Option, Some, None, refl, sym, ap, ◌∙◌, arith}
use Rattle.std.specs.Prelude.{◌==◌, IfSome, codes}
use Rattle.std.specs.Option.{option_map}
use Rattle.std.specs.List.{list_all}
use Rattle.std.proofs.lemmas.Bool.{and_from, and_parts, false≢true, eqb-true}
use Rattle.std.proofs.lemmas.Bool.Decides.{nat_tests}
use Rattle.uriparse_text.specs.declared.internal.class.Class.{Class}
use Rattle.uriparse_text.specs.declared.internal.class.Class.TheVariants.{UserInfo, Segment, Query}
use Rattle.uriparse_text.specs.Bytes.{percent, slash, colon, question_mark, number_sign, is_hex, is_unreserved, is_sub_delim}
use Rattle.uriparse_text.specs.Classes.{is_plain}
use Rattle.uriparse_text.specs.Tokens.{is_token, is_escape, is_well_formed}
use Rattle.uriparse_text.specs.Cuts.{ahead, following}
use Rattle.uriparse_text.specs.Coding.{may_stand, escaped_in}
use Rattle.uriparse_text.proofs.lemmas.readings.CutLemmas.{lacks_by, lacks-append}
use Rattle.uriparse_text.proofs.lemmas.tokens.TokenLemmas.{tokens-nil, tokens-byte, tokens-escape, not_percent, well_formed-append}
use Rattle.uriparse_text.proofs.lemmas.tokens.UnescapedLemmas.{well_formed-plain}
use Rattle.uriparse_text.proofs.lemmas.tokens.EscapingLemmas as escaping
use Rattle.uriparse_text.proofs.lemmas.tokens.EscapingLemmas.{high_digit, low_digit, high_is_hex, low_is_hex, written_escape, escape_digits}
use Rattle.uriparse_scheme.specs.Scheme as scheme
use Rattle.uriparse_scheme.specs.Scheme.{is_scheme_byte}
use Rattle.uriparse_scheme.proofs.lemmas.schemes.GrammarLemmas.{scheme_bytes}
use Rattle.uriparse_reference.specs.Reference.{after_slashes}
use Rattle.uriparse_reference.specs.Cuts.{scheme_text, authority_text, path_text, query_text, fragment_text}
use Rattle.uriparse_reference.specs.Escaped.{escaped_authority, escaped_path, escaped_component, escaped}
use Rattle.uriparse_reference.proofs.lemmas.reading.ComponentByteLemmas.{scheme_is}

well_formed-nil : is_well_formed [] ≡ true
well_formed-nil = ap (list_all is_token) tokens-nil

-- a byte other than `%` before a text
well_formed-byte : (b : ℕ) (t : List ℕ) → not (b == percent) ≡ true → is_well_formed t ≡ true → is_well_formed (b ∷ t) ≡ true
well_formed-byte b t h k = ap (list_all is_token) (tokens-byte b t (not_percent b t h)) ∙ and_from _ _ h k

digit_no_sign : (b : ℕ) → is_hex b ≡ true → not (b == percent) ≡ true
digit_no_sign b h = grind (arith, nat_tests)

-- without the byte at its front
without_byte : (b : ℕ) (t : List ℕ) → is_hex b ≡ true → is_well_formed (b ∷ t) ≡ true → is_well_formed t ≡ true
without_byte b t h k =
    (and_parts (not (b == percent)) (is_well_formed t)
    (sym (ap (list_all is_token) (tokens-byte b t (not_percent b t (digit_no_sign b h)))) ∙ k)).1

-- an escape's first byte before a text that goes on with the digits
well_formed-escape : (b : ℕ) (t : List ℕ) → is_escape b t ≡ true → is_well_formed t ≡ true → is_well_formed (b ∷ t) ≡ true
well_formed-escape b [] is k = absurd (false≢true is)
well_formed-escape b (c ∷ []) is k = absurd (false≢true is)
well_formed-escape b (high ∷ low ∷ t) is k =
    let d = escape_digits b high low t is in
    ap (list_all is_token) (tokens-escape b (high ∷ low ∷ t) is)
    ∙ and_from _ _ (and_from _ _ d.0 d.1) (without_byte low t d.1 (without_byte high (low ∷ t) d.0 k))

module _ (class : Class) (more : List ℕ) (sign : may_stand class more percent ≡ false) where
  allowed_no_sign : (b : ℕ) → may_stand class more b ≡ true → not (b == percent) ≡ true
  allowed_no_sign b h = by_test (b == percent) refl
    where
      by_test : (v : Bool) → (b == percent) ≡ v → not v ≡ true
      by_test true e = absurd (false≢true (sym sign ∙ ap (may_stand class more) (sym (eqb-true b percent e)) ∙ h))
      by_test false e = refl

  pub well_formed-escaped : (t : List ℕ) → is_well_formed (escaped_in class more t) ≡ true
  well_formed-escaped [] = well_formed-nil
  well_formed-escaped (b ∷ t) = by_escape (is_escape b t) refl (may_stand class more b) refl (well_formed-escaped t)
    where
      rest : List ℕ
      rest = escaped_in class more t

      by_escape : (v : Bool) → is_escape b t ≡ v → (w : Bool) → may_stand class more b ≡ w → is_well_formed rest ≡ true
          → is_well_formed (escaped_in class more (b ∷ t)) ≡ true
      by_escape true e w f h =
          ap is_well_formed (escaping.stays_escape class more b t e) ∙ well_formed-escape b rest (escaping.escape_stays class more b t e) h
      by_escape false e true f h = ap is_well_formed (escaping.stays_allowed class more b t f) ∙ well_formed-byte b rest (allowed_no_sign b f) h
      by_escape false e false f h =
          ap is_well_formed (escaping.becomes class more b t (rw (f, e) refl))
          ∙ well_formed-escape percent (high_digit b ∷ low_digit b ∷ rest) (written_escape b rest)
          (well_formed-byte (high_digit b) (low_digit b ∷ rest) (digit_no_sign (high_digit b) (high_is_hex b))
          (well_formed-byte (low_digit b) rest (digit_no_sign (low_digit b) (low_is_hex b)) h))

authority_sign : may_stand UserInfo (codes "@[]") percent ≡ false
unfolding is_plain is_unreserved is_sub_delim
authority_sign = refl

path_sign : may_stand Segment (codes "/") percent ≡ false
unfolding is_plain is_unreserved is_sub_delim
path_sign = refl

component_sign : may_stand Query [] percent ≡ false
unfolding is_plain is_unreserved is_sub_delim
component_sign = refl

well_formed_after : (mark : ℕ) → not (mark == percent) ≡ true → (o : Option (List ℕ)) → is_well_formed (following mark (option_map escaped_component o)) ≡ true
well_formed_after mark h None = well_formed-nil
well_formed_after mark h (Some t) = well_formed-byte mark (escaped_component t) h (well_formed-escaped Query [] component_sign t)

well_formed_authority : (o : Option (List ℕ)) → is_well_formed (after_slashes (option_map escaped_authority o)) ≡ true
well_formed_authority None = well_formed-nil
well_formed_authority (Some a) =
    well_formed-byte slash (slash ∷ escaped_authority a) refl
    (well_formed-byte slash (escaped_authority a) refl (well_formed-escaped UserInfo (codes "@[]") authority_sign a))

well_formed_ahead : (o : Option (List ℕ)) → IfSome o (λ s. scheme.is_scheme s ≡ true) → is_well_formed (ahead colon o) ≡ true
well_formed_ahead None h = well_formed-nil
well_formed_ahead (Some s) h =
    well_formed-plain (s ++ colon ∷ []) (lacks-append percent s (colon ∷ []) (lacks_by is_scheme_byte percent s refl (scheme_bytes s h)) refl)

-- each `%` of the text begins an escape
pub escaped_well_formed : (t : List ℕ) → is_well_formed (escaped t) ≡ true
unfolding escaped
escaped_well_formed t =
    well_formed-append (ahead colon (scheme_text t)) _ (well_formed_ahead (scheme_text t) (scheme_is t))
    (well_formed-append (after_slashes (option_map escaped_authority (authority_text t))) _ (well_formed_authority (authority_text t))
    (well_formed-append (escaped_path (path_text t)) _ (well_formed-escaped Segment (codes "/") path_sign (path_text t))
    (well_formed-append (following question_mark (option_map escaped_component (query_text t))) _ (well_formed_after question_mark refl (query_text t))
    (well_formed_after number_sign refl (fragment_text t)))))
