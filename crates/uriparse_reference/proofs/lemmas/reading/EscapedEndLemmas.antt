-- What follows the authority, with escapes: the path, the query and the fragment.
use Rattle.std.proofs.Common.{◌≡◌, ℕ, ◌+◌, ◌*◌, ◌≤◌, Bool, true, false, List, [], ◌∷◌, ◌++◌, length, length-append, Option, Some, None, refl, sym, ap, ◌∙◌, append-nil, append_assoc, arith}
use Rattle.std.specs.Prelude.{◌==◌, ◌||◌, codes}
use Rattle.std.specs.Option.{option_map}
use Rattle.uriparse_text.specs.declared.internal.class.Class.TheVariants.{UserInfo, Segment, Query}
use Rattle.uriparse_text.specs.Bytes.{percent, colon, question_mark, number_sign, is_unreserved, is_sub_delim}
use Rattle.uriparse_text.specs.Classes.{is_plain}
use Rattle.uriparse_text.specs.Tokens.{is_escape}
use Rattle.uriparse_text.specs.Faults.{IsIn}
use Rattle.uriparse_text.specs.Cuts.{lacks, ahead, following, before, after, part}
use Rattle.uriparse_text.specs.Coding.{may_stand}
use Rattle.uriparse_text.proofs.lemmas.readings.CutLemmas.{before_after, before-lacks, from_first-append, lacks-in_class, up_to-append}
use Rattle.uriparse_text.proofs.lemmas.tokens.TokenLemmas.{no_escape_across, no_escape_with}
use Rattle.uriparse_text.proofs.lemmas.tokens.EscapingLemmas as escaping
use Rattle.uriparse_text.proofs.lemmas.tokens.PieceLemmas.{escaped_length}
use Rattle.uriparse_reference.specs.Reference.{after_slashes, joined}
use Rattle.uriparse_reference.specs.Cuts.{scheme_text, authority_text, after_authority, path_text, query_text, fragment_text}
use Rattle.uriparse_reference.specs.Escaped.{escaped_authority, escaped_path, escaped_component, escaped_end, escaped}
use Rattle.uriparse_reference.proofs.lemmas.reading.CutLemmas.{path_cut}
use Rattle.uriparse_reference.proofs.lemmas.reading.ReadingLemmas.{whole_is}
use Rattle.uriparse_reference.proofs.lemmas.reading.EscapedPathLemmas.{path_as_query}

-- ---- path and query as one

-- no escape goes on behind a `?`
escape_ends : (b : ℕ) (t u : List ℕ) → is_escape b (t ++ question_mark ∷ u) ≡ is_escape b t
escape_ends b [] u = no_escape_with b question_mark u refl
escape_ends b (c ∷ []) u = no_escape_across b c question_mark u refl
escape_ends b (c ∷ d ∷ t) u = refl

question_mark_stays : is_plain Query question_mark ≡ true
unfolding is_plain is_unreserved is_sub_delim
question_mark_stays = refl

both_escaped : (t u : List ℕ) → escaped_component (t ++ question_mark ∷ u) ≡ escaped_component t ++ question_mark ∷ escaped_component u
both_escaped [] u = escaping.stays_plain Query [] question_mark u question_mark_stays
both_escaped (b ∷ t) u = by_stays (may_stand Query [] b || is_escape b t) refl (both_escaped t u)
  where
    same : (may_stand Query [] b || is_escape b (t ++ question_mark ∷ u)) ≡ (may_stand Query [] b || is_escape b t)
    same = ap (λ v. may_stand Query [] b || v) (escape_ends b t u)

    by_stays : (v : Bool) → (may_stand Query [] b || is_escape b t) ≡ v
        → escaped_component (t ++ question_mark ∷ u) ≡ escaped_component t ++ question_mark ∷ escaped_component u
        → escaped_component (b ∷ (t ++ question_mark ∷ u)) ≡ escaped_component (b ∷ t) ++ question_mark ∷ escaped_component u
    by_stays true e h =
        escaping.stays Query [] b (t ++ question_mark ∷ u) (same ∙ e) ∙ ap (λ l. b ∷ l) h
        ∙ sym (ap (λ l. l ++ question_mark ∷ escaped_component u) (escaping.stays Query [] b t e))
    by_stays false e h =
        escaping.becomes Query [] b (t ++ question_mark ∷ u) (same ∙ e)
        ∙ ap (λ l. percent ∷ escaping.high_digit b ∷ escaping.low_digit b ∷ l) h
        ∙ sym (ap (λ l. l ++ question_mark ∷ escaped_component u) (escaping.becomes Query [] b t e))

path_and_query : (u : List ℕ)
    → escaped_component u ≡ escaped_path (before question_mark u) ++ following question_mark (option_map escaped_component (after question_mark u))
path_and_query u =
    ap escaped_component (sym (before_after question_mark u)) ∙ by_query (after question_mark u)
    ∙ ap (λ l. l ++ following question_mark (option_map escaped_component (after question_mark u)))
    (path_as_query (before question_mark u) (before-lacks question_mark u))
  where
    by_query : (o : Option (List ℕ)) → escaped_component (before question_mark u ++ following question_mark o)
        ≡ escaped_component (before question_mark u) ++ following question_mark (option_map escaped_component o)
    by_query None = ap escaped_component (append-nil (before question_mark u)) ∙ sym (append-nil (escaped_component (before question_mark u)))
    by_query (Some q) = both_escaped (before question_mark u) q

end_is : (u : List ℕ) → escaped_path (before question_mark (before number_sign u))
    ++ (following question_mark (option_map escaped_component (after question_mark (before number_sign u)))
    ++ following number_sign (option_map escaped_component (after number_sign u))) ≡ escaped_end u
end_is u =
    sym (append_assoc (escaped_path (before question_mark (before number_sign u)))
    (following question_mark (option_map escaped_component (after question_mark (before number_sign u))))
    (following number_sign (option_map escaped_component (after number_sign u))))
    ∙ ap (λ l. l ++ following number_sign (option_map escaped_component (after number_sign u))) (sym (path_and_query (before number_sign u)))

pub escaped-end : (t : List ℕ)
    → escaped t ≡ ahead colon (scheme_text t) ++ (after_slashes (option_map escaped_authority (authority_text t)) ++ escaped_end (after_authority t))
unfolding escaped
escaped-end t =
    ap (λ h. joined (scheme_text t) (option_map escaped_authority (authority_text t)) (escaped_path h) (option_map escaped_component (query_text t))
    (option_map escaped_component (fragment_text t))) (path_cut (after_authority t))
    ∙ ap (λ l. ahead colon (scheme_text t) ++ (after_slashes (option_map escaped_authority (authority_text t)) ++ l)) (end_is (after_authority t))

-- ---- bytes in front that a query may have

number_sign_outside : is_plain Query number_sign ≡ false
unfolding is_plain is_unreserved is_sub_delim
number_sign_outside = refl

pub plain_front : (plain later : List ℕ) → IsIn Query plain → escaped_end (plain ++ later) ≡ plain ++ escaped_end later
plain_front plain later inside =
    let none : lacks number_sign plain ≡ true = lacks-in_class Query number_sign number_sign_outside refl refl plain inside in
    ap (λ l. escaped_component l ++ following number_sign (option_map escaped_component (after number_sign (plain ++ later))))
    (up_to-append (λ b. b == number_sign) plain later none)
    ∙ ap (λ l. escaped_component (plain ++ before number_sign later) ++ following number_sign (option_map escaped_component (part l)))
    (from_first-append (λ b. b == number_sign) plain later none)
    ∙ ap (λ l. l ++ following number_sign (option_map escaped_component (after number_sign later)))
    (escaping.escaped-IsIn Query [] Query (escaping.own_class Query []) plain (before number_sign later) inside)
    ∙ append_assoc plain (escaped_component (before number_sign later)) (following number_sign (option_map escaped_component (after number_sign later)))

-- ---- writing one after another

-- bytes that stay, and what follows them with escapes
pub pushed_end : (end plain later front : List ℕ) (fragment : Option (List ℕ)) (old by_plain by_front : List ℕ) → plain ++ later ≡ end → IsIn Query plain
    → front ≡ before number_sign later → fragment ≡ after number_sign later → by_plain ≡ old ++ plain → by_front ≡ by_plain ++ escaped_component front
    → by_front ++ following number_sign (option_map escaped_component fragment) ≡ old ++ escaped_end end
pushed_end end plain later front fragment old by_plain by_front whole inside front_is fragment_is m n =
    let tail : List ℕ = following number_sign (option_map escaped_component fragment) in
    let same : escaped_component front ++ tail ≡ escaped_end later =
    ap (λ u. escaped_component u ++ tail) front_is
    ∙ ap (λ o. escaped_component (before number_sign later) ++ following number_sign (option_map escaped_component o)) fragment_is in
    ap (λ l. l ++ tail) (n ∙ ap (λ l. l ++ escaped_component front) m)
    ∙ append_assoc (old ++ plain) (escaped_component front) tail
    ∙ append_assoc old plain (escaped_component front ++ tail)
    ∙ ap (λ l. old ++ l) (ap (λ l. plain ++ l) same ∙ sym (plain_front plain later inside) ∙ ap escaped_end whole)

-- the text that was there, and then t with escapes
pub pushed : (t old : List ℕ) (s a : Option (List ℕ)) (u by_scheme by_authority : List ℕ) → s ≡ scheme_text t → a ≡ authority_text t → u ≡ after_authority t
    → by_scheme ≡ old ++ ahead colon s → by_authority ≡ by_scheme ++ after_slashes (option_map escaped_authority a)
    → by_authority ++ escaped_end u ≡ old ++ escaped t
pushed t old s a u by_scheme by_authority e f g l m =
    let slashes : List ℕ = after_slashes (option_map escaped_authority a) in
    ap (λ v. v ++ escaped_end u) (m ∙ ap (λ v. v ++ slashes) l)
    ∙ append_assoc (old ++ ahead colon s) slashes (escaped_end u)
    ∙ append_assoc old (ahead colon s) (slashes ++ escaped_end u)
    ∙ ap (λ v. old ++ v) (ap (λ o. ahead colon o ++ (slashes ++ escaped_end u)) e
    ∙ ap (λ o. ahead colon (scheme_text t) ++ (after_slashes (option_map escaped_authority o) ++ escaped_end u)) f
    ∙ ap (λ v. ahead colon (scheme_text t) ++ (after_slashes (option_map escaped_authority (authority_text t)) ++ escaped_end v)) g
    ∙ sym (escaped-end t))

-- ---- how long the text is

following_length : (mark : ℕ) (o : Option (List ℕ)) → length (following mark (option_map escaped_component o)) ≤ 3 * length (following mark o)
following_length mark None = omega arith
following_length mark (Some t) = omega (arith, escaped_length Query [] t)

slashes_length : (o : Option (List ℕ)) → length (after_slashes (option_map escaped_authority o)) ≤ 3 * length (after_slashes o)
slashes_length None = omega arith
slashes_length (Some t) = omega (arith, escaped_length UserInfo (codes "@[]") t)

five_lengths : (s a h q f : List ℕ) → length (s ++ (a ++ (h ++ (q ++ f)))) ≡ length s + (length a + (length h + (length q + length f)))
five_lengths s a h q f = simp length-append

-- no longer than with an escape for each byte
pub escaped_no_longer : (t : List ℕ) → length (escaped t) ≤ 3 * length t
unfolding escaped
escaped_no_longer t =
    let s = ahead colon (scheme_text t) in
    let a = slashes_length (authority_text t) in
    let h = escaped_length Segment (codes "/") (path_text t) in
    let q = following_length question_mark (query_text t) in
    let f = following_length number_sign (fragment_text t) in
    let with = five_lengths s (after_slashes (option_map escaped_authority (authority_text t))) (escaped_path (path_text t))
    (following question_mark (option_map escaped_component (query_text t))) (following number_sign (option_map escaped_component (fragment_text t))) in
    let without = ap length (whole_is t) ∙ five_lengths s (after_slashes (authority_text t)) (path_text t) (following question_mark (query_text t))
    (following number_sign (fragment_text t)) in
    omega arith
