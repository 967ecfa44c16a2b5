-- The text of a reference with escapes for the bytes that may not stand in it.
use Rattle.std.proofs.Common.{◌≡◌, ℕ, nat_lt, Bool, true, false, not, cond, ◌&&◌, ◌||◌, List, [], ◌∷◌, ◌++◌, length, drop, Option, Some, None, Ok, Err, IsUtf8, inl, inr, refl, sym, ap, subst, ◌∙◌, append-nil, append_assoc, arith}
use Rattle.std.specs.Prelude.{◌⊎◌, ◌==◌, Result, IfSome, codes, is_some}
use Rattle.std.specs.Option.{option_map, option_and_then, option_or}
use Rattle.std.specs.List.{list_all}
use Rattle.std.proofs.lemmas.Bool.{and_from, false≢true, lt-ltb}
use Rattle.std.proofs.lemmas.Bool.Decides.{nat_tests}
use Rattle.std.proofs.lemmas.List.Folds.{list_all-append}
use Rattle.uriparse_text.specs.declared.internal.class.Class.{Class}
use Rattle.uriparse_text.specs.declared.internal.class.Class.TheVariants.{UserInfo, Segment, Query}
use Rattle.uriparse_text.specs.Bytes.{slash, colon, question_mark, number_sign, is_hex, is_among}
use Rattle.uriparse_text.specs.Classes.{is_plain}
use Rattle.uriparse_text.specs.Tokens.{is_escape}
use Rattle.uriparse_text.specs.Cuts.{lacks, none_pass, following, ahead, before, after, rest, up_to, from_first}
use Rattle.uriparse_text.specs.Readings.{◌>>=◌, of_piece, some_of, if_present, reading_in, fault_in, unless_fault}
use Rattle.uriparse_text.specs.Coding.{may_stand, escaped_in}
use Rattle.uriparse_text.specs.Query.{IsQuery}
use Rattle.uriparse_text.specs.Query as query
use Rattle.uriparse_text.specs.Fragment as fragment
use Rattle.uriparse_text.proofs.lemmas.classes.ClassLemmas.{plain_ascii, hex_ascii}
use Rattle.uriparse_text.proofs.lemmas.readings.CutLemmas.{lacks-append, lacks-following, weaker, up_to-append, from_first-append, before_of, after_of, front_of}
use Rattle.uriparse_text.proofs.lemmas.readings.ReadingLemmas.{texts_again}
use Rattle.uriparse_text.proofs.lemmas.tokens.EscapingLemmas as escaping
use Rattle.uriparse_text.specs.declared.segment.error.PathError.{PathError}
use Rattle.uriparse_path.specs.Path.{has_two_slashes, max_segments, pieces, spelled}
use Rattle.uriparse_path.specs.Faults as paths
use Rattle.uriparse_path.specs.Faults.{ends_path, length_fault}
use Rattle.uriparse_authority.specs.declared.authority.error.AuthorityError.{AuthorityError}
use Rattle.uriparse_authority.specs.Authority as authority
use Rattle.uriparse_authority.specs.Authority.{AuthorityParts, ends_authority}
use Rattle.uriparse_scheme.specs.Scheme as scheme
use Rattle.uriparse_scheme.specs.Scheme.{is_scheme_byte}
use Rattle.uriparse_scheme.specs.Cuts.{if_scheme, scheme_text, unless_scheme, after_scheme}
use Rattle.uriparse_scheme.proofs.lemmas.schemes.CutLemmas.{no_scheme, scheme_colon, slash_no_scheme}
use Rattle.uriparse_scheme.proofs.lemmas.schemes.GrammarLemmas.{scheme_bytes}
use Rattle.uriparse_reference.specs.declared.uri_reference.error.URIReferenceError.{URIReferenceError}
use Rattle.uriparse_reference.specs.declared.uri_reference.error.URIReferenceError.TheVariants as errors
use Rattle.uriparse_reference.specs.Reference.{Parts, Spells, after_slashes, joined, is_abempty, path_of, path_refusal}
use Rattle.uriparse_reference.specs.Cuts.{cut_authority, authority_text, without_authority, after_authority, path_text, query_text, fragment_text}
use Rattle.uriparse_reference.specs.Reading.{path_reading, reading, fault}
use Rattle.uriparse_reference.specs.Escaped.{escaped_authority, escaped_path, escaped_component, escaped, fault_left}
use Rattle.uriparse_reference.proofs.lemmas.reading.CutLemmas.{tail, two_append, tail_rooted, ends_there, path_cut, cut_again, IsCutInto}
use Rattle.uriparse_reference.proofs.lemmas.reading.ComponentByteLemmas.{scheme_is, authority_lacks, path_lacks_question_mark, path_lacks_number_sign, query_lacks_number_sign}
use Rattle.uriparse_reference.proofs.lemmas.reading.ReadingLemmas.{whole_is, abempty_text, spelled_pieces, none_exactly}
use Rattle.uriparse_reference.proofs.lemmas.reading.FaultSourceLemmas as sources
use Rattle.uriparse_reference.proofs.lemmas.reading.EscapedPathLemmas.{two_slashes-escaped, abempty-escaped, refusal-escaped, path_fault-escaped, path_stays}
use Rattle.uriparse_reference.proofs.lemmas.reading.EscapedAuthorityLemmas.{authorities_stay}

-- ---- bytes that a component still doesn't have

digit_no_end : (b : ℕ) → is_hex b ≡ true → not (ends_authority b) ≡ true
digit_no_end b h = grind (arith, nat_tests)

digit_no_question_mark : (b : ℕ) → is_hex b ≡ true → not (b == question_mark) ≡ true
digit_no_question_mark b h = grind (arith, nat_tests)

digit_no_number_sign : (b : ℕ) → is_hex b ≡ true → not (b == number_sign) ≡ true
digit_no_number_sign b h = grind (arith, nat_tests)

authority_ends : (o : Option (List ℕ)) → IfSome o (λ a. none_pass ends_authority a ≡ true)
    → IfSome (option_map escaped_authority o) (λ a. none_pass ends_authority a ≡ true)
authority_ends None h = tt
authority_ends (Some a) h = escaping.escaped-all UserInfo (codes "@[]") (λ b. not (ends_authority b)) refl digit_no_end a h

path_no_question_mark : (h : List ℕ) → lacks question_mark h ≡ true → lacks question_mark (escaped_path h) ≡ true
path_no_question_mark h k = escaping.escaped-all Segment (codes "/") (λ b. not (b == question_mark)) refl digit_no_question_mark h k

path_no_number_sign : (h : List ℕ) → lacks number_sign h ≡ true → lacks number_sign (escaped_path h) ≡ true
path_no_number_sign h k = escaping.escaped-all Segment (codes "/") (λ b. not (b == number_sign)) refl digit_no_number_sign h k

query_no_number_sign : (o : Option (List ℕ)) → IfSome o (λ q. lacks number_sign q ≡ true)
    → IfSome (option_map escaped_component o) (λ q. lacks number_sign q ≡ true)
query_no_number_sign None h = tt
query_no_number_sign (Some q) h = escaping.escaped-all Query [] (λ b. not (b == number_sign)) refl digit_no_number_sign q h

-- ---- a text without a scheme still has none

-- the second text has no scheme, or it has the first one's text before a colon
abbrev SameFront : List ℕ → List ℕ → Type 0
SameFront u v =
    (list_all is_scheme_byte (before colon v) ≡ false) ⊎ ((before colon v ≡ before colon u) × (is_some (after colon v) ≡ is_some (after colon u)))

front_cons : (b : ℕ) (u v : List ℕ) → SameFront u v → SameFront (b ∷ u) (b ∷ v)
front_cons b u v h = by_test (b == colon) refl h
  where
    by_test : (w : Bool) → (b == colon) ≡ w → SameFront u v → SameFront (b ∷ u) (b ∷ v)
    by_test true e h = inr (rw e refl, rw e refl)
    by_test false e (inl k) = inl (rw (e, k) (elim (is_scheme_byte b) as (λ w. (w && false) ≡ false) [ true ↦ refl | false ↦ refl ]))
    by_test false e (inr k) = inr (rw e (ap (λ l. b ∷ l) k.0), rw e k.1)

same_front : (h : List ℕ) (q f : Option (List ℕ))
    → SameFront (h ++ tail q f) (escaped_path h ++ tail (option_map escaped_component q) (option_map escaped_component f))
same_front [] (Some q) f = inl refl
same_front [] None (Some f) = inl refl
same_front [] None None = inr (refl, refl)
same_front (b ∷ h) q f = by_stays (may_stand Segment (codes "/") b || is_escape b h) refl (same_front h q f)
  where
    later : List ℕ
    later = tail (option_map escaped_component q) (option_map escaped_component f)

    by_stays : (v : Bool) → (may_stand Segment (codes "/") b || is_escape b h) ≡ v → SameFront (h ++ tail q f) (escaped_path h ++ later)
        → SameFront (b ∷ (h ++ tail q f)) (escaped_path (b ∷ h) ++ later)
    by_stays true e k =
        subst (λ l. SameFront (b ∷ (h ++ tail q f)) (l ++ later)) (sym (escaping.stays Segment (codes "/") b h e))
        (front_cons b (h ++ tail q f) (escaped_path h ++ later) k)
    by_stays false e k = subst (λ l. SameFront (b ∷ (h ++ tail q f)) (l ++ later)) (sym (escaping.becomes Segment (codes "/") b h e)) (inl refl)

front_same : (x y : List ℕ) (o r : Option (List ℕ)) → y ≡ x → is_some r ≡ is_some o → option_map (λ _. y) r ≡ option_map (λ _. x) o
front_same x y None None e h = refl
front_same x y (Some u) (Some v) e h = ap Some e
front_same x y None (Some v) e h = cc
front_same x y (Some u) None e h = cc

still_none : (u v : List ℕ) → SameFront u v → scheme_text u ≡ None → scheme_text v ≡ None
still_none u v (inl e) h = no_scheme v (inr e)
still_none u v (inr k) h = ap if_scheme (front_same (before colon u) (before colon v) (after colon u) (after colon v) k.0 k.1) ∙ h

-- ---- the cuts of a text that is joined from its components with escapes

scheme_front : (s : Option (List ℕ)) (u : List ℕ) → IfSome s (λ t. scheme.is_scheme t ≡ true) → (s ≡ None → scheme_text u ≡ None)
    → (scheme_text (ahead colon s ++ u) ≡ s) × (after_scheme (ahead colon s ++ u) ≡ u)
scheme_front None u i k = let e = k refl in (e, ap (λ o. unless_scheme o u (rest colon u)) e)
scheme_front (Some s) u i k =
    let w = front_of colon s u refl (scheme_colon s i) in
    let e : scheme_text ((s ++ colon ∷ []) ++ u) ≡ Some s = ap if_scheme w.0 ∙ rw i refl in
    (e, ap (λ o. unless_scheme o ((s ++ colon ∷ []) ++ u) (rest colon ((s ++ colon ∷ []) ++ u))) e ∙ w.1)

authority_front : (a : Option (List ℕ)) (h : List ℕ) (q f : Option (List ℕ)) → IfSome a (λ t. none_pass ends_authority t ≡ true)
    → IfSome a (λ _. is_abempty h ≡ true) → (a ≡ None → has_two_slashes h ≡ false)
    → (cut_authority (after_slashes a ++ (h ++ tail q f)) ≡ a) × (without_authority (after_slashes a ++ (h ++ tail q f)) ≡ h ++ tail q f)
authority_front None h q f i b k =
    let n : has_two_slashes (h ++ tail q f) ≡ false = two_append h (tail q f) (tail_rooted q f) ∙ k refl in (
      ap (λ v. cond v (Some (up_to ends_authority (drop 2 (h ++ tail q f)))) None) n,
      ap (λ v. cond v (from_first ends_authority (drop 2 (h ++ tail q f))) (h ++ tail q f)) n,
    )
authority_front (Some a) h q f i b k =
    let w = ends_there h q f b in (
      ap Some (up_to-append ends_authority a (h ++ tail q f) i ∙ ap (λ u. a ++ u) w.0 ∙ append-nil a),
      from_first-append ends_authority a (h ++ tail q f) i
          ∙ w.1,
    )

tail_front : (h : List ℕ) (q f : Option (List ℕ)) → lacks question_mark h ≡ true → lacks number_sign h ≡ true → IfSome q (λ t. lacks number_sign t ≡ true)
    → (before question_mark (before number_sign (h ++ tail q f)) ≡ h) × (after question_mark (before number_sign (h ++ tail q f)) ≡ q)
    × (after number_sign (h ++ tail q f) ≡ f)
tail_front h q f c n k =
    let w : h ++ tail q f ≡ (h ++ following question_mark q) ++ following number_sign f = sym (append_assoc h (following question_mark q) (following number_sign f)) in
    let l : lacks number_sign (h ++ following question_mark q) ≡ true =
    lacks-append number_sign h (following question_mark q) n (lacks-following number_sign question_mark q refl k) in
    let e : before number_sign (h ++ tail q f) ≡ h ++ following question_mark q = ap (before number_sign) w
    ∙ before_of number_sign (h ++ following question_mark q) f refl l in (
      ap (before question_mark) e ∙ before_of question_mark h q refl c,
      ap (after question_mark) e
          ∙ after_of question_mark h q refl c,
      ap (after number_sign) w ∙ after_of number_sign (h ++ following question_mark q) f refl l,
    )

-- what follows the scheme
abbrev later : List ℕ → List ℕ
later t = escaped_path (path_text t) ++ tail (option_map escaped_component (query_text t)) (option_map escaped_component (fragment_text t))

no_scheme_left : (t : List ℕ) (a : Option (List ℕ)) → authority_text t ≡ a → scheme_text t ≡ None
    → scheme_text (after_slashes (option_map escaped_authority a) ++ later t) ≡ None
no_scheme_left t (Some a) e none = slash_no_scheme (slash ∷ (escaped_authority a ++ later t))
no_scheme_left t None e none =
    let whole : t ≡ path_text t ++ tail (query_text t) (fragment_text t) =
    whole_is t ∙ ap (λ o. joined o (authority_text t) (path_text t) (query_text t) (fragment_text t)) none
    ∙ ap (λ o. joined None o (path_text t) (query_text t) (fragment_text t)) e in
    still_none (path_text t ++ tail (query_text t) (fragment_text t)) (later t) (same_front (path_text t) (query_text t) (fragment_text t))
    (ap scheme_text (sym whole) ∙ none)

no_slashes_left : (t : List ℕ) (a : Option (List ℕ)) → authority_text t ≡ a → option_map escaped_authority a ≡ None
    → has_two_slashes (escaped_path (path_text t)) ≡ false
no_slashes_left t (Some a) e k = cc
no_slashes_left t None e k = two_slashes-escaped (path_text t) ∙ by_test (has_two_slashes (path_text t)) refl
  where
    by_test : (v : Bool) → has_two_slashes (path_text t) ≡ v → v ≡ false
    by_test true f = absurd (sources.no_slashes t (ap is_some e) f)
    by_test false f = refl

abempty_left : (o : Option (List ℕ)) (h : List ℕ) → IfSome o (λ _. is_abempty h ≡ true)
    → IfSome (option_map escaped_authority o) (λ _. is_abempty (escaped_path h) ≡ true)
abempty_left None h k = tt
abempty_left (Some a) h k = abempty-escaped h k

-- the components of the text are those of the text that was escaped, with escapes
pub escaped_cut : (t : List ℕ) → IsCutInto (escaped t) (scheme_text t) (option_map escaped_authority (authority_text t)) (escaped_path (path_text t))
    (option_map escaped_component (query_text t)) (option_map escaped_component (fragment_text t))
unfolding escaped
escaped_cut t =
    let a : Option (List ℕ) = option_map escaped_authority (authority_text t) in
    let h : List ℕ = escaped_path (path_text t) in
    let q : Option (List ℕ) = option_map escaped_component (query_text t) in
    let f : Option (List ℕ) = option_map escaped_component (fragment_text t) in
    let b = scheme_front (scheme_text t) (after_slashes a ++ (h ++ tail q f)) (scheme_is t) (no_scheme_left t (authority_text t) refl) in
    let c = authority_front a h q f (authority_ends (authority_text t) (authority_lacks t)) (abempty_left (authority_text t) (path_text t) (abempty_text t))
    (no_slashes_left t (authority_text t) refl) in
    let d = tail_front h q f (path_no_question_mark (path_text t) (path_lacks_question_mark t)) (path_no_number_sign (path_text t) (path_lacks_number_sign t))
    (query_no_number_sign (query_text t) (query_lacks_number_sign t)) in
    let left_over : after_authority (ahead colon (scheme_text t) ++ (after_slashes a ++ (h ++ tail q f))) ≡ h ++ tail q f =
    ap without_authority b.1 ∙ c.1 in
    record {
      scheme = b.0;
      authority = ap cut_authority b.1 ∙ c.0;
      path = ap (up_to ends_path) left_over ∙ path_cut (h ++ tail q f) ∙ d.0;
      query = ap (λ u. after question_mark (before number_sign u)) left_over ∙ d.1;
      fragment = ap (λ u. after number_sign u) left_over ∙ d.2;
    }

-- ---- a second time, and texts of references

joined_same : (s a : Option (List ℕ)) (h : List ℕ) (q f r b : Option (List ℕ)) (g : List ℕ) (p e : Option (List ℕ)) → s ≡ r → a ≡ b → h ≡ g → q ≡ p → f ≡ e
    → joined s a h q f ≡ joined r b g p e
joined_same s a h q f r b g p e i j k l m = rw (i, j, k, l, m) refl

map_twice : (f : List ℕ → List ℕ) → ((t : List ℕ) → f (f t) ≡ f t) → (o r : Option (List ℕ)) → o ≡ option_map f r → option_map f o ≡ o
map_twice f twice o r e = ap (option_map f) e ∙ by_option r ∙ sym e
  where
    by_option : (r : Option (List ℕ)) → option_map f (option_map f r) ≡ option_map f r
    by_option None = refl
    by_option (Some t) = ap Some (twice t)

-- the components stay, so the text does
unfold_escaped : (t : List ℕ) → option_map escaped_authority (authority_text t) ≡ authority_text t → escaped_path (path_text t) ≡ path_text t
    → option_map escaped_component (query_text t) ≡ query_text t → option_map escaped_component (fragment_text t) ≡ fragment_text t → escaped t ≡ t
unfolding escaped
unfold_escaped t a h q f =
    joined_same (scheme_text t) (option_map escaped_authority (authority_text t)) (escaped_path (path_text t)) (option_map escaped_component (query_text t))
    (option_map escaped_component (fragment_text t)) (scheme_text t) (authority_text t) (path_text t) (query_text t) (fragment_text t) refl a h q f
    ∙ sym (whole_is t)

pub escaped_again : (t : List ℕ) → escaped (escaped t) ≡ escaped t
escaped_again t =
    let cut = escaped_cut t in
    unfold_escaped (escaped t)
    (map_twice escaped_authority (escaping.escaped-twice UserInfo (codes "@[]")) (authority_text (escaped t)) (authority_text t) cut.authority)
    (ap escaped_path cut.path ∙ escaping.escaped-twice Segment (codes "/") (path_text t) ∙ sym cut.path)
    (map_twice escaped_component (escaping.escaped-twice Query []) (query_text (escaped t)) (query_text t) cut.query)
    (map_twice escaped_component (escaping.escaped-twice Query []) (fragment_text (escaped t)) (fragment_text t) cut.fragment)

component_stays : (o : Option (List ℕ)) → IfSome o IsQuery → option_map escaped_component o ≡ o
component_stays None h = refl
component_stays (Some t) h = ap Some (escaping.escaped-IsIn-nil Query [] t h)

spelled_stays : (t : List ℕ) (p : Parts) → Spells t p → escaped t ≡ t
spelled_stays t p s =
    let cut = cut_again t s.scheme_text s.authority_text s.path_text p.query p.fragment (spelled_pieces t p s) s.whole in
    unfold_escaped t
    (ap (option_map escaped_authority) cut.authority ∙ authorities_stay s.authority_text p.authority s.is_authority ∙ sym cut.authority)
    (ap escaped_path cut.path ∙ path_stays s.path_text s.is_path ∙ sym cut.path)
    (ap (option_map escaped_component) cut.query ∙ component_stays p.query s.is_query ∙ sym cut.query)
    (ap (option_map escaped_component) cut.fragment ∙ component_stays p.fragment s.is_fragment ∙ sym cut.fragment)

-- the text of a reference stays
pub faultless_stays : (t : List ℕ) → fault t ≡ None → escaped t ≡ t
faultless_stays t h = let s = (none_exactly t).0 h in spelled_stays t s.0 s.1

-- ---- the fault that is left

component_read : {E : Type 0} (error : ℕ → E) (o : Option (List ℕ))
    → if_present (reading_in Query error) (option_map escaped_component o) ≡ Ok (option_map escaped_component o)
component_read error o = texts_again Query error (option_map escaped_component o) (each o)
  where
    each : (o : Option (List ℕ)) → IfSome (option_map escaped_component o) IsQuery
    each None = tt
    each (Some t) = escaping.IsIn-escaped Query [] t (all t)
      where
        all : (t : List ℕ) → list_all (λ b. not (is_among [] b)) t ≡ true
        all [] = refl
        all (b ∷ t) = all t

authority_fault : (o : Option (List ℕ)) → fault_in (of_piece errors.Authority (if_present authority.reading (option_map escaped_authority o)))
    ≡ option_map errors.Authority (option_and_then (λ a. authority.fault (escaped_authority a)) o)
authority_fault None = refl
authority_fault (Some a) = by_reading (authority.reading (escaped_authority a))
  where
    by_reading : (r : Result AuthorityParts AuthorityError) → fault_in (of_piece errors.Authority (some_of r)) ≡ option_map errors.Authority (fault_in r)
    by_reading (Ok x) = refl
    by_reading (Err e) = refl

path_fault : (v w : Bool) (h : List ℕ) → fault_in (path_reading v w h) ≡ option_or (option_map errors.Path (paths.fault h)) (path_refusal v w h)
path_fault v w h = by_fault (paths.fault h) (path_refusal v w h)
  where
    by_fault : (o : Option PathError) (r : Option URIReferenceError)
        → fault_in (of_piece errors.Path (unless_fault o (spelled h)) >>= λ _. unless_fault r (path_of w h)) ≡ option_or (option_map errors.Path o) r
    by_fault (Some e) r = refl
    by_fault None None = refl
    by_fault None (Some e) = refl

first_of_two : {A B C : Type 0} (a : Result A URIReferenceError) (b : Result B URIReferenceError) (make : A → B → C)
    → fault_in (a >>= λ x. b >>= λ y. Ok (make x y)) ≡ option_or (fault_in a) (fault_in b)
first_of_two (Err e) b make = refl
first_of_two (Ok x) (Err e) make = refl
first_of_two (Ok x) (Ok y) make = refl

same_is_some : (o : Option (List ℕ)) → is_some (option_map escaped_authority o) ≡ is_some o
same_is_some None = refl
same_is_some (Some a) = refl

-- reading these components
abbrev chain : Option (List ℕ) → Option (List ℕ) → List ℕ → Option (List ℕ) → Option (List ℕ) → Result Parts URIReferenceError
chain s a h q f = do
  authority ← of_piece errors.Authority (if_present authority.reading a)
  path ← path_reading (is_some s) (is_some a) h
  query ← of_piece errors.Query (if_present query.reading q)
  fragment ← of_piece errors.Fragment (if_present fragment.reading f)
  Ok (record { scheme = option_map scheme.named s; authority = authority; path = path; query = query; fragment = fragment })

reading_is : (t : List ℕ) → reading t ≡ chain (scheme_text t) (authority_text t) (path_text t) (query_text t) (fragment_text t)
unfolding reading
reading_is t = refl

chain_fault : (s a : Option (List ℕ)) (h : List ℕ) (q f : Option (List ℕ))
    → fault_in (chain s (option_map escaped_authority a) (escaped_path h) (option_map escaped_component q) (option_map escaped_component f))
    ≡ option_or (option_map errors.Authority (option_and_then (λ a. authority.fault (escaped_authority a)) a))
    (option_or (option_map errors.Path (length_fault max_segments (length (pieces h)))) (path_refusal (is_some s) (is_some a) h))
chain_fault s a h q f =
    rw (component_read query.error_of q, component_read fragment.error_of f)
    (first_of_two (of_piece errors.Authority (if_present authority.reading (option_map escaped_authority a)))
    (path_reading (is_some s) (is_some (option_map escaped_authority a)) (escaped_path h))
    (λ x y. record { scheme = option_map scheme.named s; authority = x; path = y; query = option_map escaped_component q; fragment = option_map escaped_component f }))
    ∙ ap (λ o. option_or o (fault_in (path_reading (is_some s) (is_some (option_map escaped_authority a)) (escaped_path h)))) (authority_fault a)
    ∙ ap (option_or (option_map errors.Authority (option_and_then (λ a. authority.fault (escaped_authority a)) a)))
    (path_fault (is_some s) (is_some (option_map escaped_authority a)) (escaped_path h)
    ∙ ap (λ o. option_or (option_map errors.Path o) (path_refusal (is_some s) (is_some (option_map escaped_authority a)) (escaped_path h))) (path_fault-escaped h)
    ∙ ap (option_or (option_map errors.Path (length_fault max_segments (length (pieces h)))))
    (refusal-escaped (is_some s) (is_some (option_map escaped_authority a)) h ∙ ap (λ v. path_refusal (is_some s) v h) (same_is_some a)))

pub fault-escaped : (t : List ℕ) → fault (escaped t) ≡ fault_left t
fault-escaped t =
    let cut = escaped_cut t in
    ap fault_in (reading_is (escaped t)
    ∙ ap (λ o. chain o (authority_text (escaped t)) (path_text (escaped t)) (query_text (escaped t)) (fragment_text (escaped t))) cut.scheme
    ∙ ap (λ o. chain (scheme_text t) o (path_text (escaped t)) (query_text (escaped t)) (fragment_text (escaped t))) cut.authority
    ∙ ap (λ h. chain (scheme_text t) (option_map escaped_authority (authority_text t)) h (query_text (escaped t)) (fragment_text (escaped t))) cut.path
    ∙ ap (λ o. chain (scheme_text t) (option_map escaped_authority (authority_text t)) (escaped_path (path_text t)) o (fragment_text (escaped t))) cut.query
    ∙ ap (chain (scheme_text t) (option_map escaped_authority (authority_text t)) (escaped_path (path_text t)) (option_map escaped_component (query_text t))) cut.fragment)
    ∙ chain_fault (scheme_text t) (authority_text t) (path_text t) (query_text t) (fragment_text t)

-- ---- UTF-8

abbrev is_low : ℕ → Bool
is_low b = nat_lt b 128

low_digit : (b : ℕ) → is_hex b ≡ true → is_low b ≡ true
low_digit b h = lt-ltb b 128 (hex_ascii b h)

low_scheme : (b : ℕ) → is_scheme_byte b ≡ true → is_low b ≡ true
low_scheme b h = grind (arith, nat_tests)

low_escaped : (class : Class) (more : List ℕ) → ((b : ℕ) → is_among more b ≡ true → is_low b ≡ true) → (t : List ℕ)
    → list_all is_low (escaped_in class more t) ≡ true
low_escaped class more among t = escaping.escaped-bytes class more is_low refl low_digit t (each t)
  where
    by_may : (b : ℕ) (v w : Bool) → is_plain class b ≡ v → is_among more b ≡ w → (not (v || w) || is_low b) ≡ true
    by_may b true w e f = lt-ltb b 128 (plain_ascii class b e)
    by_may b false true e f = among b f
    by_may b false false e f = refl

    each : (t : List ℕ) → list_all (λ b. not (may_stand class more b) || is_low b) t ≡ true
    each [] = refl
    each (b ∷ t) = and_from _ _ (by_may b (is_plain class b) (is_among more b) refl refl) (each t)

low_delimiter : (b : ℕ) → is_among (codes "@[]") b ≡ true → is_low b ≡ true
low_delimiter b h = grind (arith, nat_tests)

low_slash : (b : ℕ) → is_among (codes "/") b ≡ true → is_low b ≡ true
low_slash b h = grind (arith, nat_tests)

none_among : (b : ℕ) → is_among [] b ≡ true → is_low b ≡ true
none_among b h = absurd (false≢true h)

low-append : (t u : List ℕ) → list_all is_low t ≡ true → list_all is_low u ≡ true → list_all is_low (t ++ u) ≡ true
low-append t u h k = list_all-append is_low t u ∙ and_from _ _ h k

low_after : (mark : ℕ) → is_low mark ≡ true → (o : Option (List ℕ)) → list_all is_low (following mark (option_map escaped_component o)) ≡ true
low_after mark h None = refl
low_after mark h (Some t) = and_from _ _ h (low_escaped Query [] none_among t)

low_authority : (o : Option (List ℕ)) → list_all is_low (after_slashes (option_map escaped_authority o)) ≡ true
low_authority None = refl
low_authority (Some a) = low_escaped UserInfo (codes "@[]") low_delimiter a

low_ahead : (o : Option (List ℕ)) → IfSome o (λ s. scheme.is_scheme s ≡ true) → list_all is_low (ahead colon o) ≡ true
low_ahead None h = refl
low_ahead (Some s) h = low-append s (colon ∷ []) (weaker is_scheme_byte is_low low_scheme s (scheme_bytes s h)) refl

pub utf8-escaped : (t : List ℕ) → IsUtf8 (escaped t)
unfolding escaped
utf8-escaped t =
    escaping.ascii_text _ (low-append (ahead colon (scheme_text t)) _ (low_ahead (scheme_text t) (scheme_is t))
    (low-append (after_slashes (option_map escaped_authority (authority_text t))) _ (low_authority (authority_text t))
    (low-append (escaped_path (path_text t)) _ (low_escaped Segment (codes "/") low_slash (path_text t))
    (low-append (following question_mark (option_map escaped_component (query_text t))) _ (low_after question_mark refl (query_text t))
    (low_after number_sign refl (fragment_text t))))))
