-- Cutting the text of a reference, and that a text joined from components is cut into them again.
use Rattle.std.proofs.Common.{◌≡◌, ℕ, Bool, true, false, cond, List, [], ◌∷◌, ◌++◌, drop, Option, Some, None, refl, sym, ap, ◌∙◌}
use Rattle.std.proofs.Common.{append-nil, append_assoc, ◌&&◌, ◌||◌, inl, inr, arith}
use Rattle.std.specs.Prelude.{not, ◌==◌, IfSome, is_some}
use Rattle.std.specs.List.{list_all}
use Rattle.std.proofs.lemmas.Bool.{false≢true, eqb-true, and_parts, and_from}
use Rattle.uriparse_text.specs.declared.internal.class.Class.TheVariants.{Query}
use Rattle.uriparse_text.specs.Bytes.{slash, colon, question_mark, number_sign, is_unreserved, is_sub_delim}
use Rattle.uriparse_text.specs.Classes.{is_plain}
use Rattle.uriparse_text.specs.Cuts.{lacks, none_pass, following, before, after, rest, part, up_to, from_first}
use Rattle.uriparse_text.specs.Query.{IsQuery}
use Rattle.uriparse_text.proofs.lemmas.readings.CutLemmas.{lacks-append, lacks-following, lacks-in_class, up_to-append}
use Rattle.uriparse_text.proofs.lemmas.readings.CutLemmas.{from_first-append, before_of, after_of, front_of}
use Rattle.uriparse_path.specs.Path.{IsPath, is_slash, is_rooted, has_two_slashes}
use Rattle.uriparse_path.proofs.lemmas.text.PathTextLemmas.{lacks-path}
use Rattle.uriparse_authority.specs.Authority.{ends_authority}
use Rattle.uriparse_authority.proofs.lemmas.authorities.AuthorityLemmas.{LacksEnds}
use Rattle.uriparse_scheme.specs.Scheme as scheme
use Rattle.uriparse_reference.specs.declared.uri_reference.error.URIReferenceError.TheVariants as errors
use Rattle.uriparse_reference.specs.Reference.{after_slashes, joined, is_abempty, is_noscheme, path_refusal}
use Rattle.uriparse_scheme.specs.Cuts.{if_scheme, scheme_text, ends_segment, unless_scheme, after_scheme, has_colon_segment}
use Rattle.uriparse_scheme.proofs.lemmas.schemes.CutLemmas.{NoScheme, no_scheme, scheme_colon, slash_no_scheme}
use Rattle.uriparse_reference.specs.Cuts.{cut_authority, authority_text, without_authority}
use Rattle.uriparse_reference.specs.Cuts.{after_authority}
use Rattle.uriparse_reference.specs.Cuts.{path_text, query_text, fragment_text, tail_query, tail_fragment}
use Rattle.uriparse_path.specs.Faults.{ends_path}

pub head_is : (a b : Bool) → (a && b) ≡ true → a ≡ true
head_is a b h = (and_parts a b h).0

pub tail_is : (a b : Bool) → (a && b) ≡ true → b ≡ true
tail_is a b h = (and_parts a b h).1

pub both_are : (a b : Bool) → a ≡ true → b ≡ true → (a && b) ≡ true
both_are a b h k = and_from a b h k

abbrev pub tail : Option (List ℕ) → Option (List ℕ) → List ℕ
tail q f = following question_mark q ++ following number_sign f

-- ---- the scheme

-- a text that begins with a first segment without a colon has no scheme
pub segment_no_scheme : (h : List ℕ) (q f : Option (List ℕ)) → is_noscheme h ≡ true → NoScheme (h ++ tail q f)
segment_no_scheme [] (Some q) f k = inr refl
segment_no_scheme [] None (Some f) k = inr refl
segment_no_scheme [] None None k = inl refl
segment_no_scheme (b ∷ h) q f k = at_slash (is_slash b) refl (segment_no_scheme h q f) k
  where
    at_slash : (v : Bool) → is_slash b ≡ v → (is_noscheme h ≡ true → NoScheme (h ++ tail q f)) → lacks colon (cond v [] (b ∷ up_to is_slash h)) ≡ true
        → NoScheme (b ∷ (h ++ tail q f))
    at_slash true e g k = inr (ap (λ x. list_all scheme.is_scheme_byte (before colon (x ∷ (h ++ tail q f)))) (eqb-true b slash e))
    at_slash false e g k = let n = head_is (not (b == colon)) _ k in let r = g (tail_is (not (b == colon)) _ k) in first (b == colon) refl n r
      where
        first : (w : Bool) → (b == colon) ≡ w → not (b == colon) ≡ true → NoScheme (h ++ tail q f) → NoScheme (b ∷ (h ++ tail q f))
        first true e n r = absurd (false≢true (sym (ap not e) ∙ n))
        first false e n (inl r) = inl (rw e r)
        first false e n (inr r) =
            inr (rw e (elim (scheme.is_scheme_byte b) as (λ v. (v && list_all scheme.is_scheme_byte (before colon (h ++ tail q f))) ≡ false)
            [ true ↦ r | false ↦ refl ]))

-- ---- a path that is not rejected

pub no_slashes : (v : Bool) (h : List ℕ) → path_refusal v false h ≡ None → has_two_slashes h ≡ false
no_slashes v h = by_slashes (has_two_slashes h)
  where
    by_slashes : (w : Bool)
        → cond w (Some errors.AbsolutePathStartsWithTwoSlashes) (cond (v || is_noscheme h) None (Some errors.SchemelessPathStartsWithColonSegment)) ≡ None
        → w ≡ false
    by_slashes true e = cc
    by_slashes false e = refl

pub no_colon : (h : List ℕ) → path_refusal false false h ≡ None → is_noscheme h ≡ true
no_colon h = by_tests (has_two_slashes h) (is_noscheme h)
  where
    by_tests : (w v : Bool) → cond w (Some errors.AbsolutePathStartsWithTwoSlashes) (cond v None (Some errors.SchemelessPathStartsWithColonSegment)) ≡ None
        → v ≡ true
    by_tests w true e = refl
    by_tests true false e = cc
    by_tests false false e = cc

pub none_scheme : (a : Option (List ℕ)) (h : List ℕ) (q f : Option (List ℕ)) → path_refusal false (is_some a) h ≡ None
    → scheme_text (after_slashes a ++ (h ++ tail q f)) ≡ None
none_scheme (Some a) h q f k = slash_no_scheme (slash ∷ (a ++ (h ++ tail q f)))
none_scheme None h q f k = no_scheme (h ++ tail q f) (segment_no_scheme h q f (no_colon h k))

pub scheme_of : (s a : Option (List ℕ)) (h : List ℕ) (q f : Option (List ℕ)) → IfSome s (λ t. scheme.is_scheme t ≡ true)
    → path_refusal (is_some s) (is_some a) h ≡ None
    → (scheme_text (joined s a h q f) ≡ s) × (after_scheme (joined s a h q f) ≡ after_slashes a ++ (h ++ tail q f))
scheme_of None a h q f i k = let e = none_scheme a h q f k in
    (e, ap (λ o. unless_scheme o (after_slashes a ++ (h ++ tail q f)) (rest colon (after_slashes a ++ (h ++ tail q f)))) e)
scheme_of (Some s) a h q f i k =
    let u : List ℕ = after_slashes a ++ (h ++ tail q f) in
    let w = front_of colon s u refl (scheme_colon s i) in
    let e : scheme_text ((s ++ colon ∷ []) ++ u) ≡ Some s = ap if_scheme w.0 ∙ rw i refl in
    (e, ap (λ o. unless_scheme o ((s ++ colon ∷ []) ++ u) (rest colon ((s ++ colon ∷ []) ++ u))) e ∙ w.1)

-- ---- the authority

pub two_append : (h u : List ℕ) → is_rooted u ≡ false → has_two_slashes (h ++ u) ≡ has_two_slashes h
two_append [] u e = rw e refl
two_append (b ∷ []) u e = elim (is_slash b) as (λ v. (v && is_rooted (cond v u (b ∷ u))) ≡ (v && is_rooted (cond v [] (b ∷ [])))) [ true ↦ e | false ↦ refl ]
two_append (b ∷ c ∷ h) u e =
    elim (is_slash b) as (λ v. (v && is_rooted (cond v (c ∷ (h ++ u)) (b ∷ c ∷ (h ++ u)))) ≡ (v && is_rooted (cond v (c ∷ h) (b ∷ c ∷ h))))
    [ true ↦ refl | false ↦ refl ]

pub tail_rooted : (q f : Option (List ℕ)) → is_rooted (tail q f) ≡ false
tail_rooted (Some q) f = refl
tail_rooted None (Some f) = refl
tail_rooted None None = refl

pub ends_there : (h : List ℕ) (q f : Option (List ℕ)) → is_abempty h ≡ true
    → (up_to ends_authority (h ++ tail q f) ≡ []) × (from_first ends_authority (h ++ tail q f) ≡ h ++ tail q f)
ends_there [] (Some q) f k = (refl, refl)
ends_there [] None (Some f) k = (refl, refl)
ends_there [] None None k = (refl, refl)
ends_there (b ∷ h) q f k = (rw k refl, rw k refl)

pub authority_of : (v : Bool) (a : Option (List ℕ)) (h : List ℕ) (q f : Option (List ℕ)) → IfSome a (λ t. none_pass ends_authority t ≡ true)
    → IfSome a (λ _. is_abempty h ≡ true) → path_refusal v (is_some a) h ≡ None
    → (cut_authority (after_slashes a ++ (h ++ tail q f)) ≡ a) × (without_authority (after_slashes a ++ (h ++ tail q f)) ≡ h ++ tail q f)
authority_of v None h q f i b k =
    let n : has_two_slashes (h ++ tail q f) ≡ false = two_append h (tail q f) (tail_rooted q f) ∙ no_slashes v h k in (
      ap (λ v. cond v (Some (up_to ends_authority (drop 2 (h ++ tail q f)))) None) n,
      ap (λ v. cond v (from_first ends_authority (drop 2 (h ++ tail q f))) (h ++ tail q f)) n,
    )
authority_of v (Some a) h q f i b k =
    let w = ends_there h q f b in (
      ap Some (up_to-append ends_authority a (h ++ tail q f) i ∙ ap (λ u. a ++ u) w.0 ∙ append-nil a),
      from_first-append ends_authority a (h ++ tail q f) i
          ∙ w.1,
    )

-- ---- path, query and fragment

pub query_lacks : (q : Option (List ℕ)) → IfSome q IsQuery → IfSome q (λ t. lacks number_sign t ≡ true)
unfolding is_plain is_unreserved is_sub_delim
query_lacks None h = tt
query_lacks (Some t) h = lacks-in_class Query number_sign refl refl refl t h

pub path_question_mark : (h : List ℕ) → IsPath h → lacks question_mark h ≡ true
unfolding is_plain is_unreserved is_sub_delim
path_question_mark h i = lacks-path question_mark refl refl refl refl h i

pub path_number_sign : (h : List ℕ) → IsPath h → lacks number_sign h ≡ true
unfolding is_plain is_unreserved is_sub_delim
path_number_sign h i = lacks-path number_sign refl refl refl refl h i

pub tail_of : (h : List ℕ) (q f : Option (List ℕ)) → IsPath h → IfSome q IsQuery
    → (before question_mark (before number_sign (h ++ tail q f)) ≡ h) × (after question_mark (before number_sign (h ++ tail q f)) ≡ q)
    × (after number_sign (h ++ tail q f) ≡ f)
tail_of h q f i k =
    let c = path_question_mark h i in
    let w : h ++ tail q f ≡ (h ++ following question_mark q) ++ following number_sign f = sym (append_assoc h (following question_mark q) (following number_sign f)) in
    let l : lacks number_sign (h ++ following question_mark q) ≡ true =
    lacks-append number_sign h (following question_mark q) (path_number_sign h i) (lacks-following number_sign question_mark q refl (query_lacks q k)) in
    let e : before number_sign (h ++ tail q f) ≡ h ++ following question_mark q = ap (before number_sign) w
    ∙ before_of number_sign (h ++ following question_mark q) f refl l in (
      ap (before question_mark) e ∙ before_of question_mark h q refl c,
      ap (after question_mark) e
          ∙ after_of question_mark h q refl c,
      ap (after number_sign) w ∙ after_of number_sign (h ++ following question_mark q) f refl l,
    )

-- The path has neither byte, as the text before the first of them.
pub path_cut : (u : List ℕ) → up_to ends_path u ≡ before question_mark (before number_sign u)
path_cut [] = refl
path_cut (b ∷ u) = at_byte (b == question_mark) refl (b == number_sign) refl (path_cut u)
  where
    at_byte : (v : Bool) → (b == question_mark) ≡ v → (w : Bool) → (b == number_sign) ≡ w → up_to ends_path u ≡ before question_mark (before number_sign u)
        → cond (v || w) [] (b ∷ up_to ends_path u) ≡ before question_mark (cond w [] (b ∷ before number_sign u))
    at_byte true e true f h = refl
    at_byte true e false f h = rw e refl
    at_byte false e true f h = refl
    at_byte false e false f h = rw e (ap (λ l. b ∷ l) h)

-- ---- a text that is joined from such components is cut into them

pub record ArePieces (s a : Option (List ℕ)) (h : List ℕ) (q : Option (List ℕ)) : Type 0 where
  pub is_scheme : IfSome s (λ t. scheme.is_scheme t ≡ true)
  pub is_authority : IfSome a LacksEnds
  pub is_path : IsPath h
  pub abempty : IfSome a (λ _. is_abempty h ≡ true)
  pub fit : path_refusal (is_some s) (is_some a) h ≡ None
  pub is_query : IfSome q IsQuery

pub record IsCutInto (t : List ℕ) (s a : Option (List ℕ)) (h : List ℕ) (q f : Option (List ℕ)) : Type 0 where
  pub scheme : scheme_text t ≡ s
  pub authority : authority_text t ≡ a
  pub path : path_text t ≡ h
  pub query : query_text t ≡ q
  pub fragment : fragment_text t ≡ f

pub cut_again : (t : List ℕ) (s a : Option (List ℕ)) (h : List ℕ) (q f : Option (List ℕ)) → ArePieces s a h q → t ≡ joined s a h q f → IsCutInto t s a h q f
cut_again t s a h q f are whole =
    let b = scheme_of s a h q f are.is_scheme are.fit in
    let c = authority_of (is_some s) a h q f are.is_authority are.abempty are.fit in
    let d = tail_of h q f are.is_path are.is_query in
    let left_over : after_authority t ≡ h ++ tail q f = ap after_authority whole ∙ ap without_authority b.1 ∙ c.1 in
    record {
      scheme = ap scheme_text whole ∙ b.0;
      authority = ap authority_text whole ∙ ap cut_authority b.1 ∙ c.0;
      path = ap (up_to ends_path) left_over ∙ path_cut (h ++ tail q f) ∙ d.0;
      query = ap (λ u. after question_mark (before number_sign u)) left_over ∙ d.1;
      fragment = ap (λ u. after number_sign u) left_over ∙ d.2;
    }

-- ---- whether the path has a colon segment, by the cut at the scheme

same_segment : (t : List ℕ) → up_to is_slash (up_to ends_path t) ≡ up_to ends_segment t
same_segment [] = refl
same_segment (b ∷ t) = at_byte (is_slash b) refl (ends_path b) refl (same_segment t)
  where
    at_byte : (v : Bool) → is_slash b ≡ v → (w : Bool) → ends_path b ≡ w → up_to is_slash (up_to ends_path t) ≡ up_to ends_segment t
        → up_to is_slash (cond w [] (b ∷ up_to ends_path t)) ≡ cond (v || w) [] (b ∷ up_to ends_segment t)
    at_byte true e true f h = refl
    at_byte false e true f h = refl
    at_byte true e false f h = rw e refl
    at_byte false e false f h = rw e (ap (λ l. b ∷ l) h)

not_not : (v : Bool) → not (not v) ≡ v
not_not true = refl
not_not false = refl

is_none : (o : Option (List ℕ)) → is_some o ≡ false → o ≡ None
is_none None h = refl
is_none (Some t) h = absurd (false≢true (sym h))

no_authority : (u : List ℕ) → is_some (cut_authority u) ≡ false → without_authority u ≡ u
no_authority u h = by_slashes (has_two_slashes u) h
  where
    by_slashes : (v : Bool) → is_some (cond v (Some (up_to ends_authority (drop 2 u))) None) ≡ false → cond v (from_first ends_authority (drop 2 u)) u ≡ u
    by_slashes true h = absurd (false≢true (sym h))
    by_slashes false h = refl

-- without a scheme and an authority the path begins the text
pub bare_noscheme : (t : List ℕ) (c : Bool) → is_some (scheme_text t) ≡ false → is_some (authority_text t) ≡ false → c ≡ has_colon_segment t
    → is_noscheme (path_text t) ≡ not c
bare_noscheme t c s a is =
    let none : scheme_text t ≡ None = is_none (scheme_text t) s in
    let whole : after_authority t ≡ t = no_authority (after_scheme t) a ∙ ap (λ o. unless_scheme o t (rest colon t)) none in
    let told : c ≡ not (lacks colon (up_to ends_segment t)) = is ∙ ap (λ o. not (is_some o) && not (lacks colon (up_to ends_segment t))) none in
    ap (λ u. is_noscheme (up_to ends_path u)) whole
    ∙ ap (lacks colon) (same_segment t)
    ∙ sym (ap not told ∙ not_not (lacks colon (up_to ends_segment t)))

-- ---- the query and the fragment, by the cut at the first `?` or `#`

pub query_cut : (u : List ℕ) → tail_query (from_first ends_path u) ≡ after question_mark (before number_sign u)
query_cut [] = refl
query_cut (b ∷ u) = at_byte (b == question_mark) refl (b == number_sign) refl (query_cut u)
  where
    at_byte : (v : Bool) → (b == question_mark) ≡ v → (w : Bool) → (b == number_sign) ≡ w
        → tail_query (from_first ends_path u) ≡ after question_mark (before number_sign u)
        → tail_query (cond (v || w) (b ∷ u) (from_first ends_path u)) ≡ after question_mark (cond w [] (b ∷ before number_sign u))
    at_byte true e true f h =
        let same : question_mark ≡ number_sign = sym (eqb-true b question_mark e) ∙ eqb-true b number_sign f in absurd (omega (arith, same))
    at_byte true e false f h = rw e refl
    at_byte false e true f h = rw e refl
    at_byte false e false f h = rw e h

pub fragment_cut : (u : List ℕ) → tail_fragment (from_first ends_path u) ≡ after number_sign u
fragment_cut [] = refl
fragment_cut (b ∷ u) = at_byte (b == question_mark) refl (b == number_sign) refl (fragment_cut u)
  where
    at_byte : (v : Bool) → (b == question_mark) ≡ v → (w : Bool) → (b == number_sign) ≡ w
        → tail_fragment (from_first ends_path u) ≡ after number_sign u
        → tail_fragment (cond (v || w) (b ∷ u) (from_first ends_path u)) ≡ part (cond w (b ∷ u) (from_first (λ c. c == number_sign) u))
    at_byte true e true f h =
        let same : question_mark ≡ number_sign = sym (eqb-true b question_mark e) ∙ eqb-true b number_sign f in absurd (omega (arith, same))
    at_byte true e false f h = rw e refl
    at_byte false e true f h = rw (e, f) refl
    at_byte false e false f h = h
