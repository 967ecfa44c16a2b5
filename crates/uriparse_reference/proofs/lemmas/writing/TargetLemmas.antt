-- The target of a reference that is put together from its end in a buffer.
use Rattle.std.proofs.Common.{◌≡◌, ℕ, ◌+◌, ◌<◌, ◌≤◌, Bool, true, false, not, cond, List, [], ◌∷◌, ◌++◌, length, Option, Some, None, Result, IsUtf8, refl, sym, ap, ◌∙◌, subst, arith, ◌&&◌, length-append, append_assoc}
use Rattle.std.specs.Prelude.{IfSome, MatchOption, is_some, nat_le, nat_lt}
use Rattle.std.specs.Option.{option_map, option_or}
use Rattle.std.proofs.lemmas.Bool.{false≢true, and_parts, not-true, le-leb}
use Rattle.std.proofs.lemmas.Bool.Decides.{nat_tests}
use Rattle.uriparse_text.specs.declared.internal.token.Case.TheVariants.{Kept}
use Rattle.uriparse_text.specs.declared.internal.backward_buffer.Form.TheVariants.{AsIs}
use Rattle.uriparse_text.specs.Bytes.{colon, question_mark, number_sign}
use Rattle.uriparse_text.specs.Cuts.{ahead, following}
use Rattle.uriparse_text.specs.Ends.{formed}
use Rattle.uriparse_path.specs.Path.{PathParts, has_two_slashes, is_rooted, max_segments, pieces, spelled, text}
use Rattle.uriparse_path.specs.Dots.{all_but_last, replayed, undot}
use Rattle.uriparse_path.specs.Edits.{dotted, with_dot_prefix, with_dot_prefix_unless}
use Rattle.uriparse_path.specs.Merge.{merged}
use Rattle.uriparse_authority.specs.Authority.{AuthorityParts}
use Rattle.uriparse_authority.specs.Authority.{print as print_authority}
use Rattle.uriparse_authority.specs.Ends.{formed_authority}
use Rattle.uriparse_scheme.specs.declared.scheme.Scheme.{Scheme}
use Rattle.uriparse_scheme.specs.Scheme as scheme
use Rattle.uriparse_reference.specs.declared.uri_reference.error.BufferError.{BufferError}
use Rattle.uriparse_reference.specs.Reference.{Parts, Valid, after_slashes, path_refusal, print}
use Rattle.uriparse_reference.specs.Normal.{dot_prefixed}
use Rattle.uriparse_reference.specs.Target.{dots_removed, is_empty, is_merged, merge, target, target_of}
use Rattle.uriparse_reference.specs.Into.{Writes, formed_scheme, print_if, tail_if, tail_text}
use Rattle.uriparse_reference.proofs.lemmas.edits.PathRuleLemmas.{fits_of}
use Rattle.uriparse_reference.proofs.lemmas.reading.AsciiLemmas.{IsUtf8-print}
use Rattle.uriparse_reference.proofs.lemmas.resolving.ValidTargetLemmas.{chosen, merge_path, merged_now, target_none, target_valid}
use Rattle.uriparse_reference.proofs.lemmas.writing.EndLemmas.{as_is, authority_as_is, path_spelled, scheme_as_is, shielded_unless}

-- the end of a text, as it is
pub same_tail : (q f r g : Option (List ℕ)) (x y : List ℕ) → q ≡ r → f ≡ g → x ≡ y
    → x ++ (following question_mark (option_map (formed AsIs Kept) q) ++ following number_sign (option_map (formed AsIs Kept) f))
    ≡ y ++ (following question_mark r ++ following number_sign g)
same_tail q f r g x y e h k =
    ap (λ u. x ++ (following question_mark u ++ following number_sign (option_map (formed AsIs Kept) f))) (as_is q ∙ e)
    ∙ ap (λ u. x ++ (following question_mark r ++ following number_sign u)) (as_is f ∙ h)
    ∙ ap (λ u. u ++ (following question_mark r ++ following number_sign g)) k

-- ---- merged paths

unfolded_undot : (t : List ℕ) → undot t ≡ text (replayed (spelled t))
unfolding undot
unfolded_undot t = refl

-- the merged segments, by the texts of the paths
merged_here : (b r : Parts) → Valid b → Valid r → merged (spelled (text b.path)) (spelled (text r.path)) ≡ merged b.path r.path
merged_here b r v w = ap (λ p. merged p (spelled (text r.path))) (path_spelled b v) ∙ ap (merged b.path) (path_spelled r w)

pub merged_undot : (b r : Parts) → Valid b → Valid r → is_merged r ≡ true
    → text (replayed (merged (spelled (text b.path)) (spelled (text r.path)))) ≡ undot (merge b r)
merged_undot b r v w h =
    ap (λ p. text (replayed p)) (merged_here b r v w ∙ sym (merge_path b r v w h)) ∙ sym (unfolded_undot (merge b r))

pub merged_short : (b r : Parts) → Valid b → Valid r → is_merged r ≡ true → length (pieces (merge b r)) ≤ max_segments
    → length (merged (spelled (text b.path)) (spelled (text r.path))).segments ≤ max_segments
merged_short b r v w h short =
    subst (λ n. n ≤ max_segments) (ap (λ p. length p.segments) (merge_path b r v w h ∙ sym (merged_here b r v w))) short

pub merged_relative : (r : Parts) → is_merged r ≡ true → is_rooted (text r.path) ≡ false
merged_relative r h =
    let x = and_parts (not (is_some r.scheme)) (not (is_some r.authority) && (not (is_empty (text r.path)) && not (is_rooted (text r.path)))) h in
    let y = and_parts (not (is_some r.authority)) (not (is_empty (text r.path)) && not (is_rooted (text r.path))) x.1 in
    not-true (is_rooted (text r.path)) (and_parts (not (is_empty (text r.path))) (not (is_rooted (text r.path))) y.1).1

length_cut : (l : List (List ℕ)) → 0 < length l → length (all_but_last l) + 1 ≡ length l
length_cut [] h = absurd (omega arith)
length_cut (s ∷ []) h = refl
length_cut (s ∷ r ∷ l) h = let more = length_cut (r ∷ l) (omega arith) in omega arith

pub merged_length : (b r : Parts) → Valid b → Valid r → is_merged r ≡ true
    → length (pieces (merge b r)) + 1 ≡ length b.path.segments + length r.path.segments
merged_length b r v w h =
    let is = (fits_of b v).listed in
    let whole : length (pieces (merge b r)) ≡ length (all_but_last b.path.segments ++ r.path.segments) = ap (λ p. length p.segments) (merge_path b r v w h) in
    let one = length_cut b.path.segments is.some in
    omega (arith, length-append (all_but_last b.path.segments) r.path.segments)

-- ---- the text of a target

-- without an authority the base's own path needs no "."
own_path : (a : Option AuthorityParts) (s : Bool) (q : PathParts) → path_refusal s (is_some a) (text q) ≡ None → dot_prefixed a q ≡ q
own_path (Some a) s q h = refl
own_path None s q h = by_test (has_two_slashes (text q)) refl
  where
    by_test : (v : Bool) → has_two_slashes (text q) ≡ v → with_dot_prefix q ≡ q
    by_test true e = let f = rw e at h in absurd (cc)
    by_test false e = ap (λ v. cond v (dotted q) q) e

-- the scheme and the authority, and the components after them
pub printed_tail : (t : Parts) (z : Option Scheme) (b : Option AuthorityParts) → z ≡ t.scheme → b ≡ t.authority
    → (ahead colon (option_map scheme.text (option_map (formed_scheme AsIs) z)) ++ after_slashes (option_map print_authority (option_map (formed_authority AsIs) b)))
    ++ tail_text t.path t.query t.fragment
    ≡ print t
printed_tail t z b e g =
    ap (λ u. (ahead colon (option_map scheme.text u) ++ after_slashes (option_map print_authority (option_map (formed_authority AsIs) b)))
    ++ tail_text t.path t.query t.fragment) (scheme_as_is z ∙ e)
    ∙ ap (λ u. (ahead colon (option_map scheme.text t.scheme) ++ after_slashes (option_map print_authority u)) ++ tail_text t.path t.query t.fragment)
    (authority_as_is b ∙ g)
    ∙ append_assoc (ahead colon (option_map scheme.text t.scheme)) (after_slashes (option_map print_authority t.authority)) (tail_text t.path t.query t.fragment)

-- a target's end, by the path before a "." is put
tail_shielded : (a : Option AuthorityParts) (w : Bool) (p : PathParts) (q f : Option (List ℕ)) → w ≡ is_some a
    → tail_text (with_dot_prefix_unless w p) q f ≡ tail_text (dot_prefixed a p) q f
tail_shielded a w p q f e = ap (λ v. tail_text (with_dot_prefix_unless v p) q f) e ∙ ap (λ u. tail_text u q f) (shielded_unless a p)

-- ---- case by case

module _ (b r : Parts) where
  by_scheme : is_some r.scheme ≡ true → target b r ≡ Some (target_of r.scheme r.authority (dots_removed (text r.path)) r.query r.fragment)
  by_scheme h = ap (λ v. chosen v (is_some r.authority) (is_empty (text r.path)) (is_rooted (text r.path)) b r) h

  by_authority : is_some r.scheme ≡ false → is_some r.authority ≡ true
      → target b r ≡ Some (target_of b.scheme r.authority (dots_removed (text r.path)) r.query r.fragment)
  by_authority h k =
      ap (λ v. chosen v (is_some r.authority) (is_empty (text r.path)) (is_rooted (text r.path)) b r) h
      ∙ ap (λ v. chosen false v (is_empty (text r.path)) (is_rooted (text r.path)) b r) k

  by_path : is_some r.scheme ≡ false → is_some r.authority ≡ false
      → target b r ≡ chosen false false (is_empty (text r.path)) (is_rooted (text r.path)) b r
  by_path h k =
      ap (λ v. chosen v (is_some r.authority) (is_empty (text r.path)) (is_rooted (text r.path)) b r) h
      ∙ ap (λ v. chosen false v (is_empty (text r.path)) (is_rooted (text r.path)) b r) k

  -- a reference with a scheme
  pub scheme_target : (w : Bool) (z : Option Scheme) (a : Option AuthorityParts) → is_some r.scheme ≡ true → w ≡ is_some r.authority → z ≡ r.scheme
      → a ≡ r.authority
      → (ahead colon (option_map scheme.text (option_map (formed_scheme AsIs) z)) ++ after_slashes (option_map print_authority (option_map (formed_authority AsIs) a)))
      ++ tail_text (with_dot_prefix_unless w (dots_removed (text r.path))) r.query r.fragment
      ≡ print_if (target b r)
  scheme_target w z a h e f g =
      ap (λ u. (ahead colon (option_map scheme.text (option_map (formed_scheme AsIs) z)) ++ after_slashes (option_map print_authority (option_map (formed_authority AsIs) a))) ++ u)
      (tail_shielded r.authority w (dots_removed (text r.path)) r.query r.fragment e)
      ∙ printed_tail (target_of r.scheme r.authority (dots_removed (text r.path)) r.query r.fragment) z a f g
      ∙ ap print_if (sym (by_scheme h))

  -- a reference with an authority
  pub authority_target : (z : Option Scheme) (a : Option AuthorityParts) → is_some r.scheme ≡ false → is_some r.authority ≡ true → z ≡ b.scheme
      → a ≡ r.authority
      → (ahead colon (option_map scheme.text (option_map (formed_scheme AsIs) z)) ++ after_slashes (option_map print_authority (option_map (formed_authority AsIs) a)))
      ++ tail_text (with_dot_prefix_unless true (dots_removed (text r.path))) r.query r.fragment
      ≡ print_if (target b r)
  authority_target z a h k f g =
      ap (λ u. (ahead colon (option_map scheme.text (option_map (formed_scheme AsIs) z)) ++ after_slashes (option_map print_authority (option_map (formed_authority AsIs) a))) ++ u)
      (tail_shielded r.authority true (dots_removed (text r.path)) r.query r.fragment (sym k))
      ∙ printed_tail (target_of b.scheme r.authority (dots_removed (text r.path)) r.query r.fragment) z a f g
      ∙ ap print_if (sym (by_authority h k))

  -- the other references, whose target has the base's scheme and authority
  abbrev by_tests : Bool → Bool → Bool → Option Parts
  by_tests x y z =
      cond x (Some (target_of b.scheme b.authority b.path (option_or r.query b.query) r.fragment))
      (cond y (Some (target_of b.scheme b.authority (dots_removed (text r.path)) r.query r.fragment))
      (cond z (Some (target_of b.scheme b.authority (dots_removed (merge b r)) r.query r.fragment)) None))

  some_inherited : (x y z : Bool) (s : Option Scheme) (a : Option AuthorityParts) → s ≡ b.scheme → a ≡ b.authority
      → (x ≡ false → y ≡ false → z ≡ true)
      → (ahead colon (option_map scheme.text (option_map (formed_scheme AsIs) s)) ++ after_slashes (option_map print_authority (option_map (formed_authority AsIs) a)))
      ++ tail_if (by_tests x y z)
      ≡ print_if (by_tests x y z)
  some_inherited true y z s a e g h =
      printed_tail (target_of b.scheme b.authority b.path (option_or r.query b.query) r.fragment) s a e g
  some_inherited false true z s a e g h = printed_tail (target_of b.scheme b.authority (dots_removed (text r.path)) r.query r.fragment) s a e g
  some_inherited false false true s a e g h = printed_tail (target_of b.scheme b.authority (dots_removed (merge b r)) r.query r.fragment) s a e g
  some_inherited false false false s a e g h = absurd (false≢true (h refl refl))

  pub inherited_target : (s : Option Scheme) (a : Option AuthorityParts) → is_some r.scheme ≡ false → is_some r.authority ≡ false → s ≡ b.scheme → a ≡ b.authority
      → (is_merged r ≡ true → length (pieces (merge b r)) ≤ max_segments)
      → (ahead colon (option_map scheme.text (option_map (formed_scheme AsIs) s)) ++ after_slashes (option_map print_authority (option_map (formed_authority AsIs) a)))
      ++ tail_if (target b r)
      ≡ print_if (target b r)
  inherited_target s a h k e g short =
      ap (λ o. (ahead colon (option_map scheme.text (option_map (formed_scheme AsIs) s)) ++ after_slashes (option_map print_authority (option_map (formed_authority AsIs) a))) ++ tail_if o)
      (by_path h k)
      ∙ some_inherited (is_empty (text r.path)) (is_rooted (text r.path)) (nat_le (length (pieces (merge b r))) max_segments) s a e g
      (λ x y. le-leb (length (pieces (merge b r))) max_segments (short (merged_now (is_some r.scheme) (is_some r.authority) (is_empty (text r.path))
      (is_rooted (text r.path)) h k x y)))
      ∙ ap print_if (sym (by_path h k))

  -- an empty path
  pub same_target : Valid b → is_some r.scheme ≡ false → is_some r.authority ≡ false → is_empty (text r.path) ≡ true
      → tail_text b.path (option_or r.query b.query) r.fragment ≡ tail_if (target b r)
  same_target v h k x =
      ap (λ u. tail_text u (option_or r.query b.query) r.fragment) (sym (own_path b.authority (is_some b.scheme) b.path v.fit))
      ∙ ap tail_if (sym (by_path h k ∙ ap (λ u. chosen false false u (is_rooted (text r.path)) b r) x))

  -- a path that begins with a slash
  pub rooted_target : (w : Bool) → w ≡ is_some b.authority → is_some r.scheme ≡ false → is_some r.authority ≡ false → is_empty (text r.path) ≡ false
      → is_rooted (text r.path) ≡ true
      → tail_text (with_dot_prefix_unless w (dots_removed (text r.path))) r.query r.fragment ≡ tail_if (target b r)
  rooted_target w e h k x y =
      tail_shielded b.authority w (dots_removed (text r.path)) r.query r.fragment e
      ∙ ap tail_if (sym (by_path h k ∙ ap (λ u. chosen false false u (is_rooted (text r.path)) b r) x ∙ ap (λ u. chosen false false false u b r) y))

  -- a path that is merged
  pub merged_target : (w : Bool) → w ≡ is_some b.authority → is_some r.scheme ≡ false → is_some r.authority ≡ false → is_empty (text r.path) ≡ false
      → is_rooted (text r.path) ≡ false → length (pieces (merge b r)) ≤ max_segments
      → tail_text (with_dot_prefix_unless w (dots_removed (merge b r))) r.query r.fragment ≡ tail_if (target b r)
  merged_target w e h k x y short =
      tail_shielded b.authority w (dots_removed (merge b r)) r.query r.fragment e
      ∙ ap tail_if (sym (by_path h k ∙ ap (λ u. chosen false false u (is_rooted (text r.path)) b r) x ∙ ap (λ u. chosen false false false u b r) y
      ∙ ap (λ u. cond u (Some (target_of b.scheme b.authority (dots_removed (merge b r)) r.query r.fragment)) None)
      (le-leb (length (pieces (merge b r))) max_segments short)))

-- ---- what is written

-- there is a target unless there are too many segments
pub some_target : (b r : Parts) → (is_merged r ≡ true → length (pieces (merge b r)) ≤ max_segments) → target b r ≡ None → ⊥
some_target b r short e =
    let both = (target_none b r).0 e in
    let within = short both.0 in
    let beyond = both.1 in
    omega arith

pub no_target : (b r : Parts) → (is_merged r && nat_lt max_segments (length (pieces (merge b r)))) ≡ true → target b r ≡ None
no_target b r h =
    let both = and_parts (is_merged r) (nat_lt max_segments (length (pieces (merge b r)))) h in
    (target_none b r).1 (both.0, above (length (pieces (merge b r))) max_segments both.1)
  where
    above : (m n : ℕ) → nat_lt n m ≡ true → n < m
    above m n k = grind (arith, nat_tests)

pub short_enough : (b r : Parts) → (is_merged r && nat_lt max_segments (length (pieces (merge b r)))) ≡ false → is_merged r ≡ true
    → length (pieces (merge b r)) ≤ max_segments
short_enough b r h k = below (length (pieces (merge b r))) max_segments (ap (λ v. v && nat_lt max_segments (length (pieces (merge b r)))) (sym k) ∙ h)
  where
    below : (m n : ℕ) → nat_lt n m ≡ false → m ≤ n
    below m n e = grind (arith, nat_tests)

pub nothing_written : (P : Type 0) (Q : Parts → Type 0) (o : Option Parts) → o ≡ None → P → MatchOption o P Q
nothing_written P Q o e p = subst (λ u. MatchOption u P Q) (sym e) p

pub target_written : (result : Result ℕ BufferError) (old new : List ℕ) (P : Type 0) (o : Option Parts) → (o ≡ None → ⊥) → Writes (print_if o) result old new
    → MatchOption o P (λ t. Writes (print t) result old new)
target_written result old new P None h w = absurd (h refl)
target_written result old new P (Some t) h w = w

-- the text of a target is UTF-8
pub IsUtf8-target : (b r : Parts) → Valid b → Valid r → is_some b.scheme ≡ true → (target b r ≡ None → ⊥) → IsUtf8 (print_if (target b r))
IsUtf8-target b r v w s there = by_target (target b r) there (target_valid b r v w s)
  where
    by_target : (o : Option Parts) → (o ≡ None → ⊥) → IfSome o Valid → IsUtf8 (print_if o)
    by_target None there is = absurd (there refl)
    by_target (Some t) there is = IsUtf8-print t is
