-- The reference that leads from a base to a target.
use Rattle.std.proofs.Common.{◌≡◌, ◌⊎◌, ℕ, ◌≤◌, ◌<◌, Bool, true, false, ◌&&◌, not, cond, List, [], ◌∷◌, ◌++◌, length, Option, Some, None, inl, inr, refl, sym, ap, ◌∙◌}
use Rattle.std.proofs.Common.{subst, arith, ⊎_elim, IsSome, drop, length-append, Result, Ok, Err, IfOk}
use Rattle.std.specs.Prelude.{IfSome, is_some, nat_le}
use Rattle.std.specs.Option.{option_or}
use Rattle.std.proofs.lemmas.Bool.{false≢true, and_parts, and_from, not-true, le-leb}
use Rattle.uriparse_text.specs.Query.{IsQuery}
use Rattle.uriparse_text.specs.Fragment.{IsFragment}
use Rattle.uriparse_path.specs.Path.{PathParts, IsListed, max_segments, text, is_rooted, pieces, starts_with_empty_segment, has_two_slashes, respelled}
use Rattle.uriparse_path.specs.Dots.{has_dot_segment, all_but_last, rooted_after}
use Rattle.uriparse_path.specs.Merge.{merged}
use Rattle.uriparse_path.specs.Relative.{is_first, has_colon}
use Rattle.uriparse_path.specs.Relate.{leading, no_path, is_taken}
use Rattle.uriparse_path.proofs.lemmas.normal.NormalFormLemmas.{rooted-text}
use Rattle.uriparse_path.proofs.lemmas.merge.MergedNormalFormLemmas.{undotted, undotted_kept}
use Rattle.uriparse_path.proofs.lemmas.merge.LeadingPathLemmas.{Leads, leads, listed_empty, listed_leading}
use Rattle.uriparse_scheme.specs.declared.scheme.Scheme.{Scheme}
use Rattle.uriparse_scheme.specs.Scheme as scheme
use Rattle.uriparse_scheme.proofs.lemmas.schemes.SchemeLemmas.{spells_back}
use Rattle.uriparse_reference.specs.Reference.{Parts, Valid}
use Rattle.uriparse_reference.specs.Normal.{dot_prefixed}
use Rattle.uriparse_reference.specs.Target.{merge, dots_removed, is_empty, target_of, target}
use Rattle.uriparse_reference.specs.Relate.{without_scheme, following_path, stands_alone, inner, LeavesOut}
use Rattle.uriparse_reference.specs.Relate.{as_network_path, IsInPlace, IsQueryLeft, Relates}
use Rattle.uriparse_reference.proofs.lemmas.edits.PathRuleLemmas.{Fits, make, fits_of, placed, valid_made, two_slashes, shielded_fits}
use Rattle.uriparse_reference.proofs.lemmas.resolving.MergedPathLemmas.{IsFollowing, merged_spelled}
use Rattle.uriparse_reference.proofs.lemmas.resolving.ValidTargetLemmas.{dots_removed-text, dots_removed-merged, chosen}
use Rattle.uriparse_reference.proofs.lemmas.resolving.ResolveLemmas.{target_kept, target_rooted, target_merged}

-- a valid scheme is known by its text
pub same_scheme : (s r : Scheme) → scheme.Valid s → scheme.Valid r → scheme.text s ≡ scheme.text r → s ≡ r
same_scheme s r v w h = (spells_back s v).value ∙ ap scheme.named h ∙ sym (spells_back r w).value

pub some_is : {A : Type 0} (x y : A) → ◌≡◌ {A = Option A} (Some x) (Some y) → x ≡ y
some_is x y h = cc

none_is : {A : Type 0} (o : Option A) → is_some o ≡ false → o ≡ None
none_is None h = refl
none_is (Some x) h = absurd (false≢true (sym h))

-- ---- the target of the whole

whole_target : (b t : Parts) → is_some t.scheme ≡ true → target b t ≡ Some (target_of t.scheme t.authority (dots_removed (text t.path)) t.query t.fragment)
whole_target b t h = ap (λ v. chosen v (is_some t.authority) (is_empty (text t.path)) (is_rooted (text t.path)) b t) h

pub whole_leads : (b t : Parts) → (b.scheme ≡ t.scheme → ⊥) → Relates b t t
whole_leads b t n = (
  refl,
  record {
    scheme = λ s h. absurd (n s);
    path = λ one d p e. absurd (n one.scheme);
    query = λ one q. absurd (n one.scheme);
    fragment = λ one q e. absurd (n one.scheme);
    whole = λ _. inl refl;
  },
)

-- ---- without its scheme

network_target : (b t : Parts) → b.scheme ≡ t.scheme → is_some t.scheme ≡ true → (v : Bool) → is_some t.authority ≡ v
    → target b (cond v (without_scheme t) t) ≡ target b t
network_target b t s h true e =
    ap (λ v. chosen false v (is_empty (text t.path)) (is_rooted (text t.path)) b (without_scheme t)) e
    ∙ ap (λ x. Some (target_of x t.authority (dots_removed (text t.path)) t.query t.fragment)) s
    ∙ sym (whole_target b t h)
network_target b t s h false e = refl

-- an absolute path that may be without an authority
alone : (b t : Parts) → Valid t → t.authority ≡ None → t.path.absolute ≡ true → inner b.path t.path ≡ None → ⊥
alone b t v a h e =
    let fits : Fits false t.path = subst (λ o. Fits (is_some o) t.path) a (fits_of t v) in
    let two : has_two_slashes (text t.path) ≡ false =
    two_slashes t.path fits.listed fits.formed ∙ ap (λ w. t.path.absolute && w) (fits.shown refl) ∙ ap (λ w. w && false) h in
    let stands : stands_alone t.path ≡ true = and_from _ _ h (ap not two) in
    by_leading (leading b.path t.path) (sym (ap (λ w. option_or (leading b.path t.path) (cond {A = Option PathParts} w (Some t.path) None)) stands) ∙ e)
  where
    by_leading : (o : Option PathParts) → option_or o (Some t.path) ≡ None → ⊥
    by_leading None k = let bad : ◌≡◌ {A = Option PathParts} (Some t.path) None = k in cc
    by_leading (Some p) k = let bad : ◌≡◌ {A = Option PathParts} (Some p) None = k in cc

-- a path that leads there, or none
no_inner : (o : Option PathParts) (p : PathParts) → o ≡ None → o ≡ Some p → ⊥
no_inner o p e f = let bad : ◌≡◌ {A = Option PathParts} (Some p) None = sym f ∙ e in cc

pub network_leads : (b t : Parts) → Valid t → b.scheme ≡ t.scheme → is_some t.scheme ≡ true
    → (b.authority ≡ t.authority → (inner b.path t.path ≡ None) × (IsInPlace b t → ⊥)) → Relates b t (as_network_path t)
network_leads b t v s h n = by_authority (is_some t.authority) refl
  where
    out : (r : Parts) → (IsSome t.authority ⊎ ((b.authority ≡ None) × (t.path.absolute ≡ true)) → r.scheme ≡ None) → (r ≡ t) ⊎ (r ≡ without_scheme t)
        → LeavesOut b t r
    out r f g = record {
      scheme = λ _ w. f w;
      path = λ one d p e. absurd (no_inner (inner b.path t.path) p (n one.authority).0 e);
      query = λ one q. absurd ((n one.authority).1 q);
      fragment = λ one q e. absurd ((n one.authority).1 q);
      whole = λ _. g;
    }

    by_authority : (w : Bool) → is_some t.authority ≡ w → Relates b t (cond w (without_scheme t) t)
    by_authority true e = (network_target b t s h true e, out (without_scheme t) (λ w. refl) (inr refl))
    by_authority false e = (
      refl,
      out t (λ w. ⊎_elim (λ i. absurd (false≢true (sym e ∙ i)))
          (λ k. let a = none_is t.authority e in absurd (alone b t v a k.1 (n (k.0 ∙ sym a)).0)) w) (inl refl),
    )

-- ---- the same path

pub fit_target : (b t : Parts) (q : Option (List ℕ)) → Valid b → Valid t → is_some t.scheme ≡ true → b.scheme ≡ t.scheme → b.authority ≡ t.authority → b.path ≡ t.path
    → has_dot_segment t.path.segments ≡ false → option_or q b.query ≡ t.query
    → target b (record { scheme = None; authority = None; path = no_path; query = q; fragment = t.fragment }) ≡ target b t
fit_target b t q vb v h s a p d e =
    let fits = fits_of t v in
    let same : dots_removed (text t.path) ≡ t.path = dots_removed-text t.path fits.listed ∙ undotted_kept t.path d ∙ fits.formed in
    target_kept b (record { scheme = None; authority = None; path = no_path; query = q; fragment = t.fragment }) refl refl
    ∙ ap (λ x. Some (target_of x b.authority b.path (option_or q b.query) t.fragment)) s
    ∙ ap (λ x. Some (target_of t.scheme x b.path (option_or q b.query) t.fragment)) a
    ∙ ap (λ x. Some (target_of t.scheme t.authority x (option_or q b.query) t.fragment)) (p ∙ sym same)
    ∙ ap (λ x. Some (target_of t.scheme t.authority (dots_removed (text t.path)) x t.fragment)) e
    ∙ sym (whole_target b t h)

-- what is left of the query yields the query again
query_again : (b t : Parts) (q : Option (List ℕ)) → IsInPlace b t → IsQueryLeft b t q → option_or q b.query ≡ t.query
query_again b t q offset left = ⊎_elim (λ k. ap (λ x. option_or x b.query) k.1 ∙ k.0)
    (λ k. ap (λ x. option_or x b.query) k.1 ∙ ⊎_elim (λ i. there t.query i) (λ none. ap (option_or t.query) none ∙ none_following t.query) offset.query) left
  where
    there : (o : Option (List ℕ)) → IsSome o → option_or o b.query ≡ o
    there None i = absurd (false≢true i)
    there (Some x) i = refl

    none_following : (o : Option (List ℕ)) → option_or o None ≡ o
    none_following None = refl
    none_following (Some x) = refl

abbrev pub placed_there : Parts → Option (List ℕ) → Parts
placed_there t q = record { scheme = None; authority = None; path = no_path; query = q; fragment = t.fragment }

pub fit_leads : (b t r : Parts) → Valid b → Valid t → is_some t.scheme ≡ true → b.scheme ≡ t.scheme → b.authority ≡ t.authority → IsInPlace b t
    → r ≡ placed_there t r.query → IsQueryLeft b t r.query → Relates b t r
fit_leads b t r vb v h s a offset e left = subst (Relates b t) (sym e) (made r.query left)
  where
    made : (q : Option (List ℕ)) → IsQueryLeft b t q → Relates b t (placed_there t q)
    made q left = (
      fit_target b t q vb v h s a offset.path offset.no_dots (query_again b t q offset left),
      record {
        scheme = λ _ _. refl;
        path = λ one d p e. absurd (d offset);
        query = λ one _. refl;
        fragment = λ one _ e. ap (placed_there t) (⊎_elim (λ k. k.1) (λ k. absurd (k.0 e)) left);
        whole = λ f. absurd ((f (record { scheme = s; authority = a })).0 offset);
      },
    )

pub fit_valid : (t : Parts) (p : PathParts) (q f : Option (List ℕ)) → p ≡ no_path → IfSome q IsQuery → IfSome f IsFragment
    → Valid (record { scheme = None; authority = None; path = p; query = q; fragment = f })
fit_valid t p q f e vq vf =
    subst (λ p. Valid (record { scheme = None; authority = None; path = p; query = q; fragment = f })) (sym e)
    (valid_made None None no_path q f tt tt
    (placed false false no_path (record { listed = listed_empty; formed = refl; rooted = λ k. absurd (false≢true k); shown = λ _. refl }) (λ _ _ _. refl)) vq vf)

-- ---- after a path

-- the path may be without a scheme and an authority, and leads to the target
record IsInner (b t p : PathParts) : Type 0 where
  shown : starts_with_empty_segment p.segments ≡ false
  no_colon : p.absolute ≡ false → is_first has_colon p.segments ≡ false

either : (b t p : PathParts) → inner b t ≡ Some p → (leading b t ≡ Some p) ⊎ ((stands_alone t ≡ true) × (t ≡ p))
either b t p h = by_leading (leading b t) (stands_alone t) refl refl h
  where
    by_leading : (o : Option PathParts) (v : Bool) → leading b t ≡ o → stands_alone t ≡ v → option_or o (cond {A = Option PathParts} v (Some t) None) ≡ Some p
        → (leading b t ≡ Some p) ⊎ ((stands_alone t ≡ true) × (t ≡ p))
    by_leading (Some q) v e f k = inl (e ∙ k)
    by_leading None true e f k = inr (f, some_is t p k)
    by_leading None false e f k = let bad : ◌≡◌ {A = Option PathParts} None (Some p) = k in absurd (cc)

rooted_absolute : (p : PathParts) → p.absolute ≡ true → (is_rooted (text p) ≡ true) × (is_empty (text p) ≡ false)
rooted_absolute p h = by_flag p.absolute h
  where
    by_flag : (a : Bool) → a ≡ true → (is_rooted (text (make a p.segments)) ≡ true) × (is_empty (text (make a p.segments)) ≡ false)
    by_flag true e = (refl, refl)
    by_flag false e = absurd (false≢true e)

not_empty : (l : List (List ℕ)) → 0 < length l → is_first is_taken l ≡ false → is_empty (text (make false l)) ≡ false
not_empty [] n h = absurd (omega arith)
not_empty ([] ∷ l) n h = absurd (false≢true (sym h))
not_empty ((b ∷ s) ∷ []) n h = refl
not_empty ((b ∷ s) ∷ r ∷ l) n h = refl

is_inner : (b t p : PathParts) (w : Bool) → Fits w t → inner b t ≡ Some p → IsInner b t p
is_inner b t p w fits h = ⊎_elim
    (λ e. let is = leads b t p fits.listed.some e in record { shown = is.first.shown; no_colon = λ _. is.first.no_colon })
    (λ k. let both = and_parts t.absolute (not (has_two_slashes (text t))) k.0 in
    let two : (t.absolute && starts_with_empty_segment t.segments) ≡ false = sym (two_slashes t fits.listed fits.formed) ∙ not-true (has_two_slashes (text t)) both.1 in
    subst (IsInner b t) k.1 (record {
      shown = sym (ap (λ v. v && starts_with_empty_segment t.segments) both.0) ∙ two;
      no_colon = λ a. absurd (false≢true (sym a ∙ both.0));
    })) (either b t p h)

pub listed_inner : (b t p : PathParts) → IsListed t.segments → inner b t ≡ Some p → IsListed p.segments
listed_inner b t p listed h = ⊎_elim (listed_leading b t p listed) (λ k. subst (λ q. IsListed q.segments) k.1 listed) (either b t p h)

pub inner_valid : (b t : Parts) (p : PathParts) (q f : Option (List ℕ)) → Valid t → inner b.path t.path ≡ Some p → IfSome q IsQuery → IfSome f IsFragment
    → Valid (record { scheme = None; authority = None; path = p; query = q; fragment = f })
inner_valid b t p q f v h vq vf =
    let fits = fits_of t v in
    let is = is_inner b.path t.path p (is_some t.authority) fits h in
    valid_made None None p q f tt tt (placed false false p (record {
      listed = listed_inner b.path t.path p fits.listed h;
      formed = ap (λ w. cond w (make true (tail p.segments)) p) (hidden p.absolute is.shown);
      rooted = λ k. absurd (false≢true k);
      shown = λ _. is.shown;
    }) (λ _ _ a. is.no_colon a)) vq vf
  where
    hidden : (a : Bool) → starts_with_empty_segment p.segments ≡ false → (not a && starts_with_empty_segment p.segments) ≡ false
    hidden true e = refl
    hidden false e = e

    tail : List (List ℕ) → List (List ℕ)
    tail l = drop 1 l

-- a relative path is merged with the base's, and leads to the target's
leading_target : (b t : Parts) (p : PathParts) → Valid b → Valid t → IsListed p.segments → is_some t.scheme ≡ true → b.scheme ≡ t.scheme → b.authority ≡ t.authority
    → leading b.path t.path ≡ Some p → target b (following_path t p) ≡ target b t
leading_target b t p vb v listed h s a e =
    let fits = fits_of t v in
    let base = fits_of b vb in
    let is = leads b.path t.path p fits.listed.some e in
    let js : IsFollowing p = record { listed = listed; flag = is.relative; shown = is.first.shown } in
    let empty : is_empty (text p) ≡ false = ap (λ w. is_empty (text (make w p.segments))) is.relative ∙ not_empty p.segments is.some is.first.not_empty in
    let spelled_is = merged_spelled (is_some b.authority) b.path p base js in
    let joined : length (merged b.path p).segments ≤ max_segments = subst (λ n. n ≤ max_segments) (sym (length-append (all_but_last b.path.segments) p.segments)) is.room in
    let long : nat_le (length (pieces (merge b (following_path t p)))) max_segments ≡ true =
    ap (λ m. nat_le (length m.segments) max_segments) spelled_is ∙ le-leb (length (merged b.path p).segments) max_segments joined in
    let there : dots_removed (merge b (following_path t p)) ≡ t.path =
    dots_removed-merged (is_some b.authority) b.path p base js joined ∙ undotted_there b.path t.path p is fits.formed in
    let own : dots_removed (text t.path) ≡ t.path = dots_removed-text t.path fits.listed ∙ undotted_kept t.path is.plain ∙ fits.formed in
    target_merged b (following_path t p) refl empty (rooted_relative p listed is.relative is.first.shown)
    ∙ ap (λ v. cond {A = Option Parts} v (Some (target_of b.scheme b.authority (dots_removed (merge b (following_path t p))) t.query t.fragment)) None) long
    ∙ ap (λ x. Some (target_of x b.authority (dots_removed (merge b (following_path t p))) t.query t.fragment)) s
    ∙ ap (λ x. Some (target_of t.scheme x (dots_removed (merge b (following_path t p))) t.query t.fragment)) a
    ∙ ap (λ x. Some (target_of t.scheme t.authority x t.query t.fragment)) (there ∙ sym own)
    ∙ sym (whole_target b t h)
  where
    undotted_there : (b t p : PathParts) → Leads b t p → respelled t ≡ t → undotted (merged b p) ≡ t
    undotted_there b t p is formed =
        ap (λ l. respelled (make (rooted_after b.absolute [] (all_but_last b.segments ++ p.segments)) l)) is.there
        ∙ ap (λ w. respelled (make w t.segments)) is.flag
        ∙ formed

    rooted_relative : (p : PathParts) → IsListed p.segments → p.absolute ≡ false → starts_with_empty_segment p.segments ≡ false → is_rooted (text p) ≡ false
    rooted_relative p listed e f = ap (λ w. is_rooted (text (make w p.segments))) e ∙ (rooted-text (make false p.segments) listed ∙ f)

-- an absolute path that needs no authority is its own target
absolute_target : (b t : Parts) → is_some t.scheme ≡ true → b.scheme ≡ t.scheme → b.authority ≡ t.authority → t.path.absolute ≡ true
    → target b (following_path t t.path) ≡ target b t
absolute_target b t h s a r =
    let is = rooted_absolute t.path r in
    target_rooted b (following_path t t.path) refl is.1 is.0
    ∙ ap (λ x. Some (target_of x b.authority (dots_removed (text t.path)) t.query t.fragment)) s
    ∙ ap (λ x. Some (target_of t.scheme x (dots_removed (text t.path)) t.query t.fragment)) a
    ∙ sym (whole_target b t h)

pub inner_leads : (b t : Parts) (p : PathParts) → Valid b → Valid t → IsListed p.segments → is_some t.scheme ≡ true → b.scheme ≡ t.scheme → b.authority ≡ t.authority
    → (IsInPlace b t → ⊥) → inner b.path t.path ≡ Some p → Relates b t (following_path t p)
inner_leads b t p vb v listed h s a n e = (
  ⊎_elim (leading_target b t p vb v listed h s a)
      (λ k. subst (λ q. target b (following_path t q) ≡ target b t) k.1
      (absolute_target b t h s a (and_parts t.path.absolute (not (has_two_slashes (text t.path))) k.0).0)) (either b.path t.path p e),
  record {
    scheme = λ _ _. refl;
    path = λ one d q f. ap (following_path t) (some_is p q (sym e ∙ f));
    query = λ one q. absurd (n q);
    fragment = λ one q f. absurd (n q);
    whole = λ f. absurd (no_inner (inner b.path t.path) p (f (record { scheme = s; authority = a })).1 e);
  },
)

-- ---- results

pub ok_more : {A E : Type 0} (P Q : A → Type 0) (x : Result A E) → ((a : A) → P a → Q a) → IfOk x P → IfOk x Q
ok_more P Q (Ok a) f h = f a h
ok_more P Q (Err e) f h = tt

pub left_query : (b t : Parts) (q : Option (List ℕ)) → Valid t → IsQueryLeft b t q → IfSome q IsQuery
left_query b t q v left =
    ⊎_elim (λ k. subst (λ o. IfSome o IsQuery) (sym k.1) tt) (λ k. subst (λ o. IfSome o IsQuery) (sym k.1) v.is_query) left

-- a path without dot segments is its own target
pub back_again : (b t : Parts) → Valid t → is_some t.scheme ≡ true → has_dot_segment t.path.segments ≡ false → target b t ≡ Some t
back_again b t v h d =
    let fits = fits_of t v in
    let own : dot_prefixed t.authority (dots_removed (text t.path)) ≡ t.path =
    ap (dot_prefixed t.authority) (dots_removed-text t.path fits.listed ∙ undotted_kept t.path d ∙ fits.formed) ∙ shielded_fits t.authority t.path fits in
    whole_target b t h
    ∙ ap (λ p. Some (record { scheme = t.scheme; authority = t.authority; path = p; query = t.query; fragment = t.fragment })) own
