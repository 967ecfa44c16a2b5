-- Targets of references are valid.
use Rattle.std.proofs.Common.{◌≡◌, ◌↔◌, ℕ, ◌<◌, ◌≤◌, Bool, true, false, ◌&&◌, not, cond, List, [], ◌∷◌, ◌++◌, length, Option, Some, None, refl, sym}
use Rattle.std.proofs.Common.{ap, ◌∙◌, subst, arith}
use Rattle.std.specs.Prelude.{IfSome, is_some, nat_le}
use Rattle.std.specs.Option.{option_or}
use Rattle.std.proofs.lemmas.Bool.{false≢true, and_parts, not-true}
use Rattle.std.proofs.lemmas.Bool.Decides.{nat_tests}
use Rattle.uriparse_text.specs.Bytes.{slash}
use Rattle.uriparse_text.specs.Query.{IsQuery}
use Rattle.uriparse_text.specs.Fragment.{IsFragment}
use Rattle.uriparse_path.specs.Path.{PathParts, IsListed, max_segments, text, is_rooted, pieces, spelled, respelled}
use Rattle.uriparse_path.specs.Merge.{merged}
use Rattle.uriparse_path.specs.Dots.{LacksSlash, rooted_after, replayed, undot}
use Rattle.uriparse_path.proofs.lemmas.dots.ReplayLemmas.{once_rooted}
use Rattle.uriparse_path.proofs.lemmas.normal.NormalFormLemmas.{spelled_undot}
use Rattle.uriparse_path.proofs.lemmas.merge.MergedNormalFormLemmas.{undotted, listed_undotted, respelled_twice, room}
use Rattle.uriparse_authority.specs.Authority as authority
use Rattle.uriparse_authority.specs.Authority.{AuthorityParts}
use Rattle.uriparse_scheme.specs.declared.scheme.Scheme.{Scheme}
use Rattle.uriparse_scheme.specs.Scheme as scheme
use Rattle.uriparse_reference.specs.Reference.{Parts, Valid}
use Rattle.uriparse_reference.specs.Normal.{dot_prefixed}
use Rattle.uriparse_reference.specs.Target.{through_last_slash, merge, dots_removed, is_empty, target_of, target, is_merged}
use Rattle.uriparse_reference.proofs.lemmas.equality.CanonicalComponentLemmas.{or_valid}
use Rattle.uriparse_reference.proofs.lemmas.edits.PathRuleLemmas.{Fits, make, rooted_formed, fits_of, placed, valid_made, shielded_fits}
use Rattle.uriparse_reference.proofs.lemmas.edits.PathRuleLemmas.{fits_shielded}
use Rattle.uriparse_reference.proofs.lemmas.resolving.MergedPathLemmas.{directory_after, directory_none, merged_text, IsFollowing, merged_spelled, fits_merged}

-- ---- dots removed

pub dots_removed-text : (q : PathParts) → IsListed q.segments → dots_removed (text q) ≡ undotted q
dots_removed-text q is = spelled_undot q is

unfolded_undot : (t : List ℕ) → undot t ≡ text (replayed (spelled t))
unfolding undot
unfolded_undot t = refl

-- the merged text's, in any way that it is spelled
pub dots_removed-merged : (v : Bool) (p q : PathParts) → Fits v p → IsFollowing q → length (merged p q).segments ≤ max_segments
    → dots_removed (through_last_slash (text p) ++ text q) ≡ undotted (merged p q)
dots_removed-merged v p q is js short =
    ap dots_removed (merged_text p q is.listed js.listed js.flag)
    ∙ dots_removed-text (merged p q) (fits_merged v p q is js short).listed

undotted_absolute : (q : PathParts) → q.absolute ≡ true → (undotted q).absolute ≡ true
undotted_absolute q h = by_flag (rooted_after q.absolute [] q.segments) (ap (λ v. rooted_after v [] q.segments) h ∙ once_rooted [] q.segments)
  where
    by_flag : (a : Bool) → a ≡ true → (respelled (make a (replayed q).segments)).absolute ≡ true
    by_flag true e = refl
    by_flag false e = absurd (false≢true e)

pub fits_undotted : (a : Option AuthorityParts) (q : PathParts) → Fits (is_some a) q → Fits (is_some a) (dot_prefixed a (undotted q))
fits_undotted a q is = fits_shielded a (undotted q) (listed_undotted q is.listed) (respelled_twice (replayed q)) (λ h. undotted_absolute q (is.rooted h))
    (λ h k. let n = room q (is.shown h) k in let s = is.listed.short in omega (arith, n, s))

-- ---- which case it is

abbrev pub chosen : Bool → Bool → Bool → Bool → Parts → Parts → Option Parts
chosen v w x y b r =
    cond v (Some (target_of r.scheme r.authority (dots_removed (text r.path)) r.query r.fragment))
    (cond w (Some (target_of b.scheme r.authority (dots_removed (text r.path)) r.query r.fragment))
    (cond x (Some (target_of b.scheme b.authority b.path (option_or r.query b.query) r.fragment))
    (cond y (Some (target_of b.scheme b.authority (dots_removed (text r.path)) r.query r.fragment))
    (cond (nat_le (length (pieces (merge b r))) max_segments) (Some (target_of b.scheme b.authority (dots_removed (merge b r)) r.query r.fragment)) None))))

pub target_chosen : (b r : Parts) → target b r ≡ chosen (is_some r.scheme) (is_some r.authority) (is_empty (text r.path)) (is_rooted (text r.path)) b r
target_chosen b r = refl

-- a path that begins with a slash, of a reference without a scheme and an authority, may follow the base's authority
pub fits_rooted : (v : Bool) (q : PathParts) → Fits false q → is_rooted (text q) ≡ true → Fits v q
fits_rooted v q is h = record {
  listed = is.listed;
  formed = is.formed;
  rooted = λ k. sym (rooted_formed q is.listed is.formed)
      ∙ h;
  shown = λ k. is.shown refl;
}

pub following : (q : PathParts) → Fits false q → is_rooted (text q) ≡ false → IsFollowing q
following q is h = record { listed = is.listed; flag = sym (rooted_formed q is.listed is.formed) ∙ h; shown = is.shown refl }

is_following : (r : Parts) → Valid r → is_merged r ≡ true → IsFollowing r.path
is_following r v h =
    let x = and_parts (not (is_some r.scheme)) (not (is_some r.authority) && (not (is_empty (text r.path)) && not (is_rooted (text r.path)))) h in
    let y = and_parts (not (is_some r.authority)) (not (is_empty (text r.path)) && not (is_rooted (text r.path))) x.1 in
    let z = and_parts (not (is_empty (text r.path))) (not (is_rooted (text r.path))) y.1 in
    following r.path (subst (λ w. Fits w r.path) (not-true (is_some r.authority) y.0) (fits_of r v)) (not-true (is_rooted (text r.path)) z.1)

pub merge_text : (b r : Parts) → Valid b → Valid r → is_merged r ≡ true → merge b r ≡ text (merged b.path r.path)
merge_text b r v w h = let is = is_following r w h in merged_text b.path r.path (fits_of b v).listed is.listed is.flag

pub merge_path : (b r : Parts) → Valid b → Valid r → is_merged r ≡ true → spelled (merge b r) ≡ merged b.path r.path
merge_path b r v w h = merged_spelled (is_some b.authority) b.path r.path (fits_of b v) (is_following r w h)

-- ---- the target is valid

made_valid : (s : Option Scheme) (a : Option AuthorityParts) (p : PathParts) (q f : Option (List ℕ)) → is_some s ≡ true → IfSome s scheme.Valid
    → IfSome a authority.Valid → Fits (is_some a) p → IfSome q IsQuery → IfSome f IsFragment
    → Valid (record { scheme = s; authority = a; path = p; query = q; fragment = f })
made_valid s a p q f h vs va is vq vf = valid_made s a p q f vs va (placed (is_some s) (is_some a) p is (λ k. absurd (false≢true (sym k ∙ h)))) vq vf

undotted_valid : (s : Option Scheme) (a : Option AuthorityParts) (t : List ℕ) (m : PathParts) (q f : Option (List ℕ)) → dots_removed t ≡ undotted m
    → is_some s ≡ true → IfSome s scheme.Valid → IfSome a authority.Valid → Fits (is_some a) m → IfSome q IsQuery → IfSome f IsFragment
    → Valid (target_of s a (dots_removed t) q f)
undotted_valid s a t m q f e h vs va is vq vf =
    subst (λ p. Valid (target_of s a p q f)) (sym e) (made_valid s a (dot_prefixed a (undotted m)) q f h vs va (fits_undotted a m is) vq vf)

pub le_from : (m n : ℕ) → nat_le m n ≡ true → m ≤ n
le_from m n h = grind (arith, nat_tests)

pub target_valid : (b r : Parts) → Valid b → Valid r → is_some b.scheme ≡ true → IfSome (target b r) Valid
target_valid b r v w h = by_tests (is_some r.scheme) refl (is_some r.authority) refl (is_empty (text r.path)) refl (is_rooted (text r.path)) refl
  where
    own : Fits (is_some r.authority) r.path
    own = fits_of r w

    by_room : (z : Bool) → nat_le (length (pieces (merge b r))) max_segments ≡ z → is_some r.authority ≡ false → is_rooted (text r.path) ≡ false
        → IfSome (cond z (Some (target_of b.scheme b.authority (dots_removed (merge b r)) r.query r.fragment)) None) Valid
    by_room true e i k =
        let js = following r.path (subst (λ u. Fits u r.path) i own) k in
        let is = fits_of b v in
        let e' : nat_le (length (merged b.path r.path).segments) max_segments ≡ true =
        ap (λ p. nat_le (length p.segments) max_segments) (sym (merged_spelled (is_some b.authority) b.path r.path is js)) ∙ e in
        let short : length (merged b.path r.path).segments ≤ max_segments = le_from _ _ e' in
        undotted_valid b.scheme b.authority (merge b r) (merged b.path r.path) r.query r.fragment
        (dots_removed-merged (is_some b.authority) b.path r.path is js short) h v.is_scheme v.is_authority
        (fits_merged (is_some b.authority) b.path r.path is js short) w.is_query w.is_fragment
    by_room false e i k = tt

    by_tests : (c : Bool) → is_some r.scheme ≡ c → (d : Bool) → is_some r.authority ≡ d → (x : Bool) → is_empty (text r.path) ≡ x → (y : Bool)
        → is_rooted (text r.path) ≡ y → IfSome (chosen c d x y b r) Valid
    by_tests true e d i x j y k =
        undotted_valid r.scheme r.authority (text r.path) r.path r.query r.fragment (dots_removed-text r.path own.listed) e w.is_scheme w.is_authority own
        w.is_query w.is_fragment
    by_tests false e true i x j y k =
        undotted_valid b.scheme r.authority (text r.path) r.path r.query r.fragment (dots_removed-text r.path own.listed) h v.is_scheme w.is_authority own
        w.is_query w.is_fragment
    by_tests false e false i true j y k =
        let is = fits_of b v in
        subst (λ p. Valid (record { scheme = b.scheme; authority = b.authority; path = p; query = option_or r.query b.query; fragment = r.fragment }))
        (sym (shielded_fits b.authority b.path is))
        (made_valid b.scheme b.authority b.path (option_or r.query b.query) r.fragment h v.is_scheme v.is_authority is
        (or_valid IsQuery r.query b.query w.is_query v.is_query) w.is_fragment)
    by_tests false e false i false j true k =
        undotted_valid b.scheme b.authority (text r.path) r.path r.query r.fragment (dots_removed-text r.path own.listed) h v.is_scheme v.is_authority
        (fits_rooted (is_some b.authority) r.path (subst (λ u. Fits u r.path) i own) k) w.is_query w.is_fragment
    by_tests false e false i false j false k = by_room (nat_le (length (pieces (merge b r))) max_segments) refl i k

-- the target of a reference with a scheme does not depend on the base
pub target_alone : (b c r : Parts) → is_some r.scheme ≡ true → target b r ≡ target c r
target_alone b c r h = by_scheme b ∙ sym (by_scheme c)
  where
    by_scheme : (b : Parts) → target b r ≡ Some (target_of r.scheme r.authority (dots_removed (text r.path)) r.query r.fragment)
    by_scheme b = ap (λ v. chosen v (is_some r.authority) (is_empty (text r.path)) (is_rooted (text r.path)) b r) h

-- there is none if and only if too many segments are merged
gt_from : (m n : ℕ) → nat_le m n ≡ false → n < m
gt_from m n h = grind (arith, nat_tests)

to_gt : (m n : ℕ) → n < m → nat_le m n ≡ false
to_gt m n h = grind (arith, nat_tests)

pub merged_now : (c d x y : Bool) → c ≡ false → d ≡ false → x ≡ false → y ≡ false → (not c && (not d && (not x && not y))) ≡ true
merged_now false false false false e f g h = refl
merged_now true d x y e f g h = absurd (false≢true (sym e))
merged_now false true x y e f g h = absurd (false≢true (sym f))
merged_now false false true y e f g h = absurd (false≢true (sym g))
merged_now false false false true e f g h = absurd (false≢true (sym h))

pub target_none : (b r : Parts) → (target b r ≡ None) ↔ ((is_merged r ≡ true) × (max_segments < length (pieces (merge b r))))
target_none b r = (
  λ e. there (is_some r.scheme) refl (is_some r.authority) refl (is_empty (text r.path)) refl (is_rooted (text r.path)) refl e,
  λ h. back h.0 h.1,
)
  where
    too_long : (z : Bool) → nat_le (length (pieces (merge b r))) max_segments ≡ z
        → cond z (Some (target_of b.scheme b.authority (dots_removed (merge b r)) r.query r.fragment)) None ≡ None → max_segments < length (pieces (merge b r))
    too_long true z e = absurd (cc)
    too_long false z e = gt_from (length (pieces (merge b r))) max_segments z

    there : (c : Bool) → is_some r.scheme ≡ c → (d : Bool) → is_some r.authority ≡ d → (x : Bool) → is_empty (text r.path) ≡ x → (y : Bool)
        → is_rooted (text r.path) ≡ y → chosen c d x y b r ≡ None → (is_merged r ≡ true) × (max_segments < length (pieces (merge b r)))
    there true e d i x j y k g = absurd (cc)
    there false e true i x j y k g = absurd (cc)
    there false e false i true j y k g = absurd (cc)
    there false e false i false j true k g = absurd (cc)
    there false e false i false j false k g = (
      merged_now (is_some r.scheme) (is_some r.authority) (is_empty (text r.path)) (is_rooted (text r.path)) e i j k,
      too_long (nat_le (length (pieces (merge b r))) max_segments) refl g,
    )

    back : is_merged r ≡ true → max_segments < length (pieces (merge b r)) → target b r ≡ None
    back h long =
        let x = and_parts (not (is_some r.scheme)) _ h in
        let y = and_parts (not (is_some r.authority)) _ x.1 in
        let z = and_parts (not (is_empty (text r.path))) _ y.1 in
        ap (λ v. chosen v (is_some r.authority) (is_empty (text r.path)) (is_rooted (text r.path)) b r) (not-true (is_some r.scheme) x.0)
        ∙ ap (λ v. chosen false v (is_empty (text r.path)) (is_rooted (text r.path)) b r) (not-true (is_some r.authority) y.0)
        ∙ ap (λ v. chosen false false v (is_rooted (text r.path)) b r) (not-true (is_empty (text r.path)) z.0)
        ∙ ap (λ v. chosen false false false v b r) (not-true (is_rooted (text r.path)) z.1)
        ∙ ap (λ v. cond v (Some (target_of b.scheme b.authority (dots_removed (merge b r)) r.query r.fragment)) None)
        (to_gt (length (pieces (merge b r))) max_segments long)

-- ---- through_last_slash

pub directory_last : (t s : List ℕ) → LacksSlash s → through_last_slash (t ++ slash ∷ s) ≡ t ++ slash ∷ []
directory_last t s h = directory_after t s ∙ ap (λ u. t ++ slash ∷ u) (directory_none s h)
