-- Normalizing commutes with resolving.
use Rattle.std.proofs.Common.{◌≡◌, ℕ, ◌<◌, ◌≤◌, Bool, true, false, not, cond, List, [], ◌∷◌, ◌++◌, suc, length, map, Option, Some, None, refl, sym, ap, ◌∙◌}
use Rattle.std.proofs.Common.{subst, arith, length-append}
use Rattle.std.specs.Prelude.{is_some, is_none, nat_le}
use Rattle.std.specs.Option.{option_map, option_or}
use Rattle.std.specs.List.{list_all}
use Rattle.std.proofs.lemmas.Bool.{false≢true, and_parts}
use Rattle.std.proofs.lemmas.Bool.Decides.{nat_tests}
use Rattle.std.proofs.lemmas.List.{map-append}
use Rattle.uriparse_text.specs.declared.internal.class.Class.TheVariants.{Query}
use Rattle.uriparse_text.specs.Bytes.{dot}
use Rattle.uriparse_text.specs.Query.{IsQuery}
use Rattle.uriparse_text.specs.Canonical.{canonical}
use Rattle.uriparse_text.specs.Segment.{is_segment}
use Rattle.uriparse_path.specs.Path.{PathParts, IsListed, max_segments, text, is_rooted, pieces, respelled}
use Rattle.uriparse_path.specs.Dots.{is_double_dot, all_but_last, replay, rooted_after}
use Rattle.uriparse_path.specs.Relative.{is_last, relative_normal}
use Rattle.uriparse_path.specs.Normal.{canonical_path, stays_relative, pnormal}
use Rattle.uriparse_path.proofs.lemmas.text.CanonicalTextLemmas.{length-canonical}
use Rattle.uriparse_path.proofs.lemmas.dots.DotSegmentLemmas.{double-canonical}
use Rattle.uriparse_path.proofs.lemmas.dots.ReplayLemmas.{once_rooted}
use Rattle.uriparse_path.proofs.lemmas.normal.RelativeFormLemmas.{each_reduced, some_relative}
use Rattle.uriparse_path.proofs.lemmas.normal.NormalFormLemmas.{listed_replayed, listed_pnormal, pnormal_relative, pnormal_absolute, pnormal_rootless}
use Rattle.uriparse_path.proofs.lemmas.normal.SpellingCommutesLemmas.{replay-canonical, last-canonical, shaped-canonical, cut-canonical, canonical_twice}
use Rattle.uriparse_path.proofs.lemmas.merge.MergedNormalFormLemmas.{merged_same, dot_gone, undotted}
use Rattle.uriparse_path.proofs.lemmas.merge.MergedNormalFormLemmas.{pnormal_is}
use Rattle.uriparse_authority.specs.Authority.{AuthorityParts}
use Rattle.uriparse_authority.specs.Normal.{canonical_authority}
use Rattle.uriparse_scheme.specs.declared.scheme.Scheme.{Scheme}
use Rattle.uriparse_scheme.specs.Normal.{canonical_scheme}
use Rattle.uriparse_reference.specs.Reference.{Parts, Valid}
use Rattle.uriparse_reference.specs.Normal.{dot_prefixed, normal}
use Rattle.uriparse_reference.specs.Target.{merge, dots_removed, is_empty, target_of, target, is_merged, MergesAlike}
use Rattle.uriparse_reference.proofs.lemmas.equality.CanonicalComponentLemmas.{scheme_twice, text_twice, some_map, none_map, map_or, or_valid, authority_twice}
use Rattle.uriparse_reference.proofs.lemmas.edits.PathRuleLemmas.{Fits, make, rooted_formed, fits_of, shielded_cases, shielded_fits}
use Rattle.uriparse_reference.proofs.lemmas.normalizing.NormalFormLemmas.{fits_normal_path, normal_no_longer, absolute_stays, shielded_map, path_twice}
use Rattle.uriparse_path.specs.Merge.{merged}
use Rattle.uriparse_reference.proofs.lemmas.resolving.MergedPathLemmas.{merged_spelled, IsFollowing, fits_merged}
use Rattle.uriparse_reference.proofs.lemmas.resolving.ValidTargetLemmas.{following, fits_rooted, dots_removed-text}
use Rattle.uriparse_reference.proofs.lemmas.resolving.ValidTargetLemmas.{dots_removed-merged, chosen, le_from, merged_now}
use Rattle.uriparse_reference.proofs.lemmas.resolving.NormalizedTargetLemmas.{settled, build, same_made, settled_normal, still_empty}

-- ---- merged paths

undotted_rooted : (p : PathParts) → p.absolute ≡ true → undotted p ≡ make true (replay [] p.segments)
undotted_rooted p h = ap (λ v. respelled (make v (replay [] p.segments))) (ap (λ v. rooted_after v [] p.segments) h ∙ once_rooted [] p.segments)

shielded_flag : (a : Option AuthorityParts) (q : PathParts) → (dot_prefixed a q).absolute ≡ q.absolute
shielded_flag (Some a) q = refl
shielded_flag None q = shielded_cases q (λ p. p.absolute ≡ q.absolute) (λ e. refl) (λ e. refl)

cut_dot : (l n : List (List ℕ)) → 0 < length l → 0 < length n → replay [] (all_but_last ((dot ∷ []) ∷ l) ++ n) ≡ replay [] (all_but_last l ++ n)
cut_dot [] n h k = absurd (omega arith)
cut_dot (s ∷ l) n h k = dot_gone [] (all_but_last (s ∷ l) ++ n) (omega (arith, length-append (all_but_last (s ∷ l)) n, k))

cut_shielded : (a : Option AuthorityParts) (q : PathParts) (n : List (List ℕ)) → 0 < length q.segments → 0 < length n
    → replay [] (all_but_last (dot_prefixed a q).segments ++ n) ≡ replay [] (all_but_last q.segments ++ n)
cut_shielded (Some a) q n h k = refl
cut_shielded None q n h k =
    shielded_cases q (λ p. replay [] (all_but_last p.segments ++ n) ≡ replay [] (all_but_last q.segments ++ n)) (λ e. cut_dot q.segments n h k) (λ e. refl)

some_canonical : (l : List (List ℕ)) → 0 < length l → 0 < length (map canonical l)
some_canonical l h = omega (arith, length-canonical l, h)

-- the segments of the target's normal form, from those of the normal forms
merged_lists : (b r : List (List ℕ)) → IsListed b → IsListed r → list_all is_segment (all_but_last b ++ r) ≡ true → is_last is_double_dot b ≡ false
    → map canonical (replay [] (all_but_last b ++ r)) ≡ replay [] (all_but_last (map canonical (replay [] b)) ++ relative_normal r)
merged_lists b r is js each h =
    sym (replay-canonical [] (all_but_last b ++ r) each)
    ∙ ap (replay []) (map-append canonical (all_but_last b) r ∙ ap (λ l. l ++ map canonical r) (sym (cut-canonical b)))
    ∙ merged_same (map canonical b) (map canonical r) (last-canonical is_double_dot double-canonical b is.each ∙ h) (some_canonical r js.some)
    ∙ ap (λ l. replay [] (all_but_last (replay [] (map canonical b)) ++ l)) (shaped-canonical r js.each (each_reduced r js.each))
    ∙ ap (λ l. replay [] (all_but_last l ++ relative_normal r)) (replay-canonical [] b is.each)

-- the normal form of a path that is merged
relative_path : (a : Option AuthorityParts) (p : PathParts) → Fits false p → is_rooted (text p) ≡ false → is_some a ≡ false
    → dot_prefixed a (pnormal p true) ≡ make false (relative_normal p.segments)
relative_path (Some a) p is h k = absurd (false≢true (sym k))
relative_path None p is h k =
    let rootless : is_rooted (text (pnormal p true)) ≡ false = pnormal_rootless p is.listed h in
    shielded_cases (pnormal p true) (λ q. q ≡ pnormal p true) (λ e. absurd (false≢true (sym rootless
    ∙ (and_parts (is_rooted (text (pnormal p true))) _ e).0))) (λ e. refl)
    ∙ pnormal_relative p true (ap not h)

settled_merged : (a : Option AuthorityParts) (p q : PathParts) (r : Bool) → Fits (is_some a) p → IsFollowing q → length (merged p q).segments ≤ max_segments
    → p.absolute ≡ true → is_last is_double_dot p.segments ≡ false
    → settled (merged (dot_prefixed a (pnormal p r)) (make false (relative_normal q.segments))) ≡ settled (merged p q)
settled_merged a p q r is js short flag last =
    let n = relative_normal q.segments in
    let base : pnormal p r ≡ make true (map canonical (replay [] p.segments)) = pnormal_is p r is.listed is.formed (absolute_stays p r flag)
    ∙ ap canonical_path (undotted_rooted p flag) in
    let m = merged p q in
    let fit = fits_merged (is_some a) p q is js short in
    let whole : replay [] (all_but_last (dot_prefixed a (pnormal p r)).segments ++ relative_normal q.segments)
    ≡ map canonical (replay [] (all_but_last p.segments ++ q.segments)) =
    cut_shielded a (pnormal p r) (relative_normal q.segments) (listed_pnormal p r is.listed).some (some_relative q.segments)
    ∙ ap (λ u. replay [] (all_but_last u.segments ++ relative_normal q.segments)) base
    ∙ sym (merged_lists p.segments q.segments is.listed js.listed fit.listed.each last) in
    ap canonical_path (undotted_rooted (merged (dot_prefixed a (pnormal p r)) (make false (relative_normal q.segments))) (shielded_flag a (pnormal p r)
    ∙ pnormal_absolute p r is.listed flag))
    ∙ ap (λ l. make true (map canonical l)) whole
    ∙ ap (make true) (canonical_twice (replay [] (all_but_last p.segments ++ q.segments)) (listed_replayed (merged p q) fit.listed).each)
    ∙ sym (ap canonical_path (undotted_rooted (merged p q) flag))

-- ---- no more segments are merged

length_cut_is : (l : List (List ℕ)) → 0 < length l → suc (length (all_but_last l)) ≡ length l
length_cut_is [] h = absurd (omega arith)
length_cut_is (s ∷ []) h = refl
length_cut_is (s ∷ r ∷ l) h = ap suc (length_cut_is (r ∷ l) (omega arith))

length_merged : (p q u v : PathParts) → 0 < length p.segments → 0 < length u.segments → length u.segments ≤ length p.segments
    → length v.segments ≤ length q.segments → length (merged u v).segments ≤ length (merged p q).segments
length_merged p q u v some more h k =
    omega (
      arith,
      length-append (all_but_last p.segments) q.segments,
      length-append (all_but_last u.segments) v.segments,
      length_cut_is p.segments some,
      length_cut_is u.segments more,
      h,
      k,
    )

to_le : (m n : ℕ) → m ≤ n → nat_le m n ≡ true
to_le m n h = grind (arith, nat_tests)

-- ---- the law

abbrev pub Commutes : Parts → Parts → Parts → Type 0
Commutes b r t = (u : Parts) × (target (normal b) (normal r) ≡ Some u) × (normal t ≡ normal u)

same_given : {A : Type 0} (x y : A) → Some x ≡ Some y → x ≡ y
same_given x y e = cc

pub commutes : (b r t : Parts) → Valid b → Valid r → is_some b.scheme ≡ true → (is_merged r ≡ true → MergesAlike b r) → target b r ≡ Some t → Commutes b r t
commutes b r t v w h premise given =
    by_tests (is_some r.scheme) refl (is_some r.authority) refl (is_empty (text r.path)) refl (is_rooted (text r.path)) refl given
  where
    fb : Fits (is_some b.authority) b.path
    fb = fits_of b v

    fr : Fits (is_some r.authority) r.path
    fr = fits_of r w

    nb : Fits (is_some b.authority) (normal b).path
    nb = fits_normal_path b v

    nr : Fits (is_some r.authority) (normal r).path
    nr = fits_normal_path r w

    lone : is_some r.authority ≡ false → Fits false r.path
    lone i = subst (λ z. Fits z r.path) i fr

    lone_normal : is_some r.authority ≡ false → Fits false (normal r).path
    lone_normal i = subst (λ z. Fits z (normal r).path) i nr

    other : (c d x y : Bool) → is_some r.scheme ≡ c → is_some r.authority ≡ d → is_empty (text (normal r).path) ≡ x → is_rooted (text (normal r).path) ≡ y
        → target (normal b) (normal r) ≡ chosen c d x y (normal b) (normal r)
    other c d x y e i j k =
        ap (λ z. chosen z (is_some (normal r).authority) (is_empty (text (normal r).path)) (is_rooted (text (normal r).path)) (normal b) (normal r))
        (some_map canonical_scheme r.scheme ∙ e)
        ∙ ap (λ z. chosen c z (is_empty (text (normal r).path)) (is_rooted (text (normal r).path)) (normal b) (normal r))
        (some_map canonical_authority r.authority ∙ i)
        ∙ ap (λ z. chosen c d z (is_rooted (text (normal r).path)) (normal b) (normal r)) j
        ∙ ap (λ z. chosen c d x z (normal b) (normal r)) k

    no_scheme : (s : Option Scheme) → is_some s ≡ false → is_none s ≡ true
    no_scheme None e = refl
    no_scheme (Some s) e = absurd (false≢true (sym e))

    own_removed : dots_removed (text (normal r).path) ≡ undotted (normal r).path
    own_removed = dots_removed-text (normal r).path nr.listed

    schemed : (s : Option Scheme) → is_some s ≡ true → stays_relative r.path (is_none s) ≡ false
    schemed (Some s) e = refl
    schemed None e = absurd (false≢true e)

    -- the cases of the reference's own path
    own_scheme : is_some r.scheme ≡ true → target b r ≡ Some t → Commutes b r t
    own_scheme e g =
        let u : Parts = target_of (normal r).scheme (normal r).authority (dots_removed (text (normal r).path)) (normal r).query (normal r).fragment in
        let t' : target_of r.scheme r.authority (dots_removed (text r.path)) r.query r.fragment ≡ t =
        same_given _ _ (sym (ap (λ z. chosen z (is_some r.authority) (is_empty (text r.path)) (is_rooted (text r.path)) b r) e) ∙ g) in (
          u,
          other true (is_some r.authority) (is_empty (text (normal r).path)) (is_rooted (text (normal r).path)) e refl refl refl,
          ap normal (sym t') ∙ same_made r.scheme r.authority (text r.path) (text (normal r).path) r.path (normal r).path r.query r.fragment e w.is_scheme
              w.is_authority w.is_query w.is_fragment
              (dots_removed-text r.path fr.listed) own_removed fr nr (settled_normal r.authority r.path (is_none r.scheme) fr (schemed r.scheme e)),
        )

    own_authority : is_some r.scheme ≡ false → is_some r.authority ≡ true
        → Some (target_of b.scheme r.authority (dots_removed (text r.path)) r.query r.fragment) ≡ Some t → Commutes b r t
    own_authority e i g =
        let u : Parts = target_of (normal b).scheme (normal r).authority (dots_removed (text (normal r).path)) (normal r).query (normal r).fragment in (
          u,
          other false true (is_empty (text (normal r).path)) (is_rooted (text (normal r).path)) e i refl refl,
          ap normal (sym (same_given _ _ g))
              ∙ same_made b.scheme r.authority (text r.path) (text (normal r).path) r.path (normal r).path r.query r.fragment h v.is_scheme w.is_authority
              w.is_query w.is_fragment
              (dots_removed-text r.path fr.listed) own_removed fr nr
              (settled_normal r.authority r.path (is_none r.scheme) fr (absolute_stays r.path (is_none r.scheme) (fr.rooted i))),
        )

    empty_normal_path : is_some r.scheme ≡ false → is_some r.authority ≡ false → is_empty (text r.path) ≡ true → is_empty (text (normal r).path) ≡ true
    empty_normal_path e i j = ap (λ z. is_empty (text (dot_prefixed r.authority (pnormal r.path z)))) (no_scheme r.scheme e)
        ∙ still_empty r.authority r.path (lone i) j i

    base_path : is_some r.scheme ≡ false → is_some r.authority ≡ false → is_empty (text r.path) ≡ true
        → Some (target_of b.scheme b.authority b.path (option_or r.query b.query) r.fragment) ≡ Some t → Commutes b r t
    base_path e i j g =
        let u : Parts = target_of (normal b).scheme (normal b).authority (normal b).path (option_or (normal r).query (normal b).query) (normal r).fragment in
        let own : (normal (target_of b.scheme b.authority b.path (option_or r.query b.query) r.fragment)).path ≡ (normal b).path =
        ap (λ p. dot_prefixed b.authority (pnormal p (is_none b.scheme))) (shielded_fits b.authority b.path fb) in
        let again : (normal u).path ≡ (normal b).path =
        ap (λ p. dot_prefixed (normal b).authority (pnormal p (is_none (normal b).scheme))) (shielded_map canonical_authority b.authority (normal b).path
        ∙ shielded_fits b.authority (normal b).path nb)
        ∙ shielded_map canonical_authority b.authority (pnormal (normal b).path (is_none (normal b).scheme))
        ∙ ap (λ z. dot_prefixed b.authority (pnormal (normal b).path z)) (none_map canonical_scheme b.scheme)
        ∙ path_twice b v in
        let queries : option_map canonical (option_or (normal r).query (normal b).query) ≡ option_map canonical (option_or r.query b.query) =
        ap (option_map canonical) (sym (map_or r.query b.query))
        ∙ text_twice Query (option_or r.query b.query) (or_valid IsQuery r.query b.query w.is_query v.is_query) in (
          u,
          other false false true (is_rooted (text (normal r).path)) e i (empty_normal_path e i j) refl,
          ap normal (sym (same_given _ _ g))
              ∙ ap (λ p. build (normal b).scheme (normal b).authority p (option_map canonical (option_or r.query b.query)) (normal r).fragment) (own
              ∙ sym again)
              ∙ sym (ap (λ y. build y (normal u).authority (normal u).path (normal u).query (normal u).fragment) (scheme_twice b.scheme v.is_scheme)
              ∙ ap (λ y. build (normal b).scheme y (normal u).path (normal u).query (normal u).fragment) (authority_twice b.authority v.is_authority)
              ∙ ap (λ y. build (normal b).scheme (normal b).authority (normal u).path y (normal u).fragment) queries
              ∙ ap (λ y. build (normal b).scheme (normal b).authority (normal u).path (option_map canonical (option_or r.query b.query)) y)
              (text_twice Query r.fragment w.is_fragment)),
        )

    rooted_path : is_some r.scheme ≡ false → is_some r.authority ≡ false → is_empty (text r.path) ≡ false → is_rooted (text r.path) ≡ true
        → Some (target_of b.scheme b.authority (dots_removed (text r.path)) r.query r.fragment) ≡ Some t → Commutes b r t
    rooted_path e i j k g =
        let u : Parts = target_of (normal b).scheme (normal b).authority (dots_removed (text (normal r).path)) (normal r).query (normal r).fragment in
        let flag : r.path.absolute ≡ true = sym (rooted_formed r.path fr.listed fr.formed) ∙ k in
        let rooted_too : is_rooted (text (normal r).path) ≡ true = rooted_formed (normal r).path nr.listed nr.formed
        ∙ shielded_flag r.authority (pnormal r.path (is_none r.scheme)) ∙ pnormal_absolute r.path (is_none r.scheme) fr.listed flag in (
          u,
          other false false false true e i (not_empty (text (normal r).path) rooted_too) rooted_too,
          ap normal (sym (same_given _ _ g))
              ∙ same_made b.scheme b.authority (text r.path) (text (normal r).path) r.path (normal r).path r.query r.fragment h v.is_scheme v.is_authority
              w.is_query w.is_fragment
              (dots_removed-text r.path fr.listed) own_removed (fits_rooted (is_some b.authority) r.path (lone i) k)
              (fits_rooted (is_some b.authority) (normal r).path (lone_normal i) rooted_too)
              (settled_normal r.authority r.path (is_none r.scheme) fr (absolute_stays r.path (is_none r.scheme) flag)),
        )
      where
        not_empty : (t : List ℕ) → is_rooted t ≡ true → is_empty t ≡ false
        not_empty [] h = absurd (false≢true h)
        not_empty (b ∷ t) h = refl

    merged_path : is_some r.scheme ≡ false → is_some r.authority ≡ false → is_empty (text r.path) ≡ false → is_rooted (text r.path) ≡ false → (z : Bool)
        → nat_le (length (pieces (merge b r))) max_segments ≡ z
        → cond z (Some (target_of b.scheme b.authority (dots_removed (merge b r)) r.query r.fragment)) None ≡ Some t → Commutes b r t
    merged_path e i j k false z g = absurd (cc)
    merged_path e i j k true z g =
        let need : MergesAlike b r = premise (merged_now (is_some r.scheme) (is_some r.authority) (is_empty (text r.path)) (is_rooted (text r.path)) e i j k) in
        let js = following r.path (lone i) k in
        let path_is : (normal r).path ≡ make false (relative_normal r.path.segments) =
        ap (λ y. dot_prefixed r.authority (pnormal r.path y)) (no_scheme r.scheme e) ∙ relative_path r.authority r.path (lone i) k i in
        let rootless : is_rooted (text (normal r).path) ≡ false = rooted_formed (normal r).path nr.listed nr.formed ∙ ap (λ p. p.absolute) path_is in
        let ns = following (normal r).path (lone_normal i) rootless in
        let short : length (merged b.path r.path).segments ≤ max_segments =
        le_from _ _ (ap (λ p. nat_le (length p.segments) max_segments) (sym (merged_spelled (is_some b.authority) b.path r.path fb js)) ∙ z) in
        let no_longer : length (merged (normal b).path (normal r).path).segments ≤ length (merged b.path r.path).segments =
        length_merged b.path r.path (normal b).path (normal r).path fb.listed.some nb.listed.some (normal_no_longer b v) (normal_no_longer r w) in
        let short_too : length (merged (normal b).path (normal r).path).segments ≤ max_segments = omega (arith, short, no_longer) in
        let room : nat_le (length (pieces (merge (normal b) (normal r)))) max_segments ≡ true =
        ap (λ p. nat_le (length p.segments) max_segments) (merged_spelled (is_some b.authority) (normal b).path (normal r).path nb ns)
        ∙ to_le _ _ short_too in
        let flag : b.path.absolute ≡ true = sym (rooted_formed b.path fb.listed fb.formed) ∙ need.rooted in
        let u : Parts = target_of (normal b).scheme (normal b).authority (dots_removed (merge (normal b) (normal r))) (normal r).query (normal r).fragment in (
          u,
          other false false false false e i need.not_empty rootless
              ∙ ap (λ y. cond y (Some (target_of (normal b).scheme (normal b).authority (dots_removed (merge (normal b) (normal r))) (normal r).query
              (normal r).fragment)) None) room,
          ap normal (sym (same_given _ _ g))
              ∙ same_made b.scheme b.authority (merge b r) (merge (normal b) (normal r)) (merged b.path r.path) (merged (normal b).path (normal r).path)
              r.query r.fragment h v.is_scheme v.is_authority w.is_query w.is_fragment
              (dots_removed-merged (is_some b.authority) b.path r.path fb js short)
              (dots_removed-merged (is_some b.authority) (normal b).path (normal r).path nb ns short_too)
              (fits_merged (is_some b.authority) b.path r.path fb js short) (fits_merged (is_some b.authority) (normal b).path (normal r).path nb ns short_too)
              (ap (λ p. settled (merged (normal b).path p)) path_is
              ∙ settled_merged b.authority b.path r.path (is_none b.scheme) fb js short flag need.no_double_dot),
        )

    by_tests : (c : Bool) → is_some r.scheme ≡ c → (d : Bool) → is_some r.authority ≡ d → (x : Bool) → is_empty (text r.path) ≡ x → (y : Bool)
        → is_rooted (text r.path) ≡ y → chosen c d x y b r ≡ Some t → Commutes b r t
    by_tests true e d i x j y k g = own_scheme e given
    by_tests false e true i x j y k g = own_authority e i g
    by_tests false e false i true j y k g = base_path e i j g
    by_tests false e false i false j true k g = rooted_path e i j k g
    by_tests false e false i false j false k g = merged_path e i j k (nat_le (length (pieces (merge b r))) max_segments) refl g
