-- The steps that remove dot segments from a text are a replay of its segments.
use Rattle.std.proofs.Common.{◌≡◌, ◌↔◌, ℕ, ◌<◌, Bool, true, false, not, cond, List, [], ◌∷◌, ◌++◌, length, flat_map, refl, sym, ap, ◌∙◌, subst, arith, ◌||◌}
use Rattle.std.proofs.Common.{append-nil, append_assoc}
use Rattle.std.specs.List.{list_any, slice_split, AllByRecursion}
use Rattle.std.proofs.lemmas.Bool.{not-true, and_parts, and_from}
use Rattle.std.proofs.lemmas.List.Concat.{flat_map-append}
use Rattle.uriparse_text.specs.Bytes.{slash}
use Rattle.uriparse_path.specs.Path.{PathParts, text, is_slash, unrooted, pieces, spelled}
use Rattle.uriparse_path.specs.Dots.{is_single_dot, is_double_dot, is_dot_segment, LacksSlash, IsRest, slashed, without_last, drops, stays, double_dots, ends}
use Rattle.uriparse_path.specs.Dots.{begins, moves, Reaches, done, more, Undots, all_but_last, replay, is_one, rooted_after, replayed, undot}
use Rattle.uriparse_path.proofs.lemmas.text.SplitLemmas.{cut, pieces-byte, pieces-slash, joined-following}
use Rattle.uriparse_path.proofs.lemmas.text.PathTextLemmas.{text-absolute, text-spelled}
use Rattle.uriparse_text.proofs.lemmas.canonical.DotLemmas.{empty_no_dot}
use Rattle.uriparse_path.proofs.lemmas.dots.DotSegmentLemmas.{no_dot, single_dot, double_dot}
use Rattle.uriparse_path.proofs.lemmas.dots.RewritingStepLemmas.{one_output}

-- ---- segments without slashes

abbrev pub AreClean : List (List ℕ) → Type 0
AreClean ss = AllByRecursion LacksSlash ss

pub clean_push : (out : List (List ℕ)) (s : List ℕ) → AreClean out → LacksSlash s → AreClean (out ++ s ∷ [])
clean_push [] s h k = (k, tt)
clean_push (r ∷ out) s h k = (h.0, clean_push out s h.1 k)

pub clean_cut : (out : List (List ℕ)) → AreClean out → AreClean (all_but_last out)
clean_cut [] h = tt
clean_cut (s ∷ []) h = tt
clean_cut (s ∷ r ∷ ss) h = (h.0, clean_cut (r ∷ ss) h.1)

pub clean_pieces : (t : List ℕ) → AreClean (slice_split is_slash t)
clean_pieces [] = (refl, tt)
clean_pieces (b ∷ t) = at_byte (is_slash b) refl (clean_pieces t)
  where
    at_byte : (v : Bool) → is_slash b ≡ v → AreClean (slice_split is_slash t) → AreClean (slice_split is_slash (b ∷ t))
    at_byte true e h = subst AreClean (sym (pieces-slash b t e)) (refl, h)
    at_byte false e h =
        let is = cut t in
        let k : AreClean (is.first ∷ is.others) = subst AreClean is.pieces h in
        subst AreClean (sym (pieces-byte b t e is)) (and_from _ _ (ap not e) k.0, k.1)

-- ---- texts of segments

-- each segment after a slash
abbrev slashes : List (List ℕ) → List ℕ
slashes ss = flat_map (λ s. slash ∷ s) ss

abbrev joined : List (List ℕ) → List ℕ
joined [] = []
joined (s ∷ ss) = s ++ slashes ss

abbrev render : Bool → List (List ℕ) → List ℕ
render rooted ss = cond rooted (slashes ss) (joined ss)

slashes_push : (out : List (List ℕ)) (s : List ℕ) → slashes (out ++ s ∷ []) ≡ slashes out ++ slash ∷ s
slashes_push out s = flat_map-append (λ r. slash ∷ r) out (s ∷ []) ∙ ap (λ u. slashes out ++ slash ∷ u) (append-nil s)

push_joined : (x : List ℕ) (out : List (List ℕ)) (s : List ℕ) → x ++ slashes (out ++ s ∷ []) ≡ (x ++ slashes out) ++ slash ∷ s
push_joined x out s = ap (λ u. x ++ u) (slashes_push out s) ∙ sym (append_assoc x (slashes out) (slash ∷ s))

any_none : (s : List ℕ) → LacksSlash s → list_any is_slash s ≡ false
any_none [] h = refl
any_none (b ∷ s) h = let both = and_parts _ _ h in rw (not-true (is_slash b) both.0, any_none s both.1) refl

any_some : (s u : List ℕ) → list_any is_slash (s ++ slash ∷ u) ≡ true
any_some [] u = refl
any_some (b ∷ s) u = elim (is_slash b) as (λ v. (v || list_any is_slash (s ++ slash ∷ u)) ≡ true) [ true ↦ refl | false ↦ any_some s u ]

cut_after : (s u : List ℕ) → without_last (s ++ slash ∷ u) ≡ s ++ without_last (slash ∷ u)
cut_after [] u = refl
cut_after (b ∷ s) u = rw (any_some s u) (ap (λ w. b ∷ w) (cut_after s u))

cut_slashes : (out : List (List ℕ)) → AreClean out → without_last (slashes out) ≡ slashes (all_but_last out)
cut_slashes [] h = refl
cut_slashes (s ∷ []) h = let e : list_any is_slash (s ++ []) ≡ false = ap (list_any is_slash) (append-nil s) ∙ any_none s h.0 in rw e refl
cut_slashes (s ∷ r ∷ ss) h = rw (any_some s (r ++ slashes ss)) (ap (λ w. slash ∷ w) (cut_after s (r ++ slashes ss))
    ∙ ap (λ w. slash ∷ (s ++ w)) (cut_slashes (r ∷ ss) h.1))

no_cut : (s : List ℕ) → LacksSlash s → without_last s ≡ []
no_cut [] h = refl
no_cut (b ∷ s) h = let e : list_any is_slash s ≡ false = any_none s (and_parts _ _ h).1 in rw e refl

-- the output without its last segment
cut_joined : (x : List ℕ) (out : List (List ℕ)) → LacksSlash x → AreClean out
    → without_last (x ++ slashes out) ≡ render (is_one (x ∷ out)) (all_but_last (x ∷ out))
cut_joined x [] h k = ap without_last (append-nil x) ∙ no_cut x h
cut_joined x (s ∷ out) h k = cut_after x (s ++ slashes out) ∙ ap (λ u. x ++ u) (cut_slashes (s ∷ out) k)

-- ---- after a slash

-- a dot segment at the end leaves one slash, which moves to the output
last_slash : (o : List ℕ) → Reaches (o ++ slash ∷ []) (slash ∷ []) o
last_slash o = more {j = []} {p = o ++ slash ∷ []} (moves [] refl empty_no_dot tt refl refl) done

last_empty : (out : List (List ℕ)) → Reaches (slashes (out ++ [] ∷ [])) (slash ∷ []) (slashes out)
last_empty out = subst (λ u. Reaches u (slash ∷ []) (slashes out)) (sym (slashes_push out [])) (last_slash (slashes out))

move_on : (out : List (List ℕ)) (s rest u : List ℕ) → LacksSlash s → is_dot_segment s ≡ false → IsRest rest → Reaches u rest (slashes (out ++ s ∷ []))
    → Reaches u (slash ∷ (s ++ rest)) (slashes out)
move_on out s rest u h k r w = more {j = rest} {p = slashes (out ++ s ∷ [])} (moves s h k r refl (slashes_push out s)) w

climb_on : (out : List (List ℕ)) (s rest u : List ℕ) → AreClean out → is_double_dot s ≡ true → IsRest rest
    → Reaches u (slashed rest) (slashes (all_but_last out)) → Reaches u (slash ∷ (s ++ rest)) (slashes out)
climb_on out s rest u c h r w = more {j = slashed rest} {p = slashes (all_but_last out)} (double_dots s rest h r refl refl (sym (cut_slashes out c))) w

stay_on : (out : List (List ℕ)) (s rest u : List ℕ) → is_single_dot s ≡ true → IsRest rest → Reaches u (slashed rest) (slashes out)
    → Reaches u (slash ∷ (s ++ rest)) (slashes out)
stay_on out s rest u h r w = more {j = slashed rest} {p = slashes out} (stays s rest h r refl refl refl) w

pub replay_reaches : (out ss : List (List ℕ)) → AreClean out → AreClean ss → Reaches (slashes (replay out ss)) (slashes ss) (slashes out)
replay_reaches out [] c h = done
replay_reaches out (s ∷ []) c h = by_kind (is_single_dot s) refl (is_double_dot s) refl
  where
    by_kind : (v : Bool) → is_single_dot s ≡ v → (w : Bool) → is_double_dot s ≡ w
        → Reaches (slashes (cond v (out ++ [] ∷ []) (cond w (all_but_last out ++ [] ∷ []) (out ++ s ∷ [])))) (slash ∷ (s ++ [])) (slashes out)
    by_kind true e w f = stay_on out s [] _ e tt (last_empty out)
    by_kind false e true f = climb_on out s [] _ c f tt (last_empty (all_but_last out))
    by_kind false e false f = move_on out s [] _ h.0 (no_dot s e f) tt done
replay_reaches out (s ∷ r ∷ ss) c h =
    by_kind (is_single_dot s) refl (is_double_dot s) refl (replay_reaches out (r ∷ ss) c h.1)
    (replay_reaches (all_but_last out) (r ∷ ss) (clean_cut out c) h.1) (replay_reaches (out ++ s ∷ []) (r ∷ ss) (clean_push out s c h.0) h.1)
  where
    by_kind : (v : Bool) → is_single_dot s ≡ v → (w : Bool) → is_double_dot s ≡ w
        → Reaches (slashes (replay out (r ∷ ss))) (slashes (r ∷ ss)) (slashes out)
        → Reaches (slashes (replay (all_but_last out) (r ∷ ss))) (slashes (r ∷ ss)) (slashes (all_but_last out))
        → Reaches (slashes (replay (out ++ s ∷ []) (r ∷ ss))) (slashes (r ∷ ss)) (slashes (out ++ s ∷ []))
        → Reaches (slashes (cond v (replay out (r ∷ ss)) (cond w (replay (all_but_last out) (r ∷ ss)) (replay (out ++ s ∷ []) (r ∷ ss)))))
        (slash ∷ (s ++ slashes (r ∷ ss))) (slashes out)
    by_kind true e w f x y z = stay_on out s (slashes (r ∷ ss)) _ e refl x
    by_kind false e true f x y z = climb_on out s (slashes (r ∷ ss)) _ c f refl y
    by_kind false e false f x y z = move_on out s (slashes (r ∷ ss)) _ h.0 (no_dot s e f) refl z

pub once_rooted : (out l : List (List ℕ)) → rooted_after true out l ≡ true
once_rooted out [] = refl
once_rooted out (s ∷ l) = by_kind (is_single_dot s) (is_double_dot s) (once_rooted out l) (once_rooted (all_but_last out) l) (once_rooted (out ++ s ∷ []) l)
  where
    by_kind : (v w : Bool) → rooted_after true out l ≡ true → rooted_after true (all_but_last out) l ≡ true → rooted_after true (out ++ s ∷ []) l ≡ true
        → cond v (rooted_after true out l) (cond w (rooted_after true (all_but_last out) l) (rooted_after true (out ++ s ∷ []) l)) ≡ true
    by_kind true w x y z = x
    by_kind false true x y z = y
    by_kind false false x y z = z

-- ---- without a slash before it

-- the text of the replayed segments, by whether the first one was removed
abbrev Remaining : List (List ℕ) → List (List ℕ) → List ℕ
Remaining out l = render (rooted_after false out l) (replay out l)

rooted_left : (l : List (List ℕ)) → AreClean l → Reaches (render (rooted_after true [] l) (replay [] l)) (slashes l) []
rooted_left l h = subst (λ v. Reaches (render v (replay [] l)) (slashes l) []) (sym (once_rooted [] l)) (replay_reaches [] l tt h)

joined_reaches : (x : List ℕ) (out l : List (List ℕ)) → LacksSlash x → AreClean out → AreClean l → Reaches (Remaining (x ∷ out) l) (slashes l) (x ++ slashes out)
joined_reaches x out [] n h k = done
joined_reaches x out (s ∷ []) n h k = by_kind (is_single_dot s) refl (is_double_dot s) refl out h
  where
    by_kind : (v : Bool) → is_single_dot s ≡ v → (w : Bool) → is_double_dot s ≡ w → (o : List (List ℕ)) → AreClean o
        → Reaches (render (cond v false (cond w (is_one (x ∷ o)) false))
        (cond v ((x ∷ o) ++ [] ∷ []) (cond w (all_but_last (x ∷ o) ++ [] ∷ []) ((x ∷ o) ++ s ∷ [])))) (slash ∷ (s ++ [])) (x ++ slashes o)
    by_kind true e w f o c =
        more {j = slash ∷ []} {p = x ++ slashes o} (stays s [] e tt refl refl refl)
        (subst (λ u. Reaches u (slash ∷ []) (x ++ slashes o)) (sym (push_joined x o [])) (last_slash (x ++ slashes o)))
    by_kind false e true f [] c = more {j = slash ∷ []} {p = []} (double_dots s [] f tt refl refl (sym (cut_joined x [] n c))) (last_slash [])
    by_kind false e true f (t ∷ o) c =
        more {j = slash ∷ []} {p = x ++ slashes (all_but_last (t ∷ o))} (double_dots s [] f tt refl refl (sym (cut_joined x (t ∷ o) n c)))
        (subst (λ u. Reaches u (slash ∷ []) (x ++ slashes (all_but_last (t ∷ o)))) (sym (push_joined x (all_but_last (t ∷ o)) []))
        (last_slash (x ++ slashes (all_but_last (t ∷ o)))))
    by_kind false e false f o c = more {j = []} {p = x ++ slashes (o ++ s ∷ [])} (moves s k.0 (no_dot s e f) tt refl (push_joined x o s)) done
joined_reaches x [] (s ∷ r ∷ l) n h k =
    by_kind (is_single_dot s) refl (is_double_dot s) refl (joined_reaches x [] (r ∷ l) n h k.1) (rooted_left (r ∷ l) k.1)
    (joined_reaches x (s ∷ []) (r ∷ l) n (k.0, tt) k.1)
  where
    by_kind : (v : Bool) → is_single_dot s ≡ v → (w : Bool) → is_double_dot s ≡ w
        → Reaches (Remaining (x ∷ []) (r ∷ l)) (slashes (r ∷ l)) (x ++ [])
        → Reaches (render (rooted_after true [] (r ∷ l)) (replay [] (r ∷ l))) (slashes (r ∷ l)) []
        → Reaches (Remaining (x ∷ s ∷ []) (r ∷ l)) (slashes (r ∷ l)) (x ++ slashes (s ∷ []))
        → Reaches (render (cond v (rooted_after false (x ∷ []) (r ∷ l)) (cond w (rooted_after true [] (r ∷ l)) (rooted_after false (x ∷ s ∷ []) (r ∷ l))))
        (cond v (replay (x ∷ []) (r ∷ l)) (cond w (replay [] (r ∷ l)) (replay (x ∷ s ∷ []) (r ∷ l))))) (slash ∷ (s ++ slashes (r ∷ l))) (x ++ [])
    by_kind true e w f a b c = more {j = slashes (r ∷ l)} {p = x ++ []} (stays s (slashes (r ∷ l)) e refl refl refl refl) a
    by_kind false e true f a b c = more {j = slashes (r ∷ l)} {p = []} (double_dots s (slashes (r ∷ l)) f refl refl refl (sym (cut_joined x [] n tt))) b
    by_kind false e false f a b c = more {j = slashes (r ∷ l)} {p = x ++ slashes (s ∷ [])} (moves s k.0 (no_dot s e f) refl refl (push_joined x [] s)) c
joined_reaches x (t ∷ out) (s ∷ r ∷ l) n h k =
    by_kind (is_single_dot s) refl (is_double_dot s) refl (joined_reaches x (t ∷ out) (r ∷ l) n h k.1)
    (joined_reaches x (all_but_last (t ∷ out)) (r ∷ l) n (clean_cut (t ∷ out) h) k.1)
    (joined_reaches x ((t ∷ out) ++ s ∷ []) (r ∷ l) n (clean_push (t ∷ out) s h k.0) k.1)
  where
    by_kind : (v : Bool) → is_single_dot s ≡ v → (w : Bool) → is_double_dot s ≡ w
        → Reaches (Remaining (x ∷ t ∷ out) (r ∷ l)) (slashes (r ∷ l)) (x ++ slashes (t ∷ out))
        → Reaches (Remaining (x ∷ all_but_last (t ∷ out)) (r ∷ l)) (slashes (r ∷ l)) (x ++ slashes (all_but_last (t ∷ out)))
        → Reaches (Remaining (x ∷ (t ∷ out) ++ s ∷ []) (r ∷ l)) (slashes (r ∷ l)) (x ++ slashes ((t ∷ out) ++ s ∷ []))
        → Reaches (render (cond v (rooted_after false (x ∷ t ∷ out) (r ∷ l))
        (cond w (rooted_after false (x ∷ all_but_last (t ∷ out)) (r ∷ l)) (rooted_after false (x ∷ (t ∷ out) ++ s ∷ []) (r ∷ l))))
        (cond v (replay (x ∷ t ∷ out) (r ∷ l)) (cond w (replay (x ∷ all_but_last (t ∷ out)) (r ∷ l)) (replay (x ∷ (t ∷ out) ++ s ∷ []) (r ∷ l)))))
        (slash ∷ (s ++ slashes (r ∷ l))) (x ++ slashes (t ∷ out))
    by_kind true e w f a b c = more {j = slashes (r ∷ l)} {p = x ++ slashes (t ∷ out)} (stays s (slashes (r ∷ l)) e refl refl refl refl) a
    by_kind false e true f a b c =
        more {j = slashes (r ∷ l)} {p = x ++ slashes (all_but_last (t ∷ out))}
        (double_dots s (slashes (r ∷ l)) f refl refl refl (sym (cut_joined x (t ∷ out) n h))) b
    by_kind false e false f a b c =
        more {j = slashes (r ∷ l)} {p = x ++ slashes ((t ∷ out) ++ s ∷ [])} (moves s k.0 (no_dot s e f) refl refl (push_joined x (t ∷ out) s)) c

begun : (s : List ℕ) (l : List (List ℕ)) → LacksSlash s → is_dot_segment s ≡ false → AreClean l → IsRest (slashes l)
    → Reaches (Remaining (s ∷ []) l) (s ++ slashes l) []
begun [] l n h k r = joined_reaches [] [] l n tt k
begun (b ∷ s) l n h k r =
    more {j = slashes l} {p = b ∷ s} (begins (b ∷ s) n (omega arith) h r refl refl)
    (subst (λ u. Reaches (Remaining ((b ∷ s) ∷ []) l) (slashes l) u) (append-nil (b ∷ s)) (joined_reaches (b ∷ s) [] l n tt k))

pub rootless_reaches : (l : List (List ℕ)) → AreClean l → Reaches (Remaining [] l) (joined l) []
rootless_reaches [] h = done
rootless_reaches (s ∷ []) h = by_kind (is_single_dot s) refl (is_double_dot s) refl (λ e. begun s [] h.0 e tt tt)
  where
    by_kind : (v : Bool) → is_single_dot s ≡ v → (w : Bool) → is_double_dot s ≡ w → (is_dot_segment s ≡ false → Reaches (s ++ []) (s ++ []) [])
        → Reaches (render (cond v false (cond w false false)) (cond v ([] ∷ []) (cond w ([] ∷ []) (s ∷ [])))) (s ++ []) []
    by_kind true e w f g = more {j = []} {p = []} (ends (ap is_dot_segment (append-nil s) ∙ single_dot s e) refl refl) done
    by_kind false e true f g = more {j = []} {p = []} (ends (ap is_dot_segment (append-nil s) ∙ double_dot s f) refl refl) done
    by_kind false e false f g = g (no_dot s e f)
rootless_reaches (s ∷ r ∷ l) h = by_kind (is_single_dot s) refl (is_double_dot s) refl (rootless_reaches (r ∷ l) h.1) (λ e. begun s (r ∷ l) h.0 e h.1 refl)
  where
    by_kind : (v : Bool) → is_single_dot s ≡ v → (w : Bool) → is_double_dot s ≡ w → Reaches (Remaining [] (r ∷ l)) (joined (r ∷ l)) []
        → (is_dot_segment s ≡ false → Reaches (Remaining (s ∷ []) (r ∷ l)) (s ++ slashes (r ∷ l)) [])
        → Reaches (render (cond v (rooted_after false [] (r ∷ l)) (cond w (rooted_after false [] (r ∷ l)) (rooted_after false (s ∷ []) (r ∷ l))))
        (cond v (replay [] (r ∷ l)) (cond w (replay [] (r ∷ l)) (replay (s ∷ []) (r ∷ l))))) (s ++ slashes (r ∷ l)) []
    by_kind true e w f a g = more {j = joined (r ∷ l)} {p = []} (drops s (single_dot s e) refl refl) a
    by_kind false e true f a g = more {j = joined (r ∷ l)} {p = []} (drops s (double_dot s f) refl refl) a
    by_kind false e false f a g = g (no_dot s e f)

-- ---- on whole texts

-- a replay leaves a segment
push_some : (out : List (List ℕ)) (s : List ℕ) → 0 < length (out ++ s ∷ [])
push_some [] s = omega arith
push_some (r ∷ out) s = omega arith

pub replay_some : (out l : List (List ℕ)) → 0 < length l → 0 < length (replay out l)
replay_some out [] h = absurd (omega arith)
replay_some out (s ∷ []) h = by_kind (is_single_dot s) (is_double_dot s)
  where
    by_kind : (v w : Bool) → 0 < length (cond v (out ++ [] ∷ []) (cond w (all_but_last out ++ [] ∷ []) (out ++ s ∷ [])))
    by_kind true w = push_some out []
    by_kind false true = push_some (all_but_last out) []
    by_kind false false = push_some out s
replay_some out (s ∷ r ∷ l) h =
    by_kind (is_single_dot s) (is_double_dot s) (replay_some out (r ∷ l) (omega arith)) (replay_some (all_but_last out) (r ∷ l) (omega arith))
    (replay_some (out ++ s ∷ []) (r ∷ l) (omega arith))
  where
    by_kind : (v w : Bool) → 0 < length (replay out (r ∷ l)) → 0 < length (replay (all_but_last out) (r ∷ l)) → 0 < length (replay (out ++ s ∷ []) (r ∷ l))
        → 0 < length (cond v (replay out (r ∷ l)) (cond w (replay (all_but_last out) (r ∷ l)) (replay (out ++ s ∷ []) (r ∷ l))))
    by_kind true w x y z = x
    by_kind false true x y z = y
    by_kind false false x y z = z

render-text : (a : Bool) (l : List (List ℕ)) → 0 < length l → render a l ≡ text (record { absolute = a; segments = l })
render-text true l h = sym (text-absolute l h)
render-text false [] h = absurd (omega arith)
render-text false (s ∷ l) h = sym (joined-following s l)

-- the text of any path whose segments have no slash is rewritten to that of the replayed path
pub undots_replayed : (p : PathParts) → 0 < length p.segments → AreClean p.segments → Undots (text p) (text (replayed p))
undots_replayed p some clean = by_flag p.absolute p.segments some clean
  where
    by_flag : (a : Bool) (l : List (List ℕ)) → 0 < length l → AreClean l
        → Undots (text (record { absolute = a; segments = l })) (text (replayed (record { absolute = a; segments = l })))
    by_flag true l h c =
        subst (λ t. Undots t (text (replayed (record { absolute = true; segments = l })))) (sym (text-absolute l h))
        (subst (λ u. Undots (slashes l) u) (sym (text-absolute (replay [] l) (replay_some [] l h))
        ∙ ap (λ v. text (record { absolute = v; segments = replay [] l })) (sym (once_rooted [] l))) (replay_reaches [] l tt c))
    by_flag false l h c =
        subst (λ t. Undots t (text (replayed (record { absolute = false; segments = l })))) (render-text false l h)
        (subst (λ u. Undots (joined l) u) (render-text (rooted_after false [] l) (replay [] l) (replay_some [] l h)) (rootless_reaches l c))

some_pieces : (t : List ℕ) → 0 < length (pieces t)
some_pieces t = let is = cut (unrooted t) in rw is.pieces (omega arith)

undots_undot : (t : List ℕ) → Undots t (undot t)
unfolding undot
undots_undot t = subst (λ u. Undots u (text (replayed (spelled t)))) (text-spelled t) (undots_replayed (spelled t) (some_pieces t) (clean_pieces (unrooted t)))

-- each text is rewritten to one text
pub undots_iff : (t u : List ℕ) → Undots t u ↔ (u ≡ undot t)
undots_iff t u = (λ h. one_output h (undots_undot t), λ e. subst (λ v. Undots t v) (sym e) (undots_undot t))

-- that of a path is that of its replayed segments
pub undot-text : (p : PathParts) → 0 < length p.segments → AreClean p.segments → undot (text p) ≡ text (replayed p)
undot-text p some clean = one_output (undots_undot (text p)) (undots_replayed p some clean)
