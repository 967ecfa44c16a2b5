-- The text of what dot segments leave, put together from its end in a buffer.
use Rattle.std.proofs.Common.{◌≡◌, ◌≢◌, ℕ, suc, ◌+◌, ◌<◌, ◌≤◌, Bool, true, false, cond, not, List, [], ◌∷◌, ◌++◌, length, get_or, take, drop, All, refl, sym, ap, ◌∙◌, subst, arith, append-nil, append_assoc, length-drop, length-append, ◌&&◌, ◌||◌}
use Rattle.std.specs.List.{list_all, slice_split}
use Rattle.std.proofs.lemmas.Bool.{and_parts, and_from, or_parts, ne_eqb, eqb-true}
use Rattle.std.proofs.lemmas.List.{take-append-drop, drop_more, get_or-drop}
use Rattle.std.proofs.lemmas.List.Folds.{list_all-append, list_any-append}
use Rattle.std.proofs.lemmas.List.Elements.{All-head, All-tail, All-from_get_or}
use Rattle.uriparse_text.specs.declared.internal.token.Case.TheVariants.{Kept}
use Rattle.uriparse_text.specs.declared.internal.backward_buffer.Form.{Form}
use Rattle.uriparse_text.specs.declared.internal.backward_buffer.Form.TheVariants.{AsIs, Canonical}
use Rattle.uriparse_text.specs.Bytes.{slash}
use Rattle.uriparse_text.specs.Ends.{EndsWith, Puts, formed}
use Rattle.uriparse_path.specs.declared.path.text.backward.Placed.{Placed}
use Rattle.uriparse_path.specs.declared.path.text.backward.BackwardState.{BackwardState}
use Rattle.uriparse_text.specs.Segment.{is_segment}
use Rattle.uriparse_path.specs.Path.{is_rooted, unrooted, has_two_slashes, is_slash, root}
use Rattle.uriparse_path.specs.Dots.{LacksSlash, has_dot_segment, is_dot_segment, is_double_dot, is_single_dot}
use Rattle.uriparse_path.specs.Remaining.{Remaining, process_one, process_all, remaining_text, process_plain, is_more, is_twice, IsPlaced, IsBackwardState}
use Rattle.uriparse_path.proofs.lemmas.reading.LengthFaultLemmas.{split-append}
use Rattle.uriparse_path.proofs.lemmas.text.SplitLemmas.{pieces-piece}
use Rattle.uriparse_text.proofs.lemmas.canonical.DotLemmas.{canonical-nil, double_is, single_is}
use Rattle.uriparse_path.proofs.lemmas.text.CanonicalTextLemmas.{canonical-slash, rooted-front}

-- ---- a text before a text

rooted_root : (v : Bool) → is_rooted (root v) ≡ v
rooted_root true = refl
rooted_root false = refl

-- an empty text changes nothing, any other one hides what follows it
pub rooted-formed : (form : Form) (s u : List ℕ) → is_rooted (formed form Kept s ++ u) ≡ is_rooted (s ++ root (is_rooted u))
rooted-formed AsIs [] u = sym (rooted_root (is_rooted u))
rooted-formed AsIs (b ∷ s) u = refl
rooted-formed Canonical [] u = ap (λ x. is_rooted (x ++ u)) canonical-nil ∙ sym (rooted_root (is_rooted u))
rooted-formed Canonical (b ∷ s) u = rooted-front b s u

no_slash : (t : List ℕ) → is_rooted t ≡ false → has_two_slashes t ≡ false
no_slash t e = ap (λ v. v && is_rooted (unrooted t)) e

formed-slash : (form : Form) (s : List ℕ) → formed form Kept (slash ∷ s) ≡ slash ∷ formed form Kept s
formed-slash AsIs s = refl
formed-slash Canonical s = canonical-slash s

pub twice-formed : (form : Form) (s u : List ℕ) → has_two_slashes (formed form Kept s ++ u) ≡ is_twice s (is_rooted u) (has_two_slashes u)
twice-formed AsIs [] u = refl
twice-formed Canonical [] u = ap (λ x. has_two_slashes (x ++ u)) canonical-nil
twice-formed form (b ∷ s) u = by_slash (is_slash b) refl
  where
    by_slash : (v : Bool) → is_slash b ≡ v → has_two_slashes (formed form Kept (b ∷ s) ++ u) ≡ (v && is_rooted (s ++ root (is_rooted u)))
    by_slash false e = no_slash (formed form Kept (b ∷ s) ++ u) (rooted-formed form (b ∷ s) u ∙ e)
    by_slash true e =
        ap (λ x. has_two_slashes (formed form Kept (x ∷ s) ++ u)) (eqb-true b slash e)
        ∙ ap (λ x. has_two_slashes (x ++ u)) (formed-slash form s)
        ∙ rooted-formed form s u

pub placed_text : (form : Form) (s u t old new : List ℕ) (p q : Placed) → IsPlaced p old u t
    → q.rooted ≡ is_rooted (s ++ root p.rooted) → q.twice ≡ is_twice s p.rooted p.twice → Puts (formed form Kept s) old p.len new q.len
    → IsPlaced q new (formed form Kept s ++ u) t
placed_text form s u t old new p q is e f puts = record {
  rooted = e ∙ ap (λ v. is_rooted (s ++ root v)) is.rooted ∙ sym (rooted-formed form s u);
  twice = f ∙ ap (λ v. is_twice s v p.twice) is.rooted ∙ ap (λ v. is_twice s (is_rooted u) v) is.twice ∙ sym (twice-formed form s u);
  ends = subst (EndsWith new q.len) (sym (append_assoc (formed form Kept s) u t)) (puts (u ++ t) is.ends);
}

-- ---- the text of kept segments

pub kept_none : (form : Form) (ended : Bool) → remaining_text form ended [] ≡ []
kept_none AsIs true = refl
kept_none AsIs false = refl
kept_none Canonical true = canonical-nil
kept_none Canonical false = refl

pub none_left : (form : Form) (ended : Bool) (buffer t : List ℕ) (p : Placed) (len : ℕ) → p ≡ record { rooted = false; twice = false; len = len } → EndsWith buffer len t
    → IsPlaced p buffer (remaining_text form ended []) t
none_left form ended buffer t p len e ends =
    subst (λ q. IsPlaced q buffer (remaining_text form ended []) t) (sym e)
    (subst (λ u. IsPlaced (record { rooted = false; twice = false; len = len }) buffer u t) (sym (kept_none form ended))
    (record { rooted = refl; twice = refl; ends = ends }))

-- a kept segment more
pub kept_more : (form : Form) (ended : Bool) (s : List ℕ) (kept : List (List ℕ))
    → remaining_text form ended (s ∷ kept) ≡ formed form Kept s ++ (root (is_more kept || ended) ++ remaining_text form ended kept)
kept_more form true s [] = refl
kept_more form true s (k ∷ kept) = refl
kept_more form false s [] = sym (append-nil (formed form Kept s))
kept_more form false s (k ∷ kept) = refl

-- ---- cutting off the last segment

-- the byte is no slash
abbrev pub IsOther : ℕ → Type 0
IsOther b = b ≢ slash

pub none_slash : (t : List ℕ) → All IsOther t → LacksSlash t
none_slash [] h = refl
none_slash (b ∷ t) h = and_from _ _ (ap not (ne_eqb b slash (All-head IsOther b t h))) (none_slash t (All-tail IsOther b t h))

-- the segments before the last slash, and the one after it
pub cut_last : (t : List ℕ) (at : ℕ) → at < length t → get_or t at 0 ≡ slash → ((k : ℕ) → at + 1 ≤ k → k < length t → get_or t k 0 ≢ slash)
    → slice_split is_slash t ≡ slice_split is_slash (take at t) ++ drop (at + 1) t ∷ []
cut_last t at inside here after =
    ap (slice_split is_slash) (sym (take-append-drop at t) ∙ ap (λ l. take at t ++ l) (drop_more t at 0 inside ∙ ap (λ b. b ∷ drop (at + 1) t) here))
    ∙ split-append (take at t) (drop (at + 1) t)
    ∙ ap (λ l. slice_split is_slash (take at t) ++ l) (pieces-piece (drop (at + 1) t) (none_slash (drop (at + 1) t) others))
  where
    others : All IsOther (drop (at + 1) t)
    others =
        All-from_get_or IsOther (drop (at + 1) t) 0 (λ k inside. subst IsOther (sym (get_or-drop (at + 1) t k 0)) (after (at + 1 + k) (omega arith)
        (omega (arith, length-drop (at + 1) t))))

pub undotted_parts : (front : List (List ℕ)) (s : List ℕ) (all : List (List ℕ)) → all ≡ front ++ s ∷ [] → has_dot_segment all ≡ false
    → (has_dot_segment front ≡ false) × (is_dot_segment s ≡ false)
undotted_parts front s all e h =
    let both = or_parts (has_dot_segment front) (has_dot_segment (s ∷ []))
    (sym (list_any-append is_dot_segment front (s ∷ [])) ∙ ap has_dot_segment (sym e) ∙ h) in
    (both.0, (or_parts (is_dot_segment s) false both.1).0)

-- ---- a dot segment

pub back_double : (s : List ℕ) (l : Remaining) → is_double_dot s ≡ true → process_one s l ≡ record { double_dots = suc l.double_dots; kept = l.kept; removed = l.removed }
back_double s l h = by_single (is_single_dot s) refl
  where
    more : Remaining
    more = record { double_dots = suc l.double_dots; kept = l.kept; removed = l.removed }

    by_single : (v : Bool) → is_single_dot s ≡ v → cond v l (cond (is_double_dot s) more (process_plain s l.double_dots l)) ≡ more
    by_single true e = absurd (omega (arith, ap length (sym (single_is s e) ∙ double_is s h)))
    by_single false e = ap (λ w. cond w more (process_plain s l.double_dots l)) h

-- ---- the walk

pub record Walked (form : Form) (ended : Bool) (all : List (List ℕ)) (rest : List (List ℕ)) (first now : BackwardState) (old out : List ℕ) : Type 0 where
  pub done : List (List ℕ)
  pub cut : all ≡ rest ++ done
  pub few : now.double_dots ≤ first.double_dots + length done
  pub room : length out ≡ length old
  pub each : list_all is_segment rest ≡ true
  pub is : (l : Remaining) (t : List ℕ) → IsBackwardState form ended l first old t → IsBackwardState form ended (process_all done l) now out t

pub process_all-append : (a b : List (List ℕ)) (l : Remaining) → process_all (a ++ b) l ≡ process_all a (process_all b l)
process_all-append [] b l = refl
process_all-append (s ∷ a) b l = ap (process_one s) (process_all-append a b l)

-- segments more, from a front on
pub walked_run : (form : Form) (ended : Bool) (all rest front more : List (List ℕ)) (first now next : BackwardState) (old out new : List ℕ)
    → Walked form ended all rest first now old out → rest ≡ front ++ more → 0 < length more → next.double_dots ≤ now.double_dots + 1 → length new ≡ length out
    → ((l : Remaining) (t : List ℕ) → IsBackwardState form ended l now out t → IsBackwardState form ended (process_all more l) next new t)
    → Walked form ended all front first next old new
walked_run form ended all rest front more first now next old out new w e some few room step = record {
  done = more ++ w.done;
  cut = w.cut ∙ ap (λ u. u ++ w.done) e ∙ append_assoc front more w.done;
  few = let before = w.few in omega (arith, length-append more w.done);
  room = room ∙ w.room;
  each = (and_parts _ _ (sym (list_all-append is_segment front more) ∙ ap (list_all is_segment) (sym e) ∙ w.each)).0;
  is = λ l t h. subst (λ k. IsBackwardState form ended k next new t) (sym (process_all-append more w.done l)) (step (process_all w.done l) t (w.is l t h));
}

-- all segments, once those that are left are walked too
pub walked_all : (form : Form) (ended : Bool) (all rest : List (List ℕ)) (first now last : BackwardState) (old out new : List ℕ) (l : Remaining) (t : List ℕ)
    → (w : Walked form ended all rest first now old out)
    → ((l : Remaining) (t : List ℕ) → IsBackwardState form ended l now out t → IsBackwardState form ended (process_all rest l) last new t)
    → IsBackwardState form ended l first old t → IsBackwardState form ended (process_all all l) last new t
walked_all form ended all rest first now last old out new l t w step h =
    subst (λ k. IsBackwardState form ended k last new t) (sym (ap (λ ss. process_all ss l) w.cut ∙ process_all-append rest w.done l)) (step (process_all w.done l) t (w.is l t h))

pub walked_end : (form : Form) (ended : Bool) (all rest : List (List ℕ)) (first now : BackwardState) (old out : List ℕ) (l : Remaining) (t : List ℕ)
    → Walked form ended all rest first now old out → rest ≡ [] → IsBackwardState form ended l first old t → IsBackwardState form ended (process_all all l) now out t
walked_end form ended all rest first now old out l t w none h =
    subst (λ ss. IsBackwardState form ended (process_all ss l) now out t) (sym (w.cut ∙ ap (λ u. u ++ w.done) none)) (w.is l t h)
