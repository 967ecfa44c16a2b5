-- The text of a path, and the path that it spells.
use Rattle.std.proofs.Common.{◌≡◌, ℕ, ◌<◌, ◌≤◌, Bool, true, false, not, cond, List, [], ◌∷◌, ◌++◌, length, flat_map, refl, sym, ap, ◌∙◌, arith, drop, ◌&&◌}
use Rattle.std.specs.List.{list_all, slice_split, join_with_byte}
use Rattle.std.proofs.lemmas.Bool.{not-true, and_parts, and_from, eqb-true}
use Rattle.uriparse_text.specs.declared.internal.class.Class.TheVariants.{Segment}
use Rattle.std.specs.Prelude.{◌==◌}
use Rattle.uriparse_text.specs.Bytes.{slash, percent, is_hex}
use Rattle.uriparse_text.specs.Classes.{is_plain}
use Rattle.uriparse_text.specs.Cuts.{lacks}
use Rattle.uriparse_text.proofs.lemmas.classes.ClassLemmas.{bytes-in_class}
use Rattle.uriparse_text.proofs.lemmas.readings.CutLemmas.{lacks-append, lacks-in_class}
use Rattle.uriparse_text.specs.Segment.{is_segment}
use Rattle.uriparse_path.specs.Path.{PathParts, IsListed, IsCounted, IsPath, root, text, is_slash, is_rooted, unrooted, pieces, spelled, starts_with_empty_segment, respelled}
use Rattle.uriparse_path.specs.Dots.{LacksSlash}
use Rattle.uriparse_path.proofs.lemmas.text.SplitLemmas.{pieces-joined, joined-pieces, joined-following}
use Rattle.uriparse_path.proofs.lemmas.reading.FaultLemmas.{plain_not_slash, hex_not_slash}

-- the number of segments
pub counted : (ss : List (List ℕ)) → IsListed ss → IsCounted ss
counted ss is = record { some = is.some; short = is.short }

-- ---- the text of the path that a text spells

pub root-unrooted : (t : List ℕ) → root (is_rooted t) ++ unrooted t ≡ t
root-unrooted [] = refl
root-unrooted (b ∷ t) = at_first (is_slash b) refl
  where
    at_first : (v : Bool) → is_slash b ≡ v → root v ++ cond v t (b ∷ t) ≡ b ∷ t
    at_first true e = ap (λ x. x ∷ t) (sym (eqb-true b slash e))
    at_first false e = refl

-- the path that a text spells prints as that text
pub text-spelled : (t : List ℕ) → text (spelled t) ≡ t
text-spelled t = ap (λ u. root (is_rooted t) ++ u) (joined-pieces (unrooted t)) ∙ root-unrooted t

-- the text of an absolute path is all its segments, each after a slash
pub text-absolute : (ss : List (List ℕ)) → 0 < length ss → text (record { absolute = true; segments = ss }) ≡ flat_map (λ s. slash ∷ s) ss
text-absolute [] h = absurd (omega arith)
text-absolute (s ∷ ss) h = ap (λ x. slash ∷ x) (joined-following s ss)

-- ---- the path that the text of a path spells

pub lacks_slash : (s : List ℕ) → is_segment s ≡ true → LacksSlash s
lacks_slash s h =
    bytes-in_class Segment (λ b. not (is_slash b)) (λ b plain. ap not (plain_not_slash b plain)) refl (λ b digit. ap not (hex_not_slash b digit)) s h

pub all_lack_slash : (ss : List (List ℕ)) → list_all is_segment ss ≡ true → list_all (λ r. list_all (λ b. not (is_slash b)) r) ss ≡ true
all_lack_slash [] h = refl
all_lack_slash (s ∷ ss) h = let both = and_parts _ _ h in and_from _ _ (lacks_slash s both.0) (all_lack_slash ss both.1)

pub pieces-segments : (s : List ℕ) (ss : List (List ℕ)) → list_all is_segment (s ∷ ss) ≡ true → slice_split is_slash (join_with_byte slash (s ∷ ss)) ≡ s ∷ ss
pieces-segments s ss h = let both = and_parts _ _ h in pieces-joined s ss (lacks_slash s both.0) (all_lack_slash ss both.1)

-- a text that begins with no slash
pub spelled-relative : (t : List ℕ) → is_rooted t ≡ false → spelled t ≡ record { absolute = false; segments = slice_split is_slash t }
spelled-relative [] h = refl
spelled-relative (b ∷ t) h =
    ap (λ v. record { absolute = v; segments = slice_split is_slash (cond v t (b ∷ t)) }) h

pub rooted-relative : (s : List ℕ) (ss : List (List ℕ)) → is_segment s ≡ true → starts_with_empty_segment (s ∷ ss) ≡ false → is_rooted (join_with_byte slash (s ∷ ss)) ≡ false
rooted-relative [] [] h k = refl
rooted-relative [] (r ∷ ss) h k = cc
rooted-relative (b ∷ s) ss h k = ap is_rooted (joined-following (b ∷ s) ss) ∙ first_byte (lacks_slash (b ∷ s) h)
  where
    first_byte : LacksSlash (b ∷ s) → is_slash b ≡ false
    first_byte lacks = not-true (is_slash b) (and_parts _ _ lacks).0

pub spelled-text : (p : PathParts) → IsListed p.segments → spelled (text p) ≡ respelled p
spelled-text p is = by_shape p.absolute p.segments is
  where
    by_shape : (a : Bool) (ss : List (List ℕ)) → IsListed ss
        → spelled (text (record { absolute = a; segments = ss })) ≡ respelled (record { absolute = a; segments = ss })
    by_shape a [] is = absurd (omega (arith, is.some))
    by_shape true (s ∷ ss) is = ap (λ l. record { absolute = true; segments = l }) (pieces-segments s ss is.each)
    by_shape false ([] ∷ []) is = refl
    by_shape false ([] ∷ r ∷ ss) is = ap (λ l. record { absolute = true; segments = l }) (pieces-segments r ss (and_parts _ _ is.each).1)
    by_shape false ((b ∷ s) ∷ ss) is =
        spelled-relative (join_with_byte slash ((b ∷ s) ∷ ss)) (rooted-relative (b ∷ s) ss (and_parts _ _ is.each).0 refl)
        ∙ ap (λ l. record { absolute = false; segments = l }) (pieces-segments (b ∷ s) ss is.each)

pub text-cons : (a : Bool) (ss : List (List ℕ)) (s : List ℕ) (rest : List (List ℕ)) → ss ≡ s ∷ rest
    → text (record { absolute = a; segments = ss }) ≡ root a ++ (s ++ flat_map (λ r. slash ∷ r) rest)
text-cons a ss s rest e = ap (λ l. root a ++ join_with_byte slash l) e ∙ ap (λ x. root a ++ x) (joined-following s rest)

pub respelled_shown : (p : PathParts) → starts_with_empty_segment p.segments ≡ false → respelled p ≡ p
respelled_shown p h = by_flag p.absolute
  where
    by_flag : (a : Bool) → cond (not a && starts_with_empty_segment p.segments) (record { absolute = true; segments = drop 1 p.segments }) p ≡ p
    by_flag true = refl
    by_flag false = ap (λ v. cond v (record { absolute = true; segments = drop 1 p.segments }) p) h

pub respelled_absolute : (p : PathParts) → p.absolute ≡ true → respelled p ≡ p
respelled_absolute p h = ap (λ a. cond (not a && starts_with_empty_segment p.segments) (record { absolute = true; segments = drop 1 p.segments }) p) h

pub respelled_hidden : (p : PathParts) → starts_with_empty_segment p.segments ≡ true → p.absolute ≡ false
    → respelled p ≡ record { absolute = true; segments = drop 1 p.segments }
respelled_hidden p h a =
    ap (λ v. cond (not v && starts_with_empty_segment p.segments) (record { absolute = true; segments = drop 1 p.segments }) p) a
    ∙ ap (λ v. cond v (record { absolute = true; segments = drop 1 p.segments }) p) h

pub listed-respelled : (p : PathParts) → IsListed p.segments → IsListed (respelled p).segments
listed-respelled p is = by_shape p.absolute p.segments is
  where
    by_shape : (a : Bool) (ss : List (List ℕ)) → IsListed ss → IsListed (respelled (record { absolute = a; segments = ss })).segments
    by_shape true ss is = is
    by_shape false [] is = is
    by_shape false ([] ∷ []) is = is
    by_shape false ([] ∷ r ∷ ss) is = record { some = omega arith; short = let short = is.short in omega arith; each = (and_parts _ _ is.each).1 }
    by_shape false ((b ∷ s) ∷ ss) is = is

-- ---- bytes that the text of a path does not have

lacks-after_slashes : (b : ℕ) → is_plain Segment b ≡ false → (percent == b) ≡ false → is_hex b ≡ false → (slash == b) ≡ false → (ss : List (List ℕ))
    → list_all is_segment ss ≡ true → lacks b (flat_map (λ s. slash ∷ s) ss) ≡ true
lacks-after_slashes b plain sign digit other [] h = refl
lacks-after_slashes b plain sign digit other (s ∷ ss) h =
    let both = and_parts _ _ h in
    and_from _ _ (ap not other) (lacks-append b s (flat_map (λ s. slash ∷ s) ss) (lacks-in_class Segment b plain sign digit s both.0)
    (lacks-after_slashes b plain sign digit other ss both.1))

pub lacks-path : (b : ℕ) → is_plain Segment b ≡ false → (percent == b) ≡ false → is_hex b ≡ false → (slash == b) ≡ false → (t : List ℕ) → IsPath t
    → lacks b t ≡ true
lacks-path b plain sign digit other t is = ap (lacks b) (sym (text-spelled t)) ∙ by_shape (is_rooted t) (pieces t) is
  where
    by_shape : (a : Bool) (ss : List (List ℕ)) → IsListed ss → lacks b (text (record { absolute = a; segments = ss })) ≡ true
    by_shape true ss is = ap (lacks b) (text-absolute ss is.some) ∙ lacks-after_slashes b plain sign digit other ss is.each
    by_shape false [] is = absurd (omega (arith, is.some))
    by_shape false (s ∷ ss) is =
        let both = and_parts _ _ is.each in
        ap (lacks b) (joined-following s ss)
        ∙ lacks-append b s (flat_map (λ s. slash ∷ s) ss) (lacks-in_class Segment b plain sign digit s both.0)
        (lacks-after_slashes b plain sign digit other ss both.1)

-- a text is no longer than its segments, each after a slash
pub length-text : (p : PathParts) → 0 < length p.segments → length (text p) ≤ length (flat_map (λ s. slash ∷ s) p.segments)
length-text p some = by_shape p.absolute p.segments some
  where
    by_shape : (a : Bool) (ss : List (List ℕ)) → 0 < length ss → length (root a ++ join_with_byte slash ss) ≤ length (flat_map (λ s. slash ∷ s) ss)
    by_shape a [] h = absurd (omega arith)
    by_shape true (s ∷ ss) h = omega (arith, ap length (joined-following s ss))
    by_shape false (s ∷ ss) h = omega (arith, ap length (joined-following s ss))
