-- File paths and the URIs that name them.
use Rattle.std.proofs.Common.{◌≡◌, ℕ, ◌+◌, ◌<◌, Bool, true, false, cond, List, [], ◌∷◌, ◌++◌, length, flat_map, take, drop, get_or, Option, Some, None, Ok, Err, inl, inr, refl, sym, ap, subst, ◌∙◌, append-nil, append_assoc, arith, suc, zero}
use Rattle.std.specs.Prelude.{◌||◌, ◌⊎◌, ◌↔◌, IsTrue, not, codes, bytes_eq, is_some}
use Rattle.std.specs.Str.{str_to_ascii_lowercase}
use Rattle.std.proofs.lemmas.Slice.Eq.{bytes_eq-Decides}
use Rattle.std.specs.List.{list_all, list_any, slice_split, join_with_byte}
use Rattle.std.specs.Option.{option_map, option_or}
use Rattle.std.specs.Int.{is_in_range}
use Rattle.std.proofs.lemmas.Bool.{and_from, and_parts, eqb-true, le-ltb}
use Rattle.std.proofs.lemmas.List.{length-append, length-map, map-append, take-append-drop}
use Rattle.std.proofs.lemmas.List.Concat.{flat_map-append}
use Rattle.std.proofs.lemmas.List.Folds.{list_all-append}
use Rattle.std.proofs.Math.Seq.{take-suc}
use Rattle.uriparse_text.specs.declared.internal.class.Class.TheVariants as class
use Rattle.uriparse_text.specs.Bytes.{slash}
use Rattle.uriparse_text.specs.Cuts.{before, after, following}
use Rattle.uriparse_text.proofs.lemmas.readings.CutLemmas.{before_after}
use Rattle.uriparse_text.proofs.lemmas.readings.PairLemmas.{first_piece, pieces_left}
use Rattle.uriparse_text.proofs.lemmas.readings.WithoutLemmas.{left_of}
use Rattle.uriparse_text.specs.Coding.{are_bytes, decoded, encoded}
use Rattle.uriparse_text.proofs.lemmas.tokens.CodingLemmas.{decoded-encoded}
use Rattle.uriparse_text.proofs.lemmas.tokens.BackLemmas.{are_bytes-decoded}
use Rattle.uriparse_text.specs.declared.internal.token.Case.TheVariants as case
use Rattle.uriparse_text.specs.Canonical.{SpellsAlike, canonical_in, canonical_lowered}
use Rattle.uriparse_text.specs.Tokens.{is_well_formed, tokens}
use Rattle.uriparse_text.specs.Readings.{IsUnless, unless_fault}
use Rattle.uriparse_reference.specs.Reference.{Parts, host_of, port_of, username_of}
use Rattle.uriparse_text.specs.declared.segment.error.PathError.{PathError}
use Rattle.uriparse_text.specs.declared.segment.error.PathError.TheVariants.{ExceededMaximumLength, OutOfMemory}
use Rattle.uriparse_path.specs.Path.{IsListed, PathParts, is_slash, max_segments, spelled}
use Rattle.uriparse_text.specs.Segment.{is_segment}
use Rattle.uriparse_path.specs.Faults.{fault, fault_within, length_fault, reading}
use Rattle.uriparse_path.proofs.lemmas.reading.FaultLemmas.{no_segment_fault}
use Rattle.uriparse_path.proofs.lemmas.text.SplitLemmas.{IsCut, cut, joined-following, joined-pieces, pieces-byte, pieces-joined, pieces-slash}
use Rattle.uriparse_path.proofs.lemmas.text.PathTextLemmas.{pieces-segments}
use Rattle.std.specs.Net.Reader.{read_ipv4, read_octet, read_number}
use Rattle.uriparse_text.specs.Address.{ipv4_reading}
use Rattle.uriparse_text.specs.Bytes.{is_unreserved, is_sub_delim}
use Rattle.uriparse_text.specs.Classes.{is_plain}
use Rattle.uriparse_text.specs.Faults as texts
use Rattle.uriparse_scheme.specs.SchemeTable.{row_of}
use Rattle.uriparse_scheme.specs.declared.scheme.Scheme.TheVariants.{Registered}
use Rattle.uriparse_scheme.specs.declared.scheme.registered.RegisteredScheme.TheVariants.{File}
use Rattle.uriparse_authority.specs.Authority.{AuthorityParts, whole_reading}
use Rattle.uriparse_authority.specs.Authority as authority
use Rattle.uriparse_reference.specs.Edits.{of_parts}
use Rattle.uriparse.specs.Kinds.{with_mapped_error}
use Rattle.uriparse.specs.Uri.{map_error}
use Rattle.uriparse.specs.declared.file.error.FileError.{FileError}
use Rattle.uriparse.specs.declared.file.error.FileError.TheVariants as errors
use Rattle.uriparse.specs.File.{AreWritten, bytes_fault, encoded_pieces, file_uri, is_file, is_local, is_nul, joined_names, local_uri, name_fault, names_fault, names_of, no_host, parts_fault, path_of_uri, uri_of_path}

-- ---- the segments of a path, one after another

-- what is written of a path's pieces, and what is left of the path
pub record Writing (path : List ℕ) (rest : Option (List ℕ)) (written : List ℕ) : Type 0 where
  pub done : List (List ℕ)
  pub later : done ++ pieces_left slash rest ≡ slice_split is_slash path
  pub whole : written ≡ flat_map (λ s. slash ∷ s) (encoded_pieces done)
  pub segments : list_all is_segment (encoded_pieces done) ≡ true
  pub back : names_of (encoded_pieces done) ≡ done

pub writing_first : (path : List ℕ) → Writing path (Some path) []
writing_first path = record { done = []; later = refl; whole = refl; segments = refl; back = refl }

writing_on : (path left written : List ℕ) → Writing path (Some left) written → decoded (encoded class.Segment (before slash left)) ≡ before slash left
    → is_segment (encoded class.Segment (before slash left)) ≡ true
    → Writing path (after slash left) (written ++ slash ∷ encoded class.Segment (before slash left))
writing_on path left written g back is =
    let name = before slash left in
    let e = encoded class.Segment name in
    record {
      done = g.done ++ name ∷ [];
      later = append_assoc g.done (name ∷ []) (pieces_left slash (after slash left)) ∙ ap (λ l. g.done ++ l) (sym (first_piece slash left)) ∙ g.later;
      whole =
          ap (λ t. t ++ slash ∷ e) g.whole
          ∙ ap (λ t. flat_map (λ s. slash ∷ s) (encoded_pieces g.done) ++ t) (sym (append-nil (slash ∷ e)))
          ∙ sym (flat_map-append (λ s. slash ∷ s) (encoded_pieces g.done) (e ∷ []))
          ∙ ap (flat_map (λ s. slash ∷ s)) (sym (map-append (encoded class.Segment) g.done (name ∷ [])));
      segments =
          ap (list_all is_segment) (map-append (encoded class.Segment) g.done (name ∷ []))
          ∙ list_all-append is_segment (encoded_pieces g.done) (e ∷ []) ∙ and_from _ _ g.segments (and_from _ _ is refl);
      back =
          ap names_of (map-append (encoded class.Segment) g.done (name ∷ [])) ∙ map-append decoded (encoded_pieces g.done) (e ∷ [])
          ∙ ap (λ l. l ++ decoded e ∷ []) g.back ∙ ap (λ n. g.done ++ n ∷ []) back;
    }

pub writing_next : (path : List ℕ) (o : Option (List ℕ)) (left name segment : List ℕ) (rest : Option (List ℕ)) (written more : List ℕ) → Writing path o written
    → o ≡ Some left → name ≡ before slash left → rest ≡ after slash left → segment ≡ encoded class.Segment name → decoded segment ≡ name
    → is_segment segment ≡ true → more ≡ (written ++ slash ∷ []) ++ segment → Writing path rest more
writing_next path o left name segment rest written more g some cut cutting is back fits wrote =
    let own : segment ≡ encoded class.Segment (before slash left) = is ∙ ap (encoded class.Segment) cut in
    subst (λ r. Writing path r more) (sym cutting)
    (subst (Writing path (after slash left)) (ap (λ s. written ++ slash ∷ s) (sym own) ∙ sym (append_assoc written (slash ∷ []) segment) ∙ sym wrote)
    (writing_on path left written (subst (λ r. Writing path r written) some g) (ap decoded (sym own) ∙ back ∙ cut)
    (ap is_segment (sym own) ∙ fits)))

pub writing_last : (path : List ℕ) (o : Option (List ℕ)) (written : List ℕ) → Writing path o written → o ≡ None → AreWritten path written
writing_last path o written g none =
    let last = subst (λ r. Writing path r written) none g in
    let all : last.done ≡ slice_split is_slash path = sym (append-nil last.done) ∙ last.later in
    record {
      whole = last.whole ∙ ap (λ ps. flat_map (λ s. slash ∷ s) (encoded_pieces ps)) all;
      segments = ap (λ ps. list_all is_segment (encoded_pieces ps)) (sym all) ∙ last.segments;
      back = ap (λ ps. names_of (encoded_pieces ps)) (sym all) ∙ last.back ∙ all;
    }

-- less of the path is left
after_smaller : (left : List ℕ) → left_of (after slash left) < left_of (Some left)
after_smaller left = by_after (after slash left) (before_after slash left)
  where
    by_after : (o : Option (List ℕ)) → before slash left ++ following slash o ≡ left → left_of o < 1 + length left
    by_after None e = omega arith
    by_after (Some t) e =
        let size = ap length (sym e) ∙ length-append (before slash left) (slash ∷ t) in
        omega (arith, size)

pub writing_smaller : (o : Option (List ℕ)) (left : List ℕ) (rest : Option (List ℕ)) → o ≡ Some left → rest ≡ after slash left → left_of rest < left_of o
writing_smaller o left rest some cutting =
    subst (λ n. n < left_of o) (ap left_of (sym cutting)) (subst (λ n. left_of (after slash left) < n) (ap left_of (sym some)) (after_smaller left))

-- ---- the text of the segments is read

-- a slash before each of some pieces is a slash before all of them, joined
one_slash : (s : List ℕ) (ss : List (List ℕ)) → flat_map (λ r. slash ∷ r) (s ∷ ss) ≡ slash ∷ join_with_byte slash (s ∷ ss)
one_slash s ss = ap (λ t. slash ∷ t) (sym (joined-following s ss))

spelled-slashes : (s : List ℕ) (ss : List (List ℕ)) → list_all is_segment (s ∷ ss) ≡ true
    → spelled (flat_map (λ r. slash ∷ r) (s ∷ ss)) ≡ record { absolute = true; segments = s ∷ ss }
spelled-slashes s ss h =
    ap spelled (one_slash s ss) ∙ ap (λ l. record { absolute = true; segments = l }) (pieces-segments s ss h)

all_taken : (n : ℕ) (ss : List (List ℕ)) → list_all is_segment ss ≡ true → list_all is_segment (take n ss) ≡ true
all_taken zero ss h = refl
all_taken (suc n) [] h = refl
all_taken (suc n) (s ∷ ss) h = let both = and_parts _ _ h in and_from _ _ both.0 (all_taken n ss both.1)

within_segments : (n : ℕ) (ss : List (List ℕ)) → list_all is_segment ss ≡ true → fault_within n ss ≡ length_fault n (length ss)
within_segments n ss h = ap (λ f. option_or f (length_fault n (length ss))) (no_segment_fault (take n ss) (all_taken n ss h))

fault-slashes : (s : List ℕ) (ss : List (List ℕ)) → list_all is_segment (s ∷ ss) ≡ true
    → fault (flat_map (λ r. slash ∷ r) (s ∷ ss)) ≡ length_fault max_segments (length (s ∷ ss))
unfolding fault
fault-slashes s ss h =
    ap (λ p. fault_within max_segments p.segments) (spelled-slashes s ss h) ∙ within_segments max_segments (s ∷ ss) h

reading-slashes : (s : List ℕ) (ss : List (List ℕ)) → list_all is_segment (s ∷ ss) ≡ true
    → reading (flat_map (λ r. slash ∷ r) (s ∷ ss)) ≡ unless_fault (length_fault max_segments (length (s ∷ ss))) (record { absolute = true; segments = s ∷ ss })
reading-slashes s ss h =
    ap (λ f. unless_fault f (spelled (flat_map (λ r. slash ∷ r) (s ∷ ss)))) (fault-slashes s ss h)
    ∙ ap (unless_fault (length_fault max_segments (length (s ∷ ss)))) (spelled-slashes s ss h)

pub reading-written : (path written : List ℕ) → AreWritten path written
    → reading written ≡ unless_fault (length_fault max_segments (length (slice_split is_slash path)))
    (record { absolute = true; segments = encoded_pieces (slice_split is_slash path) })
reading-written path written g =
    let first = before slash path in
    let others = pieces_left slash (after slash path) in
    let e : slice_split is_slash path ≡ first ∷ others = first_piece slash path in
    ap reading (g.whole ∙ ap (λ ps. flat_map (λ s. slash ∷ s) (encoded_pieces ps)) e)
    ∙ reading-slashes (encoded class.Segment first) (encoded_pieces others) (ap (λ ps. list_all is_segment (encoded_pieces ps)) (sym e) ∙ g.segments)
    ∙ ap (λ ps. unless_fault (length_fault max_segments (length (encoded_pieces ps))) (record { absolute = true; segments = encoded_pieces ps })) (sym e)
    ∙ ap (λ n. unless_fault (length_fault max_segments n) (record { absolute = true; segments = encoded_pieces (slice_split is_slash path) }))
    (length-map (slice_split is_slash path) (encoded class.Segment))

-- ---- what the reader returns, as the answer of a path

pub answered_ok : (f : Option PathError) (v w : PathParts) → IsUnless OutOfMemory (Ok w) (unless_fault f v) → (w ≡ v) × (f ≡ None)
answered_ok None v w (inl e) = let same : w ≡ v = cc in (same, refl)
answered_ok None v w (inr e) = absurd (cc)
answered_ok (Some x) v w (inl e) = absurd (cc)
answered_ok (Some x) v w (inr e) = absurd (cc)

told_fault : (f : Option PathError) (v : PathParts) (u : Parts) (e : PathError) → IsUnless OutOfMemory (Err e) (unless_fault f v)
    → IsUnless (errors.Path OutOfMemory) (Err (errors.Path e)) (unless_fault (option_map errors.Path f) u)
told_fault None v u e (inl h) = absurd (cc)
told_fault None v u e (inr h) = let same : e ≡ OutOfMemory = cc in inr (ap (λ x. Err (errors.Path x)) same)
told_fault (Some x) v u e (inl h) = let same : e ≡ x = cc in inl (ap (λ x. Err (errors.Path x)) same)
told_fault (Some x) v u e (inr h) = let same : e ≡ OutOfMemory = cc in inr (ap (λ x. Err (errors.Path x)) same)

pub bytes_none : (rest : List ℕ) → list_any is_nul rest ≡ false → bytes_fault (slash ∷ rest) ≡ None
bytes_none rest none = ap (λ b. cond b (Some errors.ContainsNul) None) none

pub uri_of_rooted : (rest : List ℕ) → list_any is_nul rest ≡ false
    → uri_of_path (slash ∷ rest) ≡ unless_fault (option_map errors.Path (length_fault max_segments (length (slice_split is_slash rest)))) (file_uri (slash ∷ rest))
uri_of_rooted rest none =
    ap (λ f. unless_fault (option_or f (option_map errors.Path (length_fault max_segments (length (slice_split is_slash rest))))) (file_uri (slash ∷ rest)))
    (bytes_none rest none)

-- the reader's error, told
pub answered_err : (rest written : List ℕ) (e : PathError) → list_any is_nul rest ≡ false → AreWritten rest written → IsUnless OutOfMemory (Err e) (reading written)
    → IsUnless (errors.Path OutOfMemory) (Err (errors.Path e)) (uri_of_path (slash ∷ rest))
answered_err rest written e none g h =
    subst (IsUnless (errors.Path OutOfMemory) (Err (errors.Path e))) (sym (uri_of_rooted rest none))
    (told_fault _ _ (file_uri (slash ∷ rest)) e (subst (IsUnless OutOfMemory (Err e)) (reading-written rest written g) h))

-- the path that was read, in its URI
pub answered_path : (rest written : List ℕ) (v : PathParts) → list_any is_nul rest ≡ false → AreWritten rest written → IsUnless OutOfMemory (Ok v) (reading written)
    → (v.segments ≡ encoded_pieces (slice_split is_slash rest)) × (uri_of_path (slash ∷ rest) ≡ Ok (file_uri (slash ∷ rest)))
answered_path rest written v none g h =
    let both = answered_ok _ _ v (subst (IsUnless OutOfMemory (Ok v)) (reading-written rest written g) h) in
    (ap (λ (p : PathParts). p.segments) both.0, uri_of_rooted rest none ∙ ap (λ f. unless_fault (option_map errors.Path f) (file_uri (slash ∷ rest))) both.1)

-- ---- and back

file_is_file : (ss : List (List ℕ)) → parts_fault (local_uri ss) ≡ None
unfolding canonical_in tokens row_of
file_is_file ss = refl

none_none : (a b : Option FileError) → option_or a b ≡ None → (a ≡ None) × (b ≡ None)
none_none None b h = (refl, h)
none_none (Some e) b h = cc

-- a name has neither byte
clean : (n : List ℕ) → name_fault n ≡ None → (list_any is_slash n ≡ false) × (list_any is_nul n ≡ false)
clean n h = by_tests (list_any is_slash n) (list_any is_nul n) h
  where
    by_tests : (v w : Bool) → cond v (Some errors.EscapedSlash) (cond w (Some errors.ContainsNul) None) ≡ None → (v ≡ false) × (w ≡ false)
    by_tests true w h = absurd (cc)
    by_tests false true h = absurd (cc)
    by_tests false false h = (refl, refl)

clean_name : (n : List ℕ) → list_any is_slash n ≡ false → list_any is_nul n ≡ false → name_fault n ≡ None
clean_name n h k = rw (h, k) refl

longer_name : (b : ℕ) (n : List ℕ) → is_slash b ≡ false → is_nul b ≡ false → name_fault n ≡ None → name_fault (b ∷ n) ≡ None
longer_name b n h k is =
    let both = clean n is in
    clean_name (b ∷ n) (ap (λ v. v || list_any is_slash n) h ∙ both.0) (ap (λ v. v || list_any is_nul n) k ∙ both.1)

no_byte : (v w : Bool) → (v || w) ≡ false → (v ≡ false) × (w ≡ false)
no_byte true w h = cc
no_byte false w h = (refl, h)

names_none : (t : List ℕ) → list_any is_nul t ≡ false → names_fault (slice_split is_slash t) ≡ None
names_none [] h = refl
names_none (b ∷ t) h = by_slash (is_slash b) refl (cut t) (names_none t both.1)
  where
    both : (is_nul b ≡ false) × (list_any is_nul t ≡ false)
    both = no_byte (is_nul b) (list_any is_nul t) h

    by_slash : (v : Bool) → is_slash b ≡ v → IsCut t → names_fault (slice_split is_slash t) ≡ None → names_fault (slice_split is_slash (b ∷ t)) ≡ None
    by_slash true e c k = ap names_fault (pieces-slash b t e) ∙ k
    by_slash false e c k =
        let parts = none_none (name_fault c.first) (names_fault c.others) (ap names_fault (sym c.pieces) ∙ k) in
        ap names_fault (pieces-byte b t e c) ∙ ap (λ f. option_or f (names_fault c.others)) (longer_name b c.first e both.0 parts.0) ∙ parts.1

joined-rest : (rest : List ℕ) → joined_names (slice_split is_slash rest) ≡ slash ∷ rest
joined-rest rest =
    ap joined_names (first_piece slash rest) ∙ one_slash (before slash rest) (pieces_left slash (after slash rest))
    ∙ ap (λ ps. slash ∷ join_with_byte slash ps) (sym (first_piece slash rest)) ∙ ap (λ t. slash ∷ t) (joined-pieces rest)

pub path_back : (rest : List ℕ) (ss : List (List ℕ)) → list_any is_nul rest ≡ false → names_of ss ≡ slice_split is_slash rest
    → path_of_uri (local_uri ss) ≡ Ok (slash ∷ rest)
path_back rest ss none is =
    ap (λ f. unless_fault (option_or f (names_fault (names_of ss))) (joined_names (names_of ss))) (file_is_file ss)
    ∙ ap (λ ns. unless_fault (names_fault ns) (joined_names ns)) is
    ∙ ap (λ f. unless_fault f (joined_names (slice_split is_slash rest))) (names_none rest none) ∙ ap Ok (joined-rest rest)

-- ---- the names of a URI's path, one after another

names_fault-append : (ns ms : List (List ℕ)) → names_fault (ns ++ ms) ≡ option_or (names_fault ns) (names_fault ms)
names_fault-append [] ms = refl
names_fault-append (n ∷ ns) ms = ap (option_or (name_fault n)) (names_fault-append ns ms) ∙ or_assoc (name_fault n) (names_fault ns) (names_fault ms)
  where
    or_assoc : (a b c : Option FileError) → option_or a (option_or b c) ≡ option_or (option_or a b) c
    or_assoc None b c = refl
    or_assoc (Some e) b c = refl

module _ (ss : List (List ℕ)) (i : ℕ) (s : List ℕ) (below : i < length ss) (at : s ≡ get_or ss i s) where
  next_names : names_of (take (suc i) ss) ≡ names_of (take i ss) ++ decoded s ∷ []
  next_names = ap names_of (take-suc ss i s below) ∙ map-append decoded (take i ss) (get_or ss i s ∷ []) ∙ ap (λ x. names_of (take i ss) ++ decoded x ∷ []) (sym at)

  pub joined_next : (written more : List ℕ) → written ≡ joined_names (names_of (take i ss)) → more ≡ written ++ slash ∷ decoded s
      → more ≡ joined_names (names_of (take (suc i) ss))
  joined_next written more so_far wrote =
      wrote ∙ ap (λ t. t ++ slash ∷ decoded s) so_far
      ∙ ap (λ t. joined_names (names_of (take i ss)) ++ t) (sym (append-nil (slash ∷ decoded s)))
      ∙ sym (flat_map-append (λ n. slash ∷ n) (names_of (take i ss)) (decoded s ∷ [])) ∙ ap joined_names (sym next_names)

  fault_next : (f : Option FileError) → names_fault (names_of (take i ss)) ≡ None → name_fault (decoded s) ≡ f → names_fault (names_of (take (suc i) ss)) ≡ f
  fault_next f so_far is =
      ap names_fault next_names ∙ names_fault-append (names_of (take i ss)) (decoded s ∷ [])
      ∙ ap (λ x. option_or x (option_or (name_fault (decoded s)) None)) so_far ∙ ap (λ x. option_or x None) is ∙ alone f
    where
      alone : (x : Option FileError) → option_or x None ≡ x
      alone None = refl
      alone (Some e) = refl

  pub none_next : names_fault (names_of (take i ss)) ≡ None → name_fault (decoded s) ≡ None → names_fault (names_of (take (suc i) ss)) ≡ None
  none_next so_far is = fault_next None so_far is

  pub fault_found : (e : FileError) → names_fault (names_of (take i ss)) ≡ None → name_fault (decoded s) ≡ Some e → names_fault (names_of ss) ≡ Some e
  fault_found e so_far is =
      ap (λ l. names_fault (names_of l)) (sym (take-append-drop (suc i) ss)) ∙ ap names_fault (map-append decoded (take (suc i) ss) (drop (suc i) ss))
      ∙ names_fault-append (names_of (take (suc i) ss)) (names_of (drop (suc i) ss))
      ∙ ap (λ x. option_or x (names_fault (names_of (drop (suc i) ss)))) (fault_next (Some e) so_far is)

-- what is returned once the components around the path are checked
pub path_checked : (u : Parts) → parts_fault u ≡ None → path_of_uri u ≡ unless_fault (names_fault (names_of u.path.segments)) (joined_names (names_of u.path.segments))
path_checked u none = ap (λ f. unless_fault (option_or f (names_fault (names_of u.path.segments))) (joined_names (names_of u.path.segments))) none

-- ---- the law: there and back

encoded_back : (ps : List (List ℕ)) → list_all are_bytes ps ≡ true → names_of (encoded_pieces ps) ≡ ps
encoded_back [] h = refl
encoded_back (p ∷ ps) h =
    let both = and_parts (are_bytes p) (list_all are_bytes ps) h in
    ap (λ n. n ∷ names_of (encoded_pieces ps)) (decoded-encoded class.Segment p both.0) ∙ ap (λ l. p ∷ l) (encoded_back ps both.1)

-- what all bytes of a text pass, all bytes of its pieces pass
pieces_keep : (p : ℕ → Bool) (t : List ℕ) → list_all p t ≡ true → list_all (list_all p) (slice_split is_slash t) ≡ true
pieces_keep p [] h = refl
pieces_keep p (b ∷ t) h = by_slash (is_slash b) refl (cut t) (pieces_keep p t both.1)
  where
    both : (p b ≡ true) × (list_all p t ≡ true)
    both = and_parts (p b) (list_all p t) h

    by_slash : (v : Bool) → is_slash b ≡ v → IsCut t → list_all (list_all p) (slice_split is_slash t) ≡ true
        → list_all (list_all p) (slice_split is_slash (b ∷ t)) ≡ true
    by_slash true e c k = ap (list_all (list_all p)) (pieces-slash b t e) ∙ k
    by_slash false e c k =
        let parts = and_parts (list_all p c.first) (list_all (list_all p) c.others) (ap (list_all (list_all p)) (sym c.pieces) ∙ k) in
        ap (list_all (list_all p)) (pieces-byte b t e c) ∙ and_from _ _ (and_from _ _ both.0 parts.0) parts.1

of_ok : {A : Type 0} (f : Option FileError) (v w : A) → unless_fault f v ≡ Ok w → (f ≡ None) × (w ≡ v)
of_ok None v w h = let same : w ≡ v = cc in (refl, same)
of_ok (Some e) v w h = absurd (cc)

rooted_back : (t : List ℕ) (u : Parts) → are_bytes t ≡ true → uri_of_path (slash ∷ t) ≡ Ok u → path_of_uri u ≡ Ok (slash ∷ t)
rooted_back t u bytes is = by_nul (list_any is_nul t) refl
  where
    by_nul : (v : Bool) → list_any is_nul t ≡ v → path_of_uri u ≡ Ok (slash ∷ t)
    by_nul true e =
        let bad : uri_of_path (slash ∷ t) ≡ Err errors.ContainsNul = rw e refl in
        absurd (cc)
    by_nul false e =
        let same = (of_ok _ (file_uri (slash ∷ t)) u (sym (uri_of_rooted t e) ∙ is)).1 in
        ap path_of_uri same ∙ path_back t (encoded_pieces (slice_split is_slash t)) e (encoded_back (slice_split is_slash t) (pieces_keep (is_in_range 0 255) t bytes))

pub named_again : (path : List ℕ) (u : Parts) → are_bytes path ≡ true → uri_of_path path ≡ Ok u → path_of_uri u ≡ Ok path
named_again [] u bytes is = absurd (cc)
named_again (b ∷ t) u bytes is = by_slash (is_slash b) refl
  where
    by_slash : (v : Bool) → is_slash b ≡ v → path_of_uri u ≡ Ok (b ∷ t)
    by_slash false e =
        let bad : uri_of_path (b ∷ t) ≡ Err errors.NotAbsolute = rw e refl in
        absurd (cc)
    by_slash true e =
        let same : b ≡ slash = eqb-true b slash e in
        subst (λ x. path_of_uri u ≡ Ok (x ∷ t)) (sym same)
        (rooted_back t u (and_parts (is_in_range 0 255 b) (are_bytes t) bytes).1 (subst (λ x. uri_of_path (x ∷ t) ≡ Ok u) same is))

-- ---- what a URI names has a URI

none_pass : (p : ℕ → Bool) (n : List ℕ) → list_any p n ≡ false → list_all (λ b. not (p b)) n ≡ true
none_pass p [] h = refl
none_pass p (b ∷ n) h =
    let both = no_byte (p b) (list_any p n) h in
    and_from _ _ (ap not both.0) (none_pass p n both.1)

any_none : (p : ℕ → Bool) (t u : List ℕ) → list_any p t ≡ false → list_any p u ≡ false → list_any p (t ++ u) ≡ false
any_none p [] u h k = k
any_none p (b ∷ t) u h k =
    let both = no_byte (p b) (list_any p t) h in
    ap (λ v. v || list_any p (t ++ u)) both.0 ∙ any_none p t u both.1 k

all_clean : (ns : List (List ℕ)) → names_fault ns ≡ None → (list_all (λ n. list_all (λ b. not (is_slash b)) n) ns ≡ true) × (list_any is_nul (joined_names ns) ≡ false)
all_clean [] h = (refl, refl)
all_clean (n ∷ ns) h =
    let both = none_none (name_fault n) (names_fault ns) h in
    let own = clean n both.0 in
    let others = all_clean ns both.1 in
    (and_from _ _ (none_pass is_slash n own.0) others.0, any_none is_nul n (joined_names ns) own.1 others.1)

names_path : (ss : List (List ℕ)) → IsListed ss → names_fault (names_of ss) ≡ None → uri_of_path (joined_names (names_of ss)) ≡ Ok (file_uri (joined_names (names_of ss)))
names_path [] listed none = let some = listed.some in absurd (omega (arith, some))
names_path (s ∷ ss) listed none =
    let n = decoded s in
    let ns = names_of ss in
    let rest = join_with_byte slash (n ∷ ns) in
    let is : joined_names (n ∷ ns) ≡ slash ∷ rest = one_slash n ns in
    let fair = all_clean (n ∷ ns) none in
    let both = and_parts (list_all (λ b. not (is_slash b)) n) (list_all (λ m. list_all (λ b. not (is_slash b)) m) ns) fair.0 in
    let no_nul : list_any is_nul rest ≡ false = ap (list_any is_nul) (sym is) ∙ fair.1 in
    let ps : slice_split is_slash rest ≡ n ∷ ns = pieces-joined n ns both.0 both.1 in
    let size : length (slice_split is_slash rest) ≡ length (s ∷ ss) = ap length ps ∙ length-map (s ∷ ss) decoded in
    let short : length_fault max_segments (length (slice_split is_slash rest)) ≡ None =
    ap (length_fault max_segments) size ∙ ap (λ v. cond v (Some ExceededMaximumLength) None) (le-ltb max_segments (length (s ∷ ss)) listed.short) in
    subst (λ p. uri_of_path p ≡ Ok (file_uri p)) (sym is)
    (uri_of_rooted rest no_nul ∙ ap (λ f. unless_fault (option_map errors.Path f) (file_uri (slash ∷ rest))) short)

pub path_has_uri : (u : Parts) (path : List ℕ) → IsListed u.path.segments → path_of_uri u ≡ Ok path → uri_of_path path ≡ Ok (file_uri path)
path_has_uri u path listed is =
    let got = of_ok _ (joined_names (names_of u.path.segments)) path is in
    let none = (none_none (parts_fault u) (names_fault (names_of u.path.segments)) got.0).1 in
    subst (λ p. uri_of_path p ≡ Ok (file_uri p)) (sym got.1) (names_path u.path.segments listed none)

-- ---- what a URI names, its own URI names

names_bytes : (ss : List (List ℕ)) → list_all is_segment ss ≡ true → are_bytes (joined_names (names_of ss)) ≡ true
names_bytes [] h = refl
names_bytes (s ∷ ss) h =
    let both = and_parts (is_segment s) (list_all is_segment ss) h in
    list_all-append (is_in_range 0 255) (slash ∷ decoded s) (joined_names (names_of ss))
    ∙ and_from _ _ (and_from _ _ refl (are_bytes-decoded class.Segment s both.0)) (names_bytes ss both.1)

pub named_bytes : (u : Parts) (path : List ℕ) → IsListed u.path.segments → path_of_uri u ≡ Ok path → are_bytes path ≡ true
named_bytes u path listed is =
    let got = of_ok _ (joined_names (names_of u.path.segments)) path is in
    ap are_bytes got.1 ∙ names_bytes u.path.segments listed.each

pub named_by_own : (u : Parts) (path : List ℕ) → IsListed u.path.segments → path_of_uri u ≡ Ok path → path_of_uri (file_uri path) ≡ Ok path
named_by_own u path listed is = named_again path (file_uri path) (named_bytes u path listed is) (path_has_uri u path listed is)

-- why the components around the path are rejected, as the answer of the URI
pub checked_err : (u : Parts) (e : FileError) → unless_fault {A = Unit {0}} (parts_fault u) tt ≡ Err e → path_of_uri u ≡ Err e
checked_err u e h = by_fault (parts_fault u) h
  where
    by_fault : (f : Option FileError) → unless_fault {A = Unit {0}} f tt ≡ Err e
        → unless_fault (option_or f (names_fault (names_of u.path.segments))) (joined_names (names_of u.path.segments)) ≡ Err e
    by_fault None h = absurd (cc)
    by_fault (Some x) h = let same : x ≡ e = cc in ap Err same

pub checked_ok : (u : Parts) (x : Unit {0}) → unless_fault {A = Unit {0}} (parts_fault u) tt ≡ Ok x → parts_fault u ≡ None
checked_ok u x h = by_fault (parts_fault u) h
  where
    by_fault : (f : Option FileError) → unless_fault {A = Unit {0}} f tt ≡ Ok x → f ≡ None
    by_fault None h = refl
    by_fault (Some e) h = absurd (cc)

-- a name's fault, as the answer of the URI
pub name_rejected : (u : Parts) (ss : List (List ℕ)) (i : ℕ) (s : List ℕ) (e : FileError) → parts_fault u ≡ None → ss ≡ u.path.segments → i < length ss → s ≡ get_or ss i s
    → names_fault (names_of (take i ss)) ≡ None → (name_fault (decoded s) ≡ Some e) ⊎ (e ≡ errors.Path OutOfMemory)
    → (path_of_uri u ≡ Err e) ⊎ (e ≡ errors.Path OutOfMemory)
name_rejected u ss i s e clear own below at so_far (inr memory) = inr memory
name_rejected u ss i s e clear own below at so_far (inl is) =
    let found = fault_found ss i s below at e so_far is in
    inl (path_checked u clear
    ∙ ap (λ f. unless_fault f (joined_names (names_of u.path.segments))) (ap (λ l. names_fault (names_of l)) (sym own) ∙ found))

pub named_next : (ss : List (List ℕ)) (i : ℕ) (s written more : List ℕ) → i < length ss → s ≡ get_or ss i s
    → (written ≡ joined_names (names_of (take i ss))) × (names_fault (names_of (take i ss)) ≡ None) → more ≡ written ++ slash ∷ decoded s → name_fault (decoded s) ≡ None
    → (more ≡ joined_names (names_of (take (i + 1) ss))) × (names_fault (names_of (take (i + 1) ss)) ≡ None)
named_next ss i s written more below at so_far wrote is =
    let next : suc i ≡ i + 1 = omega arith in
    subst (λ j. (more ≡ joined_names (names_of (take j ss))) × (names_fault (names_of (take j ss)) ≡ None)) next
    (joined_next ss i s below at written more so_far.0 wrote, none_next ss i s below at so_far.1 is)

-- ---- the URI is built

pub empty_authority : whole_reading [] ≡ Ok no_host
unfolding read_ipv4 read_octet read_number ipv4_reading is_unreserved is_sub_delim is_plain texts.fault tokens authority.reading
empty_authority = refl

pub local_built : (a : AuthorityParts) (p : PathParts) → a ≡ no_host
    → with_mapped_error map_error (of_parts (record { scheme = Some (Registered File); authority = Some a; path = p; query = None; fragment = None })) ≡ Ok (local_uri p.segments)
local_built a p is =
    ap (λ b. with_mapped_error map_error (of_parts (record { scheme = Some (Registered File); authority = Some b; path = p; query = None; fragment = None }))) is

-- ---- the tests of the components around the path

agree : (v w : Bool) → (v ≡ true → w ≡ true) → (w ≡ true → v ≡ true) → v ≡ w
agree true w f g = sym (f refl)
agree false true f g = g refl
agree false false f g = refl

pub file_means : (s : List ℕ) (r : Bool) → (IsTrue r ↔ (str_to_ascii_lowercase (codes "file") ≡ str_to_ascii_lowercase s)) → r ≡ bytes_eq (str_to_ascii_lowercase s) (codes "file")
file_means s r h =
    let test = bytes_eq-Decides (str_to_ascii_lowercase s) (codes "file") in
    agree r (bytes_eq (str_to_ascii_lowercase s) (codes "file")) (λ e. test.1 (sym (h.0 e))) (λ e. h.1 (sym (test.0 e)))

pub name_means : (t n : List ℕ) (r : Bool) → is_well_formed t ≡ true → canonical_lowered t ≡ t → (IsTrue r ↔ SpellsAlike case.Lowered t n) → r ≡ bytes_eq (canonical_lowered n) t
name_means t n r formed own h =
    let test = bytes_eq-Decides (canonical_lowered n) t in
    agree r (bytes_eq (canonical_lowered n) t) (λ e. test.1 (sym (h.0 e).same ∙ own))
    (λ e. h.1 (record { formed = formed; same = own ∙ sym (test.0 e) }))

pub empty_formed : (is_well_formed [] ≡ true) × (canonical_lowered [] ≡ [])
unfolding canonical_in tokens
empty_formed = (refl, refl)

pub localhost_formed : (is_well_formed (codes "localhost") ≡ true) × (canonical_lowered (codes "localhost") ≡ codes "localhost")
unfolding canonical_in tokens
localhost_formed = (refl, refl)

pub checks : (u : Parts) (a b c d e f g : Bool) → is_file u.scheme ≡ a → is_some (username_of u) ≡ b → is_local (host_of u) ≡ c → is_some (port_of u) ≡ d
    → u.path.absolute ≡ e → is_some u.query ≡ f → is_some u.fragment ≡ g
    → parts_fault u
    ≡ cond (not a) (Some errors.NotFile) (cond b (Some errors.HasUsername) (cond (not c) (Some errors.NotLocal) (cond d (Some errors.HasPort)
    (cond (not e) (Some errors.NotAbsolute) (cond f (Some errors.HasQuery) (cond g (Some errors.HasFragment) None))))))
checks u a b c d e f g ha hb hc hd he hf hg = rw (ha, hb, hc, hd, he, hf, hg) refl
