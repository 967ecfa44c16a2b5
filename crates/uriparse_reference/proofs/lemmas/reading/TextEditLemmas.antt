-- The text of a reference with another query or another fragment.
use Rattle.std.proofs.Common.{◌≡◌, ◌-◌, ◌+◌, ◌<◌, ◌≤◌, ℕ, List, ◌++◌, Option, None, Some, length, drop, take, refl, sym, ap, subst, ◌∙◌, append-nil, append_assoc, arith}
use Rattle.std.specs.Prelude.{IfSome, min}
use Rattle.std.specs.Option.{option_map}
use Rattle.std.specs.String.Boundary.{IsSplitPoint}
use Rattle.std.proofs.Math.Seq.{drop-append_seam, take-append_seam}
use Rattle.std.proofs.lemmas.List.{length-append}
use Rattle.uriparse_text.specs.declared.internal.token.Case.TheVariants.{Kept}
use Rattle.uriparse_text.specs.declared.internal.backward_buffer.Form.TheVariants.{AsIs}
use Rattle.uriparse_text.specs.Ends.{EndsWith, formed}
use Rattle.uriparse_text.specs.Starts.{most}
use Rattle.uriparse_text.specs.Bytes.{colon, question_mark, number_sign}
use Rattle.uriparse_text.specs.Cuts.{ahead, following, part}
use Rattle.uriparse_text.specs.Query.{IsQuery}
use Rattle.uriparse_text.specs.Fragment.{IsFragment}
use Rattle.uriparse_reference.specs.Cuts.{scheme_text, authority_text, path_text}
use Rattle.uriparse_reference.specs.OwnedText.{IsReference, viewed_in}
use Rattle.uriparse_reference.specs.Reference.{Parts, Spells, after_slashes, joined}
use Rattle.uriparse_reference.specs.TextEdits.{with_end, with_fragment, with_query}
use Rattle.uriparse_reference.specs.View.{Viewed}
use Rattle.uriparse_reference.proofs.lemmas.reading.AsciiLemmas.{IsAscii-spelled}
use Rattle.uriparse_reference.proofs.lemmas.reading.CutLemmas.{IsCutInto, cut_again, tail}
use Rattle.uriparse_reference.proofs.lemmas.reading.OwnedTextLemmas.{stands, viewed_stands}
use Rattle.uriparse_reference.proofs.lemmas.reading.ReadingLemmas.{spelled_pieces}
use Rattle.uriparse_reference.proofs.lemmas.writing.EndLemmas.{as_is}

pub own_cut : (t : List ℕ) (p : Parts) (s : Spells t p) → IsCutInto t s.scheme_text s.authority_text s.path_text p.query p.fragment
own_cut t p s = cut_again t s.scheme_text s.authority_text s.path_text p.query p.fragment (spelled_pieces t p s) s.whole

joined_again : (t : List ℕ) (x y : Option (List ℕ)) (h : List ℕ) (q f : Option (List ℕ)) → scheme_text t ≡ x → authority_text t ≡ y → path_text t ≡ h
    → with_end t q f ≡ joined x y h q f
unfolding with_end
joined_again t x y h q f d e g =
    ap (λ o. joined o (authority_text t) (path_text t) q f) d ∙ ap (λ o. joined x o (path_text t) q f) e ∙ ap (λ u. joined x y u q f) g

-- ---- what it spells

pub end_set : (t : List ℕ) (p : Parts) → Spells t p → (q f : Option (List ℕ)) → IfSome q IsQuery → IfSome f IsFragment
    → Spells (with_end t q f) (record p { query = q; fragment = f })
end_set t p s q f is_query is_fragment =
    let cut = own_cut t p s in
    record {
      scheme_text = s.scheme_text;
      authority_text = s.authority_text;
      path_text = s.path_text;
      whole = joined_again t s.scheme_text s.authority_text s.path_text q f cut.scheme cut.authority cut.path;
      is_scheme = s.is_scheme;
      is_authority = s.is_authority;
      is_path = s.is_path;
      abempty = s.abempty;
      fit = s.fit;
      is_query = is_query;
      is_fragment = is_fragment;
      path = s.path;
    }

pub query_set : (t : List ℕ) (p : Parts) → Spells t p → (q : Option (List ℕ)) → IfSome q IsQuery → Spells (with_query t q) (record p { query = q })
query_set t p s q is =
    let cut = own_cut t p s in
    subst (λ f. Spells (with_end t q f) (record p { query = q })) (sym cut.fragment) (end_set t p s q p.fragment is s.is_fragment)

pub fragment_set : (t : List ℕ) (p : Parts) → Spells t p → (f : Option (List ℕ)) → IfSome f IsFragment
    → Spells (with_fragment t f) (record p { fragment = f })
fragment_set t p s f is =
    let cut = own_cut t p s in
    subst (λ q. Spells (with_end t q f) (record p { fragment = f })) (sym cut.query) (end_set t p s p.query f s.is_query is)

-- ---- where the query and the fragment begin

pub then_end : (t : List ℕ) (q f : Option (List ℕ)) → with_end t None None ++ tail q f ≡ with_end t q f
unfolding with_end
then_end t q f =
    let x = ahead colon (scheme_text t) in
    let y = after_slashes (authority_text t) in
    let h = path_text t in
    ap (λ u. (x ++ (y ++ u)) ++ tail q f) (append-nil h) ∙ append_assoc x (y ++ h) (tail q f) ∙ ap (λ u. x ++ u) (append_assoc y h (tail q f))

pub then_fragment : (t : List ℕ) (q f : Option (List ℕ)) → with_end t q None ++ following number_sign f ≡ with_end t q f
then_fragment t q f =
    ap (λ u. u ++ following number_sign f) (sym (then_end t q None) ∙ ap (λ u. with_end t None None ++ u) (append-nil (following question_mark q)))
    ∙ append_assoc (with_end t None None) (following question_mark q) (following number_sign f) ∙ then_end t q f

-- the text of a reference ends with its own query and fragment
pub own_end : (t : List ℕ) (p : Parts) → Spells t p → with_end t p.query p.fragment ≡ t
own_end t p s =
    let cut = own_cut t p s in
    joined_again t s.scheme_text s.authority_text s.path_text p.query p.fragment cut.scheme cut.authority cut.path ∙ sym s.whole

cut_after : (x y t : List ℕ) (n : ℕ) → x ++ y ≡ t → n ≡ length y → take (length t - n) t ≡ x
cut_after x y t n whole e =
    let sum : length t ≡ length x + length y = ap length (sym whole) ∙ length-append x y in
    let at : length t - n ≡ length x = omega (arith, sum, e) in
    ap (λ k. take k t) at ∙ ap (take (length x)) (sym whole) ∙ take-append_seam x y

pub front_is : (t : List ℕ) (p : Parts) → Spells t p → (n : ℕ) → n ≡ length (tail p.query p.fragment) → take (length t - n) t ≡ with_end t None None
front_is t p s n e = cut_after (with_end t None None) (tail p.query p.fragment) t n (then_end t p.query p.fragment ∙ own_end t p s) e

pub before_fragment : (t : List ℕ) (p : Parts) → Spells t p → (n : ℕ) → n ≡ length (following number_sign p.fragment)
    → take (length t - n) t ≡ with_fragment t None
before_fragment t p s n e =
    let cut = own_cut t p s in
    cut_after (with_end t p.query None) (following number_sign p.fragment) t n (then_fragment t p.query p.fragment ∙ own_end t p s) e
    ∙ ap (λ q. with_end t q None) (sym cut.query)

-- the query follows what precedes it and its delimiter
pub query_part : (t x y : List ℕ) (p : Parts) → Spells t p → x ≡ with_end t None None → y ≡ with_fragment t None → part (drop (length x) y) ≡ p.query
query_part t x y p s i j =
    let cut = own_cut t p s in
    ap (λ u. part (drop (length u) y)) i
    ∙ ap (λ u. part (drop (length (with_end t None None)) u)) (j ∙ ap (λ q. with_end t q None) cut.query ∙ sym (then_end t p.query None))
    ∙ ap part (drop-append_seam (with_end t None None) (tail p.query None))
    ∙ ap part (append-nil (following question_mark p.query)) ∙ part_following p.query
  where
    part_following : (o : Option (List ℕ)) → part (following question_mark o) ≡ o
    part_following None = refl
    part_following (Some q) = refl

-- ---- what is put at the end of a buffer

-- a query and a fragment as they are put, without a change
abbrev put_tail : Option (List ℕ) → Option (List ℕ) → List ℕ
put_tail q f = following question_mark (option_map (formed AsIs Kept) q) ++ following number_sign (option_map (formed AsIs Kept) f)

put_tail_is : (q f x y : Option (List ℕ)) → q ≡ x → f ≡ y → put_tail q f ≡ tail x y
put_tail_is q f x y e g =
    ap (λ o. following question_mark o ++ following number_sign (option_map (formed AsIs Kept) f)) (as_is q ∙ e)
    ∙ ap (λ o. following question_mark x ++ following number_sign o) (as_is f ∙ g)

pub put_whole : (t x : List ℕ) (q f : Option (List ℕ)) → x ≡ with_end t None None → x ++ put_tail q f ≡ with_end t q f
put_whole t x q f e = ap (λ u. u ++ put_tail q f) e ∙ ap (λ u. with_end t None None ++ u) (put_tail_is q f q f refl refl) ∙ then_end t q f

counted : (x y t buffer : List ℕ) (n : ℕ) (z : List ℕ) → x ++ y ≡ t → z ≡ y → EndsWith buffer n z → length t < most → n ≡ length y
counted x y t buffer n z whole e h small =
    let sum : length t ≡ length x + length y = ap length (sym whole) ∙ length-append x y in
    let size : n ≡ min (length y) most = h.size ∙ ap (λ u. min (length u) most) e in
    grind arith

within : (x y t : List ℕ) (n : ℕ) → x ++ y ≡ t → n ≡ length y → n ≤ length t
within x y t n whole e = let sum : length t ≡ length x + length y = ap length (sym whole) ∙ length-append x y in omega (arith, sum, e)

-- the front of a text is what precedes so many bytes
pub front_cut : (t : List ℕ) (p : Parts) → Spells t p → (q f : Option (List ℕ)) → q ≡ p.query → f ≡ p.fragment → (buffer : List ℕ) (n : ℕ)
    → EndsWith buffer n (put_tail q f) → length t < most → (n ≤ length t) × (take (length t - n) t ≡ with_end t None None)
front_cut t p s q f e g buffer n h small =
    let whole = then_end t p.query p.fragment ∙ own_end t p s in
    let same = counted (with_end t None None) (tail p.query p.fragment) t buffer n (put_tail q f) whole (put_tail_is q f p.query p.fragment e g) h small in
    (within (with_end t None None) (tail p.query p.fragment) t n whole same, front_is t p s n same)

pub fragment_cut : (t : List ℕ) (p : Parts) → Spells t p → (f : Option (List ℕ)) → f ≡ p.fragment → (buffer : List ℕ) (n : ℕ)
    → EndsWith buffer n (put_tail None f) → length t < most → (n ≤ length t) × (take (length t - n) t ≡ with_fragment t None)
fragment_cut t p s f g buffer n h small =
    let whole = then_fragment t p.query p.fragment ∙ own_end t p s in
    let same = counted (with_end t p.query None) (following number_sign p.fragment) t buffer n (put_tail None f) whole (put_tail_is None f None p.fragment refl g) h small in
    (within (with_end t p.query None) (following number_sign p.fragment) t n whole same, before_fragment t p s n same)

-- ---- the text that is made

pub query_end : (t : List ℕ) (p : Parts) → Spells t p → (q f : Option (List ℕ)) → f ≡ p.fragment → with_end t q f ≡ with_query t q
query_end t p s q f e = let cut = own_cut t p s in ap (λ o. with_end t q o) (e ∙ sym cut.fragment)

pub fragment_end : (t : List ℕ) (p : Parts) → Spells t p → (q f : Option (List ℕ)) → q ≡ p.query → with_end t q f ≡ with_fragment t f
fragment_end t p s q f e = let cut = own_cut t p s in ap (λ o. with_end t o f) (e ∙ sym cut.query)

pub made_stands : (t u : List ℕ) (p : Parts) → Spells u p → t ≡ u → IsReference t × (viewed_in t ≡ record { text = u; parts = p })
made_stands t u p s e = (subst IsReference (sym e) (stands u p s).0, ap viewed_in e ∙ viewed_stands u p s)

-- a text that spells a reference may be cut at each byte
pub split_point : (t : List ℕ) (p : Parts) → Spells t p → (n : ℕ) → n ≤ length t → IsSplitPoint t n
split_point t p s n within = (within, λ some before high. let low = IsAscii-spelled t p s n in omega (arith, low, high))

-- ---- a text that is cut in place: as it is kept (u), as it is viewed (a), and as contracts see it (w)

module _ (u a w : Viewed) (is_kept : u ≡ w) (is_viewed : a ≡ w) (spelled : Spells w.text w.parts) (n : ℕ) where
  pub cut_point : n ≤ length a.text → IsSplitPoint u.text n
  cut_point short =
      split_point u.text u.parts (subst (λ (v : Viewed). Spells v.text v.parts) (sym is_kept) spelled) n
      (subst (λ (v : Viewed). n ≤ length v.text) (is_viewed ∙ sym is_kept) short)

  pub cut_stands : (x : List ℕ) → x ≡ take n u.text → take n a.text ≡ with_fragment a.text None
      → IsReference x × (viewed_in x ≡ record { text = with_fragment w.text None; parts = record w.parts { fragment = None } })
  cut_stands x taken ends =
      made_stands x (with_fragment w.text None) (record w.parts { fragment = None }) (fragment_set w.text w.parts spelled None tt)
      (taken ∙ ap (λ (v : Viewed). take n v.text) (is_kept ∙ sym is_viewed) ∙ ends ∙ ap (λ (v : Viewed). with_fragment v.text None) is_viewed)
