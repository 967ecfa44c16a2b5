-- Names in place keys: walks over their texts, label by label.
use Rattle.std.proofs.Common.{◌≡◌, ℕ, ◌-◌, Bool, true, false, cond, not, List, [], ◌∷◌, ◌++◌, length, length-append, map, take, drop, flat_map, get_or, refl, sym, ap, ◌∙◌, subst, arith, append_assoc, append-nil, Option}
use Rattle.std.specs.Prelude.{◌&&◌}
use Rattle.std.specs.List.{list_all}
use Rattle.std.specs.Option.{option_map}
use Rattle.std.proofs.lemmas.Bool.{and_from, and_parts}
use Rattle.std.proofs.lemmas.Grind.{flat_map-append}
use Rattle.std.proofs.lemmas.List.{map-append, reverse-append}
use Rattle.std.proofs.lemmas.List.Folds.{list_all-append}
use Rattle.std.proofs.Math.Seq.{take-append_seam}
use Rattle.uriparse_text.specs.declared.internal.token.Token.TheVariants.{Byte, Escape}
use Rattle.uriparse_text.specs.declared.internal.token.Case.TheVariants.{Lowered}
use Rattle.uriparse_text.specs.Bytes.{dot, percent}
use Rattle.uriparse_text.specs.Canonical.{canonical, canonical_in, canonical_lowered, canonical_token}
use Rattle.uriparse_text.specs.Ends.{EndsWith, Puts}
use Rattle.uriparse_text.specs.Tokens.{is_escape, is_token, is_well_formed, spell, tokens}
use Rattle.uriparse_text.proofs.lemmas.canonical.CanonicalLemmas.{canonical_in-append, canonical_in-cons, canonical_in-nil}
use Rattle.uriparse_text.proofs.lemmas.tokens.TokenLemmas.{escape_at, tokens-byte, tokens-escape, tokens-nil, well_formed-append}
use Rattle.uriparse_authority.specs.Authority.{AuthorityParts, with_port}
use Rattle.uriparse_authority.specs.Within as hosts
use Rattle.uriparse_authority.specs.Within.{BeginsWithOctet, HasOctet}
use Rattle.uriparse_authority.specs.declared.authority.host.Host.{Host}
use Rattle.uriparse_authority.proofs.lemmas.hosts.EndDotLemmas.{IsBeforeDot, escape-end}
use Rattle.uriparse_authority.proofs.lemmas.hosts.WithinLemmas.{LacksDot, octet-byte, pieces, pieces-dot, pieces-front}
use Rattle.uriparse.specs.PlaceKey.{BeginsWithToken, are_labels, ends_with_dot, has_labels, end_of, host_prefix, name_prefix, place_authority, place_host, reversed_labels}
use Rattle.uriparse.specs.SortKey.{digits, ended, optional}
use Rattle.uriparse.proofs.lemmas.PlaceHostLemmas.{with_dot}

-- ---- the first token of a text

formed-nil : is_well_formed [] ≡ true
formed-nil = ap (list_all is_token) tokens-nil

pub token-escape : (b : ℕ) (after rest : List ℕ) (octet : ℕ) → is_escape b after ≡ true → drop 2 after ≡ rest
    → HasOctet octet (spell (canonical_token Lowered (Escape (get_or after 0 0) (get_or after 1 0)))) → BeginsWithToken octet (b ∷ after) rest
token-escape b after rest octet is e has =
    let place = escape_at b after is in
    let high = get_or after 0 0 in
    let low = get_or after 1 0 in
    let front = percent ∷ high ∷ low ∷ [] in
    let cut : tokens front ≡ Escape high low ∷ tokens [] = tokens-escape percent (high ∷ low ∷ []) place.digits in
    record {
      front = front;
      whole = place.whole ∙ ap (λ t. percent ∷ high ∷ low ∷ t) e;
      formed = ap (list_all is_token) cut ∙ and_from _ _ place.digits formed-nil;
      has = subst (HasOctet octet) (sym (canonical_in-cons Lowered front [] (Escape high low) cut
          ∙ ap (λ u. spell (canonical_token Lowered (Escape high low)) ++ u) (canonical_in-nil Lowered) ∙ append-nil _)) has;
    }

pub token-plain : (b : ℕ) (after : List ℕ) → is_escape b after ≡ false → is_well_formed (b ∷ after) ≡ true → BeginsWithToken b (b ∷ after) after
token-plain b after is formed =
    let cut : tokens (b ∷ []) ≡ Byte b ∷ tokens [] = tokens-byte b [] refl in
    let first = (and_parts (is_token (Byte b)) _ (sym (ap (list_all is_token) (tokens-byte b after is)) ∙ formed)).0 in
    record {
      front = b ∷ [];
      whole = refl;
      formed = ap (list_all is_token) cut ∙ and_from _ _ first formed-nil;
      has = subst (HasOctet b) (sym (canonical_in-cons Lowered (b ∷ []) [] (Byte b) cut
          ∙ ap (λ u. spell (canonical_token Lowered (Byte b)) ++ u) (canonical_in-nil Lowered) ∙ append-nil _)) (octet-byte b);
    }

-- ---- a label

-- what precedes the rest of a text: tokens, none of which is a dot
pub record IsTaken (text rest : List ℕ) : Type 0 where
  pub taken : List ℕ
  pub whole : text ≡ taken ++ rest
  pub formed : is_well_formed taken ≡ true
  pub lacks : LacksDot (canonical_lowered taken)

pub taken_none : (text : List ℕ) → IsTaken text text
taken_none text = record {
  taken = [];
  whole = refl;
  formed = formed-nil;
  lacks = ap (λ t. list_all (λ b. not (hosts.is_dot b)) t) (canonical_in-nil Lowered);
}

pub taken_more : (text rest after : List ℕ) (octet : ℕ) → IsTaken text rest → BeginsWithToken octet rest after → hosts.is_dot octet ≡ false → IsTaken text after
taken_more text rest after octet is token other = record {
  taken = is.taken ++ token.front;
  whole = is.whole ∙ ap (λ t. is.taken ++ t) token.whole ∙ sym (append_assoc is.taken token.front after);
  formed = well_formed-append is.taken token.front is.formed token.formed;
  lacks = ap (list_all (λ b. not (hosts.is_dot b))) (canonical_in-append Lowered is.taken token.front is.formed)
      ∙ list_all-append (λ b. not (hosts.is_dot b)) (canonical_lowered is.taken) (canonical_lowered token.front)
      ∙ and_from _ _ is.lacks (token.has.others other);
}

taken_text : (text rest : List ℕ) (is : IsTaken text rest) → take (length text - length rest) text ≡ is.taken
taken_text text rest is =
    let size : length text - length rest ≡ length is.taken = omega (arith, ap length is.whole, length-append is.taken rest) in
    ap (λ n. take n text) size ∙ ap (take (length is.taken)) is.whole ∙ take-append_seam is.taken rest

pub label_cut : (text rest after : List ℕ) (octet : ℕ) → IsTaken text rest → BeginsWithOctet octet rest after → hosts.is_dot octet ≡ true
    → pieces (canonical_lowered text) ≡ canonical_lowered (take (length text - length rest) text) ∷ pieces (canonical_lowered after)
label_cut text rest after octet is begins found =
    ap (λ t. pieces (canonical_lowered t)) is.whole
    ∙ ap pieces (canonical_in-append Lowered is.taken rest is.formed)
    ∙ pieces-front (canonical_lowered is.taken) (canonical_lowered rest) [] (pieces (canonical_lowered after)) is.lacks (pieces-dot octet rest after begins found)
    ∙ ap (λ t. t ∷ pieces (canonical_lowered after)) (append-nil (canonical_lowered is.taken) ∙ ap canonical_lowered (sym (taken_text text rest is)))

pub label_alone : (text rest : List ℕ) → IsTaken text rest → rest ≡ [] → pieces (canonical_lowered text) ≡ canonical_lowered text ∷ []
label_alone text rest is e =
    let same : canonical_lowered text ≡ canonical_lowered is.taken =
    ap canonical_lowered (is.whole ∙ ap (λ t. is.taken ++ t) e ∙ append-nil is.taken) in
    ap pieces (same ∙ sym (append-nil _))
    ∙ pieces-front (canonical_lowered is.taken) [] [] [] is.lacks refl
    ∙ ap (λ t. t ∷ []) (append-nil (canonical_lowered is.taken) ∙ sym same)

-- ---- the dot at the end

dot_after : (s : List ℕ) → ends_with_dot (s ++ dot ∷ []) ≡ true
dot_after [] = refl
dot_after (a ∷ []) = refl
dot_after (a ∷ b ∷ s) = dot_after (b ∷ s)

pub ends-before : (front t : List ℕ) → IsBeforeDot front t → true ≡ ends_with_dot (canonical_lowered t)
unfolding canonical_in
ends-before front t is =
    let whole : canonical_lowered t ≡ canonical_lowered front ++ dot ∷ [] =
    ap (λ ts. flat_map spell (map (canonical_token Lowered) ts)) is.cut
    ∙ ap (flat_map spell) (map-append (canonical_token Lowered) (tokens front) (is.last ∷ []))
    ∙ flat_map-append spell (map (canonical_token Lowered) (tokens front)) (canonical_token Lowered is.last ∷ [])
    ∙ ap (λ x. canonical_lowered front ++ (spell x ++ [])) is.spelled in
    sym (ap ends_with_dot whole ∙ dot_after (canonical_lowered front))

pub ends-kept : (t : List ℕ) → t ≡ hosts.without_end_dot t → false ≡ ends_with_dot t
ends-kept t e = by_dot (ends_with_dot t) refl
  where
    by_dot : (v : Bool) → ends_with_dot t ≡ v → false ≡ v
    by_dot false k = refl
    by_dot true k =
        let sizes = ap length (with_dot t k) ∙ length-append (hosts.without_end_dot t) (dot ∷ []) in
        let same = ap length e in
        absurd (omega (arith, sizes, same))

-- ---- which names have labels

pub labels_without : (t u : List ℕ) → u ≡ hosts.without_end_dot t → are_labels u ≡ has_labels t
labels_without t u e =
    ap are_labels e
    ∙ ap (λ v. not (hosts.has_empty_label t) && (not v && not (hosts.is_address (hosts.without_end_dot t)))) (escape-end t)

-- ---- labels from the last one on

pub reversed-push : (fronts : List (List ℕ)) (x : List ℕ) → reversed_labels (fronts ++ x ∷ []) ≡ ended x ++ reversed_labels fronts
reversed-push fronts x = ap (flat_map ended) (reverse-append fronts (x ∷ []))

-- the labels before the rest of a text are put in front of what the buffer ended with
pub record ArePut (text rest old : List ℕ) (len : ℕ) (new : List ℕ) (total : ℕ) : Type 0 where
  pub fronts : List (List ℕ)
  pub whole : pieces (canonical_lowered text) ≡ fronts ++ pieces (canonical_lowered rest)
  pub puts : Puts (reversed_labels fronts) old len new total

pub put_none : (text old : List ℕ) (len : ℕ) → ArePut text text old len old len
put_none text old len = record { fronts = []; whole = refl; puts = λ t h. h }

put_more : (fronts : List (List ℕ)) (x t : List ℕ) → ended x ++ (reversed_labels fronts ++ t) ≡ reversed_labels (fronts ++ x ∷ []) ++ t
put_more fronts x t = sym (append_assoc (ended x) (reversed_labels fronts) t) ∙ ap (λ u. u ++ t) (sym (reversed-push fronts x))

pub put_label : (text rest after label old new more : List ℕ) (len total last : ℕ) → ArePut text rest old len new total
    → pieces (canonical_lowered rest) ≡ canonical_lowered label ∷ pieces (canonical_lowered after) → Puts (ended (canonical_lowered label)) new total more last
    → ArePut text after old len more last
put_label text rest after label old new more len total last is e puts = record {
  fronts = is.fronts ++ canonical_lowered label ∷ [];
  whole = is.whole ∙ ap (λ ls. is.fronts ++ ls) e ∙ sym (append_assoc is.fronts (canonical_lowered label ∷ []) (pieces (canonical_lowered after)));
  puts = λ t h. subst (EndsWith more last) (put_more is.fronts (canonical_lowered label) t) (puts _ (is.puts t h));
}

pub put_last : (text rest old new more : List ℕ) (len total last : ℕ) → ArePut text rest old len new total
    → pieces (canonical_lowered rest) ≡ canonical_lowered rest ∷ [] → Puts (ended (canonical_lowered rest)) new total more last
    → Puts (reversed_labels (pieces (canonical_lowered text))) old len more last
put_last text rest old new more len total last is e puts = λ t h.
    subst (EndsWith more last) (put_more is.fronts (canonical_lowered rest) t ∙ ap (λ ls. reversed_labels ls ++ t) (sym (is.whole ∙ ap (λ ls. is.fronts ++ ls) e)))
    (puts _ (is.puts t h))

-- ---- the prefix of a name

pub name_of_labels : (name front t : List ℕ) → front ≡ hosts.without_end_dot name → has_labels name ≡ true
    → 49 ∷ (reversed_labels (pieces front) ++ t) ≡ name_prefix name ++ t
name_of_labels name front t e h =
    ap (λ u. 49 ∷ (reversed_labels (pieces u) ++ t)) e
    ∙ sym (ap (λ v. cond v (49 ∷ reversed_labels (hosts.labels name)) (50 ∷ ended name) ++ t) h)

pub name_whole : (name t : List ℕ) → has_labels name ≡ false → 50 ∷ (ended name ++ t) ≡ name_prefix name ++ t
name_whole name t h = sym (ap (λ v. cond v (49 ∷ reversed_labels (hosts.labels name)) (50 ∷ ended name) ++ t) h)

-- ---- an authority, put together from its end

pub place_put : (a : AuthorityParts) (n : Option ℕ) (g h : Host) (b : ℕ) (u w : Option (List ℕ)) (t : List ℕ)
    → g ≡ a.host → b ≡ end_of h → h ≡ a.host → u ≡ a.username → w ≡ a.password
    → host_prefix g ++ (b ∷ (optional (digits 10 5) n ++ (optional ended (option_map canonical u) ++ (optional ended (option_map canonical w) ++ t))))
    ≡ place_authority (with_port a n) ++ t
place_put a n g h b u w t e f i j k =
    let port = optional (digits 10 5) n in
    let user = optional ended (option_map canonical a.username) in
    let word = optional ended (option_map canonical a.password) in
    ap (λ x. host_prefix x ++ (b ∷ (port ++ (optional ended (option_map canonical u) ++ (optional ended (option_map canonical w) ++ t))))) e
    ∙ ap (λ x. host_prefix a.host ++ (x ∷ (port ++ (optional ended (option_map canonical u) ++ (optional ended (option_map canonical w) ++ t))))) (f ∙ ap end_of i)
    ∙ ap (λ x. host_prefix a.host ++ (end_of a.host ∷ (port ++ (optional ended (option_map canonical x) ++ (optional ended (option_map canonical w) ++ t))))) j
    ∙ ap (λ x. host_prefix a.host ++ (end_of a.host ∷ (port ++ (user ++ (optional ended (option_map canonical x) ++ t))))) k
    ∙ sym (append_assoc (place_host a.host) (port ++ (user ++ word)) t
    ∙ append_assoc (host_prefix a.host) (end_of a.host ∷ []) ((port ++ (user ++ word)) ++ t)
    ∙ ap (λ x. host_prefix a.host ++ end_of a.host ∷ x) (append_assoc port (user ++ word) t)
    ∙ ap (λ x. host_prefix a.host ++ end_of a.host ∷ (port ++ x)) (append_assoc user word t))
