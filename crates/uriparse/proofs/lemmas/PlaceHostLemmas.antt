-- Hosts in place keys: which domains a host is within.
use Rattle.std.proofs.Common.{◌≡◌, ℕ, ◌<◌, ◌≤◌, Bool, true, false, cond, List, [], ◌∷◌, ◌++◌, reverse, None, refl, sym, ap, ◌∙◌, append_assoc, append-nil, arith, inl, inr}
use Rattle.std.specs.Prelude.{◌^◌, not, nat_lt}
use Rattle.std.specs.Cmp.Lexicographic.{slice_cmp}
use Rattle.std.specs.List.{flat_map, list_all, list_any}
use Rattle.std.specs.Ordering.{nat_cmp}
use Rattle.std.proofs.lemmas.Bool.{and_from, and_parts, false≢true, or_parts}
use Rattle.std.proofs.lemmas.Bool.Decides.{nat_tests}
use Rattle.std.proofs.lemmas.Grind.{flat_map-append}
use Rattle.std.proofs.lemmas.List.{reverse-append}
use Rattle.std.proofs.lemmas.List.Folds.{list_any-append}
use Rattle.uriparse_text.specs.declared.internal.class.Class.TheVariants as class
use Rattle.uriparse_text.specs.declared.internal.token.Case.TheVariants as case
use Rattle.uriparse_text.specs.Address.{IsOctets, IsSegments}
use Rattle.uriparse_text.specs.Bytes.{dot, is_hex, is_sub_delim, is_unreserved}
use Rattle.uriparse_text.specs.Canonical.{canonical_lowered}
use Rattle.uriparse_text.specs.Classes.{is_plain}
use Rattle.uriparse_text.specs.declared.internal.class.Class.{Class}
use Rattle.uriparse_text.specs.Faults.{IsIn}
use Rattle.uriparse_text.proofs.lemmas.classes.ClassLemmas.{IsIn-canonical_in, bytes-in_class}
use Rattle.uriparse_text.proofs.lemmas.readings.CutLemmas.{weaker}
use Rattle.uriparse_authority.specs.Authority as authority
use Rattle.uriparse_authority.specs.Authority.{AuthorityParts}
use Rattle.uriparse_authority.specs.Future.{is_future_byte}
use Rattle.uriparse_authority.specs.Host as host
use Rattle.uriparse_authority.specs.Order as order
use Rattle.uriparse_authority.specs.Order.{host_rank}
use Rattle.uriparse_authority.specs.Within as hosts
use Rattle.uriparse_authority.specs.declared.authority.host.Host.{Host}
use Rattle.uriparse_authority.specs.declared.authority.host.Host.TheVariants.{IPv4Address, IPv6Address, IPvFuture, RegisteredName}
use Rattle.uriparse_authority.proofs.lemmas.authorities.OrderLemmas.{rank_key, same_lists}
use Rattle.uriparse_authority.proofs.lemmas.hosts.FutureLemmas.{IsFuture-bytes, IsFuture-canonical_lowered}
use Rattle.uriparse_authority.proofs.lemmas.hosts.HostLemmas.{same_host}
use Rattle.uriparse_authority.proofs.lemmas.hosts.WithinLemmas.{pieces-injective}
use Rattle.uriparse.specs.PlaceKey.{BeginsWith, dot_end, end_of, ends_with_dot, has_labels, host_end, host_prefix, name_prefix, place_host, reversed_labels}
use Rattle.uriparse.specs.SortKey.{digits, end, ended}
use Rattle.uriparse.proofs.lemmas.PlaceListLemmas.{AreAll, AreAllHigh, AreHigh, carried, ended-before, ended_split, first, pieces_all, reversed_all, reversed_begins, reversed_same, row_begins, row_same, same_first, same_rest}
use Rattle.uriparse.proofs.lemmas.SortLemmas.{AreBelow, lists_carry}

-- ---- the bytes of canonical spellings

class_high : (c : Class) (b : ℕ) → is_plain c b ≡ true → nat_lt dot_end b ≡ true
unfolding is_plain is_unreserved is_sub_delim
class_high class.Name b h = grind (arith, nat_tests)
class_high class.UserInfo b h = grind (arith, nat_tests)
class_high class.Segment b h = grind (arith, nat_tests)
class_high class.Query b h = grind (arith, nat_tests)

hex_high : (b : ℕ) → is_hex b ≡ true → nat_lt dot_end b ≡ true
hex_high b h = grind (arith, nat_tests)

pub high-in_class : (c : Class) (t : List ℕ) → IsIn c t → AreHigh t
high-in_class c t h = bytes-in_class c (λ b. nat_lt dot_end b) (class_high c) refl hex_high t h

future_high : (b : ℕ) → is_future_byte b ≡ true → nat_lt dot_end b ≡ true
unfolding is_unreserved is_sub_delim
future_high b h = grind (arith, nat_tests)

name_is_high : (n : List ℕ) → host.Valid (RegisteredName n) → AreHigh (canonical_lowered n)
name_is_high n is = high-in_class class.Name (canonical_lowered n) (IsIn-canonical_in class.Name case.Lowered n is)

future_is_high : (f : List ℕ) → host.Valid (IPvFuture f) → AreHigh (canonical_lowered f)
future_is_high f is = weaker is_future_byte (λ b. nat_lt dot_end b) future_high (canonical_lowered f) (IsFuture-bytes (canonical_lowered f) (IsFuture-canonical_lowered f is))

-- ---- the dot at the end

pub without_all : (p : ℕ → Bool) (t : List ℕ) → list_all p t ≡ true → list_all p (hosts.without_end_dot t) ≡ true
without_all p [] h = refl
without_all p (b ∷ []) h = by_dot (hosts.is_dot b)
  where
    by_dot : (v : Bool) → list_all p (cond v [] (b ∷ [])) ≡ true
    by_dot true = refl
    by_dot false = h
without_all p (b ∷ c ∷ t) h = let both = and_parts (p b) _ h in and_from _ _ both.0 (without_all p (c ∷ t) both.1)

is_46 : (b : ℕ) → hosts.is_dot b ≡ true → b ≡ dot
is_46 b h = grind (arith, nat_tests)

pub with_dot : (t : List ℕ) → ends_with_dot t ≡ true → t ≡ hosts.without_end_dot t ++ dot ∷ []
with_dot [] e = absurd (false≢true e)
with_dot (b ∷ []) e = ap (λ x. x ∷ []) (is_46 b e) ∙ ap (λ v. cond v [] (b ∷ []) ++ dot ∷ []) (sym e)
with_dot (b ∷ c ∷ t) e = ap (λ l. b ∷ l) (with_dot (c ∷ t) e)

pub without_dot : (t : List ℕ) → ends_with_dot t ≡ false → t ≡ hosts.without_end_dot t
without_dot [] e = refl
without_dot (b ∷ []) e = ap (λ v. cond v [] (b ∷ [])) (sym e)
without_dot (b ∷ c ∷ t) e = ap (λ l. b ∷ l) (without_dot (c ∷ t) e)

-- a text is known by what precedes the dot at its end and whether there is one
one_end : (t u : List ℕ) → hosts.without_end_dot t ≡ hosts.without_end_dot u → ends_with_dot t ≡ ends_with_dot u → t ≡ u
one_end t u e f = by_dot (ends_with_dot u) refl
  where
    by_dot : (v : Bool) → ends_with_dot u ≡ v → t ≡ u
    by_dot true k = with_dot t (f ∙ k) ∙ ap (λ l. l ++ dot ∷ []) e ∙ sym (with_dot u k)
    by_dot false k = without_dot t (f ∙ k) ∙ e ∙ sym (without_dot u k)

one_end_byte : (v w : Bool) → cond v dot_end host_end ≡ cond w dot_end host_end → v ≡ w
one_end_byte true true e = refl
one_end_byte true false e = absurd (omega (arith, e))
one_end_byte false true e = absurd (omega (arith, e))
one_end_byte false false e = refl

pub end_range : (v : Bool) → (end < cond v dot_end host_end) × (cond v dot_end host_end ≤ dot_end)
end_range true = (omega arith, omega arith)
end_range false = (omega arith, omega arith)

-- ---- hosts, by what they are ordered by

pub rank_of_key : (g h : Host) → host.Valid g → host.Valid h → host.key g ≡ host.key h → host_rank g ≡ host_rank h
rank_of_key g h v w e =
    let both = (same_host g h).0 e in
    let keys : authority.key (alone g) ≡ authority.key (alone h) =
    ap (λ k. host.kind_code k ∷ (host.canonical_text g ++ [])) both.1 ∙ ap (λ t. host.kind_code (host.kind h) ∷ (t ++ [])) both.0 in
    ap (λ (r : order.Rank). r.host) (sym (rank_key (alone g) (valid g v)) ∙ ap order.rank_in keys ∙ rank_key (alone h) (valid h w))
  where
    alone : Host → AuthorityParts
    alone x = record { username = None; password = None; host = x; port = None }

    valid : (x : Host) → host.Valid x → authority.Valid (alone x)
    valid x v = record { is_username = tt; is_password = tt; paired = tt; is_host = v; is_port = tt }

pub place_of_rank : (g h : Host) → host_rank g ≡ host_rank h → (host_prefix g ≡ host_prefix h) × (end_of g ≡ end_of h)
place_of_rank (IPv4Address a) (IPv4Address b) e = let same : a ≡ b = cc in (ap (λ x. host_prefix (IPv4Address x)) same, refl)
place_of_rank (IPv6Address a) (IPv6Address b) e = let same : a ≡ b = cc in (ap (λ x. host_prefix (IPv6Address x)) same, refl)
place_of_rank (IPvFuture f) (IPvFuture g) e =
    let same : canonical_lowered f ≡ canonical_lowered g = cc in (ap (λ t. 55 ∷ ended t) same, refl)
place_of_rank (RegisteredName m) (RegisteredName n) e =
    let same : canonical_lowered m ≡ canonical_lowered n = cc in (ap name_prefix same, ap (λ t. cond (ends_with_dot t) dot_end host_end) same)
place_of_rank (IPv4Address a) (IPv6Address b) e = absurd (cc)
place_of_rank (IPv4Address a) (IPvFuture f) e = absurd (cc)
place_of_rank (IPv4Address a) (RegisteredName n) e = absurd (cc)
place_of_rank (IPv6Address a) (IPv4Address b) e = absurd (cc)
place_of_rank (IPv6Address a) (IPvFuture f) e = absurd (cc)
place_of_rank (IPv6Address a) (RegisteredName n) e = absurd (cc)
place_of_rank (IPvFuture f) (IPv4Address b) e = absurd (cc)
place_of_rank (IPvFuture f) (IPv6Address b) e = absurd (cc)
place_of_rank (IPvFuture f) (RegisteredName n) e = absurd (cc)
place_of_rank (RegisteredName n) (IPv4Address b) e = absurd (cc)
place_of_rank (RegisteredName n) (IPv6Address b) e = absurd (cc)
place_of_rank (RegisteredName n) (IPvFuture f) e = absurd (cc)

pub place_of_key : (g h : Host) → host.Valid g → host.Valid h → host.key g ≡ host.key h → place_host g ≡ place_host h
place_of_key g h v w e =
    let both = place_of_rank g h (rank_of_key g h v w e) in
    ap (λ t. t ++ end_of g ∷ []) both.0 ∙ ap (λ b. host_prefix h ++ b ∷ []) both.1

-- ---- a host within a domain begins with its prefix

labels_prefix : (t u : List ℕ) (fronts : List (List ℕ)) → hosts.labels t ≡ fronts ++ hosts.labels u → has_labels t ≡ true → has_labels u ≡ true
    → name_prefix t ≡ name_prefix u ++ reversed_labels fronts
labels_prefix t u fronts e h k =
    ap (λ v. cond v (49 ∷ reversed_labels (hosts.labels t)) (50 ∷ ended t)) h
    ∙ ap (λ ls. 49 ∷ reversed_labels ls) e
    ∙ ap (λ ls. 49 ∷ flat_map ended ls) (reverse-append fronts (hosts.labels u))
    ∙ ap (λ l. 49 ∷ l) (flat_map-append ended (reverse (hosts.labels u)) (reverse fronts))
    ∙ sym (ap (λ v. cond v (49 ∷ reversed_labels (hosts.labels u)) (50 ∷ ended u) ++ reversed_labels fronts) k)

name_labels : (t u : List ℕ) → hosts.IsNameWithin t u → (has_labels t ≡ true) × (has_labels u ≡ true)
name_labels t u w =
    let ends = sym (list_any-append hosts.is_empty w.ends.0 (hosts.labels u)) ∙ ap (list_any hosts.is_empty) (sym w.ends.1) ∙ w.full in
    let full = (or_parts (list_any hosts.is_empty w.ends.0) (list_any hosts.is_empty (hosts.labels u)) ends).1 in (
      and_from _ _ (ap not w.full) (and_from _ _ (ap not w.unescaped) (ap not w.plain)),
      and_from _ _ (ap not full) (and_from _ _ (ap not w.unescaped_domain) (ap not w.plain_domain)),
    )

name_begins : (h d : Host) → host.kind h ≡ host.Name → host.kind d ≡ host.Name → hosts.IsNameWithin (host.canonical_text h) (host.canonical_text d)
    → BeginsWith (host_prefix h) (host_prefix d)
name_begins (RegisteredName m) (RegisteredName n) e f w =
    let both = name_labels (canonical_lowered m) (canonical_lowered n) w in
    (reversed_labels w.ends.0, labels_prefix (canonical_lowered m) (canonical_lowered n) w.ends.0 w.ends.1 both.0 both.1)
name_begins (IPv4Address a) d e f w = absurd (cc)
name_begins (IPv6Address a) d e f w = absurd (cc)
name_begins (IPvFuture a) d e f w = absurd (cc)
name_begins (RegisteredName m) (IPv4Address a) e f w = absurd (cc)
name_begins (RegisteredName m) (IPv6Address a) e f w = absurd (cc)
name_begins (RegisteredName m) (IPvFuture a) e f w = absurd (cc)

pub begins_if_within : (h d : Host) → host.Valid h → host.Valid d → hosts.IsWithin h d → BeginsWith (host_prefix h) (host_prefix d)
begins_if_within h d v w (inl same) = ([], (place_of_rank h d (rank_of_key h d v w same)).0 ∙ sym (append-nil (host_prefix d)))
begins_if_within h d v w (inr (k, l, is)) = name_begins h d k l is

-- ---- what begins with its prefix is within it

octets_below : (a : List ℕ) → IsOctets a → AreBelow (16 ^ 2) a
octets_below a is = is.fit

segments_below : (a : List ℕ) → IsSegments a → AreBelow (16 ^ 4) a
segments_below a is = is.fit

-- what precedes a byte that ends a host
before_end : (t r : List ℕ) (b : ℕ) → (t ++ b ∷ []) ++ r ≡ t ++ b ∷ r
before_end t r b = append_assoc t (b ∷ []) r

-- the first byte of names is less than that of other hosts
name_low : (t r : List ℕ) → first (name_prefix t ++ r) ≤ 50
unfolding first
name_low t r = by_labels (has_labels t)
  where
    by_labels : (v : Bool) → first (cond v (49 ∷ reversed_labels (hosts.labels t)) (50 ∷ ended t) ++ r) ≤ 50
    by_labels true = omega arith
    by_labels false = omega arith

pub place_first : (h : Host) (r : List ℕ) → ℕ
place_first h r = first (host_prefix h ++ r)

-- the two names whose prefixes begin a text: both have labels, or neither has
data Names (t u r s : List ℕ) : Type 0 where
  labelled : has_labels t ≡ true → has_labels u ≡ true → reversed_labels (hosts.labels t) ++ r ≡ reversed_labels (hosts.labels u) ++ s → Names t u r s
  whole : t ≡ u → r ≡ s → Names t u r s

names_split : (t u r s : List ℕ) → AreHigh t → AreHigh u → name_prefix t ++ r ≡ name_prefix u ++ s → Names t u r s
names_split t u r s a b e = by_labels (has_labels t) (has_labels u) refl refl e
  where
    by_labels : (v w : Bool) → has_labels t ≡ v → has_labels u ≡ w
        → cond v (49 ∷ reversed_labels (hosts.labels t)) (50 ∷ ended t) ++ r ≡ cond w (49 ∷ reversed_labels (hosts.labels u)) (50 ∷ ended u) ++ s → Names t u r s
    by_labels true true h k e = labelled h k (same_rest 49 49 _ _ e)
    by_labels true false h k e = let same = same_first 49 50 _ _ e in absurd (omega (arith, same))
    by_labels false true h k e = let same = same_first 50 49 _ _ e in absurd (omega (arith, same))
    by_labels false false h k e =
        let both = ended_split t u r s a b (sym (ended-before t r) ∙ same_rest 50 50 _ _ e ∙ ended-before u s) in
        whole both.0 both.1

-- each byte of the labels passes a test that each byte of the name does
pub labels_all : (p : ℕ → Bool) (t : List ℕ) → list_all p t ≡ true → AreAll p (reverse (hosts.labels t))
labels_all p t h = reversed_all p (hosts.labels t) (pieces_all p hosts.is_dot (hosts.without_end_dot t) (without_all p t h))

label_rows : (t : List ℕ) → AreHigh t → AreAllHigh (reverse (hosts.labels t))
label_rows t h = labels_all (λ b. nat_lt dot_end b) t h

not_false : (v : Bool) → not v ≡ true → v ≡ false
not_false true h = absurd (false≢true h)
not_false false h = refl

name_within : (t u : List ℕ) (front : List (List ℕ)) → has_labels t ≡ true → has_labels u ≡ true → hosts.labels t ≡ front ++ hosts.labels u → hosts.IsNameWithin t u
name_within t u front h k e =
    let one = and_parts (not (hosts.has_empty_label t)) _ h in
    let two = and_parts (not (hosts.has_escape t)) _ one.1 in
    let three = and_parts (not (hosts.has_empty_label u)) _ k in
    let four = and_parts (not (hosts.has_escape u)) _ three.1 in
    record {
      full = not_false _ one.0;
      unescaped = not_false _ two.0;
      unescaped_domain = not_false _ four.0;
      plain = not_false _ two.1;
      plain_domain = not_false _ four.1;
      ends = (front, e);
    }

name_is_within : (m n r s : List ℕ) (e : ℕ) → host.Valid (RegisteredName m) → host.Valid (RegisteredName n) → end < e → e ≤ dot_end
    → name_prefix (canonical_lowered m) ++ e ∷ r ≡ name_prefix (canonical_lowered n) ++ s → hosts.IsWithin (RegisteredName m) (RegisteredName n)
name_is_within m n r s e v w low few h =
    by_names (names_split (canonical_lowered m) (canonical_lowered n) (e ∷ r) s (name_is_high m v) (name_is_high n w) h)
  where
    by_names : Names (canonical_lowered m) (canonical_lowered n) (e ∷ r) s → hosts.IsWithin (RegisteredName m) (RegisteredName n)
    by_names (whole same rest) = inl (ap (λ t. 1 ∷ t) same)
    by_names (labelled f g k) =
        let row = row_begins (reverse (hosts.labels (canonical_lowered m))) (reverse (hosts.labels (canonical_lowered n))) e r s
        (label_rows (canonical_lowered m) (name_is_high m v)) (label_rows (canonical_lowered n) (name_is_high n w)) low few k in
        inr (
          refl,
          refl,
          name_within (canonical_lowered m) (canonical_lowered n) (reverse row.0) f g
              (reversed_begins (hosts.labels (canonical_lowered m)) (hosts.labels (canonical_lowered n)) row.0 row.1),
        )

-- addresses of one kind
ipv4_split : (a b r s : List ℕ) → IsOctets a → IsOctets b → 52 ∷ (ended (flat_map (digits 16 2) a)) ++ r ≡ 52 ∷ (ended (flat_map (digits 16 2) b)) ++ s
    → (a ≡ b) × (r ≡ s)
ipv4_split a b r s v w e =
    let f = flat_map (digits 16 2) a in
    let g = flat_map (digits 16 2) b in
    let both = carried (f ++ end ∷ r) (g ++ end ∷ s) (end ∷ r) (end ∷ s) (slice_cmp nat_cmp a b)
    (lists_carry 16 2 (omega arith) (omega arith) a b (v.four ∙ sym w.four) (octets_below a v) (octets_below b w) (end ∷ r) (end ∷ s))
    (sym (ended-before f r) ∙ same_rest 52 52 _ _ e ∙ ended-before g s) in
    (same_lists a b both.0, same_rest end end r s both.1)

ipv6_split : (a b r s : List ℕ) → IsSegments a → IsSegments b → 54 ∷ (ended (flat_map (digits 16 4) a)) ++ r ≡ 54 ∷ (ended (flat_map (digits 16 4) b)) ++ s
    → (a ≡ b) × (r ≡ s)
ipv6_split a b r s v w e =
    let f = flat_map (digits 16 4) a in
    let g = flat_map (digits 16 4) b in
    let both = carried (f ++ end ∷ r) (g ++ end ∷ s) (end ∷ r) (end ∷ s) (slice_cmp nat_cmp a b)
    (lists_carry 16 4 (omega arith) (omega arith) a b (v.eight ∙ sym w.eight) (segments_below a v) (segments_below b w) (end ∷ r) (end ∷ s))
    (sym (ended-before f r) ∙ same_rest 54 54 _ _ e ∙ ended-before g s) in
    (same_lists a b both.0, same_rest end end r s both.1)

future_split : (f g r s : List ℕ) → host.Valid (IPvFuture f) → host.Valid (IPvFuture g)
    → 55 ∷ (ended (canonical_lowered f)) ++ r ≡ 55 ∷ (ended (canonical_lowered g)) ++ s → (canonical_lowered f ≡ canonical_lowered g) × (r ≡ s)
future_split f g r s v w e =
    ended_split (canonical_lowered f) (canonical_lowered g) r s (future_is_high f v) (future_is_high g w)
    (sym (ended-before (canonical_lowered f) r) ∙ same_rest 55 55 _ _ e ∙ ended-before (canonical_lowered g) s)

-- hosts of two kinds don't begin with the same byte
above_name : (t r s : List ℕ) (b : ℕ) → 50 < b → name_prefix t ++ r ≡ b ∷ s → ⊥
unfolding first
above_name t r s b high e = omega (arith, name_low t r, ap first e, high)

pub within_if_begins : (h d : Host) (r s : List ℕ) → host.Valid h → host.Valid d → (host_prefix h ++ end_of h ∷ r) ≡ host_prefix d ++ s → hosts.IsWithin h d
within_if_begins (IPv4Address a) (IPv4Address b) r s v w e = inl (ap (λ x. host.key (IPv4Address x)) (ipv4_split a b (2 ∷ r) s v w e).0)
within_if_begins (IPv6Address a) (IPv6Address b) r s v w e = inl (ap (λ x. host.key (IPv6Address x)) (ipv6_split a b (2 ∷ r) s v w e).0)
within_if_begins (IPvFuture f) (IPvFuture g) r s v w e = inl (ap (λ t. 7 ∷ host.bracketed t) (future_split f g (2 ∷ r) s v w e).0)
within_if_begins (RegisteredName m) (RegisteredName n) r s v w e =
    let range = end_range (ends_with_dot (canonical_lowered m)) in name_is_within m n r s (end_of (RegisteredName m)) v w range.0 range.1 e
within_if_begins (IPv4Address a) (IPv6Address b) r s v w e = let same = same_first 52 54 _ _ e in absurd (omega (arith, same))
within_if_begins (IPv4Address a) (IPvFuture f) r s v w e = let same = same_first 52 55 _ _ e in absurd (omega (arith, same))
within_if_begins (IPv4Address a) (RegisteredName n) r s v w e = absurd (above_name (canonical_lowered n) s _ 52 (omega arith) (sym e))
within_if_begins (IPv6Address a) (IPv4Address b) r s v w e = let same = same_first 54 52 _ _ e in absurd (omega (arith, same))
within_if_begins (IPv6Address a) (IPvFuture f) r s v w e = let same = same_first 54 55 _ _ e in absurd (omega (arith, same))
within_if_begins (IPv6Address a) (RegisteredName n) r s v w e = absurd (above_name (canonical_lowered n) s _ 54 (omega arith) (sym e))
within_if_begins (IPvFuture f) (IPv4Address b) r s v w e = let same = same_first 55 52 _ _ e in absurd (omega (arith, same))
within_if_begins (IPvFuture f) (IPv6Address b) r s v w e = let same = same_first 55 54 _ _ e in absurd (omega (arith, same))
within_if_begins (IPvFuture f) (RegisteredName n) r s v w e = absurd (above_name (canonical_lowered n) s _ 55 (omega arith) (sym e))
within_if_begins (RegisteredName n) (IPv4Address b) r s v w e = absurd (above_name (canonical_lowered n) _ _ 52 (omega arith) e)
within_if_begins (RegisteredName n) (IPv6Address b) r s v w e = absurd (above_name (canonical_lowered n) _ _ 54 (omega arith) e)
within_if_begins (RegisteredName n) (IPvFuture f) r s v w e = absurd (above_name (canonical_lowered n) _ _ 55 (omega arith) e)

-- ---- equal hosts

name_same : (m n r s : List ℕ) → host.Valid (RegisteredName m) → host.Valid (RegisteredName n)
    → name_prefix (canonical_lowered m) ++ end_of (RegisteredName m) ∷ r ≡ name_prefix (canonical_lowered n) ++ end_of (RegisteredName n) ∷ s
    → (canonical_lowered m ≡ canonical_lowered n) × (r ≡ s)
name_same m n r s v w h =
    by_names (names_split t u (end_of (RegisteredName m) ∷ r) (end_of (RegisteredName n) ∷ s) (name_is_high m v) (name_is_high n w) h)
  where
    t : List ℕ
    t = canonical_lowered m

    u : List ℕ
    u = canonical_lowered n

    by_names : Names t u (end_of (RegisteredName m) ∷ r) (end_of (RegisteredName n) ∷ s) → (t ≡ u) × (r ≡ s)
    by_names (whole same rest) = (same, same_rest _ _ _ _ rest)
    by_names (labelled f g k) =
        let one = end_range (ends_with_dot t) in
        let two = end_range (ends_with_dot u) in
        let row = row_same (reverse (hosts.labels t)) (reverse (hosts.labels u)) (end_of (RegisteredName m)) (end_of (RegisteredName n)) r s
        (label_rows t (name_is_high m v)) (label_rows u (name_is_high n w)) one.0 one.1 two.0 two.1 k in
        let labels = reversed_same (hosts.labels t) (hosts.labels u) row.0 in
        (one_end t u (pieces-injective (hosts.without_end_dot t) (hosts.without_end_dot u) labels) (one_end_byte _ _ row.1), row.2)

pub host_split : (g h : Host) (r s : List ℕ) → host.Valid g → host.Valid h → host_prefix g ++ end_of g ∷ r ≡ host_prefix h ++ end_of h ∷ s
    → (host_rank g ≡ host_rank h) × (r ≡ s)
host_split (IPv4Address a) (IPv4Address b) r s v w e =
    let both = ipv4_split a b (2 ∷ r) (2 ∷ s) v w e in (ap (λ x. 4 ∷ x) both.0, same_rest 2 2 r s both.1)
host_split (IPv6Address a) (IPv6Address b) r s v w e =
    let both = ipv6_split a b (2 ∷ r) (2 ∷ s) v w e in (ap (λ x. 6 ∷ x) both.0, same_rest 2 2 r s both.1)
host_split (IPvFuture f) (IPvFuture g) r s v w e =
    let both = future_split f g (2 ∷ r) (2 ∷ s) v w e in (ap (λ x. 7 ∷ x) both.0, same_rest 2 2 r s both.1)
host_split (RegisteredName m) (RegisteredName n) r s v w e = let both = name_same m n r s v w e in (ap (λ x. 1 ∷ x) both.0, both.1)
host_split (IPv4Address a) (IPv6Address b) r s v w e = let same = same_first 52 54 _ _ e in absurd (omega (arith, same))
host_split (IPv4Address a) (IPvFuture f) r s v w e = let same = same_first 52 55 _ _ e in absurd (omega (arith, same))
host_split (IPv4Address a) (RegisteredName n) r s v w e = absurd (above_name (canonical_lowered n) _ _ 52 (omega arith) (sym e))
host_split (IPv6Address a) (IPv4Address b) r s v w e = let same = same_first 54 52 _ _ e in absurd (omega (arith, same))
host_split (IPv6Address a) (IPvFuture f) r s v w e = let same = same_first 54 55 _ _ e in absurd (omega (arith, same))
host_split (IPv6Address a) (RegisteredName n) r s v w e = absurd (above_name (canonical_lowered n) _ _ 54 (omega arith) (sym e))
host_split (IPvFuture f) (IPv4Address b) r s v w e = let same = same_first 55 52 _ _ e in absurd (omega (arith, same))
host_split (IPvFuture f) (IPv6Address b) r s v w e = let same = same_first 55 54 _ _ e in absurd (omega (arith, same))
host_split (IPvFuture f) (RegisteredName n) r s v w e = absurd (above_name (canonical_lowered n) _ _ 55 (omega arith) (sym e))
host_split (RegisteredName n) (IPv4Address b) r s v w e = absurd (above_name (canonical_lowered n) _ _ 52 (omega arith) e)
host_split (RegisteredName n) (IPv6Address b) r s v w e = absurd (above_name (canonical_lowered n) _ _ 54 (omega arith) e)
host_split (RegisteredName n) (IPvFuture f) r s v w e = absurd (above_name (canonical_lowered n) _ _ 55 (omega arith) e)
