-- The grammar of RFC 3986 and std's have the same texts.
use Rattle.std.proofs.Common.{◌≡◌, ℕ, ◌+◌, ◌-◌, ◌*◌, ◌⊎◌, Bool, true, false, List, [], ◌∷◌, ◌++◌, length, inl, inr, sym, ap, ◌∙◌, refl}
use Rattle.std.proofs.Common.{append_assoc, append-nil, replicate, arith}
use Rattle.std.specs.Net.Addr.{segments_of}
use Rattle.std.specs.Net.Grammar.{IsDotted, IsGroup, IsGroupsAfter, IsGroups, IsColonHex}
use Rattle.uriparse_text.specs.Address.{AreH16Colons, IsLs32, EndsInLs32, EndsInH16, IsHead, IsTail, SpellsIpv6}
use Rattle.uriparse_text.proofs.lemmas.addresses.Ipv4Lemmas.{spells_from_dotted, dotted_from_spells}

-- ---- IPv6, into std's grammar

-- a group and a colon before a text, as std's grammar groups them
regroup : (lead group rest last : List ℕ) → lead ++ ((group ++ 58 ∷ rest) ++ last) ≡ (lead ++ group) ++ 58 ∷ (rest ++ last)
regroup lead group rest last = ap (λ t. lead ++ t) (append_assoc group (58 ∷ rest) last) ∙ sym (append_assoc lead group (58 ∷ (rest ++ last)))

after_ls32 : (lead front last groups : List ℕ) (high low : ℕ) → AreH16Colons front groups → IsLs32 last high low
    → IsGroupsAfter true lead (lead ++ (front ++ last)) (groups ++ high ∷ low ∷ [])
after_ls32 lead front last [] high low none (inl (left, right, whole, h, l)) =
    rw (none, whole) (inl (left, 58 ∷ right, sym (append_assoc lead left (58 ∷ right)), h, inl (right, [], ap (λ t. 58 ∷ t) (sym (append-nil right)), l, refl)))
after_ls32 lead front last [] high low none (inr (octets, spelled, value)) =
    rw none (inr (last, octets, refl, refl, dotted_from_spells last octets spelled, sym value))
after_ls32 lead front last (n ∷ groups) high low (group, rest, whole, g, more) is_last =
    rw whole (inl (group, 58 ∷ (rest ++ last), regroup lead group rest last, g, after_ls32 (58 ∷ []) rest last groups high low more is_last))

after_h16 : (ipv4 : Bool) (lead front last groups : List ℕ) (low : ℕ) → AreH16Colons front groups → IsGroup last low
    → IsGroupsAfter ipv4 lead (lead ++ (front ++ last)) (groups ++ low ∷ [])
after_h16 ipv4 lead front last [] low none l =
    rw none (inl (last, [], sym (append-nil (lead ++ last)), l, refl))
after_h16 ipv4 lead front last (n ∷ groups) low (group, rest, whole, g, more) l =
    rw whole (inl (group, 58 ∷ (rest ++ last), regroup lead group rest last, g, after_h16 ipv4 (58 ∷ []) rest last groups low more l))

groups_from_ls32 : (text segments : List ℕ) → EndsInLs32 text segments → IsGroups true text segments
groups_from_ls32 text segments h =
    rw (h.whole, h.value) (after_ls32 [] h.front h.last h.groups h.high h.low h.is_front h.is_last)

groups_from_head : (text segments : List ℕ) → IsHead text segments → IsGroups false text segments
groups_from_head text segments (inl (none, empty)) = rw (none, empty) refl
groups_from_head text segments (inr h) =
    rw (h.whole, h.value) (after_h16 false [] h.front h.last h.groups h.low h.is_front h.is_last)

groups_from_tail : (text segments : List ℕ) → IsTail text segments → IsGroups true text segments
groups_from_tail text segments (inl (none, empty)) = rw (none, empty) refl
groups_from_tail text segments (inr (inl (n, h, value))) = rw value (after_h16 true [] [] text [] n refl h)
groups_from_tail text segments (inr (inr h)) = groups_from_ls32 text segments h

pub colon_hex_from_spells : (text segments : List ℕ) → SpellsIpv6 text segments → IsColonHex text segments
colon_hex_from_spells text segments (inl (h, eight)) = inl (groups_from_ls32 text segments h, eight)
colon_hex_from_spells text segments (inr h) = inr (record {
  head_text = h.head_text;
  tail_text = h.tail_text;
  head = h.head;
  tail = h.tail;
  spelled = h.whole ∙ sym (append_assoc h.head_text (58 ∷ 58 ∷ []) h.tail_text);
  head_groups = groups_from_head h.head_text h.head h.is_head;
  tail_groups = groups_from_tail h.tail_text h.tail h.is_tail;
  room = omega (arith, h.room);
  value = h.value ∙ sym (append_assoc h.head (replicate (8 - length h.head - length h.tail) 0) h.tail);
})

-- ---- and out of it

-- a group that ends a text
last_group : (lead text group rest : List ℕ) → text ≡ (lead ++ group) ++ rest → rest ≡ [] → text ≡ lead ++ group
last_group lead text group rest whole none = (rw none at whole) ∙ append-nil (lead ++ group)

-- and one before a colon
first_group : (lead text group rest inner : List ℕ) → text ≡ (lead ++ group) ++ rest → rest ≡ 58 ∷ inner → text ≡ lead ++ (group ++ 58 ∷ inner)
first_group lead text group rest inner whole same = (rw same at whole) ∙ append_assoc lead group (58 ∷ inner)

ends_in_h16 : (lead text : List ℕ) (n : ℕ) (segments : List ℕ) → IsGroupsAfter false lead text (n ∷ segments)
    → (inner : List ℕ) × (text ≡ lead ++ inner) × EndsInH16 inner (n ∷ segments)
ends_in_h16 lead text n [] (inl (group, rest, whole, g, none)) = (
  group,
  last_group lead text group rest whole none,
  record {
    front = [];
    last = group;
    groups = [];
    low = n;
    whole = refl;
    is_front = refl;
    is_last = g;
    value = refl;
  },
)
ends_in_h16 lead text n [] (inr (last, octets, never, whole, dotted, value)) = absurd (cc)
ends_in_h16 lead text n (m ∷ segments) (inl (group, rest, whole, g, more)) =
    let (inner, same, h) = ends_in_h16 (58 ∷ []) rest m segments more in (
      group ++ 58 ∷ inner,
      first_group lead text group rest inner whole same,
      record {
        front = group ++ 58 ∷ h.front;
        last = h.last;
        groups = n ∷ h.groups;
        low = h.low;
        whole = ap (λ t. group ++ 58 ∷ t) h.whole ∙ sym (append_assoc group (58 ∷ h.front) h.last);
        is_front = (group, h.front, refl, g, h.is_front);
        is_last = h.is_last;
        value = ap (λ t. n ∷ t) h.value;
      },
    )
ends_in_h16 lead text n (m ∷ segments) (inr (last, octets, never, whole, dotted, value)) = absurd (cc)

-- one group, or groups that end in ls32
abbrev IsRest : List ℕ → ℕ → List ℕ → Type 0
IsRest text n segments = ((segments ≡ []) × IsGroup text n) ⊎ EndsInLs32 text (n ∷ segments)

one_more : (group inner : List ℕ) (n m : ℕ) (segments : List ℕ) → IsGroup group n → IsRest inner m segments
    → EndsInLs32 (group ++ 58 ∷ inner) (n ∷ m ∷ segments)
one_more group inner n m segments g (inl (none, h)) = record {
  front = [];
  last = group ++ 58 ∷ inner;
  groups = [];
  high = n;
  low = m;
  whole = refl;
  is_front = refl;
  is_last = inl (group, inner, refl, g, h);
  value = ap (λ t. n ∷ m ∷ t) none;
}
one_more group inner n m segments g (inr h) = record {
  front = group ++ 58 ∷ h.front;
  last = h.last;
  groups = n ∷ h.groups;
  high = h.high;
  low = h.low;
  whole = ap (λ t. group ++ 58 ∷ t) h.whole ∙ sym (append_assoc group (58 ∷ h.front) h.last);
  is_front = (group, h.front, refl, g, h.is_front);
  is_last = h.is_last;
  value = ap (λ t. n ∷ t) h.value;
}

-- an IPv4 address is two segments
two_segments : (text octets : List ℕ) (n m : ℕ) (segments : List ℕ) → IsDotted text octets → n ∷ m ∷ segments ≡ segments_of octets → segments ≡ []
two_segments text octets n m segments dotted value =
    let two : n ∷ m ∷ segments ≡ (dotted.a * 256 + dotted.b) ∷ (dotted.c * 256 + dotted.d) ∷ [] = value ∙ ap segments_of dotted.value in cc

not_one : (text octets : List ℕ) (n : ℕ) → IsDotted text octets → n ∷ [] ≡ segments_of octets → ⊥
not_one text octets n dotted value =
    let two : n ∷ [] ≡ (dotted.a * 256 + dotted.b) ∷ (dotted.c * 256 + dotted.d) ∷ [] = value ∙ ap segments_of dotted.value in cc

ends_in_rest : (lead text : List ℕ) (n : ℕ) (segments : List ℕ) → IsGroupsAfter true lead text (n ∷ segments)
    → (inner : List ℕ) × (text ≡ lead ++ inner) × IsRest inner n segments
ends_in_rest lead text n [] (inl (group, rest, whole, g, none)) =
    (group, last_group lead text group rest whole none, inl (refl, g))
ends_in_rest lead text n [] (inr (last, octets, always, whole, dotted, value)) = absurd (not_one last octets n dotted value)
ends_in_rest lead text n (m ∷ segments) (inl (group, rest, whole, g, more)) =
    let (inner, same, h) = ends_in_rest (58 ∷ []) rest m segments more in
    (group ++ 58 ∷ inner, first_group lead text group rest inner whole same, inr (one_more group inner n m segments g h))
ends_in_rest lead text n (m ∷ segments) (inr (last, octets, always, whole, dotted, value)) =
    let none = two_segments last octets n m segments dotted value in (
      last,
      whole,
      inr (record {
        front = [];
        last = last;
        groups = [];
        high = n;
        low = m;
        whole = refl;
        is_front = refl;
        is_last = inr (octets, spells_from_dotted last octets dotted, sym value ∙ ap (λ t. n ∷ m ∷ t) none);
        value = ap (λ t. n ∷ m ∷ t) none;
      }),
    )

head_from_groups : (text segments : List ℕ) → IsGroups false text segments → IsHead text segments
head_from_groups text [] none = inl (none, refl)
head_from_groups text (n ∷ segments) h =
    let (inner, same, ends) = ends_in_h16 [] text n segments h in rw same (inr ends)

tail_from_groups : (text segments : List ℕ) → IsGroups true text segments → IsTail text segments
tail_from_groups text [] none = inl (none, refl)
tail_from_groups text (n ∷ segments) h =
    let (inner, same, ends) = ends_in_rest [] text n segments h in
    rw same (elim ends [ inl (none, g) ↦ inr (inl (n, g, ap (λ t. n ∷ t) none)) | inr long ↦ inr (inr long) ])

long_from_groups : (text segments : List ℕ) → IsTail text segments → length segments ≡ 8 → EndsInLs32 text segments
long_from_groups text segments (inl (none, empty)) eight = absurd (omega (arith, rw empty at eight))
long_from_groups text segments (inr (inl (n, g, one))) eight = absurd (omega (arith, rw one at eight))
long_from_groups text segments (inr (inr h)) eight = h

pub spells_from_colon_hex : (text segments : List ℕ) → IsColonHex text segments → SpellsIpv6 text segments
spells_from_colon_hex text segments (inl (h, eight)) =
    inl (long_from_groups text segments (tail_from_groups text segments h) eight, eight)
spells_from_colon_hex text segments (inr h) = inr (record {
  head_text = h.head_text;
  tail_text = h.tail_text;
  head = h.head;
  tail = h.tail;
  whole = h.spelled ∙ append_assoc h.head_text (58 ∷ 58 ∷ []) h.tail_text;
  is_head = head_from_groups h.head_text h.head h.head_groups;
  is_tail = tail_from_groups h.tail_text h.tail h.tail_groups;
  room = omega (arith, h.room);
  value = h.value ∙ append_assoc h.head (replicate (8 - length h.head - length h.tail) 0) h.tail;
})
