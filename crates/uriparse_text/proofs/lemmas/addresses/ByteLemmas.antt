-- The bytes that a spelling of an address is made of, and what follows from them.
use Rattle.std.proofs.Common.{◌≡◌, ℕ, ◌<◌, Bool, true, false, List, [], ◌∷◌, ◌++◌, length, get_or, inl, inr, refl, sym, ◌∙◌, arith, lt-ltb}
use Rattle.std.specs.Prelude.{IsTrue, not, ◌==◌}
use Rattle.std.specs.Char.{is_ascii_digit}
use Rattle.std.proofs.lemmas.Bool.{false≢true, and_parts, not-true}
use Rattle.std.specs.List.{list_all}
use Rattle.std.specs.Str.Parse.{AllDigits}
use Rattle.std.proofs.lemmas.Bool.Decides.{nat_tests}
use Rattle.std.proofs.lemmas.List.Folds.{list_all-append}
use Rattle.std.proofs.lemmas.List.Elements.{All-weaker}
use Rattle.std.proofs.lemmas.List.Sums.{list_all-from_AllPass}
use Rattle.std.proofs.NetLemmas.Alphabet.{IsDigitOrDot, All-ipv4_text}
use Rattle.uriparse_text.specs.declared.internal.class.Class.TheVariants.{Name}
use Rattle.uriparse_text.specs.Bytes.{colon, dot, is_unreserved}
use Rattle.uriparse_text.specs.Classes.{is_plain}
use Rattle.uriparse_text.specs.Cuts.{lacks}
use Rattle.uriparse_text.specs.Faults.{IsIn}
use Rattle.uriparse_text.specs.Address.{is_ipv4_byte, is_ipv6_byte, SpellsIpv4, AreH16Colons, IsLs32, EndsInLs32, IsHead, IsTail, SpellsIpv6}
use Rattle.uriparse_text.proofs.lemmas.addresses.Ipv4Lemmas.{IsOctets-SpellsIpv4, printed_alone}
use Rattle.uriparse_text.proofs.lemmas.classes.FaultLemmas.{IsIn-plain}
use Rattle.uriparse_text.proofs.lemmas.readings.CutLemmas.{lacks_by, weaker}

-- Each byte of the text passes: a record, so that antt reads the text off a goal.
record Pass (p : ℕ → Bool) (text : List ℕ) : Type 0 where
  all : list_all p text ≡ true

both : (p : ℕ → Bool) (xs ys : List ℕ) → Pass p xs → Pass p ys → Pass p (xs ++ ys)
both p xs ys h k = record { all = rw (list_all-append p xs ys, h.all, k.all) }

dotted : (p : ℕ → Bool) (text octets : List ℕ) → ((b : ℕ) → IsDigitOrDot b → p b ≡ true) → SpellsIpv4 text octets → Pass p text
dotted p text octets weaker h = rw (printed_alone text octets h) (record {
  all = list_all-from_AllPass p _ (All-weaker IsDigitOrDot (λ b. p b ≡ true) weaker _ (All-ipv4_text octets (IsOctets-SpellsIpv4 text octets h).fit));
})

pub SpellsIpv4-bytes : (text octets : List ℕ) → SpellsIpv4 text octets → list_all is_ipv4_byte text ≡ true
SpellsIpv4-bytes text octets h = (dotted is_ipv4_byte text octets (λ b k. grind (arith, nat_tests)) h).all

digits : (text : List ℕ) → AllDigits 16 text → list_all is_ipv6_byte text ≡ true
digits [] h = refl
digits (c ∷ cs) h = rw (lt-ltb _ _ h.0) (digits cs h.1)

after_colon : (text : List ℕ) → Pass is_ipv6_byte text → Pass is_ipv6_byte (colon ∷ text)
after_colon text h = record { all = h.all }

h16_colons : (text groups : List ℕ) → AreH16Colons text groups → Pass is_ipv6_byte text
h16_colons text [] none = rw none (record { all = refl })
h16_colons text (n ∷ groups) (group, rest, whole, g, more) =
    rw whole (both is_ipv6_byte group _ (record { all = digits group g.0.0.1 }) (after_colon rest (h16_colons rest groups more)))

ls32 : (text : List ℕ) (high low : ℕ) → IsLs32 text high low → Pass is_ipv6_byte text
ls32 text high low (inl (left, right, whole, h, l)) =
    rw whole (both is_ipv6_byte left _ (record { all = digits left h.0.0.1 }) (after_colon right (record { all = digits right l.0.0.1 })))
ls32 text high low (inr (octets, spelled, value)) = dotted is_ipv6_byte text octets (λ b k. grind (arith, nat_tests)) spelled

ends_in_ls32 : (text segments : List ℕ) → EndsInLs32 text segments → Pass is_ipv6_byte text
ends_in_ls32 text segments h =
    rw h.whole (both is_ipv6_byte h.front h.last (h16_colons h.front h.groups h.is_front) (ls32 h.last h.high h.low h.is_last))

head : (text segments : List ℕ) → IsHead text segments → Pass is_ipv6_byte text
head text segments (inl (none, empty)) = rw none (record { all = refl })
head text segments (inr h) =
    rw h.whole (both is_ipv6_byte h.front h.last (h16_colons h.front h.groups h.is_front) (record { all = digits h.last h.is_last.0.0.1 }))

tail : (text segments : List ℕ) → IsTail text segments → Pass is_ipv6_byte text
tail text segments (inl (none, empty)) = rw none (record { all = refl })
tail text segments (inr (inl (n, g, one))) = record { all = digits text g.0.0.1 }
tail text segments (inr (inr h)) = ends_in_ls32 text segments h

spelled : (text segments : List ℕ) → SpellsIpv6 text segments → Pass is_ipv6_byte text
spelled text segments (inl (h, eight)) = ends_in_ls32 text segments h
spelled text segments (inr h) =
    rw h.whole (both is_ipv6_byte h.head_text _ (head h.head_text h.head h.is_head)
    (after_colon _ (after_colon h.tail_text (tail h.tail_text h.tail h.is_tail))))

pub SpellsIpv6-bytes : (text segments : List ℕ) → SpellsIpv6 text segments → list_all is_ipv6_byte text ≡ true
SpellsIpv6-bytes text segments h = (spelled text segments h).all

-- ---- bytes that a spelling does not have

pub lacks-SpellsIpv4 : (text a : List ℕ) → SpellsIpv4 text a → (b : ℕ) → is_ipv4_byte b ≡ false → lacks b text ≡ true
lacks-SpellsIpv4 text a h b other = lacks_by is_ipv4_byte b text other (SpellsIpv4-bytes text a h)

pub lacks-SpellsIpv6 : (text a : List ℕ) → SpellsIpv6 text a → (b : ℕ) → is_ipv6_byte b ≡ false → lacks b text ≡ true
lacks-SpellsIpv6 text a h b other = lacks_by is_ipv6_byte b text other (SpellsIpv6-bytes text a h)

-- ---- registered names

ipv4_byte_plain : (b : ℕ) → is_ipv4_byte b ≡ true → is_plain Name b ≡ true
unfolding is_plain is_unreserved
ipv4_byte_plain b h = grind (arith, nat_tests)

-- an IPv4 address is spelled as a registered name too
pub IsIn-SpellsIpv4 : (text a : List ℕ) → SpellsIpv4 text a → IsIn Name text
IsIn-SpellsIpv4 text a h =
    IsIn-plain Name text (weaker is_ipv4_byte (is_plain Name) ipv4_byte_plain text (SpellsIpv4-bytes text a h))

-- no address begins with another byte
pub never_begins : (text : List ℕ) → 0 < length text → is_ipv4_byte (get_or text 0 0) ≡ false → (a : List ℕ) → ¬ (SpellsIpv4 text a)
never_begins [] some other a spelled = absurd (omega arith)
never_begins (b ∷ rest) some other a spelled =
    false≢true (sym other ∙ (and_parts (is_ipv4_byte b) (list_all is_ipv4_byte rest) (SpellsIpv4-bytes (b ∷ rest) a spelled)).0)

pub no_ipv4_byte : (b : ℕ) → is_ascii_digit b ≡ false → IsTrue (not (b == dot)) → is_ipv4_byte b ≡ false
no_ipv4_byte b digit other = rw digit (not-true (b == dot) other)
