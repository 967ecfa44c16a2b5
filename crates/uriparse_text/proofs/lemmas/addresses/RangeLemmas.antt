-- What an IPv6 spelling spells is eight segments of 16 bits.
use Rattle.std.proofs.Common.{◌≡◌, ℕ, zero, suc, ◌+◌, ◌-◌, ◌*◌, ◌^◌, ◌<◌, Bool, true, false, List, [], ◌∷◌, ◌++◌, length, get_or, inl, inr, sym, ap, ◌∙◌, refl}
use Rattle.std.proofs.Common.{subst, replicate, arith}
use Rattle.std.proofs.lemmas.List.{length-append}
use Rattle.std.specs.Str.Parse.{digits_value, AllDigits}
use Rattle.std.specs.Net.Addr.{segments_of}
use Rattle.std.specs.Net.Grammar.{IsDotted, IsGroup, IsGroupsAfter, IsColonHex}
use Rattle.uriparse_text.specs.Address.{IsSegments, SpellsIpv6}
use Rattle.uriparse_text.proofs.lemmas.addresses.GrammarLemmas.{colon_hex_from_spells}

abbrev Fit : List ℕ → Type 0
Fit xs = (k : ℕ) → get_or xs k 0 < 2 ^ 16

fit-nil : Fit []
fit-nil k = omega arith

fit-cons : (x : ℕ) (xs : List ℕ) → x < 2 ^ 16 → Fit xs → Fit (x ∷ xs)
fit-cons x xs h f zero = h
fit-cons x xs h f (suc k) = f k

fit-append : (xs ys : List ℕ) → Fit xs → Fit ys → Fit (xs ++ ys)
fit-append [] ys f g = g
fit-append (x ∷ xs) ys f g = fit-cons x (xs ++ ys) (f zero) (fit-append xs ys (λ k. f (suc k)) g)

fit-zeros : (n : ℕ) → Fit (replicate n 0)
fit-zeros zero = fit-nil
fit-zeros (suc n) = fit-cons 0 (replicate n 0) (omega arith) (fit-zeros n)

digits_fit : (group : List ℕ) → AllDigits 16 group → length group < 5 → digits_value 16 group < 2 ^ 16
digits_fit [] all short = omega arith
digits_fit (a ∷ []) all short = omega (arith, all.0)
digits_fit (a ∷ b ∷ []) all short = let rest = all.1 in omega (arith, all.0, rest.0)
digits_fit (a ∷ b ∷ c ∷ []) all short = let rest = all.1 in let more = rest.1 in omega (arith, all.0, rest.0, more.0)
digits_fit (a ∷ b ∷ c ∷ d ∷ []) all short = let rest = all.1 in let more = rest.1 in let last = more.1 in omega (arith, all.0, rest.0, more.0, last.0)
digits_fit (a ∷ b ∷ c ∷ d ∷ e ∷ group) all short = absurd (omega (arith, short))

group_fits : (group : List ℕ) (n : ℕ) → IsGroup group n → n < 2 ^ 16
group_fits group n is = subst (λ m. m < 2 ^ 16) is.0.1 (digits_fit group is.0.0.1 (omega (arith, is.1)))

dotted_fits : (text octets : List ℕ) → IsDotted text octets → Fit (segments_of octets)
dotted_fits text octets is =
    let fit = is.fit in
    subst (λ o. Fit (segments_of o)) (sym is.value)
    (fit-cons (is.a * 256 + is.b) ((is.c * 256 + is.d) ∷ []) (omega (arith, fit.0, fit.1))
    (fit-cons (is.c * 256 + is.d) [] (omega (arith, fit.2, fit.3)) fit-nil))

groups_fit : (ipv4 : Bool) (lead text segments : List ℕ) → IsGroupsAfter ipv4 lead text segments → Fit segments
groups_fit ipv4 lead text [] is = fit-nil
groups_fit ipv4 lead text (s ∷ segments) (inl is) = fit-cons s segments (group_fits is.0 s is.3) (groups_fit ipv4 (58 ∷ []) is.1 segments is.4)
groups_fit ipv4 lead text (s ∷ segments) (inr is) = subst Fit (sym is.5) (dotted_fits is.0 is.1 is.4)

length-zeros : (n : ℕ) → length {A = ℕ} (replicate n 0) ≡ n
length-zeros zero = refl
length-zeros (suc n) = ap suc (length-zeros n)

of_colon_hex : (text segments : List ℕ) → IsColonHex text segments → IsSegments segments
of_colon_hex text segments (inl is) = record { eight = is.1; fit = groups_fit true [] text segments is.0 }
of_colon_hex text segments (inr is) =
    let zeros : List ℕ = replicate (8 - length is.head - length is.tail) 0 in
    let l = length-append (is.head ++ zeros) is.tail in
    let m = length-append is.head zeros in
    let n = length-zeros (8 - length is.head - length is.tail) in
    let room = is.room in
    record {
      eight = ap length is.value ∙ omega (arith, l, m, n, room);
      fit = subst Fit (sym is.value) (fit-append (is.head ++ zeros) is.tail
          (fit-append is.head zeros (groups_fit false [] is.head_text is.head is.head_groups) (fit-zeros _))
          (groups_fit true [] is.tail_text is.tail is.tail_groups));
    }

pub IsSegments-SpellsIpv6 : (text segments : List ℕ) → SpellsIpv6 text segments → IsSegments segments
IsSegments-SpellsIpv6 text segments is = of_colon_hex text segments (colon_hex_from_spells text segments is)
