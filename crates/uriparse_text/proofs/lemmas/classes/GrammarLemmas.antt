-- Classes and faults in the standard's words.
use Rattle.std.proofs.Common.{◌≡◌, ◌↔◌, ℕ, Bool, true, false, List, [], ◌∷◌, ◌++◌, drop, get_or, flat_map, Some, None, refl, sym, ap, subst, ◌∙◌, append_assoc}
use Rattle.std.specs.List.{list_all}
use Rattle.std.proofs.lemmas.Bool.{and_from, and_parts, false≢true}
use Rattle.uriparse_text.specs.declared.internal.token.Token.{Token}
use Rattle.uriparse_text.specs.declared.internal.token.Token.TheVariants.{Byte, Escape}
use Rattle.uriparse_text.specs.declared.internal.class.Class.{Class}
use Rattle.uriparse_text.specs.Bytes.{percent}
use Rattle.uriparse_text.specs.Classes.{is_plain}
use Rattle.uriparse_text.specs.Tokens.{is_escape, tokens, spell}
use Rattle.uriparse_text.specs.Faults.{allows, fault, IsIn, IsOfClass, BeginsWithNone, HasFaultAt}
use Rattle.uriparse_text.proofs.lemmas.tokens.TokenLemmas.{tokens-spell, tokens_of_concatenation, spell-tokens, escape_at}
use Rattle.uriparse_text.proofs.lemmas.classes.FaultLemmas.{fault-nil, fault-plain, fault-escape, fault-fine, fault-here, no_fault}
use Rattle.uriparse_text.proofs.lemmas.classes.ClassLemmas.{is_token-allows, all_tokens-allowed}

-- all tokens of a text are in the class exactly if it is a concatenation of such tokens
pub in_class : (class : Class) (text : List ℕ) → IsIn class text ↔ IsOfClass class text
in_class class text = (
  λ h. record { ts = tokens text; whole = sym (spell-tokens text); each = h },
  λ is. ap (list_all (allows class)) (ap tokens is.whole ∙ tokens_of_concatenation is.ts (all_tokens-allowed class is.ts is.each)) ∙ is.each,
)

pub none_iff : (class : Class) (text : List ℕ) → (fault class text ≡ None) ↔ IsOfClass class text
none_iff class text =
    let clean = no_fault class text in
    let words = in_class class text in
    (λ h. words.0 (clean.0 h), λ is. clean.1 (words.1 is))

-- ---- from a fault to its place

-- a fault after a token of the class
after_token : (class : Class) (text : List ℕ) (t : Token) (rest : List ℕ) (byte : ℕ) → allows class t ≡ true → text ≡ spell t ++ rest
    → HasFaultAt class rest byte → HasFaultAt class text byte
after_token class text t rest byte fine cut at = record {
  before = spell t ++ at.before;
  after = at.after;
  whole = cut ∙ ap (λ x. spell t ++ x) at.whole ∙ sym (append_assoc (spell t) at.before (byte ∷ at.after));
  fine = record {
    ts = t ∷ at.fine.ts;
    whole = ap (λ x. spell t ++ x) at.fine.whole;
    each = and_from _ _ fine at.fine.each;
  };
  here = at.here;
}

-- no token begins where neither a byte of the class nor an escape does
begins_with_none : (class : Class) (b : ℕ) (after : List ℕ) → is_plain class b ≡ false → is_escape b after ≡ false → BeginsWithNone class (b ∷ after)
begins_with_none class b after plain never (Byte c) rest h e =
    let same : b ≡ c = cc in false≢true (sym plain ∙ ap (is_plain class) same ∙ h)
begins_with_none class b after plain never (Escape high low) rest h e =
    let sign : b ≡ percent = cc in
    let digits : after ≡ high ∷ low ∷ rest = cc in
    let is : is_escape percent (high ∷ low ∷ rest) ≡ true = h in
    false≢true (sym never ∙ ap (λ x. is_escape x after) sign ∙ ap (is_escape percent) digits ∙ is)

abbrev Placed : Class → List ℕ → Type 0
Placed class text = (byte : ℕ) → fault class text ≡ Some byte → HasFaultAt class text byte

at_front : (class : Class) (b : ℕ) (after : List ℕ) → Placed class after → Placed class (drop 2 after) → Placed class (b ∷ after)
at_front class b after later past byte h = by_plain (is_plain class b) refl
  where
    by_escape : (v : Bool) → is_escape b after ≡ v → is_plain class b ≡ false → HasFaultAt class (b ∷ after) byte
    by_escape true e plain =
        let at = escape_at b after e in
        after_token class (b ∷ after) (Escape (get_or after 0 0) (get_or after 1 0)) (drop 2 after) byte at.digits at.whole
        (past byte (sym (fault-escape class b after e) ∙ h))
    by_escape false e plain =
        let same : b ≡ byte = let here = fault-here class b after plain e in cc in
        record {
          before = [];
          after = after;
          whole = ap (λ x. x ∷ after) same;
          fine = record { ts = []; whole = refl; each = refl };
          here = subst (λ x. BeginsWithNone class (x ∷ after)) same (begins_with_none class b after plain e);
        }

    by_plain : (v : Bool) → is_plain class b ≡ v → HasFaultAt class (b ∷ after) byte
    by_plain true e =
        after_token class (b ∷ after) (Byte b) after byte e refl (later byte (sym (fault-plain class b after e) ∙ h))
    by_plain false e = by_escape (is_escape b after) refl e

at_end : (class : Class) → Placed class []
at_end class byte h = absurd (cc (fault-nil class, h))

placed : (class : Class) (text : List ℕ) → Placed class text
placed class [] = at_end class
placed class (b ∷ []) = at_front class b [] (at_end class) (at_end class)
placed class (b ∷ c ∷ []) = at_front class b (c ∷ []) (at_front class c [] (at_end class) (at_end class)) (at_end class)
placed class (b ∷ c ∷ d ∷ rest) = at_front class b (c ∷ d ∷ rest) (placed class (c ∷ d ∷ rest)) (placed class rest)

-- ---- from a place to the fault

fault-following : (class : Class) (ts : List Token) (rest : List ℕ) → list_all (allows class) ts ≡ true
    → fault class (flat_map spell ts ++ rest) ≡ fault class rest
fault-following class [] rest h = refl
fault-following class (t ∷ ts) rest h =
    let both = and_parts _ _ h in
    ap (fault class) (append_assoc (spell t) (flat_map spell ts) rest)
    ∙ fault-fine class (spell t ++ (flat_map spell ts ++ rest)) t (flat_map spell ts ++ rest)
    (tokens-spell t (flat_map spell ts ++ rest) (is_token-allows class t both.0)) both.0
    ∙ fault-following class ts rest both.1

fault_stands : (class : Class) (b : ℕ) (after : List ℕ) → BeginsWithNone class (b ∷ after) → fault class (b ∷ after) ≡ Some b
fault_stands class b after none = fault-here class b after (plain (is_plain class b) refl) (never (is_escape b after) refl)
  where
    plain : (v : Bool) → is_plain class b ≡ v → is_plain class b ≡ false
    plain true e = absurd (none (Byte b) after e refl)
    plain false e = e

    never : (v : Bool) → is_escape b after ≡ v → is_escape b after ≡ false
    never true e =
        let at = escape_at b after e in
        absurd (none (Escape (get_or after 0 0) (get_or after 1 0)) (drop 2 after) at.digits at.whole)
    never false e = e

-- the fault stands at the least place where no token of the class begins
pub leftmost : (class : Class) (text : List ℕ) (byte : ℕ) → (fault class text ≡ Some byte) ↔ HasFaultAt class text byte
leftmost class text byte = (
  λ h. placed class text byte h,
  λ at. ap (fault class) (at.whole ∙ ap (λ x. x ++ byte ∷ at.after) at.fine.whole) ∙ fault-following class at.fine.ts (byte ∷ at.after) at.fine.each
      ∙ fault_stands class byte at.after at.here,
)
