-- The leftmost fault, token by token.
use Rattle.std.proofs.Common.{◌≡◌, ℕ, Bool, true, false, not, List, [], ◌∷◌, drop, get_or, Some, None, refl, sym, ap, ◌∙◌, cond, ◌&&◌, ◌↔◌}
use Rattle.std.specs.Option.{option_map}
use Rattle.std.specs.List.{find, list_all}
use Rattle.std.proofs.lemmas.Bool.{false≢true, and_parts}
use Rattle.uriparse_text.specs.declared.internal.token.Token.{Token}
use Rattle.uriparse_text.specs.declared.internal.token.Token.TheVariants.{Byte, Escape}
use Rattle.uriparse_text.specs.declared.internal.class.Class.{Class}
use Rattle.uriparse_text.specs.declared.internal.class.Class.TheVariants.{Name, UserInfo, Segment, Query}
use Rattle.uriparse_text.specs.Bytes.{percent, is_unreserved, is_sub_delim}
use Rattle.uriparse_text.specs.Classes.{is_plain}
use Rattle.uriparse_text.specs.Tokens.{is_escape, tokens}
use Rattle.uriparse_text.specs.Faults.{allows, fault, first_byte, IsIn}
use Rattle.uriparse_text.proofs.lemmas.tokens.TokenLemmas.{tokens-nil, tokens-escape, tokens-byte, escape_at}

-- `%` stands for itself in no class
pub percent_not_plain : (class : Class) → is_plain class percent ≡ false
unfolding is_plain is_unreserved is_sub_delim
percent_not_plain Name = refl
percent_not_plain UserInfo = refl
percent_not_plain Segment = refl
percent_not_plain Query = refl

plain_not_escape : (class : Class) (b : ℕ) (after : List ℕ) → is_plain class b ≡ true → is_escape b after ≡ false
plain_not_escape class b after plain = by_test (is_escape b after) refl
  where
    by_test : (v : Bool) → is_escape b after ≡ v → v ≡ false
    by_test true e = absurd (false≢true (sym (percent_not_plain class) ∙ ap (is_plain class) (sym (escape_at b after e).sign) ∙ plain))
    by_test false e = refl

pub fault-nil : (class : Class) → fault class [] ≡ None
unfolding fault
fault-nil class = ap (λ ts. option_map first_byte (find (λ t. not (allows class t)) ts)) tokens-nil

-- where the class has the first token, the fault is that of the rest
pub fault-fine : (class : Class) (text : List ℕ) (t : Token) (rest : List ℕ) → tokens text ≡ t ∷ tokens rest → allows class t ≡ true
    → fault class text ≡ fault class rest
unfolding fault
fault-fine class text t rest cut fine = rw (cut, fine) refl

pub fault-plain : (class : Class) (b : ℕ) (after : List ℕ) → is_plain class b ≡ true → fault class (b ∷ after) ≡ fault class after
fault-plain class b after plain =
    fault-fine class (b ∷ after) (Byte b) after (tokens-byte b after (plain_not_escape class b after plain)) plain

pub fault-escape : (class : Class) (b : ℕ) (after : List ℕ) → is_escape b after ≡ true → fault class (b ∷ after) ≡ fault class (drop 2 after)
fault-escape class b after is =
    fault-fine class (b ∷ after) (Escape (get_or after 0 0) (get_or after 1 0)) (drop 2 after) (tokens-escape b after is) (escape_at b after is).digits

-- no token of the class begins here
pub fault-here : (class : Class) (b : ℕ) (after : List ℕ) → is_plain class b ≡ false → is_escape b after ≡ false → fault class (b ∷ after) ≡ Some b
unfolding fault
fault-here class b after plain never = rw (tokens-byte b after never, plain) refl

-- ---- no fault

all_found : (p : Token → Bool) (ts : List Token) → option_map first_byte (find (λ t. not (p t)) ts) ≡ None → list_all p ts ≡ true
all_found p [] h = refl
all_found p (t ∷ ts) h = at_token (p t) (all_found p ts) h
  where
    at_token : (v : Bool) → (option_map first_byte (find (λ t. not (p t)) ts) ≡ None → list_all p ts ≡ true)
        → option_map first_byte (cond (not v) (Some t) (find (λ t. not (p t)) ts)) ≡ None → (v && list_all p ts) ≡ true
    at_token true f k = f k
    at_token false f k = cc

none_found : (p : Token → Bool) (ts : List Token) → list_all p ts ≡ true → find (λ t. not (p t)) ts ≡ None
none_found p [] h = refl
none_found p (t ∷ ts) h = let both = and_parts (p t) (list_all p ts) h in rw both.0 (none_found p ts both.1)

-- a text has no fault exactly if it is in the class
pub no_fault : (class : Class) (text : List ℕ) → (fault class text ≡ None) ↔ IsIn class text
unfolding fault
no_fault class text = (
  λ h. all_found (allows class) (tokens text) h,
  λ h. ap (option_map first_byte) (none_found (allows class) (tokens text) h),
)

plain_bytes : (class : Class) (text : List ℕ) → list_all (is_plain class) text ≡ true → fault class text ≡ None
plain_bytes class [] h = fault-nil class
plain_bytes class (b ∷ text) h =
    let both = and_parts _ _ h in fault-plain class b text both.0 ∙ plain_bytes class text both.1

-- a text of bytes that stand for themselves is in the class
pub IsIn-plain : (class : Class) (text : List ℕ) → list_all (is_plain class) text ≡ true → IsIn class text
IsIn-plain class text h = (no_fault class text).0 (plain_bytes class text h)
