-- Authorities with escapes for the bytes that may not stand in them.
use Rattle.std.proofs.Common.{◌≡◌, ℕ, true, ◌||◌, List, [], ◌∷◌, ◌++◌, Option, Some, None, inl, inr, refl, sym, ap, subst, ◌∙◌, append-nil, append_assoc, arith}
use Rattle.std.specs.Prelude.{◌==◌, IfSome, codes, unwrap_or}
use Rattle.std.specs.Option.{option_map}
use Rattle.std.specs.Char.{is_digit}
use Rattle.std.specs.List.{list_all}
use Rattle.std.proofs.lemmas.Bool.Decides.{nat_tests}
use Rattle.uriparse_text.specs.declared.internal.class.Class.TheVariants.{Name, UserInfo}
use Rattle.uriparse_text.specs.Bytes.{at_sign, colon, left_bracket, right_bracket, is_hex, is_among, is_unreserved, is_sub_delim}
use Rattle.uriparse_text.specs.Classes.{is_plain}
use Rattle.uriparse_text.specs.Faults.{IsIn}
use Rattle.uriparse_text.specs.Cuts.{following, ahead}
use Rattle.uriparse_text.specs.Readings.{IfPresent}
use Rattle.uriparse_text.specs.Coding.{may_stand}
use Rattle.uriparse_text.proofs.lemmas.classes.FaultByByteLemmas.{hex_plain}
use Rattle.uriparse_text.proofs.lemmas.readings.CutLemmas.{weaker}
use Rattle.uriparse_text.proofs.lemmas.tokens.EscapingLemmas as escaping
use Rattle.uriparse_authority.specs.Authority.{AuthorityParts, Spells, userinfo, joined}
use Rattle.uriparse_authority.specs.Future.{is_future_byte}
use Rattle.uriparse_authority.specs.Username as username
use Rattle.uriparse_authority.specs.Password as password
use Rattle.uriparse_authority.specs.Port as port
use Rattle.uriparse_authority.proofs.lemmas.hosts.HostLemmas.{IsHostText, spelled_host}
use Rattle.uriparse_reference.specs.Escaped.{escaped_authority}

-- the text stays as it is, whatever follows it
abbrev Stays : List ℕ → Type 0
Stays t = (u : List ℕ) → escaped_authority (t ++ u) ≡ t ++ escaped_authority u

stays-append : (t u : List ℕ) → Stays t → Stays u → Stays (t ++ u)
stays-append t u h k =
    λ v. ap escaped_authority (append_assoc t u v) ∙ h (u ++ v) ∙ ap (λ l. t ++ l) (k v) ∙ sym (append_assoc t u (escaped_authority v))

stays_all : (t : List ℕ) → list_all (may_stand UserInfo (codes "@[]")) t ≡ true → Stays t
stays_all t h = λ u. escaping.escaped-allowed UserInfo (codes "@[]") t u h

delimiter_stays : (b : ℕ) → may_stand UserInfo (codes "@[]") b ≡ true → Stays (b ∷ [])
delimiter_stays b h = λ u. escaping.stays_allowed UserInfo (codes "@[]") b u h

colon_may : may_stand UserInfo (codes "@[]") colon ≡ true
unfolding is_plain is_unreserved is_sub_delim
colon_may = refl

at_sign_may : may_stand UserInfo (codes "@[]") at_sign ≡ true
unfolding is_plain is_unreserved is_sub_delim
at_sign_may = refl

left_may : may_stand UserInfo (codes "@[]") left_bracket ≡ true
unfolding is_plain is_unreserved is_sub_delim
left_may = refl

right_may : may_stand UserInfo (codes "@[]") right_bracket ≡ true
unfolding is_plain is_unreserved is_sub_delim
right_may = refl

name_may : (b : ℕ) → is_plain Name b ≡ true → may_stand UserInfo (codes "@[]") b ≡ true
unfolding is_plain
name_may b h = ap (λ v. v || b == colon || is_among (codes "@[]") b) h

future_may : (b : ℕ) → is_future_byte b ≡ true → may_stand UserInfo (codes "@[]") b ≡ true
unfolding is_plain
future_may b h = ap (λ v. v || is_among (codes "@[]") b) h

digit_hex : (b : ℕ) → is_digit b 10 ≡ true → is_hex b ≡ true
digit_hex b h = grind (arith, nat_tests)

digit_may : (b : ℕ) → is_digit b 10 ≡ true → may_stand UserInfo (codes "@[]") b ≡ true
digit_may b h = escaping.own_class UserInfo (codes "@[]") b (hex_plain UserInfo b (digit_hex b h))

name_stays : (t : List ℕ) → IsIn Name t → Stays t
name_stays t h = λ u. escaping.escaped-IsIn UserInfo (codes "@[]") Name name_may t u h

password_stays : (t : List ℕ) → IsIn UserInfo t → Stays t
password_stays t h = λ u. escaping.escaped-IsIn UserInfo (codes "@[]") UserInfo (escaping.own_class UserInfo (codes "@[]")) t u h

following_stays : (o : Option (List ℕ)) → IfSome o Stays → Stays (following colon o)
following_stays None h = λ u. refl
following_stays (Some t) h = stays-append (colon ∷ []) t (delimiter_stays colon colon_may) h

user_stays : (u w : Option (List ℕ)) → IfSome u username.IsUsername → IfSome w Stays → Stays (ahead at_sign (userinfo u w))
user_stays None w is also = λ v. refl
user_stays (Some t) w is also =
    stays-append (t ++ following colon w) (at_sign ∷ []) (stays-append t (following colon w) (name_stays t is) (following_stays w also))
    (delimiter_stays at_sign at_sign_may)

host_stays : (g : List ℕ) → IsHostText g → Stays g
host_stays g (inl n) = name_stays g n
host_stays g (inr u) =
    subst Stays (sym u.1) (stays-append (left_bracket ∷ []) (u.0 ++ right_bracket ∷ []) (delimiter_stays left_bracket left_may)
    (stays-append u.0 (right_bracket ∷ []) (stays_all u.0 (weaker is_future_byte (may_stand UserInfo (codes "@[]")) future_may u.0 u.2))
    (delimiter_stays right_bracket right_may)))

passwords_stay : (w : Option (List ℕ)) → IfSome w password.IsPassword → IfSome w Stays
passwords_stay None h = tt
passwords_stay (Some t) h = password_stays t h

ports_stay : (n : Option (List ℕ)) → port.are_digits (unwrap_or n []) ≡ true → IfSome n Stays
ports_stay None h = tt
ports_stay (Some t) h = stays_all t (weaker (λ b. is_digit b 10) (may_stand UserInfo (codes "@[]")) digit_may t h)

-- an authority is not changed
pub authority_stays : (a : List ℕ) (p : AuthorityParts) → Spells a p → escaped_authority a ≡ a
authority_stays a p s =
    let whole : List ℕ = joined p.username p.password s.host_text s.port_text in
    let all : Stays whole =
    stays-append (ahead at_sign (userinfo p.username p.password)) (s.host_text ++ following colon s.port_text)
    (user_stays p.username p.password s.is_username (passwords_stay p.password s.is_password))
    (stays-append s.host_text (following colon s.port_text) (host_stays s.host_text (spelled_host s.host_text p.host s.is_host))
    (following_stays s.port_text (ports_stay s.port_text s.is_port.digits))) in
    ap escaped_authority (s.whole ∙ sym (append-nil whole)) ∙ all [] ∙ append-nil whole ∙ sym s.whole

pub authorities_stay : (o : Option (List ℕ)) (a : Option AuthorityParts) → IfPresent Spells o a → option_map escaped_authority o ≡ o
authorities_stay None a h = refl
authorities_stay (Some t) None h = absurd h
authorities_stay (Some t) (Some p) h = ap Some (authority_stays t p h)
