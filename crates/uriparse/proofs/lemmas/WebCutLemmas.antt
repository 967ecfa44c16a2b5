-- The URL Standard cuts a string into the components that RFC 3986 cuts it into, if there is a host and no user information.
use Rattle.std.proofs.Common.{◌≡◌, ℕ, Bool, true, false, cond, not, List, [], ◌∷◌, ◌++◌, drop, Option, Some, None, unwrap_or, refl, sym, ap, ◌∙◌, subst, append_assoc, inl, inr}
use Rattle.std.specs.Prelude.{◌==◌, ◌&&◌, nat_le, IfSome}
use Rattle.std.specs.Char.{is_digit}
use Rattle.std.specs.List.{list_any, list_all}
use Rattle.std.specs.Option.{option_and_then, option_map, option_or}
use Rattle.std.specs.Str.Parse.{digits_value}
use Rattle.std.proofs.lemmas.Bool.{and_parts, not-true, eqb-true, le-leb}
use Rattle.uriparse_text.specs.Bytes.{at_sign, colon, is_hex, left_bracket, right_bracket, slash, is_unreserved, is_sub_delim}
use Rattle.uriparse_text.specs.Cuts.{ahead, following, from_last, lacks, up_to_last}
use Rattle.uriparse_text.proofs.lemmas.readings.CutLemmas.{any-none, lacks-append, lacks-following, lacks_by}
use Rattle.uriparse_authority.specs.Authority as authority
use Rattle.uriparse_authority.specs.Authority.{AuthorityParts}
use Rattle.uriparse_authority.specs.Future.{is_future_byte}
use Rattle.uriparse_authority.specs.Host.{bracketed}
use Rattle.uriparse_authority.specs.Port as port
use Rattle.uriparse_authority.specs.Port.{are_digits, largest, value_of}
use Rattle.uriparse_authority.proofs.lemmas.authorities.AuthorityLemmas.{ArePieces, spelled_pieces}
use Rattle.uriparse_authority.proofs.lemmas.authorities.UserLemmas.{username_lacks}
use Rattle.uriparse_authority.proofs.lemmas.hosts.HostLemmas.{IsHostText, host_text_lacks}
use Rattle.uriparse.specs.Web.{after_credentials, credentials, is_at, is_inside, unless_default, web_host_text, web_port, web_port_text, without_slashes}

-- ---- slashes

-- two slashes and an authority that isn't empty
pub two_slashes_gone : (b : ℕ) (t : List ℕ) → (b == slash) ≡ false → without_slashes (slash ∷ slash ∷ b ∷ t) ≡ b ∷ t
two_slashes_gone b t e = ap (λ v. cond v (without_slashes t) (b ∷ t)) e

-- ---- the host and the port

and_false : (v : Bool) → (v && false) ≡ false
and_false true = refl
and_false false = refl

either_way : {A : Type 0} (v : Bool) (x : A) → cond v x x ≡ x
either_way true x = refl
either_way false x = refl

stays_outside : (b : ℕ) → (b == left_bracket) ≡ false → is_inside false b ≡ false
stays_outside b e = ap (λ v. cond v true (cond (b == right_bracket) false false)) e ∙ either_way (b == right_bracket) false

stays_inside : (b : ℕ) → (b == right_bracket) ≡ false → is_inside true b ≡ true
stays_inside b e = ap (λ v. cond (b == left_bracket) true (cond v false true)) e ∙ either_way (b == left_bracket) true

-- the host and the port of a text that has them in this order
abbrev pub IsCutAt : Bool → List ℕ → List ℕ → Option (List ℕ) → Type 0
IsCutAt inside t g n = (web_host_text inside t ≡ g) × (web_port_text inside t ≡ unwrap_or n [])

name_cut : (g : List ℕ) (n : Option (List ℕ)) → lacks colon g ≡ true → lacks left_bracket g ≡ true → IsCutAt false (g ++ following colon n) g n
name_cut [] None h k = (refl, refl)
name_cut [] (Some t) h k = (refl, refl)
name_cut (b ∷ g) n h k =
    let no_colon = and_parts (not (b == colon)) _ h in
    let no_bracket = and_parts (not (b == left_bracket)) _ k in
    let e : (b == colon) ≡ false = not-true (b == colon) no_colon.0 in
    let f : is_inside false b ≡ false = stays_outside b (not-true (b == left_bracket) no_bracket.0) in
    let rest = name_cut g n no_colon.1 no_bracket.1 in
    let u : List ℕ = g ++ following colon n in (
      ap (λ v. cond (v && true) [] (b ∷ web_host_text (is_inside false b) u)) e ∙ ap (λ v. b ∷ web_host_text v u) f ∙ ap (λ t. b ∷ t) rest.0,
      ap (λ v. cond (v && true) u (web_port_text (is_inside false b) u)) e ∙ ap (λ v. web_port_text v u) f ∙ rest.1,
    )

inside_cut : (u : List ℕ) (n : Option (List ℕ)) → lacks right_bracket u ≡ true
    → IsCutAt true (u ++ right_bracket ∷ following colon n) (u ++ right_bracket ∷ []) n
inside_cut [] None h = (refl, refl)
inside_cut [] (Some t) h = (refl, refl)
inside_cut (b ∷ u) n h =
    let both = and_parts (not (b == right_bracket)) _ h in
    let f : is_inside true b ≡ true = stays_inside b (not-true (b == right_bracket) both.0) in
    let rest = inside_cut u n both.1 in
    let t : List ℕ = u ++ right_bracket ∷ following colon n in (
      ap (λ v. cond v [] (b ∷ web_host_text (is_inside true b) t)) (and_false (b == colon)) ∙ ap (λ v. b ∷ web_host_text v t) f ∙ ap (λ t. b ∷ t) rest.0,
      ap (λ v. cond v t (web_port_text (is_inside true b) t)) (and_false (b == colon)) ∙ ap (λ v. web_port_text v t) f ∙ rest.1,
    )

bracket_cut : (u : List ℕ) (n : Option (List ℕ)) → lacks right_bracket u ≡ true → IsCutAt false (bracketed u ++ following colon n) (bracketed u) n
bracket_cut u n h =
    let e = append_assoc u (right_bracket ∷ []) (following colon n) in
    let w = inside_cut u n h in
    (ap (λ t. left_bracket ∷ web_host_text true t) e ∙ ap (λ t. left_bracket ∷ t) w.0, ap (web_port_text true) e ∙ w.1)

pub host_cut : (g : List ℕ) (n : Option (List ℕ)) → IsHostText g → IsCutAt false (g ++ following colon n) g n
unfolding is_unreserved is_sub_delim
host_cut g n (inl is) = name_cut g n (username_lacks colon refl g is) (username_lacks left_bracket refl g is)
host_cut g n (inr is) =
    subst (λ g. IsCutAt false (g ++ following colon n) g n) (sym is.1) (bracket_cut is.0 n (lacks_by is_future_byte right_bracket is.0 refl is.2))

-- ---- an authority without user information

no_user : (g : List ℕ) (n : Option (List ℕ)) → IsHostText g → ((b : ℕ) → is_digit b 10 ≡ false → IfSome n (λ t. lacks b t ≡ true))
    → list_any is_at (g ++ following colon n) ≡ false
no_user g n is digits =
    any-none is_at (g ++ following colon n)
    (lacks-append at_sign g (following colon n) (host_text_lacks at_sign refl refl refl refl g is) (lacks-following at_sign colon n refl (digits at_sign refl)))

-- what the Standard finds in the authority's text
pub record IsPlain (a g : List ℕ) (n : Option (List ℕ)) : Type 0 where
  pub credentials : credentials a ≡ []
  pub host : web_host_text false (after_credentials a) ≡ g
  pub port : web_port_text false (after_credentials a) ≡ unwrap_or n []

joined_plain : (g : List ℕ) (n : Option (List ℕ)) → IsHostText g → ((b : ℕ) → is_digit b 10 ≡ false → IfSome n (λ t. lacks b t ≡ true))
    → IsPlain (g ++ following colon n) g n
joined_plain g n is digits =
    let a : List ℕ = g ++ following colon n in
    let none = no_user g n is digits in
    let after : after_credentials a ≡ a = ap (λ v. cond v (drop 1 (from_last is_at a)) a) none in
    let cut = host_cut g n is in
    record {
      credentials = ap (λ v. cond v (up_to_last is_at a) []) none;
      host = ap (web_host_text false) after ∙ cut.0;
      port = ap (web_port_text false) after ∙ cut.1;
    }

pub plain_authority : (a : List ℕ) (p : AuthorityParts) (s : authority.Spells a p) → p.username ≡ None → IsPlain a s.host_text s.port_text
plain_authority a p s none =
    let are = spelled_pieces a p s in
    let whole : a ≡ s.host_text ++ following colon s.port_text =
    s.whole ∙ ap (λ u. ahead at_sign (authority.userinfo u p.password) ++ (s.host_text ++ following colon s.port_text)) none in
    subst (λ a. IsPlain a s.host_text s.port_text) (sym whole) (joined_plain s.host_text s.port_text are.is_host are.is_port)

-- ---- the port

in_use : (default : ℕ) (n : Option ℕ) → option_or (option_and_then (unless_default default) n) (Some default) ≡ option_or n (Some default)
in_use default None = refl
in_use default (Some n) = by_test (n == default) refl
  where
    by_test : (v : Bool) → (n == default) ≡ v → option_or (cond v None (Some n)) (Some default) ≡ Some n
    by_test true e = ap Some (sym (eqb-true n default e))
    by_test false e = refl

pub port_agrees : (default : ℕ) (t : List ℕ) (n : Option ℕ) → port.Spells t n
    → (m : Option ℕ) × (web_port default t ≡ Some m) × (option_or m (Some default) ≡ option_or n (Some default))
port_agrees default t n s =
    let small : nat_le (digits_value 10 t) largest ≡ true = le-leb (digits_value 10 t) largest s.in_range in
    let m : Option ℕ = option_and_then (unless_default default) (value_of t) in (
      m,
      ap (λ v. cond (v && nat_le (digits_value 10 t) largest) (Some m) None) s.digits ∙ ap (λ v. cond v (Some m) None) small,
      in_use default (value_of t) ∙ ap (λ n. option_or n (Some default)) (sym s.value),
    )
