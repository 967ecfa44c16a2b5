-- Where the fault of an authority is.
use Rattle.std.proofs.Common.{◌≡◌, ℕ, ◌+◌, ◌-◌, ◌<◌, ◌≤◌, Bool, true, false, cond, List, [], ◌∷◌, length, Option, Some, None, Ok, Err, refl, sym, ap, ◌∙◌, subst, arith, length-append}
use Rattle.std.specs.Prelude.{not, nat_le, Result, is_none, unwrap_or}
use Rattle.std.specs.Option.{option_map, ok_or}
use Rattle.std.specs.Str.Parse.{digits_value}
use Rattle.std.specs.List.{list_all, position_or_len}
use Rattle.std.proofs.lemmas.List.Sums.{prefix_len-le-length}
use Rattle.uriparse_text.specs.declared.internal.class.Class.TheVariants as class
use Rattle.uriparse_text.specs.Address.{is_ipv6_byte, ipv4_reading, ipv6_reading}
use Rattle.uriparse_text.specs.Bytes.{at_sign, colon}
use Rattle.uriparse_text.specs.Cuts.{ahead, following, before, after, from_first, up_to}
use Rattle.uriparse_text.specs.Faults as texts
use Rattle.uriparse_text.specs.Offset.{offset_after}
use Rattle.uriparse_text.specs.Readings.{◌>>=◌, fault_in, if_present, of_piece, unless_fault}
use Rattle.uriparse_text.proofs.lemmas.readings.CutLemmas.{before_after, front_rest}
use Rattle.uriparse_text.proofs.lemmas.classes.OffsetLemmas.{fault_before_end, present_before_end}
use Rattle.uriparse_authority.specs.declared.authority.error.AuthorityError.{AuthorityError}
use Rattle.uriparse_authority.specs.declared.authority.error.AuthorityError.TheVariants as errors
use Rattle.uriparse_authority.specs.declared.authority.error.HostError.{HostError}
use Rattle.uriparse_authority.specs.declared.authority.error.HostError.TheVariants as host_errors
use Rattle.uriparse_authority.specs.declared.authority.error.PortError.{PortError}
use Rattle.uriparse_authority.specs.declared.authority.error.PortError.TheVariants as port_errors
use Rattle.uriparse_authority.specs.declared.authority.host.Host.{Host}
use Rattle.uriparse_authority.specs.declared.authority.host.Host.TheVariants.{IPv6Address}
use Rattle.uriparse_authority.specs.Username as username
use Rattle.uriparse_authority.specs.Password as password
use Rattle.uriparse_authority.specs.Port as port
use Rattle.uriparse_authority.specs.Future.{begins_future, has_form, is_future_byte}
use Rattle.uriparse_authority.specs.Host as host
use Rattle.uriparse_authority.specs.Host.{in_brackets}
use Rattle.uriparse_authority.specs.Authority.{cut_host, cut_port, fault, host_and_port_text, host_text, password_in, password_text, port_text, reading, userinfo_text, username_in, username_text}
use Rattle.uriparse_authority.specs.Offset.{fault_offset, host_offset, literal_offset, port_offset}
use Rattle.uriparse_authority.proofs.lemmas.hosts.HostLemmas.{brackets_exactly}
use Rattle.uriparse_authority.proofs.lemmas.authorities.AuthorityLemmas.{right_is}

-- ---- the length of what precedes each component

pub before_host : (a : List ℕ) → length a ≡ length (ahead at_sign (userinfo_text a)) + length (host_and_port_text a)
before_host a = ap length (sym (front_rest at_sign a)) ∙ length-append (ahead at_sign (userinfo_text a)) (host_and_port_text a)

following_length : (mark : ℕ) (o : Option (List ℕ)) → length (following mark o) ≡ offset_after 1 length o
following_length mark None = refl
following_length mark (Some t) = omega arith

pub host_and_port : (t : List ℕ) → length t ≡ length (cut_host t) + offset_after 1 length (cut_port t)
host_and_port t =
    ap length (sym (right_is t)) ∙ length-append (cut_host t) (following colon (cut_port t))
    ∙ ap (λ n. length (cut_host t) + n) (following_length colon (cut_port t))

-- the user name and the password in user information
pub user_whole : (i : List ℕ) → length i ≡ length (before colon i) + offset_after 1 length (after colon i)
user_whole i =
    let whole = ap length (sym (before_after colon i)) ∙ length-append (before colon i) (following colon (after colon i)) in
    let last = following_length colon (after colon i) in
    omega (arith, whole, last)

user_lengths : (o : Option (List ℕ)) → length (unwrap_or (username_in o) []) + offset_after 1 length (password_in o) ≤ length (ahead at_sign o)
user_lengths None = omega arith
user_lengths (Some i) =
    let whole = user_whole i in
    let long = length-append i (at_sign ∷ []) in
    omega (arith, whole, long)

-- what holds of the one error holds of the other
pub as_told : {A E : Type 0} (P : E → Type 0) (x e : E) → P x → ◌≡◌ {A = Result A E} (Err x) (Err e) → P e
as_told P x e is k = let same : x ≡ e = cc in subst P same is

-- ---- hosts

pub inner_length : (t inner : List ℕ) → in_brackets t ≡ Some inner → length t ≡ length inner + 2
inner_length t inner e = ap length ((brackets_exactly t inner).0 e) ∙ (let long = length-append inner (93 ∷ []) in omega (arith, long))

literal_before_end : (p : ℕ → Bool) (t inner : List ℕ) → in_brackets t ≡ Some inner → literal_offset p t < length t
literal_before_end p t inner e =
    let found = ap (offset_after 1 (position_or_len (λ b. not (p b)))) e in
    let within = prefix_len-le-length (λ b. not (not (p b))) inner in
    let long = inner_length t inner e in
    omega (arith, found, within, long)

-- the place of a byte between brackets
pub bracket_offset : (p : ℕ → Bool) (t inner : List ℕ) (n : ℕ) → in_brackets t ≡ Some inner → n ≡ position_or_len (λ b. not (p b)) inner
    → (1 + n ≡ literal_offset p t) × (1 + n ≤ length t)
bracket_offset p t inner n e is =
    let found = ap (offset_after 1 (position_or_len (λ b. not (p b)))) e in
    let within = prefix_len-le-length (λ b. not (not (p b))) inner in
    let long = inner_length t inner e in
    (omega (arith, found, is), omega (arith, is, within, long))

host_before_end : (t : List ℕ) (e : HostError) → host.reading t ≡ Err e → host_offset e t < length t
host_before_end t e h = by_brackets (in_brackets t) refl h
  where
    this : (x : HostError) → host_offset x t < length t → ◌≡◌ {A = Result Host HostError} (Err x) (Err e) → host_offset e t < length t
    this x is k = as_told (λ y. host_offset y t < length t) x e is k

    by_name : (f : Option ℕ) → texts.fault class.Name t ≡ f
        → cond (is_none f) (Ok (host.address_or_name t (ipv4_reading t))) (Err host_errors.InvalidIPv4OrRegisteredNameCharacter) ≡ Err e → host_offset e t < length t
    by_name None f k = cc
    by_name (Some b) f k = this host_errors.InvalidIPv4OrRegisteredNameCharacter (fault_before_end class.Name t b f) k

    by_literal : (v w x y : Bool) (o : Option (List ℕ)) (inner : List ℕ) → in_brackets t ≡ Some inner
        → cond v (host.future_host (unless_fault (cond (not x) (Some host_errors.InvalidIPvFutureCharacter) (cond (not y) (Some host_errors.InvalidIPvFutureFormat) None)) inner))
        (cond w (ok_or (option_map IPv6Address o) host_errors.InvalidIPv6Format) (Err host_errors.InvalidIPv6Character)) ≡ Err e → host_offset e t < length t
    by_literal true w false y o inner i k = this host_errors.InvalidIPvFutureCharacter (literal_before_end is_future_byte t inner i) k
    by_literal true w true false o inner i k = this host_errors.InvalidIPvFutureFormat (omega (arith, inner_length t inner i)) k
    by_literal true w true true o inner i k = cc
    by_literal false false x y o inner i k = this host_errors.InvalidIPv6Character (literal_before_end is_ipv6_byte t inner i) k
    by_literal false true x y None inner i k = this host_errors.InvalidIPv6Format (omega (arith, inner_length t inner i)) k
    by_literal false true x y (Some a) inner i k = cc

    by_brackets : (o : Option (List ℕ)) → in_brackets t ≡ o → host.bracket_reading o t ≡ Err e → host_offset e t < length t
    by_brackets None i k = by_name (texts.fault class.Name t) refl k
    by_brackets (Some inner) i k =
        by_literal (begins_future inner) (list_all is_ipv6_byte inner) (list_all is_future_byte inner) (has_form inner) (ipv6_reading inner) inner i k

-- ---- ports

other_before_end : (p : ℕ → Bool) (t : List ℕ) (b : ℕ) (u : List ℕ) → from_first p t ≡ b ∷ u → position_or_len p t < length t
other_before_end p [] b u h = cc
other_before_end p (c ∷ t) b u h = by_test (p c) (other_before_end p t b u) h
  where
    by_test : (v : Bool) → (from_first p t ≡ b ∷ u → position_or_len p t < length t) → cond v (c ∷ t) (from_first p t) ≡ b ∷ u
        → cond (not v) (1 + position_or_len p t) 0 < length (c ∷ t)
    by_test true later k = omega arith
    by_test false later k = let s = later k in omega (arith, s)

port_before_end : (t : List ℕ) (e : PortError) → port.reading t ≡ Err e → port_offset e t < length t
port_before_end [] e h = cc
port_before_end (c ∷ t) e h = by_range (nat_le (digits_value 10 (up_to port.is_other (c ∷ t))) port.largest) h
  where
    this : (x : PortError) → port_offset x (c ∷ t) < length (c ∷ t) → ◌≡◌ {A = Result (Option ℕ) PortError} (Err x) (Err e) → port_offset e (c ∷ t) < length (c ∷ t)
    this x is k = as_told (λ y. port_offset y (c ∷ t) < length (c ∷ t)) x e is k

    by_rest : (l : List ℕ) → from_first port.is_other (c ∷ t) ≡ l → unless_fault (port.other_fault l) (port.value_of (c ∷ t)) ≡ Err e → port_offset e (c ∷ t) < length (c ∷ t)
    by_rest [] f k = cc
    by_rest (b ∷ u) f k = this port_errors.InvalidCharacter (other_before_end port.is_other (c ∷ t) b u f) k

    by_range : (v : Bool) → unless_fault (cond v (port.other_fault (from_first port.is_other (c ∷ t))) (Some port_errors.Overflow)) (port.value_of (c ∷ t)) ≡ Err e → port_offset e (c ∷ t) < length (c ∷ t)
    by_range true k = by_rest (from_first port.is_other (c ∷ t)) refl k
    by_range false k = this port_errors.Overflow (omega arith) k

present_port : (o : Option (List ℕ)) (e : PortError) → port.reading (unwrap_or o []) ≡ Err e → offset_after 1 (port_offset e) o < offset_after 1 length o
present_port None e h = absurd (let none = port_before_end [] e h in omega (arith, none))
present_port (Some t) e h = let s = port_before_end t e h in omega (arith, s)

-- ---- the authority

-- the error is that of one of four results in sequence
pub one_has : {A B C D E : Type 0} (a : Result A AuthorityError) (b : Result B AuthorityError) (c : Result C AuthorityError) (d : Result D AuthorityError)
    (make : A → B → C → D → E) (e : AuthorityError) (P : Type 0) → (fault_in a ≡ Some e → P) → (fault_in b ≡ Some e → P) → (fault_in c ≡ Some e → P)
    → (fault_in d ≡ Some e → P) → fault_in (a >>= λ x. b >>= λ y. c >>= λ z. d >>= λ w. Ok (make x y z w)) ≡ Some e → P
one_has (Err x) b c d make e P na nb nc nd k = na k
one_has (Ok a) (Err x) c d make e P na nb nc nd k = nb k
one_has (Ok a) (Ok b) (Err x) d make e P na nb nc nd k = nc k
one_has (Ok a) (Ok b) (Ok c) (Err x) make e P na nb nc nd k = nd k
one_has (Ok a) (Ok b) (Ok c) (Ok d) make e P na nb nc nd k = cc

-- the error is that of a component
pub told_by : {A E : Type 0} (told : E → AuthorityError) (r : Result A E) (e : AuthorityError) (P : AuthorityError → Type 0)
    → ((x : E) → r ≡ Err x → P (told x)) → fault_in (of_piece told r) ≡ Some e → P e
told_by told (Ok a) e P is k = cc
told_by told (Err x) e P is k = let same : told x ≡ e = cc in subst P same (is x refl)

pub before_end : (a : List ℕ) (e : AuthorityError) → fault a ≡ Some e → fault_offset e a < length a
unfolding reading
before_end a e h =
    let whole = before_host a in
    let right = host_and_port (host_and_port_text a) in
    let user = user_lengths (userinfo_text a) in
    let joined = length-append (ahead at_sign (userinfo_text a)) (host_text a) in
    let P = λ (x : AuthorityError). fault_offset x a < length a in
    one_has (of_piece errors.Username (if_present username.reading (username_text a))) (of_piece errors.Password (if_present password.reading (password_text a)))
    (of_piece errors.Host (host.reading (host_text a))) (of_piece errors.Port (port.reading (unwrap_or (port_text a) [])))
    (λ u w g n. record { username = u; password = w; host = g; port = n }) e (P e)
    (told_by errors.Username _ e P (λ x k. let s = present_before_end class.Name username.error_of (username_text a) x 0 k in
    let t = front_length (username_text a) in omega (arith, whole, user, s, t)))
    (told_by errors.Password _ e P (λ x k. let s = present_before_end class.UserInfo password.error_of (password_text a) x 1 k in omega (arith, whole, user, s)))
    (told_by errors.Host _ e P (λ x k. let s = host_before_end (host_text a) x k in omega (arith, whole, right, s)))
    (told_by errors.Port _ e P (λ x k. let s = present_port (port_text a) x k in omega (arith, whole, right, joined, s)))
    h
  where
    front_length : (o : Option (List ℕ)) → offset_after 0 length o ≡ length (unwrap_or o [])
    front_length None = refl
    front_length (Some t) = omega arith

-- ---- the places that are returned

pub user_within : (a u : List ℕ) → userinfo_text a ≡ Some u → length u ≤ length a
user_within a u e =
    let whole = before_host a in
    let front = ap (λ o. length (ahead at_sign o)) e in
    let long = length-append u (at_sign ∷ []) in
    omega (arith, whole, front, long)

module _ (a rest g : List ℕ) (is_rest : rest ≡ host_and_port_text a) (is_host : g ≡ cut_host rest) where
  host_is : g ≡ host_text a
  host_is = is_host ∙ ap cut_host is_rest

  pub rest_within : length a ≡ length (ahead at_sign (userinfo_text a)) + length rest
  rest_within = before_host a ∙ ap (λ u. length (ahead at_sign (userinfo_text a)) + length u) (sym is_rest)

  pub host_within : length rest ≡ length g + offset_after 1 length (cut_port rest)
  host_within = host_and_port rest ∙ ap (λ u. length u + offset_after 1 length (cut_port rest)) (sym is_host)

  pub host_there : (e : HostError) → length a - length rest + host_offset e g ≡ fault_offset (errors.Host e) a
  host_there e = let whole = rest_within in let same = ap (host_offset e) host_is in omega (arith, whole, same)

  pub port_there : (e : PortError) → length a - length rest + length g + offset_after 1 (port_offset e) (cut_port rest) ≡ fault_offset (errors.Port e) a
  port_there e =
      let whole = rest_within in
      let joined = length-append (ahead at_sign (userinfo_text a)) (host_text a) in
      let same = ap length host_is in
      let port = ap (λ u. offset_after 1 (port_offset e) (cut_port u)) is_rest in
      omega (arith, whole, joined, same, port)
