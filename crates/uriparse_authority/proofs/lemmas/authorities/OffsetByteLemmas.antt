-- The byte at the place of an authority's fault.
use Rattle.std.proofs.Common.{◌≡◌, ℕ, zero, suc, ◌+◌, ◌<◌, ◌↔◌, Bool, true, false, ◌&&◌, cond, List, [], ◌∷◌, ◌++◌, length, drop, Option, Some, None, Ok, Err, refl, sym, ap, ◌∙◌, subst, arith, append_assoc, append-nil, length-append}
use Rattle.std.specs.Prelude.{◌==◌, IsSomeAnd, Result, is_none, nat_le, not, slice_get, unwrap_or}
use Rattle.std.specs.Option.{option_map, ok_or}
use Rattle.std.specs.Str.Parse.{digits_value}
use Rattle.std.specs.List.{list_all, position_or_len}
use Rattle.std.proofs.lemmas.Bool.{eqb-true}
use Rattle.uriparse_text.specs.declared.internal.class.Class.{Class}
use Rattle.uriparse_text.specs.declared.internal.class.Class.TheVariants as class
use Rattle.uriparse_text.specs.Address.{is_ipv6_byte, ipv4_reading, ipv6_reading}
use Rattle.uriparse_text.specs.Bytes.{at_sign, colon, left_bracket, percent, right_bracket}
use Rattle.uriparse_text.specs.Classes.{is_plain}
use Rattle.uriparse_text.specs.Cuts.{ahead, following, before, after, from_first, up_to}
use Rattle.uriparse_text.specs.Faults as texts
use Rattle.uriparse_text.specs.Faults.{begins_fine}
use Rattle.uriparse_text.specs.Offset as text_offset
use Rattle.uriparse_text.specs.Offset.{offset_after}
use Rattle.uriparse_text.specs.Readings.{if_present, of_piece, reading_in, some_of, unless_fault}
use Rattle.uriparse_text.proofs.lemmas.readings.CutLemmas.{before_after, front_rest}
use Rattle.uriparse_text.proofs.lemmas.classes.FaultLemmas.{fault-nil}
use Rattle.uriparse_text.proofs.lemmas.classes.FaultByByteLemmas.{fault-begins_fine, fault_of_rest, fine_plain}
use Rattle.uriparse_text.proofs.lemmas.classes.OffsetLemmas.{fault_there}
use Rattle.uriparse_authority.specs.declared.authority.error.AuthorityError.{AuthorityError}
use Rattle.uriparse_authority.specs.declared.authority.error.AuthorityError.TheVariants as errors
use Rattle.uriparse_authority.specs.declared.authority.error.HostError.{HostError}
use Rattle.uriparse_authority.specs.declared.authority.error.HostError.TheVariants as host_errors
use Rattle.uriparse_authority.specs.declared.authority.error.PasswordError.{PasswordError}
use Rattle.uriparse_authority.specs.declared.authority.error.PasswordError.TheVariants as password_errors
use Rattle.uriparse_authority.specs.declared.authority.error.PortError.{PortError}
use Rattle.uriparse_authority.specs.declared.authority.error.PortError.TheVariants as port_errors
use Rattle.uriparse_authority.specs.declared.authority.error.UsernameError.{UsernameError}
use Rattle.uriparse_authority.specs.declared.authority.error.UsernameError.TheVariants as username_errors
use Rattle.uriparse_authority.specs.declared.authority.host.Host.{Host}
use Rattle.uriparse_authority.specs.declared.authority.host.Host.TheVariants.{IPv6Address}
use Rattle.uriparse_authority.specs.Username as username
use Rattle.uriparse_authority.specs.Password as password
use Rattle.uriparse_authority.specs.Port as port
use Rattle.uriparse_authority.specs.Future.{begins_future, has_form, is_future_byte}
use Rattle.uriparse_authority.specs.Host as host
use Rattle.uriparse_authority.specs.Host.{in_brackets}
use Rattle.uriparse_authority.specs.Authority.{fault, host_and_port_text, host_text, password_in, password_text, port_text, reading, userinfo_text, username_in, username_text}
use Rattle.uriparse_authority.specs.Offset.{IsHostByte, IsPortByte, IsWrongByte, fault_offset, host_offset, literal_offset, port_offset}
use Rattle.uriparse_authority.proofs.lemmas.hosts.HostLemmas.{brackets_exactly}
use Rattle.uriparse_authority.proofs.lemmas.authorities.AuthorityLemmas.{right_is}
use Rattle.uriparse_authority.proofs.lemmas.authorities.OffsetLemmas.{as_told, one_has, told_by}

-- ---- a byte of a piece of a text

pub get_after : (front u : List ℕ) (n : ℕ) → slice_get (front ++ u) (length front + n) ≡ slice_get u n
get_after [] u n = ap (slice_get u) (omega arith)
get_after (b ∷ front) u n =
    let at : length (b ∷ front) + n ≡ suc (length front + n) = omega arith in
    ap (slice_get (b ∷ front ++ u)) at ∙ get_after front u n

pub get_in : (u rest : List ℕ) (n : ℕ) → n < length u → slice_get (u ++ rest) n ≡ slice_get u n
get_in [] rest n h = absurd (omega (arith, h))
get_in (b ∷ u) rest zero h = refl
get_in (b ∷ u) rest (suc n) h = get_in u rest n (omega (arith, h))

-- the byte at this place of a piece that stands in a text after another one
pub get_piece : (t front u rest : List ℕ) (n : ℕ) → t ≡ front ++ (u ++ rest) → n < length u → slice_get t (length front + n) ≡ slice_get u n
get_piece t front u rest n whole within =
    ap (λ x. slice_get x (length front + n)) whole ∙ get_after front (u ++ rest) n ∙ get_in u rest n within

pub some_within : (t : List ℕ) (n b : ℕ) → slice_get t n ≡ Some b → n < length t
some_within [] n b h = cc
some_within (c ∷ t) zero b h = omega arith
some_within (c ∷ t) (suc n) b h = let later = some_within t n b h in omega (arith, later)

-- what holds of the byte at a place holds of it in the text
pub carried : (P : ℕ → Type 0) (t front u rest : List ℕ) (n offset : ℕ) → t ≡ front ++ (u ++ rest) → offset ≡ length front + n
    → IsSomeAnd (slice_get u n) P → IsSomeAnd (slice_get t offset) P
carried P t front u rest n offset whole there is = by_byte (slice_get u n) refl is
  where
    by_byte : (o : Option ℕ) → slice_get u n ≡ o → IsSomeAnd o P → IsSomeAnd (slice_get t offset) P
    by_byte None e k = absurd k
    by_byte (Some b) e k =
        let same : slice_get t offset ≡ Some b = ap (slice_get t) there ∙ get_piece t front u rest n whole (some_within u n b e) ∙ e in
        subst (λ o. IsSomeAnd o P) (sym same) k

-- ---- texts of a class

drop_get : (t : List ℕ) (n : ℕ) → slice_get (drop n t) 0 ≡ slice_get t n
drop_get [] zero = refl
drop_get [] (suc n) = refl
drop_get (b ∷ t) zero = refl
drop_get (b ∷ t) (suc n) = drop_get t n

pub text_there : (class : Class) (t : List ℕ) → slice_get t (text_offset.fault_offset class t) ≡ texts.fault class t
text_there class t = sym (drop_get t (text_offset.fault_offset class t)) ∙ sym (fault_there class t)

-- the error of a component that was read is that of the byte at the place
pub of_byte : {E : Type 0} (class : Class) (error_of : ℕ → E) (t : List ℕ) (e : E) → reading_in class error_of t ≡ Err e
    → IsSomeAnd (slice_get t (text_offset.fault_offset class t)) (λ b. error_of b ≡ e)
of_byte {E = E} class error_of t e h = subst (λ o. IsSomeAnd o (λ b. error_of b ≡ e)) (sym (text_there class t)) (by_fault (texts.fault class t) h)
  where
    by_fault : (o : Option ℕ) → ◌≡◌ {A = Result (List ℕ) E} (unless_fault (option_map error_of o) t) (Err e) → IsSomeAnd o (λ b. error_of b ≡ e)
    by_fault None k = absurd (cc)
    by_fault (Some b) k = cc

-- no byte of the class is the fault
outside : (class : Class) (t : List ℕ) (b : ℕ) → texts.fault class t ≡ Some b → is_plain class b ≡ false
outside class [] b h = let none = fault-nil class in absurd (cc)
outside class (c ∷ t) b h = by_test (begins_fine class (c ∷ t)) refl (outside class t b)
  where
    plain_test : (v : Bool) → is_plain class c ≡ v → begins_fine class (c ∷ t) ≡ false → is_plain class c ≡ false
    plain_test true e faulty = absurd (let fine = fine_plain class c t e in cc)
    plain_test false e faulty = e

    by_test : (v : Bool) → begins_fine class (c ∷ t) ≡ v → (texts.fault class t ≡ Some b → is_plain class b ≡ false) → is_plain class b ≡ false
    by_test true e later = later (sym (fault-begins_fine class c t e) ∙ h)
    by_test false e later =
        let here : Some c ≡ Some b = sym (fault_of_rest class (c ∷ t) (λ _. e)) ∙ h in
        let same : c ≡ b = cc in
        subst (λ x. is_plain class x ≡ false) same (plain_test (is_plain class c) refl e)

-- ---- hosts

-- the first byte that fails a test
failing : (p : ℕ → Bool) (t : List ℕ) → list_all p t ≡ false → IsSomeAnd (slice_get t (position_or_len (λ b. not (p b)) t)) (λ b. p b ≡ false)
failing p [] h = absurd (cc)
failing p (b ∷ t) h = by_test (p b) refl (failing p t) h
  where
    by_test : (v : Bool) → p b ≡ v
        → (list_all p t ≡ false → IsSomeAnd (slice_get t (position_or_len (λ c. not (p c)) t)) (λ c. p c ≡ false))
        → (v && list_all p t) ≡ false
        → IsSomeAnd (slice_get (b ∷ t) (cond (not (not v)) (1 + position_or_len (λ c. not (p c)) t) 0)) (λ c. p c ≡ false)
    by_test true e later k =
        let one : 1 + position_or_len (λ c. not (p c)) t ≡ suc (position_or_len (λ c. not (p c)) t) = omega arith in
        subst (λ n. IsSomeAnd (slice_get (b ∷ t) n) (λ c. p c ≡ false)) (sym one) (later k)
    by_test false e later k = e

module _ (t inner : List ℕ) (is : in_brackets t ≡ Some inner) where
  whole : t ≡ host.bracketed inner
  whole = (brackets_exactly t inner).0 is

  bracket_first : IsSomeAnd (slice_get t 0) (λ b. b ≡ left_bracket)
  bracket_first = subst (λ u. IsSomeAnd (slice_get u 0) (λ b. b ≡ left_bracket)) (sym whole) refl

  literal_byte : (p : ℕ → Bool) → list_all p inner ≡ false → IsSomeAnd (slice_get t (literal_offset p t)) (λ b. p b ≡ false)
  literal_byte p some =
      let there : literal_offset p t ≡ 1 + position_or_len (λ b. not (p b)) inner = ap (offset_after 1 (position_or_len (λ b. not (p b)))) is in
      carried (λ b. p b ≡ false) t (left_bracket ∷ []) inner (right_bracket ∷ []) (position_or_len (λ b. not (p b)) inner) (literal_offset p t) whole
      (omega (arith, there)) (failing p inner some)

host_byte : (t : List ℕ) (e : HostError) → host.reading t ≡ Err e → IsSomeAnd (slice_get t (host_offset e t)) (IsHostByte e)
host_byte t e h = by_brackets (in_brackets t) refl h
  where
    this : (x : HostError) → IsSomeAnd (slice_get t (host_offset x t)) (IsHostByte x) → ◌≡◌ {A = Result Host HostError} (Err x) (Err e)
        → IsSomeAnd (slice_get t (host_offset e t)) (IsHostByte e)
    this x is k = as_told (λ y. IsSomeAnd (slice_get t (host_offset y t)) (IsHostByte y)) x e is k

    by_name : (f : Option ℕ) → texts.fault class.Name t ≡ f
        → cond (is_none f) (Ok (host.address_or_name t (ipv4_reading t))) (Err host_errors.InvalidIPv4OrRegisteredNameCharacter) ≡ Err e
        → IsSomeAnd (slice_get t (host_offset e t)) (IsHostByte e)
    by_name None f k = cc
    by_name (Some b) f k =
        this host_errors.InvalidIPv4OrRegisteredNameCharacter
        (subst (λ o. IsSomeAnd o (λ c. is_plain class.Name c ≡ false)) (sym (text_there class.Name t ∙ f)) (outside class.Name t b f)) k

    by_literal : (v w x y : Bool) (o : Option (List ℕ)) (inner : List ℕ) → in_brackets t ≡ Some inner → list_all is_future_byte inner ≡ x
        → list_all is_ipv6_byte inner ≡ w
        → cond v (host.future_host (unless_fault (cond (not x) (Some host_errors.InvalidIPvFutureCharacter) (cond (not y) (Some host_errors.InvalidIPvFutureFormat) None)) inner))
        (cond w (ok_or (option_map IPv6Address o) host_errors.InvalidIPv6Format) (Err host_errors.InvalidIPv6Character)) ≡ Err e
        → IsSomeAnd (slice_get t (host_offset e t)) (IsHostByte e)
    by_literal true w false y o inner i f g k = this host_errors.InvalidIPvFutureCharacter (literal_byte t inner i is_future_byte f) k
    by_literal true w true false o inner i f g k = this host_errors.InvalidIPvFutureFormat (bracket_first t inner i) k
    by_literal true w true true o inner i f g k = cc
    by_literal false false x y o inner i f g k = this host_errors.InvalidIPv6Character (literal_byte t inner i is_ipv6_byte g) k
    by_literal false true x y None inner i f g k = this host_errors.InvalidIPv6Format (bracket_first t inner i) k
    by_literal false true x y (Some a) inner i f g k = cc

    by_brackets : (o : Option (List ℕ)) → in_brackets t ≡ o → host.bracket_reading o t ≡ Err e → IsSomeAnd (slice_get t (host_offset e t)) (IsHostByte e)
    by_brackets None i k = by_name (texts.fault class.Name t) refl k
    by_brackets (Some inner) i k =
        by_literal (begins_future inner) (list_all is_ipv6_byte inner) (list_all is_future_byte inner) (has_form inner) (ipv6_reading inner) inner i refl refl k

-- ---- ports

first_found : (p : ℕ → Bool) (t : List ℕ) (b : ℕ) (u : List ℕ) → from_first p t ≡ b ∷ u → IsSomeAnd (slice_get t (position_or_len p t)) (λ x. p x ≡ true)
first_found p [] b u h = absurd (cc)
first_found p (c ∷ t) b u h = by_test (p c) refl (first_found p t b u) h
  where
    by_test : (v : Bool) → p c ≡ v → (from_first p t ≡ b ∷ u → IsSomeAnd (slice_get t (position_or_len p t)) (λ x. p x ≡ true))
        → cond v (c ∷ t) (from_first p t) ≡ b ∷ u
        → IsSomeAnd (slice_get (c ∷ t) (cond (not v) (1 + position_or_len p t) 0)) (λ x. p x ≡ true)
    by_test true e later k = e
    by_test false e later k =
        let one : 1 + position_or_len p t ≡ suc (position_or_len p t) = omega arith in
        subst (λ n. IsSomeAnd (slice_get (c ∷ t) n) (λ x. p x ≡ true)) (sym one) (later k)

port_byte : (t : List ℕ) (e : PortError) → port.reading t ≡ Err e → IsSomeAnd (slice_get t (port_offset e t)) (IsPortByte e)
port_byte [] e h = cc
port_byte (c ∷ t) e h = by_range (nat_le (digits_value 10 (up_to port.is_other (c ∷ t))) port.largest) refl h
  where
    this : (x : PortError) → IsSomeAnd (slice_get (c ∷ t) (port_offset x (c ∷ t))) (IsPortByte x) → ◌≡◌ {A = Result (Option ℕ) PortError} (Err x) (Err e)
        → IsSomeAnd (slice_get (c ∷ t) (port_offset e (c ∷ t))) (IsPortByte e)
    this x is k = as_told (λ y. IsSomeAnd (slice_get (c ∷ t) (port_offset y (c ∷ t))) (IsPortByte y)) x e is k

    by_rest : (l : List ℕ) → from_first port.is_other (c ∷ t) ≡ l → unless_fault (port.other_fault l) (port.value_of (c ∷ t)) ≡ Err e
        → IsSomeAnd (slice_get (c ∷ t) (port_offset e (c ∷ t))) (IsPortByte e)
    by_rest [] f k = cc
    by_rest (b ∷ u) f k = this port_errors.InvalidCharacter (first_found port.is_other (c ∷ t) b u f) k

    first_digit : (v : Bool) → port.is_other c ≡ v → nat_le (digits_value 10 (cond v [] (c ∷ up_to port.is_other t))) port.largest ≡ false → port.is_other c ≡ false
    first_digit true e large = cc
    first_digit false e large = e

    by_range : (v : Bool) → nat_le (digits_value 10 (up_to port.is_other (c ∷ t))) port.largest ≡ v
        → unless_fault (cond v (port.other_fault (from_first port.is_other (c ∷ t))) (Some port_errors.Overflow)) (port.value_of (c ∷ t)) ≡ Err e
        → IsSomeAnd (slice_get (c ∷ t) (port_offset e (c ∷ t))) (IsPortByte e)
    by_range true f k = by_rest (from_first port.is_other (c ∷ t)) refl k
    by_range false f k = this port_errors.Overflow (first_digit (port.is_other c) refl f) k

-- ---- the authority

pub some_error : {A E : Type 0} (r : Result A E) (e : E) → some_of r ≡ Err e → r ≡ Err e
some_error (Ok x) e h = absurd (cc)
some_error (Err x) e h = let same : x ≡ e = cc in ap Err same

abbrev after_user : List ℕ → List ℕ
after_user a = at_sign ∷ [] ++ host_and_port_text a

module _ (a : List ℕ) where
  user_byte : (o : Option (List ℕ)) (x : UsernameError) → ahead at_sign o ++ host_and_port_text a ≡ a → if_present username.reading (username_in o) ≡ Err x
      → IsSomeAnd (slice_get a (offset_after 0 (text_offset.fault_offset class.Name) (username_in o))) (λ b. username.error_of b ≡ x)
  user_byte None x w k = absurd (cc)
  user_byte (Some i) x w k =
      let u = before colon i in
      let later = following colon (after colon i) in
      let whole : a ≡ u ++ (later ++ after_user a) =
      sym w ∙ ap (λ z. z ++ at_sign ∷ [] ++ host_and_port_text a) (sym (before_after colon i))
      ∙ append_assoc (u ++ later) (at_sign ∷ []) (host_and_port_text a) ∙ append_assoc u later (after_user a) in
      carried (λ b. username.error_of b ≡ x) a [] u (later ++ after_user a) (text_offset.fault_offset class.Name u) (0 + text_offset.fault_offset class.Name u) whole
      (omega arith) (of_byte class.Name username.error_of u x (some_error (username.reading u) x k))

  password_byte : (o : Option (List ℕ)) (x : PasswordError) → ahead at_sign o ++ host_and_port_text a ≡ a → if_present password.reading (password_in o) ≡ Err x
      → IsSomeAnd (slice_get a (length (unwrap_or (username_in o) []) + offset_after 1 (text_offset.fault_offset class.UserInfo) (password_in o))) (λ b. password.error_of b ≡ x)
  password_byte None x w k = absurd (cc)
  password_byte (Some i) x w k = by_after (after colon i) (before_after colon i) k
    where
      by_after : (o : Option (List ℕ)) → before colon i ++ following colon o ≡ i → if_present password.reading o ≡ Err x
          → IsSomeAnd (slice_get a (length (before colon i) + offset_after 1 (text_offset.fault_offset class.UserInfo) o)) (λ b. password.error_of b ≡ x)
      by_after None v j = absurd (cc)
      by_after (Some p) v j =
          let u = before colon i in
          let front = u ++ colon ∷ [] in
          let whole : a ≡ front ++ (p ++ after_user a) =
          sym w ∙ ap (λ z. z ++ at_sign ∷ [] ++ host_and_port_text a) (sym v ∙ sym (append_assoc u (colon ∷ []) p))
          ∙ append_assoc (front ++ p) (at_sign ∷ []) (host_and_port_text a) ∙ append_assoc front p (after_user a) in
          let long = length-append u (colon ∷ []) in
          carried (λ b. password.error_of b ≡ x) a front p (after_user a) (text_offset.fault_offset class.UserInfo p)
          (length u + (1 + text_offset.fault_offset class.UserInfo p)) whole (omega (arith, long))
          (of_byte class.UserInfo password.error_of p x (some_error (password.reading p) x j))

  cut_whole : a ≡ ahead at_sign (userinfo_text a) ++ (host_text a ++ following colon (port_text a))
  cut_whole = sym (front_rest at_sign a) ∙ ap (λ u. ahead at_sign (userinfo_text a) ++ u) (sym (right_is (host_and_port_text a)))

  port_there : (o : Option (List ℕ)) (x : PortError) → a ≡ ahead at_sign (userinfo_text a) ++ (host_text a ++ following colon o)
      → port.reading (unwrap_or o []) ≡ Err x
      → IsSomeAnd (slice_get a (length (ahead at_sign (userinfo_text a) ++ host_text a) + offset_after 1 (port_offset x) o)) (IsPortByte x)
  port_there None x w k = absurd (cc)
  port_there (Some p) x w k =
      let before_port = ahead at_sign (userinfo_text a) ++ host_text a in
      let front = before_port ++ colon ∷ [] in
      let whole : a ≡ front ++ (p ++ []) =
      w ∙ sym (append_assoc (ahead at_sign (userinfo_text a)) (host_text a) (colon ∷ p)) ∙ sym (append_assoc before_port (colon ∷ []) p)
      ∙ ap (λ z. front ++ z) (sym (append-nil p)) in
      let long = length-append before_port (colon ∷ []) in
      carried (IsPortByte x) a front p [] (port_offset x p) (length before_port + (1 + port_offset x p)) whole (omega (arith, long)) (port_byte p x k)

  pub byte_there : (e : AuthorityError) → fault a ≡ Some e → IsSomeAnd (slice_get a (fault_offset e a)) (IsWrongByte e)
  unfolding reading
  byte_there e h =
      let P = λ (x : AuthorityError). IsSomeAnd (slice_get a (fault_offset x a)) (IsWrongByte x) in
      one_has (of_piece errors.Username (if_present username.reading (username_text a))) (of_piece errors.Password (if_present password.reading (password_text a)))
      (of_piece errors.Host (host.reading (host_text a))) (of_piece errors.Port (port.reading (unwrap_or (port_text a) [])))
      (λ u w g n. record { username = u; password = w; host = g; port = n }) e (P e)
      (told_by errors.Username _ e P (λ x k. user_byte (userinfo_text a) x (front_rest at_sign a) k))
      (told_by errors.Password _ e P (λ x k. password_byte (userinfo_text a) x (front_rest at_sign a) k))
      (told_by errors.Host _ e P (λ x k. carried (IsHostByte x) a (ahead at_sign (userinfo_text a)) (host_text a) (following colon (port_text a))
      (host_offset x (host_text a)) (length (ahead at_sign (userinfo_text a)) + host_offset x (host_text a)) cut_whole refl (host_byte (host_text a) x k)))
      (told_by errors.Port _ e P (λ x k. port_there (port_text a) x cut_whole k))
      h

-- ---- the byte is a `%` exactly for the error of an escape

-- for errors of a byte, of which that of a `%` is no other byte's
pub sign_exactly : {E : Type 0} (escape : E) (other : ℕ → E) (o : Option ℕ) (e : E) → ((b : ℕ) → other b ≡ escape → ⊥)
    → IsSomeAnd o (λ b. cond (b == percent) escape (other b) ≡ e) → (e ≡ escape) ↔ (o ≡ Some percent)
sign_exactly escape other None e apart h = absurd h
sign_exactly {E = E} escape other (Some b) e apart h =
    (λ is. by_test (b == percent) refl (h ∙ is), λ there. let byte : b ≡ percent = cc in sym h ∙ ap (λ c. cond (c == percent) escape (other c)) byte)
  where
    by_test : (v : Bool) → (b == percent) ≡ v → ◌≡◌ {A = E} (cond v escape (other b)) escape → Some b ≡ Some percent
    by_test true f k = ap Some (eqb-true b percent f)
    by_test false f k = absurd (apart b k)

pub username_sign : (o : Option ℕ) (e : UsernameError) → IsSomeAnd o (λ b. username.error_of b ≡ e) → (e ≡ username_errors.InvalidPercentEncoding) ↔ (o ≡ Some percent)
username_sign o e h =
    sign_exactly username_errors.InvalidPercentEncoding (λ b. cond (b == colon) username_errors.ContainsColon username_errors.InvalidCharacter) o e
    (λ b. apart (b == colon)) h
  where
    apart : (v : Bool) → cond v username_errors.ContainsColon username_errors.InvalidCharacter ≡ username_errors.InvalidPercentEncoding → ⊥
    apart true k = cc
    apart false k = cc

pub password_sign : (o : Option ℕ) (e : PasswordError) → IsSomeAnd o (λ b. password.error_of b ≡ e) → (e ≡ password_errors.InvalidPercentEncoding) ↔ (o ≡ Some percent)
password_sign o e h = sign_exactly password_errors.InvalidPercentEncoding (λ _. password_errors.InvalidCharacter) o e (λ b k. cc) h

pub username_escape : (a : List ℕ) (e : UsernameError) → fault a ≡ Some (errors.Username e)
    → (e ≡ username_errors.InvalidPercentEncoding) ↔ (slice_get a (fault_offset (errors.Username e) a) ≡ Some percent)
username_escape a e h = username_sign (slice_get a (fault_offset (errors.Username e) a)) e (byte_there a (errors.Username e) h)

pub password_escape : (a : List ℕ) (e : PasswordError) → fault a ≡ Some (errors.Password e)
    → (e ≡ password_errors.InvalidPercentEncoding) ↔ (slice_get a (fault_offset (errors.Password e) a) ≡ Some percent)
password_escape a e h = password_sign (slice_get a (fault_offset (errors.Password e) a)) e (byte_there a (errors.Password e) h)
