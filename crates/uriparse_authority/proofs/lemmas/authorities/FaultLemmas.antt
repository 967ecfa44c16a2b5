-- Errors that are no text's fault.
use Rattle.std.proofs.Common.{◌≡◌, ℕ, Bool, true, false, cond, not, List, [], ◌∷◌, Option, Some, None, Ok, Err, refl, sym, ap, ◌∙◌}
use Rattle.std.proofs.lemmas.Bool.{false≢true, and_parts}
use Rattle.std.proofs.lemmas.List.Folds.{list_all-append}
use Rattle.std.specs.Prelude.{◌==◌, IfSome, Result, is_none, unwrap_or}
use Rattle.std.specs.List.{list_all}
use Rattle.std.specs.Option.{option_map, ok_or}
use Rattle.uriparse_text.specs.declared.internal.class.Class.TheVariants as class
use Rattle.uriparse_text.specs.Bytes.{percent, colon}
use Rattle.uriparse_text.specs.Cuts.{lacks}
use Rattle.uriparse_text.specs.Faults as texts
use Rattle.uriparse_text.specs.Address.{is_ipv6_byte, ipv4_reading, ipv6_reading}
use Rattle.uriparse_text.specs.Readings.{◌>>=◌, fault_in, if_present, of_piece, some_of, unless_fault}
use Rattle.uriparse_text.proofs.lemmas.classes.GrammarLemmas.{leftmost}
use Rattle.uriparse_authority.specs.declared.authority.error.AuthorityError.{AuthorityError}
use Rattle.uriparse_authority.specs.declared.authority.error.AuthorityError.TheVariants as errors
use Rattle.uriparse_authority.specs.declared.authority.error.HostError.{HostError}
use Rattle.uriparse_authority.specs.declared.authority.error.HostError.TheVariants as host_errors
use Rattle.uriparse_authority.specs.declared.authority.error.PasswordError.{PasswordError}
use Rattle.uriparse_authority.specs.declared.authority.error.PortError.{PortError}
use Rattle.uriparse_authority.specs.declared.authority.error.UsernameError.{UsernameError}
use Rattle.uriparse_authority.specs.declared.authority.error.UsernameError.TheVariants as username_errors
use Rattle.uriparse_authority.specs.declared.authority.host.Host.{Host}
use Rattle.uriparse_authority.specs.declared.authority.host.Host.TheVariants.{IPv6Address}
use Rattle.uriparse_authority.specs.Username as username
use Rattle.uriparse_authority.specs.Password as password
use Rattle.uriparse_authority.specs.Port as port
use Rattle.uriparse_authority.specs.Future as future
use Rattle.uriparse_authority.specs.Future.{begins_future, has_form, is_future_byte}
use Rattle.uriparse_authority.specs.Host as host
use Rattle.uriparse_authority.specs.Authority.{fault, host_text, password_text, port_text, reading, username_text}
use Rattle.uriparse_authority.proofs.lemmas.authorities.PieceLemmas.{username_lacks_colon}

-- ---- each host's kind of address is known

future_known : (x y : Bool) (t : List ℕ)
    → fault_in (unless_fault (cond (not x) (Some host_errors.InvalidIPvFutureCharacter) (cond (not y) (Some host_errors.InvalidIPvFutureFormat) None)) t)
    ≡ Some host_errors.AddressMechanismNotSupported → ⊥
future_known false y t k = cc
future_known true false t k = cc
future_known true true t k = cc

literal_known : (v w : Bool) (f : Result (List ℕ) HostError) (o : Option (List ℕ)) → (fault_in f ≡ Some host_errors.AddressMechanismNotSupported → ⊥)
    → fault_in (cond v (host.future_host f) (cond w (ok_or (option_map IPv6Address o) host_errors.InvalidIPv6Format) (Err host_errors.InvalidIPv6Character)))
    ≡ Some host_errors.AddressMechanismNotSupported → ⊥
literal_known true w (Ok t) o n k = cc
literal_known true w (Err e) o n k = n k
literal_known false true f None n k = cc
literal_known false true f (Some a) n k = cc
literal_known false false f o n k = cc

host_known : (t : List ℕ) → fault_in (host.reading t) ≡ Some host_errors.AddressMechanismNotSupported → ⊥
host_known t k = by_brackets (host.in_brackets t) k
  where
    by_name : (v : Bool) (h : Host) → fault_in (cond v (Ok h) (Err host_errors.InvalidIPv4OrRegisteredNameCharacter)) ≡ Some host_errors.AddressMechanismNotSupported → ⊥
    by_name true h i = cc
    by_name false h i = cc

    by_brackets : (o : Option (List ℕ)) → fault_in (host.bracket_reading o t) ≡ Some host_errors.AddressMechanismNotSupported → ⊥
    by_brackets None i = by_name (is_none (texts.fault class.Name t)) (host.address_or_name t (ipv4_reading t)) i
    by_brackets (Some inner) i =
        literal_known (begins_future inner) (list_all is_ipv6_byte inner) (future.reading inner) (ipv6_reading inner)
        (future_known (list_all is_future_byte inner) (has_form inner) inner) i

pub host_supported : (t : List ℕ) → host.reading t ≡ Err host_errors.AddressMechanismNotSupported → ⊥
host_supported t k = host_known t (ap fault_in k)

-- ---- a user name ends before its first colon

username_plain : (o : Option (List ℕ)) → IfSome o (λ t. lacks colon t ≡ true) → fault_in (if_present username.reading o) ≡ Some username_errors.ContainsColon → ⊥
username_plain None l k = cc
username_plain (Some t) l k = by_fault (texts.fault class.Name t) refl k
  where
    not_colon : (b : ℕ) → texts.fault class.Name t ≡ Some b → (b == colon) ≡ true → ⊥
    not_colon b e same =
        let here = (leftmost class.Name t b).0 e in
        let all = sym (list_all-append (λ c. not (c == colon)) here.before (b ∷ here.after)) ∙ sym (ap (lacks colon) here.whole) ∙ l in
        let rest = (and_parts (lacks colon here.before) (lacks colon (b ∷ here.after)) all).1 in
        false≢true (sym (ap not same) ∙ (and_parts (not (b == colon)) (lacks colon here.after) rest).0)

    by_byte : (b : ℕ) (v w : Bool) → (b == colon) ≡ w → texts.fault class.Name t ≡ Some b
        → Some (cond v username_errors.InvalidPercentEncoding (cond w username_errors.ContainsColon username_errors.InvalidCharacter)) ≡ Some username_errors.ContainsColon → ⊥
    by_byte b true w same e i = cc
    by_byte b false true same e i = not_colon b e same
    by_byte b false false same e i = cc

    by_fault : (f : Option ℕ) → texts.fault class.Name t ≡ f → fault_in (some_of (unless_fault (option_map username.error_of f) t)) ≡ Some username_errors.ContainsColon → ⊥
    by_fault None e i = cc
    by_fault (Some b) e i = by_byte b (b == percent) (b == colon) refl e i

-- ---- the authority

-- four results in sequence have a fault only if one of them has it
in_none : {A B C D E : Type 0} (a : Result A AuthorityError) (b : Result B AuthorityError) (c : Result C AuthorityError) (d : Result D AuthorityError)
    (make : A → B → C → D → E) (e : AuthorityError) → (fault_in a ≡ Some e → ⊥) → (fault_in b ≡ Some e → ⊥) → (fault_in c ≡ Some e → ⊥) → (fault_in d ≡ Some e → ⊥)
    → fault_in (a >>= λ x. b >>= λ y. c >>= λ z. d >>= λ w. Ok (make x y z w)) ≡ Some e → ⊥
in_none (Err x) b c d make e na nb nc nd k = na k
in_none (Ok a) (Err x) c d make e na nb nc nd k = nb k
in_none (Ok a) (Ok b) (Err x) d make e na nb nc nd k = nc k
in_none (Ok a) (Ok b) (Ok c) (Err x) make e na nb nc nd k = nd k
in_none (Ok a) (Ok b) (Ok c) (Ok d) make e na nb nc nd k = cc

other_piece : {A E : Type 0} (told : E → AuthorityError) (e : AuthorityError) → ((x : E) → told x ≡ e → ⊥) → (r : Result A E) → fault_in (of_piece told r) ≡ Some e → ⊥
other_piece told e n (Ok a) k = cc
other_piece told e n (Err x) k = n x cc

this_piece : {A E : Type 0} (told : E → AuthorityError) (x : E) → ((y : E) → told y ≡ told x → y ≡ x) → (r : Result A E) → (fault_in r ≡ Some x → ⊥)
    → fault_in (of_piece told r) ≡ Some (told x) → ⊥
this_piece told x one (Ok a) n k = cc
this_piece told x one (Err y) n k = n (ap Some (one y cc))

-- the result of reading each component
abbrev read_username : List ℕ → Result (Option (List ℕ)) UsernameError
read_username a = if_present username.reading (username_text a)

abbrev read_password : List ℕ → Result (Option (List ℕ)) PasswordError
read_password a = if_present password.reading (password_text a)

abbrev read_port : List ℕ → Result (Option ℕ) PortError
read_port a = port.reading (unwrap_or (port_text a) [])

none_has : (a : List ℕ) (e : AuthorityError) → (fault_in (of_piece errors.Username (read_username a)) ≡ Some e → ⊥) → (fault_in (of_piece errors.Password (read_password a)) ≡ Some e → ⊥)
    → (fault_in (of_piece errors.Host (host.reading (host_text a))) ≡ Some e → ⊥) → (fault_in (of_piece errors.Port (read_port a)) ≡ Some e → ⊥) → fault a ≡ Some e → ⊥
unfolding reading
none_has a e = in_none (of_piece errors.Username (read_username a)) (of_piece errors.Password (read_password a)) (of_piece errors.Host (host.reading (host_text a)))
    (of_piece errors.Port (read_port a)) (λ u w h n. record { username = u; password = w; host = h; port = n }) e

pub never_unsupported : (a : List ℕ) → fault a ≡ Some (errors.Host host_errors.AddressMechanismNotSupported) → ⊥
never_unsupported a = none_has a (errors.Host host_errors.AddressMechanismNotSupported)
    (other_piece errors.Username _ (λ x i. cc) (read_username a)) (other_piece errors.Password _ (λ x i. cc) (read_password a))
    (this_piece errors.Host _ (λ y i. cc) (host.reading (host_text a)) (host_known (host_text a))) (other_piece errors.Port _ (λ x i. cc) (read_port a))

pub never_colon : (a : List ℕ) → fault a ≡ Some (errors.Username username_errors.ContainsColon) → ⊥
never_colon a = none_has a (errors.Username username_errors.ContainsColon)
    (this_piece errors.Username _ (λ y i. cc) (read_username a) (username_plain (username_text a) (username_lacks_colon a)))
    (other_piece errors.Password _ (λ x i. cc) (read_password a)) (other_piece errors.Host _ (λ x i. cc) (host.reading (host_text a)))
    (other_piece errors.Port _ (λ x i. cc) (read_port a))
