-- Which error a code is of.
use Rattle.std.proofs.Common.{◌≡◌, ℕ, ◌+◌, ◌==◌, Bool, true, false, cond, Option, Some, None, refl, sym, ap, ◌∙◌, arith}
use Rattle.std.specs.Prelude.{if◌then◌else◌}
use Rattle.std.proofs.lemmas.Bool.{eqb-true}
use Rattle.uriparse_text.specs.declared.query.QueryError.TheVariants as queries
use Rattle.uriparse_text.specs.declared.fragment.FragmentError.TheVariants as fragments
use Rattle.uriparse_text.specs.declared.segment.error.PathError.TheVariants as paths
use Rattle.uriparse_authority.specs.declared.authority.error.AuthorityError.TheVariants as authorities
use Rattle.uriparse_authority.specs.declared.authority.error.HostError.TheVariants as hosts
use Rattle.uriparse_authority.specs.declared.authority.error.UsernameError.TheVariants as usernames
use Rattle.uriparse_authority.specs.declared.authority.error.PasswordError.TheVariants as passwords
use Rattle.uriparse_authority.specs.declared.authority.error.PortError.TheVariants as ports
use Rattle.uriparse_scheme.specs.declared.scheme.error.SchemeError.TheVariants as schemes
use Rattle.uriparse_reference.specs.declared.uri_reference.error.URIReferenceError.{URIReferenceError}
use Rattle.uriparse_reference.specs.declared.uri_reference.error.URIReferenceError.TheVariants as references
use Rattle.uriparse.specs.declared.uri.error.URIError.{URIError}
use Rattle.uriparse.specs.declared.uri.error.URIError.TheVariants as uris
use Rattle.uriparse_ffi.specs.Code.{accepted, no_room, out_of_memory, in_base, code_of, uri_code, base_code}

error_of : ℕ → Option URIReferenceError
error_of n =
    if n == 4 then Some (references.SchemelessPathStartsWithColonSegment)
    else if n == 6 then Some (references.AbsolutePathStartsWithTwoSlashes)
    else if n == 7 then Some (references.MissingPath)
    else if n == 0x10 then Some (references.Authority (authorities.Username usernames.ContainsColon))
    else if n == 0x11 then Some (references.Authority (authorities.Username usernames.InvalidCharacter))
    else if n == 0x12 then Some (references.Authority (authorities.Username usernames.InvalidPercentEncoding))
    else if n == 0x21 then Some (references.Authority (authorities.Password passwords.InvalidCharacter))
    else if n == 0x22 then Some (references.Authority (authorities.Password passwords.InvalidPercentEncoding))
    else if n == 0x30 then Some (references.Authority (authorities.Host hosts.AddressMechanismNotSupported))
    else if n == 0x31 then Some (references.Authority (authorities.Host hosts.InvalidIPv4OrRegisteredNameCharacter))
    else if n == 0x32 then Some (references.Authority (authorities.Host hosts.InvalidIPv6Character))
    else if n == 0x33 then Some (references.Authority (authorities.Host hosts.InvalidIPv6Format))
    else if n == 0x34 then Some (references.Authority (authorities.Host hosts.InvalidIPvFutureCharacter))
    else if n == 0x35 then Some (references.Authority (authorities.Host hosts.InvalidIPvFutureFormat))
    else if n == 0x41 then Some (references.Authority (authorities.Port ports.InvalidCharacter))
    else if n == 0x42 then Some (references.Authority (authorities.Port ports.Overflow))
    else if n == 1 then Some (references.Path paths.OutOfMemory)
    else if n == 5 then Some (references.Path paths.ExceededMaximumLength)
    else if n == 0x51 then Some (references.Path paths.InvalidCharacter)
    else if n == 0x52 then Some (references.Path paths.InvalidPercentEncoding)
    else if n == 0x61 then Some (references.Query queries.InvalidCharacter)
    else if n == 0x62 then Some (references.Query queries.InvalidPercentEncoding)
    else if n == 0x71 then Some (references.Fragment fragments.InvalidCharacter)
    else if n == 0x72 then Some (references.Fragment fragments.InvalidPercentEncoding)
    else if n == 0x80 then Some (references.Scheme schemes.Empty)
    else if n == 0x81 then Some (references.Scheme schemes.InvalidCharacter)
    else if n == 0x82 then Some (references.Scheme schemes.StartsWithNonAlphabetic)
    else None

error_back : (e : URIReferenceError) → error_of (code_of e) ≡ Some e
unfolding error_of
error_back references.SchemelessPathStartsWithColonSegment = refl
error_back references.AbsolutePathStartsWithTwoSlashes = refl
error_back references.MissingPath = refl
error_back (references.Authority (authorities.Username usernames.ContainsColon)) = refl
error_back (references.Authority (authorities.Username usernames.InvalidCharacter)) = refl
error_back (references.Authority (authorities.Username usernames.InvalidPercentEncoding)) = refl
error_back (references.Authority (authorities.Password passwords.InvalidCharacter)) = refl
error_back (references.Authority (authorities.Password passwords.InvalidPercentEncoding)) = refl
error_back (references.Authority (authorities.Host hosts.AddressMechanismNotSupported)) = refl
error_back (references.Authority (authorities.Host hosts.InvalidIPv4OrRegisteredNameCharacter)) = refl
error_back (references.Authority (authorities.Host hosts.InvalidIPv6Character)) = refl
error_back (references.Authority (authorities.Host hosts.InvalidIPv6Format)) = refl
error_back (references.Authority (authorities.Host hosts.InvalidIPvFutureCharacter)) = refl
error_back (references.Authority (authorities.Host hosts.InvalidIPvFutureFormat)) = refl
error_back (references.Authority (authorities.Port ports.InvalidCharacter)) = refl
error_back (references.Authority (authorities.Port ports.Overflow)) = refl
error_back (references.Path paths.OutOfMemory) = refl
error_back (references.Path paths.ExceededMaximumLength) = refl
error_back (references.Path paths.InvalidCharacter) = refl
error_back (references.Path paths.InvalidPercentEncoding) = refl
error_back (references.Query queries.InvalidCharacter) = refl
error_back (references.Query queries.InvalidPercentEncoding) = refl
error_back (references.Fragment fragments.InvalidCharacter) = refl
error_back (references.Fragment fragments.InvalidPercentEncoding) = refl
error_back (references.Scheme schemes.Empty) = refl
error_back (references.Scheme schemes.InvalidCharacter) = refl
error_back (references.Scheme schemes.StartsWithNonAlphabetic) = refl

uri_error_of : ℕ → Option URIError
uri_error_of n =
    if n == 3 then Some (uris.NotURI)
    else if n == 6 then Some (uris.AbsolutePathStartsWithTwoSlashes)
    else if n == 7 then Some (uris.MissingPath)
    else if n == 9 then Some (uris.MissingScheme)
    else if n == 0x10 then Some (uris.Authority (authorities.Username usernames.ContainsColon))
    else if n == 0x11 then Some (uris.Authority (authorities.Username usernames.InvalidCharacter))
    else if n == 0x12 then Some (uris.Authority (authorities.Username usernames.InvalidPercentEncoding))
    else if n == 0x21 then Some (uris.Authority (authorities.Password passwords.InvalidCharacter))
    else if n == 0x22 then Some (uris.Authority (authorities.Password passwords.InvalidPercentEncoding))
    else if n == 0x30 then Some (uris.Authority (authorities.Host hosts.AddressMechanismNotSupported))
    else if n == 0x31 then Some (uris.Authority (authorities.Host hosts.InvalidIPv4OrRegisteredNameCharacter))
    else if n == 0x32 then Some (uris.Authority (authorities.Host hosts.InvalidIPv6Character))
    else if n == 0x33 then Some (uris.Authority (authorities.Host hosts.InvalidIPv6Format))
    else if n == 0x34 then Some (uris.Authority (authorities.Host hosts.InvalidIPvFutureCharacter))
    else if n == 0x35 then Some (uris.Authority (authorities.Host hosts.InvalidIPvFutureFormat))
    else if n == 0x41 then Some (uris.Authority (authorities.Port ports.InvalidCharacter))
    else if n == 0x42 then Some (uris.Authority (authorities.Port ports.Overflow))
    else if n == 1 then Some (uris.Path paths.OutOfMemory)
    else if n == 5 then Some (uris.Path paths.ExceededMaximumLength)
    else if n == 0x51 then Some (uris.Path paths.InvalidCharacter)
    else if n == 0x52 then Some (uris.Path paths.InvalidPercentEncoding)
    else if n == 0x61 then Some (uris.Query queries.InvalidCharacter)
    else if n == 0x62 then Some (uris.Query queries.InvalidPercentEncoding)
    else if n == 0x71 then Some (uris.Fragment fragments.InvalidCharacter)
    else if n == 0x72 then Some (uris.Fragment fragments.InvalidPercentEncoding)
    else if n == 0x80 then Some (uris.Scheme schemes.Empty)
    else if n == 0x81 then Some (uris.Scheme schemes.InvalidCharacter)
    else if n == 0x82 then Some (uris.Scheme schemes.StartsWithNonAlphabetic)
    else None

uri_error_back : (e : URIError) → uri_error_of (uri_code e) ≡ Some e
unfolding uri_error_of
uri_error_back uris.NotURI = refl
uri_error_back uris.AbsolutePathStartsWithTwoSlashes = refl
uri_error_back uris.MissingPath = refl
uri_error_back uris.MissingScheme = refl
uri_error_back (uris.Authority (authorities.Username usernames.ContainsColon)) = refl
uri_error_back (uris.Authority (authorities.Username usernames.InvalidCharacter)) = refl
uri_error_back (uris.Authority (authorities.Username usernames.InvalidPercentEncoding)) = refl
uri_error_back (uris.Authority (authorities.Password passwords.InvalidCharacter)) = refl
uri_error_back (uris.Authority (authorities.Password passwords.InvalidPercentEncoding)) = refl
uri_error_back (uris.Authority (authorities.Host hosts.AddressMechanismNotSupported)) = refl
uri_error_back (uris.Authority (authorities.Host hosts.InvalidIPv4OrRegisteredNameCharacter)) = refl
uri_error_back (uris.Authority (authorities.Host hosts.InvalidIPv6Character)) = refl
uri_error_back (uris.Authority (authorities.Host hosts.InvalidIPv6Format)) = refl
uri_error_back (uris.Authority (authorities.Host hosts.InvalidIPvFutureCharacter)) = refl
uri_error_back (uris.Authority (authorities.Host hosts.InvalidIPvFutureFormat)) = refl
uri_error_back (uris.Authority (authorities.Port ports.InvalidCharacter)) = refl
uri_error_back (uris.Authority (authorities.Port ports.Overflow)) = refl
uri_error_back (uris.Path paths.OutOfMemory) = refl
uri_error_back (uris.Path paths.ExceededMaximumLength) = refl
uri_error_back (uris.Path paths.InvalidCharacter) = refl
uri_error_back (uris.Path paths.InvalidPercentEncoding) = refl
uri_error_back (uris.Query queries.InvalidCharacter) = refl
uri_error_back (uris.Query queries.InvalidPercentEncoding) = refl
uri_error_back (uris.Fragment fragments.InvalidCharacter) = refl
uri_error_back (uris.Fragment fragments.InvalidPercentEncoding) = refl
uri_error_back (uris.Scheme schemes.Empty) = refl
uri_error_back (uris.Scheme schemes.InvalidCharacter) = refl
uri_error_back (uris.Scheme schemes.StartsWithNonAlphabetic) = refl

pub one : (e f : URIReferenceError) → code_of e ≡ code_of f → e ≡ f
one e f h =
    let same : Some e ≡ Some f = sym (error_back e) ∙ (ap error_of h ∙ error_back f) in
    cc

pub one_uri : (e f : URIError) → uri_code e ≡ uri_code f → e ≡ f
one_uri e f h =
    let same : Some e ≡ Some f = sym (uri_error_back e) ∙ (ap uri_error_of h ∙ uri_error_back f) in
    cc

pub not_accepted : (e : URIReferenceError) → code_of e ≡ accepted → ⊥
unfolding error_of
not_accepted e h =
    let same : None ≡ Some e = sym (ap error_of h) ∙ error_back e in
    absurd (cc)

pub not_no_room : (e : URIReferenceError) → code_of e ≡ no_room → ⊥
unfolding error_of
not_no_room e h =
    let same : None ≡ Some e = sym (ap error_of h) ∙ error_back e in
    absurd (cc)

pub one_base : (c d : ℕ) → base_code c ≡ base_code d → c ≡ d
one_base c d h = by_tests (c == out_of_memory) (d == out_of_memory) refl refl h
  where
    by_tests : (v w : Bool) → (c == out_of_memory) ≡ v → (d == out_of_memory) ≡ w → cond v out_of_memory (in_base + c) ≡ cond w out_of_memory (in_base + d) → c ≡ d
    by_tests true true e f h = eqb-true c out_of_memory e ∙ sym (eqb-true d out_of_memory f)
    by_tests true false e f h = absurd (omega arith)
    by_tests false true e f h = absurd (omega arith)
    by_tests false false e f h = omega arith
