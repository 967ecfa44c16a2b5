-- The string of a reference with some components changed: RFC 3986, sections 3 and 5.3.
use Rattle.std.specs.Prelude.{◌≡◌, ℕ, Bool, true, false, ◌||◌, if◌then◌else◌, List, [], ◌∷◌, Option, Some, None, is_some, Result, Ok, Err, MatchResult}
use Rattle.std.specs.Option.{option_map, option_and_then, option_or}
use Rattle.uriparse_text.specs.Bytes.{slash}
use Rattle.uriparse_text.specs.Cuts.{up_to, from_first}
use Rattle.uriparse_text.specs.Query as query
use Rattle.uriparse_text.specs.Fragment as fragment
use Rattle.uriparse_text.specs.Readings.{◌>>=◌, of_piece, some_of, if_present, unless_fault}
use Rattle.uriparse_text.specs.Starts.{WritesOr}
use Rattle.uriparse_text.specs.declared.segment.error.PathError.{PathError}
use Rattle.uriparse_text.specs.declared.segment.error.PathError.TheVariants.{InvalidCharacter}
use Rattle.uriparse_path.specs.Path.{PathParts}
use Rattle.uriparse_path.specs.Faults as path
use Rattle.uriparse_path.specs.Faults.{ends_path}
use Rattle.uriparse_authority.specs.Authority as authority
use Rattle.uriparse_authority.specs.Authority.{AuthorityParts, with_empty, password_after}
use Rattle.uriparse_authority.specs.Pieces.{pieces_reading}
use Rattle.uriparse_authority.specs.declared.authority.error.AuthorityError.{AuthorityError}
use Rattle.uriparse_scheme.specs.Scheme as scheme
use Rattle.uriparse_reference.specs.Wanted.{Wanted, Wish}
use Rattle.uriparse_reference.specs.declared.uri_reference.change.ChangeError.{ChangeError}
use Rattle.uriparse_reference.specs.declared.uri_reference.change.ChangeError.TheVariants as errors
use Rattle.uriparse_reference.specs.declared.uri_reference.error.URIReferenceError.{URIReferenceError}
use Rattle.uriparse_reference.specs.declared.uri_reference.error.URIReferenceError.TheVariants as faults
use Rattle.uriparse_reference.specs.Reference.{Parts, is_abempty, joined, path_of, path_refusal}
use Rattle.uriparse_reference.specs.Cuts.{scheme_text, authority_text, path_text, query_text, fragment_text}
use Rattle.uriparse_reference.specs.View.{Viewed}

-- the strings of the components of an authority
pub record AuthorityStrings : Type 0 where
  pub username : Option (List ℕ)
  pub password : Option (List ℕ)
  pub host : List ℕ
  pub port : Option (List ℕ)

-- the strings of the components of a reference
pub record Strings : Type 0 where
  pub scheme : Option (List ℕ)
  pub authority : Option AuthorityStrings
  pub path : List ℕ
  pub query : Option (List ℕ)
  pub fragment : Option (List ℕ)

-- the strings that a string is cut into
abbrev pub authority_strings : List ℕ → AuthorityStrings
authority_strings a = record {
  username = authority.username_text a;
  password = authority.password_text a;
  host = authority.host_text a;
  port = authority.port_text a;
}

abbrev pub strings : List ℕ → Strings
strings t = record {
  scheme = scheme_text t;
  authority = option_map authority_strings (authority_text t);
  path = path_text t;
  query = query_text t;
  fragment = fragment_text t;
}

-- after an authority a path begins with a slash, or is empty
abbrev pub after_authority : Bool → List ℕ → List ℕ
after_authority true h = if is_abempty h then h else slash ∷ h
after_authority false h = h

-- the string that they make
abbrev pub authority_whole : AuthorityStrings → List ℕ
authority_whole a = authority.joined a.username a.password a.host a.port

abbrev pub whole : Strings → List ℕ
whole s = joined s.scheme (option_map authority_whole s.authority) (after_authority (is_some s.authority) s.path) s.query s.fragment

-- ---- what a change makes of them

-- the string of a component after a change
abbrev pub changed : Wish → Option (List ℕ) → Option (List ℕ)
changed None old = old
changed (Some new) old = new

abbrev pub is_set : Wish → Bool
is_set (Some (Some t)) = true
is_set (Some None) = false
is_set None = false

-- A user name, a password and a port stand only beside a host.
abbrev pub sets_beside_host : Wanted → Bool
sets_beside_host c = is_set c.username || (is_set c.password || is_set c.port)

-- A kept password goes with a user name that is removed, and a password that is set brings an empty user name.
abbrev pub authority_with : Wanted → Option AuthorityStrings → List ℕ → AuthorityStrings
authority_with c old host =
    let u = changed c.username (option_and_then (λ (a : AuthorityStrings). a.username) old) in
    let w = changed c.password (password_after u (option_and_then (λ (a : AuthorityStrings). a.password) old)) in
    record {
      username = with_empty u w;
      password = w;
      host = host;
      port = changed c.port (option_and_then (λ (a : AuthorityStrings). a.port) old);
    }

-- an authority with this host, or none without one
abbrev pub changed_authority : Wanted → Option AuthorityStrings → Option (List ℕ) → Result (Option AuthorityStrings) ChangeError
changed_authority c old (Some host) = Ok (Some (authority_with c old host))
changed_authority c old None = if sets_beside_host c then Err errors.MissingHost else Ok None

-- An empty path after an authority stands for "/", and is spelled so once the authority is removed.
abbrev pub kept_path : Bool → Bool → List ℕ → List ℕ
kept_path true false [] = slash ∷ []
kept_path had has h = h

abbrev pub changed_path : Wish → Bool → Bool → List ℕ → List ℕ
changed_path None had has h = kept_path had has h
changed_path (Some None) had has h = []
changed_path (Some (Some new)) had has h = new

abbrev pub with_authority : Wanted → Strings → Option AuthorityStrings → Strings
with_authority c s a = record {
  scheme = changed c.scheme s.scheme;
  authority = a;
  path = changed_path c.path (is_some s.authority) (is_some a) s.path;
  query = changed c.query s.query;
  fragment = changed c.fragment s.fragment;
}

-- the strings of the components after the changes; or the error that a component has no host beside which it may stand
abbrev pub changed_strings : Wanted → Strings → Result Strings ChangeError
changed_strings c s = do
  a ← changed_authority c s.authority (changed c.host (option_map (λ (a : AuthorityStrings). a.host) s.authority))
  Ok (with_authority c s a)

-- ---- reading each component by itself

abbrev pub authority_reading : AuthorityStrings → Result AuthorityParts AuthorityError
authority_reading a = pieces_reading a.username a.password a.host a.port

abbrev pub authority_if : Option AuthorityStrings → Result (Option AuthorityParts) AuthorityError
authority_if None = Ok None
authority_if (Some a) = some_of (authority_reading a)

-- the fault of the "?" or "#" that follows a path
abbrev pub end_fault : List ℕ → Option PathError
end_fault [] = None
end_fault (b ∷ t) = Some InvalidCharacter

-- The leftmost fault of a path: one that precedes the first "?" or "#", or else that byte.
abbrev pub path_fault : List ℕ → Option PathError
path_fault h = option_or (path.fault (up_to ends_path h)) (end_fault (from_first ends_path h))

-- the path that may follow this scheme and this authority
abbrev pub path_reading : Bool → Bool → List ℕ → Result PathParts URIReferenceError
path_reading has_scheme has_authority h = do
  p ← of_piece faults.Path (unless_fault (path_fault h) (path_of has_authority h))
  unless_fault (path_refusal has_scheme has_authority h) p

-- the components that the strings spell; or the first fault, in the order of the components
abbrev pub strings_reading : Strings → Result Parts URIReferenceError
strings_reading s = do
  scheme ← of_piece faults.Scheme (if_present scheme.reading s.scheme)
  authority ← of_piece faults.Authority (authority_if s.authority)
  path ← path_reading (is_some s.scheme) (is_some s.authority) s.path
  query ← of_piece faults.Query (if_present query.reading s.query)
  fragment ← of_piece faults.Fragment (if_present fragment.reading s.fragment)
  Ok (record { scheme = scheme; authority = authority; path = path; query = query; fragment = fragment })

-- ---- the string with the changes

abbrev pub viewed_strings : Strings → Result Viewed ChangeError
viewed_strings s = do
  parts ← of_piece errors.Reference (strings_reading s)
  Ok (record { text = whole s; parts = parts })

-- the string with its components changed, and what it spells; or the first fault
unfoldable pub changing : Wanted → List ℕ → Result Viewed ChangeError
changing c t = changed_strings c (strings t) >>= viewed_strings

-- The buffer begins with the string that was made, or is too small for it; on an error it is unchanged.
abbrev pub WritesChanged : Result Viewed ChangeError → Result ℕ ChangeError → List ℕ → List ℕ → Type 0
WritesChanged made result old new =
    MatchResult made (λ v. WritesOr errors.TooSmall v.text result old new) (λ e. (result ≡ Err e) × (new ≡ old))

-- The result is made of the string, unless memory runs out; or it is the error.
abbrev pub ChangesTo : {A : Type 0} → (A → Viewed → Type 0) → Result Viewed ChangeError → Result A ChangeError → Type 0
ChangesTo Is made result = MatchResult made (λ v. MatchResult result (λ x. Is x v) (λ e. e ≡ errors.OutOfMemory)) (λ e. result ≡ Err e)

-- The same, for a reference that is changed in its place and stays as it was on an error.
abbrev pub ChangesInPlace : Result Viewed ChangeError → Result (Unit {0}) ChangeError → Viewed → Viewed → Type 0
ChangesInPlace made result old new =
    MatchResult made (λ v. MatchResult result (λ _. new ≡ v) (λ e. (e ≡ errors.OutOfMemory) × (new ≡ old))) (λ e. (result ≡ Err e) × (new ≡ old))
