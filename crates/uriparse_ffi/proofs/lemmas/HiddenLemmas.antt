-- The change of an authority's strings that removes the port, or puts stars in place of the password.
use Rattle.std.proofs.Common.{◌≡◌, ℕ, Bool, true, false, cond, List, [], Option, Some, None, Ok, Err, refl, sym, ap, subst, ◌∙◌}
use Rattle.std.specs.Prelude.{Result, is_some, unwrap_or}
use Rattle.std.specs.Option.{option_and_then, option_map}
use Rattle.std.proofs.lemmas.Bool.{and_parts}
use Rattle.uriparse_text.specs.Bytes.{is_unreserved, is_sub_delim}
use Rattle.uriparse_text.specs.Classes.{is_plain}
use Rattle.uriparse_text.specs.Faults.{fault}
use Rattle.uriparse_text.specs.Tokens.{tokens}
use Rattle.uriparse_text.specs.Query as query
use Rattle.uriparse_text.specs.Fragment as fragment
use Rattle.uriparse_text.specs.Readings.{◌>>=◌, if_present, of_piece, some_of}
use Rattle.uriparse_text.proofs.lemmas.readings.ReadingLemmas.{bind_ok, piece_found}
use Rattle.uriparse_authority.specs.Authority as authority
use Rattle.uriparse_authority.specs.Authority.{AuthorityParts, password_after, password_in, userinfo_text, username_in, with_empty, with_password, with_port}
use Rattle.uriparse_authority.specs.Username as username
use Rattle.uriparse_authority.specs.Password as password
use Rattle.uriparse_authority.specs.Host as host
use Rattle.uriparse_authority.specs.Port as port
use Rattle.uriparse_authority.specs.Pieces.{pieces_reading}
use Rattle.uriparse_authority.specs.declared.authority.host.Host.{Host}
use Rattle.uriparse_authority.specs.declared.authority.error.AuthorityError.{AuthorityError}
use Rattle.uriparse_authority.specs.declared.authority.error.AuthorityError.TheVariants as authority_faults
use Rattle.uriparse_authority.specs.declared.authority.error.UsernameError.{UsernameError}
use Rattle.uriparse_path.specs.Path.{PathParts}
use Rattle.uriparse_scheme.specs.Scheme as scheme
use Rattle.uriparse_scheme.specs.declared.scheme.Scheme.{Scheme}
use Rattle.uriparse_reference.specs.Change.{AuthorityStrings, Strings, authority_if, authority_reading, authority_strings, changed_authority}
use Rattle.uriparse_reference.specs.Change.{changed_strings, changing, path_reading, strings, strings_reading, with_authority}
use Rattle.uriparse_reference.specs.Cuts.{authority_text}
use Rattle.uriparse_reference.specs.Masked.{masked, masked_authority, stars}
use Rattle.uriparse_reference.specs.Ports.{has_default_port, without_default_port}
use Rattle.uriparse_reference.specs.Reference.{Parts, Spells, password_of, port_of}
use Rattle.uriparse_reference.specs.Wanted.{Wanted, unchanged}
use Rattle.uriparse_reference.specs.declared.uri_reference.change.ChangeError.{ChangeError}
use Rattle.uriparse_reference.specs.declared.uri_reference.error.URIReferenceError.TheVariants as faults
use Rattle.uriparse_reference.proofs.lemmas.edits.ChangeLemmas.{changed_found, changing_spells}
use Rattle.uriparse.proofs.lemmas.UnchangedLemmas.{strings_again}
use Rattle.uriparse_ffi.specs.Hidden.{masked_text, portless, starred, text_without_default_port, with_strings}

abbrev pub no_port : Wanted
no_port = record unchanged { port = Some None }

abbrev pub hidden_password : Wanted
hidden_password = record unchanged { password = Some (Some stars) }

-- ---- the strings that are made

abbrev strings_with : List ℕ → Option AuthorityStrings → Strings
strings_with t a = record (strings t) { authority = a }

same_user : (o n : Option (List ℕ)) (h : List ℕ)
    → ◌≡◌ {A = AuthorityStrings}
    (record { username = with_empty (username_in o) (password_after (username_in o) (password_in o)); password = password_after (username_in o) (password_in o); host = h; port = n })
    (record { username = username_in o; password = password_in o; host = h; port = n })
same_user None n h = refl
same_user (Some i) n h = refl

abbrev made_with : Wanted → List ℕ → Option (List ℕ) → Result Strings ChangeError
made_with c t o =
    changed_authority c (option_map authority_strings o) (option_map (λ (a : AuthorityStrings). a.host) (option_map authority_strings o))
    >>= λ a. Ok (with_authority c (strings_with t (option_map authority_strings o)) a)

portless_made : (t : List ℕ) (o : Option (List ℕ)) → made_with no_port t o ≡ Ok (strings_with t (option_map portless (option_map authority_strings o)))
portless_made t None = refl
portless_made t (Some a) = ap (λ (x : AuthorityStrings). Ok (strings_with t (Some x))) (same_user (userinfo_text a) None (authority.host_text a))

starred_made : (t : List ℕ) (o : Option (List ℕ)) → is_some (option_map authority_strings o) ≡ true
    → made_with hidden_password t o ≡ Ok (strings_with t (option_map starred (option_map authority_strings o)))
starred_made t None some = cc
starred_made t (Some a) some = refl

-- ---- what they are read as

pieces_of : (un pw : Option (List ℕ)) (ho : List ℕ) (po : Option (List ℕ)) (u w : Option (List ℕ)) (h : Host) (n : Option ℕ)
    → of_piece authority_faults.Username (if_present username.reading un) ≡ Ok u → of_piece authority_faults.Password (if_present password.reading pw) ≡ Ok w
    → of_piece authority_faults.Host (host.reading ho) ≡ Ok h → of_piece authority_faults.Port (port.reading (unwrap_or po [])) ≡ Ok n
    → pieces_reading un pw ho po ≡ Ok (record { username = u; password = w; host = h; port = n })
pieces_of un pw ho po u w h n e f g k = rw (e, f, g, k) refl

-- an authority without its port, and with stars for its password
portless_read : (b : AuthorityStrings) (a : AuthorityParts) → authority_reading b ≡ Ok a → authority_reading (portless b) ≡ Ok (with_port a None)
portless_read b a k =
    let x = bind_ok (of_piece authority_faults.Username (if_present username.reading b.username)) _ a k in
    let y = bind_ok (of_piece authority_faults.Password (if_present password.reading b.password)) _ a x.2 in
    let z = bind_ok (of_piece authority_faults.Host (host.reading b.host)) _ a y.2 in
    let w = bind_ok (of_piece authority_faults.Port (port.reading (unwrap_or b.port []))) _ a z.2 in
    let same : record { username = x.0; password = y.0; host = z.0; port = w.0 } ≡ a = cc (w.2) in
    pieces_of b.username b.password b.host None x.0 y.0 z.0 None x.1 y.1 z.1 refl ∙ ap (λ (q : AuthorityParts). Ok (with_port q None)) same

stars_read : password.reading stars ≡ Ok stars
unfolding fault tokens is_plain is_unreserved is_sub_delim
stars_read = refl

empty_read : if_present username.reading (Some []) ≡ Ok (Some [])
unfolding fault tokens
empty_read = refl

name_read : (o u : Option (List ℕ)) → if_present username.reading o ≡ Ok u → if_present username.reading (with_empty o (Some stars)) ≡ Ok (with_empty u (Some stars))
name_read None None k = empty_read
name_read None (Some x) k = cc
name_read (Some t) u k = by_reading (username.reading t) refl u k
  where
    by_reading : (r : Result (List ℕ) UsernameError) → username.reading t ≡ r → (u : Option (List ℕ)) → some_of r ≡ Ok u → some_of (username.reading t) ≡ Ok (with_empty u (Some stars))
    by_reading (Ok x) e None h = cc
    by_reading (Ok x) e (Some y) h = ap some_of e ∙ h
    by_reading (Err x) e u h = cc

starred_read : (b : AuthorityStrings) (a : AuthorityParts) → authority_reading b ≡ Ok a → authority_reading (starred b) ≡ Ok (with_password a (Some stars))
starred_read b a k =
    let x = bind_ok (of_piece authority_faults.Username (if_present username.reading b.username)) _ a k in
    let y = bind_ok (of_piece authority_faults.Password (if_present password.reading b.password)) _ a x.2 in
    let z = bind_ok (of_piece authority_faults.Host (host.reading b.host)) _ a y.2 in
    let w = bind_ok (of_piece authority_faults.Port (port.reading (unwrap_or b.port []))) _ a z.2 in
    let same : record { username = x.0; password = y.0; host = z.0; port = w.0 } ≡ a = cc (w.2) in
    let name = ap (of_piece authority_faults.Username) (name_read b.username x.0 (piece_found authority_faults.Username _ x.0 x.1)) in
    let hidden = ap (λ r. of_piece authority_faults.Password (some_of r)) stars_read in
    pieces_of (with_empty b.username (Some stars)) (Some stars) b.host b.port (with_empty x.0 (Some stars)) (Some stars) z.0 w.0 name hidden z.1 w.1
    ∙ ap (λ (q : AuthorityParts). Ok (with_password q (Some stars))) same

-- what the authority of a reference is read from
read_of : (r : Result AuthorityParts AuthorityError) (a : AuthorityParts) → some_of r ≡ Ok (Some a) → r ≡ Ok a
read_of (Ok x) a h = cc
read_of (Err e) a h = cc

record HasAuthority (o : Option AuthorityStrings) (a : Option AuthorityParts) : Type 0 where
  strings : AuthorityStrings
  parts : AuthorityParts
  is : o ≡ Some strings
  spells : a ≡ Some parts
  reads : authority_reading strings ≡ Ok parts

has_authority : (o : Option AuthorityStrings) (a : Option AuthorityParts) → authority_if o ≡ Ok a → is_some a ≡ true → HasAuthority o a
has_authority o None k some = cc
has_authority None (Some x) k some = cc
has_authority (Some b) (Some x) k some = record { strings = b; parts = x; is = refl; spells = refl; reads = read_of (authority_reading b) x k }

strings_of : (s : Strings) (n : Option Scheme) (a : Option AuthorityParts) (h : PathParts) (q f : Option (List ℕ))
    → of_piece faults.Scheme (if_present scheme.reading s.scheme) ≡ Ok n → of_piece faults.Authority (authority_if s.authority) ≡ Ok a
    → path_reading (is_some s.scheme) (is_some s.authority) s.path ≡ Ok h → of_piece faults.Query (if_present query.reading s.query) ≡ Ok q
    → of_piece faults.Fragment (if_present fragment.reading s.fragment) ≡ Ok f
    → strings_reading s ≡ Ok (record { scheme = n; authority = a; path = h; query = q; fragment = f })
strings_of s n a h q f e k l m o = rw (e, k, l, m, o) refl

-- a reference with another authority
module _ (s : Strings) (p : Parts) (k : strings_reading s ≡ Ok p) where
  authority_of : authority_if s.authority ≡ Ok p.authority
  authority_of =
      let x = bind_ok (of_piece faults.Scheme (if_present scheme.reading s.scheme)) _ p k in
      let y = bind_ok (of_piece faults.Authority (authority_if s.authority)) _ p x.2 in
      let z = bind_ok (path_reading (is_some s.scheme) (is_some s.authority) s.path) _ p y.2 in
      let v = bind_ok (of_piece faults.Query (if_present query.reading s.query)) _ p z.2 in
      let w = bind_ok (of_piece faults.Fragment (if_present fragment.reading s.fragment)) _ p v.2 in
      let same : record { scheme = x.0; authority = y.0; path = z.0; query = v.0; fragment = w.0 } ≡ p = cc (w.2) in
      piece_found faults.Authority _ y.0 y.1 ∙ ap (λ (q : Parts). Ok q.authority) same

  read_with : (b : AuthorityStrings) (a : AuthorityParts) → is_some s.authority ≡ true → authority_reading b ≡ Ok a
      → strings_reading (record s { authority = Some b }) ≡ Ok (record p { authority = Some a })
  read_with b a some is =
      let x = bind_ok (of_piece faults.Scheme (if_present scheme.reading s.scheme)) _ p k in
      let y = bind_ok (of_piece faults.Authority (authority_if s.authority)) _ p x.2 in
      let z = bind_ok (path_reading (is_some s.scheme) (is_some s.authority) s.path) _ p y.2 in
      let v = bind_ok (of_piece faults.Query (if_present query.reading s.query)) _ p z.2 in
      let w = bind_ok (of_piece faults.Fragment (if_present fragment.reading s.fragment)) _ p v.2 in
      let same : record { scheme = x.0; authority = y.0; path = z.0; query = v.0; fragment = w.0 } ≡ p = cc (w.2) in
      let path : path_reading (is_some s.scheme) true s.path ≡ Ok z.0 = ap (λ v. path_reading (is_some s.scheme) v s.path) (sym some) ∙ z.1 in
      let read = ap (λ r. of_piece faults.Authority (some_of r)) is in
      strings_of (record s { authority = Some b }) x.0 (Some a) z.0 v.0 w.0 x.1 read path v.1 w.1 ∙ ap (λ (q : Parts). Ok (record q { authority = Some a })) same

-- ---- the whole change

-- A change that makes f of the strings of an authority, which are read as g of it.
module _ (c : Wanted) (f : AuthorityStrings → AuthorityStrings) (g : AuthorityParts → AuthorityParts)
    (reads : (b : AuthorityStrings) (a : AuthorityParts) → authority_reading b ≡ Ok a → authority_reading (f b) ≡ Ok (g a))
    (makes : (t : List ℕ) (o : Option (List ℕ)) → is_some (option_map authority_strings o) ≡ true
    → made_with c t o ≡ Ok (strings_with t (option_map f (option_map authority_strings o))))
    (keeps : (t : List ℕ) → changed_strings c (strings t) ≡ made_with c t (authority_text t)) where
  changed_with : (t : List ℕ) (p : Parts) → Spells t p → is_some p.authority ≡ true
      → changing c t ≡ Ok (record { text = with_strings f t; parts = record p { authority = option_map g p.authority } })
  changed_with t p s some =
      let again = strings_again t p s in
      let x = has_authority (strings t).authority p.authority (authority_of (strings t) p again) some in
      let there : is_some (strings t).authority ≡ true = ap is_some x.is in
      let read : strings_reading (strings_with t (option_map f (strings t).authority)) ≡ Ok (record p { authority = option_map g p.authority }) =
      ap (λ o. strings_reading (strings_with t (option_map f o))) x.is
      ∙ read_with (strings t) p again (f x.strings) (g x.parts) there (reads x.strings x.parts x.reads)
      ∙ ap (λ o. Ok (record p { authority = option_map g o })) (sym x.spells) in
      (changed_found c t (strings_with t (option_map f (strings t).authority)) (record p { authority = option_map g p.authority }) (keeps t ∙ makes t (authority_text t) there) read).0

-- ---- the two changes

pub port_removed : (t : List ℕ) (p : Parts) → Spells t p → is_some p.authority ≡ true
    → changing no_port t ≡ Ok (record { text = with_strings portless t; parts = record p { authority = option_map (λ a. with_port a None) p.authority } })
port_removed = changed_with no_port portless (λ a. with_port a None) portless_read (λ t o some. portless_made t o) (λ t. refl)

pub password_hidden : (t : List ℕ) (p : Parts) → Spells t p → is_some p.authority ≡ true
    → changing hidden_password t ≡ Ok (record { text = with_strings starred t; parts = record p { authority = option_map (λ a. with_password a (Some stars)) p.authority } })
password_hidden = changed_with hidden_password starred (λ a. with_password a (Some stars)) starred_read starred_made (λ t. refl)

-- what has a port or a password has an authority
has_part : {X : Type 0} (of : AuthorityParts → Option X) (o : Option AuthorityParts) → is_some (option_and_then of o) ≡ true → is_some o ≡ true
has_part of None h = h
has_part of (Some a) h = refl

pub port_authority : (p : Parts) → has_default_port p ≡ true → is_some p.authority ≡ true
port_authority p h = has_part (λ (a : AuthorityParts). a.port) p.authority (and_parts (is_some (port_of p)) _ h).0

pub password_authority : (p : Parts) → is_some (password_of p) ≡ true → is_some p.authority ≡ true
password_authority p h = has_part (λ (a : AuthorityParts). a.password) p.authority h

-- ---- what is written spells the reference without its default port, and with its password hidden

pub spells_without_port : (t : List ℕ) (p : Parts) → Spells t p → Spells (text_without_default_port t p) (without_default_port p)
spells_without_port t p s = by_port (has_default_port p) refl
  where
    by_port : (v : Bool) → has_default_port p ≡ v
        → Spells (cond v (with_strings portless t) t) (cond {A = Parts} v (record p { authority = option_map (λ a. with_port a None) p.authority }) p)
    by_port true e = changing_spells no_port t _ (port_removed t p s (port_authority p e))
    by_port false e = s

hidden_in : (o : Option AuthorityParts) → is_some (option_and_then (λ (a : AuthorityParts). a.password) o) ≡ true
    → option_map (λ a. with_password a (Some stars)) o ≡ option_map masked_authority o
hidden_in None h = refl
hidden_in (Some a) h = rw h refl

shown_in : (o : Option AuthorityParts) → is_some (option_and_then (λ (a : AuthorityParts). a.password) o) ≡ false → o ≡ option_map masked_authority o
shown_in None h = refl
shown_in (Some a) h = rw h refl

pub spells_masked : (t : List ℕ) (p : Parts) → Spells t p → Spells (masked_text t p) (masked p)
spells_masked t p s = by_password (is_some (password_of p)) refl
  where
    by_password : (v : Bool) → is_some (password_of p) ≡ v → Spells (cond v (with_strings starred t) t) (masked p)
    by_password true e =
        subst (λ o. Spells (with_strings starred t) (record p { authority = o })) (hidden_in p.authority e)
        (changing_spells hidden_password t _ (password_hidden t p s (password_authority p e)))
    by_password false e = subst (λ o. Spells t (record p { authority = o })) (shown_in p.authority e) s
