-- The strings that the string of a changed reference is cut into, to the components of the authority.
use Rattle.std.proofs.Common.{◌≡◌, ℕ, Bool, true, false, cond, List, [], Option, Some, None, Ok, Err, inl, inr, refl, sym, ap, ◌∙◌, subst}
use Rattle.std.specs.Prelude.{◌⊎◌, IfSome, Result, is_some, unwrap_or}
use Rattle.std.specs.Char.{is_digit}
use Rattle.std.specs.Option.{option_and_then, option_map}
use Rattle.uriparse_text.specs.declared.internal.class.Class.TheVariants as class
use Rattle.uriparse_text.specs.Cuts.{lacks}
use Rattle.uriparse_text.specs.Readings.{◌>>=◌, of_piece, some_of, if_present}
use Rattle.uriparse_text.proofs.lemmas.readings.ReadingLemmas.{bind_ok, piece_found, texts_found}
use Rattle.uriparse_authority.specs.Authority as authority
use Rattle.uriparse_authority.specs.Authority.{AuthorityParts, IsPaired, password_after, with_empty}
use Rattle.uriparse_authority.specs.Username as username
use Rattle.uriparse_authority.specs.Password as password
use Rattle.uriparse_authority.specs.Host as host
use Rattle.uriparse_authority.specs.Port as port
use Rattle.uriparse_authority.specs.declared.authority.error.AuthorityError.{AuthorityError}
use Rattle.uriparse_authority.specs.declared.authority.error.AuthorityError.TheVariants as authority_faults
use Rattle.uriparse_authority.proofs.lemmas.authorities.AuthorityLemmas.{ArePieces, IsCutInto, cut_again}
use Rattle.uriparse_authority.proofs.lemmas.authorities.PortLemmas.{port_exact, port_lacks}
use Rattle.uriparse_authority.proofs.lemmas.hosts.HostLemmas.{host_exact, spelled_host}
use Rattle.uriparse_reference.specs.Change.{AuthorityStrings, Strings, after_authority, authority_if, authority_reading, authority_strings, authority_whole}
use Rattle.uriparse_reference.specs.Change.{authority_with, changed, changed_authority, changed_path, changed_strings, changing, sets_beside_host, strings, strings_reading, viewed_strings, whole, with_authority}
use Rattle.uriparse_reference.specs.Cuts.{authority_text, fragment_text, path_text, query_text}
use Rattle.uriparse_reference.specs.Reference.{Parts}
use Rattle.uriparse_reference.specs.View.{Viewed}
use Rattle.uriparse_reference.specs.Wanted.{Wanted, Wish}
use Rattle.uriparse_reference.specs.declared.uri_reference.change.ChangeError.{ChangeError}
use Rattle.uriparse_reference.specs.declared.uri_reference.change.ChangeError.TheVariants as errors
use Rattle.uriparse_reference.specs.declared.uri_reference.error.URIReferenceError.TheVariants as faults
use Rattle.uriparse_reference.proofs.lemmas.edits.ChangeLemmas.{ArePaired, changed_found, changed_paired, changing_spells}
use Rattle.uriparse_scheme.specs.Scheme as scheme
use Rattle.uriparse.proofs.lemmas.ChangeLawLemmas.{whole_cut}
use Rattle.uriparse.proofs.lemmas.UnchangedLemmas.{strings_again, strings_whole}

-- ---- the authority

some_port : (n : Option (List ℕ)) (p : Option ℕ) → port.Spells (unwrap_or n []) p → (b : ℕ) → is_digit b 10 ≡ false → IfSome n (λ t. lacks b t ≡ true)
some_port None p is b digit = tt
some_port (Some t) p is b digit = port_lacks b digit t p is

cut_authority_again : (s : AuthorityStrings) (p : AuthorityParts) → IsPaired s.username s.password → authority_reading s ≡ Ok p
    → IsCutInto (authority_whole s) s.username s.password s.host s.port
cut_authority_again s p pair k =
    let x = bind_ok (of_piece authority_faults.Username (if_present username.reading s.username)) _ p k in
    let y = bind_ok (of_piece authority_faults.Password (if_present password.reading s.password)) _ p x.2 in
    let z = bind_ok (of_piece authority_faults.Host (host.reading s.host)) _ p y.2 in
    let v = bind_ok (of_piece authority_faults.Port (port.reading (unwrap_or s.port []))) _ p z.2 in
    let d = texts_found class.Name username.error_of s.username x.0 (piece_found authority_faults.Username _ x.0 x.1) in
    let e = texts_found class.UserInfo password.error_of s.password y.0 (piece_found authority_faults.Password _ y.0 y.1) in
    let are : ArePieces s.username s.password s.host s.port = record {
      is_username = subst (λ o. IfSome o username.IsUsername) d.0 d.1;
      is_password = subst (λ o. IfSome o password.IsPassword) e.0 e.1;
      paired = pair;
      is_host = spelled_host s.host z.0 (host_exact.found s.host z.0 (piece_found authority_faults.Host _ z.0 z.1));
      is_port = some_port s.port v.0 (port_exact.found (unwrap_or s.port []) v.0 (piece_found authority_faults.Port _ v.0 v.1));
    } in
    cut_again (authority_whole s) s.username s.password s.host s.port are refl

authority_cut : (o : Option AuthorityStrings) (a : Option AuthorityParts) → ArePaired o → authority_if o ≡ Ok a
    → option_map authority_strings (option_map authority_whole o) ≡ o
authority_cut None a pair k = refl
authority_cut (Some s) a pair k = by_reading (authority_reading s) refl k
  where
    by_reading : (r : Result AuthorityParts AuthorityError) → authority_reading s ≡ r → some_of r ≡ Ok a → Some (authority_strings (authority_whole s)) ≡ Some s
    by_reading (Ok p) e h =
        let cut = cut_authority_again s p pair e in
        let t = authority_whole s in
        ap (λ u. Some (record { username = u; password = authority.password_text t; host = authority.host_text t; port = authority.port_text t })) cut.username
        ∙ ap (λ w. Some (record { username = s.username; password = w; host = authority.host_text t; port = authority.port_text t })) cut.password
        ∙ ap (λ g. Some (record { username = s.username; password = s.password; host = g; port = authority.port_text t })) cut.host
        ∙ ap (λ n. Some (record { username = s.username; password = s.password; host = s.host; port = n })) cut.port
    by_reading (Err e) i h = cc

-- ---- the whole string

-- the strings with the path as it is written
abbrev pub placed : Strings → Strings
placed s = record s { path = after_authority (is_some s.authority) s.path }

whole_strings : (s : Strings) (p : Parts) → ArePaired s.authority → strings_reading s ≡ Ok p → strings (whole s) ≡ placed s
whole_strings s p pair k =
    let x = bind_ok (of_piece faults.Scheme (if_present scheme.reading s.scheme)) _ p k in
    let y = bind_ok (of_piece faults.Authority (authority_if s.authority)) _ p x.2 in
    let cut = whole_cut s p pair k in
    let t = whole s in
    let h = after_authority (is_some s.authority) s.path in
    ap (λ u. record { scheme = u; authority = option_map authority_strings (authority_text t); path = path_text t; query = query_text t; fragment = fragment_text t }) cut.scheme
    ∙ ap (λ a. record { scheme = s.scheme; authority = a; path = path_text t; query = query_text t; fragment = fragment_text t })
    (ap (option_map authority_strings) cut.authority ∙ authority_cut s.authority y.0 pair (piece_found faults.Authority _ y.0 y.1))
    ∙ ap (λ u. record { scheme = s.scheme; authority = s.authority; path = u; query = query_text t; fragment = fragment_text t }) cut.path
    ∙ ap (λ u. record { scheme = s.scheme; authority = s.authority; path = h; query = u; fragment = fragment_text t }) cut.query
    ∙ ap (λ u. record { scheme = s.scheme; authority = s.authority; path = h; query = s.query; fragment = u }) cut.fragment

-- how a changed reference is made
pub record IsMade (c : Wanted) (t : List ℕ) (v : Viewed) : Type 0 where
  pub made : Strings
  pub is : changed_strings c (strings t) ≡ Ok made
  pub reads : strings_reading made ≡ Ok v.parts
  pub spells : whole made ≡ v.text
  pub cut : strings v.text ≡ placed made

pub is_made : (c : Wanted) (t : List ℕ) (v : Viewed) → changing c t ≡ Ok v → IsMade c t v
unfolding changing
is_made c t v h =
    let x = bind_ok (changed_strings c (strings t)) viewed_strings v h in
    let y = bind_ok (of_piece errors.Reference (strings_reading x.0)) _ v x.2 in
    let same : record { text = whole x.0; parts = y.0 } ≡ v = cc (y.2) in
    let reads = piece_found errors.Reference _ y.0 y.1 in
    record {
      made = x.0;
      is = x.1;
      reads = reads ∙ ap (λ (q : Viewed). Ok q.parts) same;
      spells = ap (λ (q : Viewed). q.text) same;
      cut = ap (λ (q : Viewed). strings q.text) (sym same) ∙ whole_strings x.0 y.0 (changed_paired c (strings t) x.0 x.1) reads;
    }

pub components_made : (c : Wanted) (t : List ℕ) (v : Viewed) → changing c t ≡ Ok v
    → (x : Strings) × (changed_strings c (strings t) ≡ Ok x) × (strings v.text ≡ record x { path = after_authority (is_some x.authority) x.path })
components_made c t v h = let m = is_made c t v h in (m.made, m.is, m.cut)

-- ---- the components of the authority

-- the host is the one that is put there
pub hosted : (c : Wanted) (o : Option AuthorityStrings) (h : Option (List ℕ)) (a : Option AuthorityStrings) → changed_authority c o h ≡ Ok a
    → option_map (λ (a : AuthorityStrings). a.host) a ≡ h
hosted c o (Some g) a e = let same : Some (authority_with c o g) ≡ a = cc in ap (option_map (λ (a : AuthorityStrings). a.host)) (sym same)
hosted c o None None e = refl
hosted c o None (Some a) e = by_test (sets_beside_host c) e
  where
    by_test : (v : Bool) → cond {A = Result (Option AuthorityStrings) ChangeError} v (Err errors.MissingHost) (Ok None) ≡ Ok (Some a)
        → option_map (λ (a : AuthorityStrings). a.host) (Some a) ≡ None
    by_test true k = cc
    by_test false k = cc

-- and the other components are those that are put beside it
beside_it : (c : Wanted) (o : Option AuthorityStrings) (h : Option (List ℕ)) (s : AuthorityStrings) → changed_authority c o h ≡ Ok (Some s)
    → authority_with c o s.host ≡ s
beside_it c o (Some g) s e =
    let same : authority_with c o g ≡ s = cc in
    ap (λ (a : AuthorityStrings). authority_with c o a.host) (sym same) ∙ same
beside_it c o None s e = by_test (sets_beside_host c) e
  where
    by_test : (v : Bool) → cond {A = Result (Option AuthorityStrings) ChangeError} v (Err errors.MissingHost) (Ok None) ≡ Ok (Some s)
        → authority_with c o s.host ≡ s
    by_test true k = cc
    by_test false k = cc

hosts_are : (o : Option (List ℕ)) → option_map (λ (a : AuthorityStrings). a.host) (option_map authority_strings o) ≡ option_map authority.host_text o
hosts_are None = refl
hosts_are (Some a) = refl

users_are : (o : Option (List ℕ)) → option_and_then (λ (a : AuthorityStrings). a.username) (option_map authority_strings o) ≡ option_and_then authority.username_text o
users_are None = refl
users_are (Some a) = refl

passwords_are : (o : Option (List ℕ)) → option_and_then (λ (a : AuthorityStrings). a.password) (option_map authority_strings o) ≡ option_and_then authority.password_text o
passwords_are None = refl
passwords_are (Some a) = refl

ports_are : (o : Option (List ℕ)) → option_and_then (λ (a : AuthorityStrings). a.port) (option_map authority_strings o) ≡ option_and_then authority.port_text o
ports_are None = refl
ports_are (Some a) = refl

-- the authority of the strings that are made
pub authority_chosen : (c : Wanted) (s x : Strings) → changed_strings c s ≡ Ok x
    → (changed_authority c s.authority (changed c.host (option_map (λ (a : AuthorityStrings). a.host) s.authority)) ≡ Ok x.authority) × (with_authority c s x.authority ≡ x)
authority_chosen c s x e =
    let y = bind_ok (changed_authority c s.authority (changed c.host (option_map (λ (a : AuthorityStrings). a.host) s.authority))) _ x e in
    let same : with_authority c s y.0 ≡ x = cc (y.2) in
    let at : y.0 ≡ x.authority = ap (λ (q : Strings). q.authority) same in
    (y.1 ∙ ap Ok at, ap (λ a. with_authority c s a) (sym at) ∙ same)

pub host_made : (c : Wanted) (t : List ℕ) (v : Viewed) → changing c t ≡ Ok v
    → option_map authority.host_text (authority_text v.text) ≡ changed c.host (option_map authority.host_text (authority_text t))
host_made c t v h =
    let m = is_made c t v h in
    sym (hosts_are (authority_text v.text))
    ∙ ap (λ (s : Strings). option_map (λ (a : AuthorityStrings). a.host) s.authority) m.cut
    ∙ hosted c (strings t).authority (changed c.host (option_map (λ (a : AuthorityStrings). a.host) (strings t).authority)) m.made.authority
    (authority_chosen c (strings t) m.made m.is).0
    ∙ ap (changed c.host) (hosts_are (authority_text t))

-- an authority of a changed reference, by the components of the old one
authority_made_of : (c : Wanted) (t : List ℕ) (v : Viewed) (a : List ℕ) → changing c t ≡ Ok v → authority_text v.text ≡ Some a
    → authority_with c (option_map authority_strings (authority_text t)) (authority.host_text a) ≡ authority_strings a
authority_made_of c t v a h e =
    let m = is_made c t v h in
    let there : m.made.authority ≡ Some (authority_strings a) = ap (λ (s : Strings). s.authority) (sym m.cut) ∙ ap (option_map authority_strings) e in
    beside_it c (strings t).authority (changed c.host (option_map (λ (a : AuthorityStrings). a.host) (strings t).authority)) (authority_strings a)
    ((authority_chosen c (strings t) m.made m.is).0 ∙ ap Ok there)

pub port_made : (c : Wanted) (t : List ℕ) (v : Viewed) (a : List ℕ) → changing c t ≡ Ok v → authority_text v.text ≡ Some a
    → authority.port_text a ≡ changed c.port (option_and_then authority.port_text (authority_text t))
port_made c t v a h e =
    ap (λ (s : AuthorityStrings). s.port) (sym (authority_made_of c t v a h e)) ∙ ap (changed c.port) (ports_are (authority_text t))

pub password_made : (c : Wanted) (t : List ℕ) (v : Viewed) (a : List ℕ) → changing c t ≡ Ok v → authority_text v.text ≡ Some a
    → authority.password_text a
    ≡ changed c.password (password_after (changed c.username (option_and_then authority.username_text (authority_text t))) (option_and_then authority.password_text (authority_text t)))
password_made c t v a h e =
    ap (λ (s : AuthorityStrings). s.password) (sym (authority_made_of c t v a h e))
    ∙ ap (λ u. changed c.password (password_after (changed c.username u) (option_and_then (λ (a : AuthorityStrings). a.password) (option_map authority_strings (authority_text t)))))
    (users_are (authority_text t))
    ∙ ap (λ w. changed c.password (password_after (changed c.username (option_and_then authority.username_text (authority_text t))) w)) (passwords_are (authority_text t))

pub username_made : (c : Wanted) (t : List ℕ) (v : Viewed) (a : List ℕ) → changing c t ≡ Ok v → authority_text v.text ≡ Some a
    → authority.username_text a ≡ with_empty (changed c.username (option_and_then authority.username_text (authority_text t))) (authority.password_text a)
username_made c t v a h e =
    ap (λ (s : AuthorityStrings). s.username) (sym (authority_made_of c t v a h e))
    ∙ ap (λ u. with_empty (changed c.username u) (authority_with c (option_map authority_strings (authority_text t)) (authority.host_text a)).password) (users_are (authority_text t))
    ∙ ap (λ (s : AuthorityStrings). with_empty (changed c.username (option_and_then authority.username_text (authority_text t))) s.password) (authority_made_of c t v a h e)

-- ---- a change that was made makes nothing else

user_again : (d e : Wish) (u w : Option (List ℕ))
    → (changed e (password_after (changed d (with_empty (changed d u) (changed e (password_after (changed d u) w)))) (changed e (password_after (changed d u) w)))
    ≡ changed e (password_after (changed d u) w))
    × (with_empty (changed d (with_empty (changed d u) (changed e (password_after (changed d u) w)))) (changed e (password_after (changed d u) w))
    ≡ with_empty (changed d u) (changed e (password_after (changed d u) w)))
user_again None None None w = (refl, refl)
user_again None None (Some u) None = (refl, refl)
user_again None None (Some u) (Some w) = (refl, refl)
user_again None (Some None) None w = (refl, refl)
user_again None (Some None) (Some u) w = (refl, refl)
user_again None (Some (Some x)) None w = (refl, refl)
user_again None (Some (Some x)) (Some u) w = (refl, refl)
user_again (Some None) None u w = (refl, refl)
user_again (Some (Some y)) None u None = (refl, refl)
user_again (Some (Some y)) None u (Some w) = (refl, refl)
user_again (Some None) (Some None) u w = (refl, refl)
user_again (Some None) (Some (Some x)) u w = (refl, refl)
user_again (Some (Some y)) (Some None) u w = (refl, refl)
user_again (Some (Some y)) (Some (Some x)) u w = (refl, refl)

wished_again : (d : Wish) (o : Option (List ℕ)) → changed d (changed d o) ≡ changed d o
wished_again None o = refl
wished_again (Some x) o = refl

still_so : (d : Wish) (o x : Option (List ℕ)) → x ≡ changed d o → changed d x ≡ x
still_so d o x e = ap (changed d) e ∙ wished_again d o ∙ sym e

beside_again : (c : Wanted) (o : Option AuthorityStrings) (g : List ℕ) → authority_with c (Some (authority_with c o g)) g ≡ authority_with c o g
beside_again c o g =
    let u = option_and_then (λ (a : AuthorityStrings). a.username) o in
    let w = option_and_then (λ (a : AuthorityStrings). a.password) o in
    let n = option_and_then (λ (a : AuthorityStrings). a.port) o in
    let user = user_again c.username c.password u w in
    let old = authority_with c o g in
    let twice = authority_with c (Some old) g in
    ap (λ x. record { username = with_empty (changed c.username old.username) x; password = x; host = g; port = twice.port }) user.0
    ∙ ap (λ x. record { username = x; password = old.password; host = g; port = twice.port }) user.1
    ∙ ap (λ x. record { username = old.username; password = old.password; host = g; port = x }) (wished_again c.port n)

chosen_again : (c : Wanted) (o : Option AuthorityStrings) (h : Option (List ℕ)) (a : Option AuthorityStrings)
    → changed_authority c o (changed c.host h) ≡ Ok a → changed_authority c a (changed c.host (option_map (λ (a : AuthorityStrings). a.host) a)) ≡ Ok a
chosen_again c o h a e =
    ap (λ x. changed_authority c a (changed c.host x)) (hosted c o (changed c.host h) a e) ∙ ap (changed_authority c a) (wished_again c.host h)
    ∙ by_host (changed c.host h) e
  where
    by_host : (g : Option (List ℕ)) → changed_authority c o g ≡ Ok a → changed_authority c a g ≡ Ok a
    by_host (Some g) k =
        let same : Some (authority_with c o g) ≡ a = cc in
        subst (λ b. changed_authority c b (Some g) ≡ Ok b) same (ap (λ s. Ok (Some s)) (beside_again c o g))
    by_host None k = k

strings_made_again : (c : Wanted) (s x : Strings) → changed_strings c s ≡ Ok x
    → (y : Strings) × (changed_strings c (placed x) ≡ Ok y) × ((y ≡ placed x) ⊎ (y ≡ x))
strings_made_again c s x e =
    let m = authority_chosen c s x e in
    let again = chosen_again c s.authority (option_map (λ (a : AuthorityStrings). a.host) s.authority) x.authority m.0 in
    (with_authority c (placed x) x.authority, ap (λ r. r >>= λ a. Ok (with_authority c (placed x) a)) again, by_path c.path refl m.1)
  where
    ends : (p : List ℕ) → with_authority c s x.authority ≡ x
        → record { scheme = changed c.scheme x.scheme; authority = x.authority; path = p; query = changed c.query x.query; fragment = changed c.fragment x.fragment }
        ≡ record x { path = p }
    ends p k =
        ap (λ u. record { scheme = u; authority = x.authority; path = p; query = changed c.query x.query; fragment = changed c.fragment x.fragment })
        (still_so c.scheme s.scheme x.scheme (ap (λ (q : Strings). q.scheme) (sym k)))
        ∙ ap (λ u. record { scheme = x.scheme; authority = x.authority; path = p; query = u; fragment = changed c.fragment x.fragment })
        (still_so c.query s.query x.query (ap (λ (q : Strings). q.query) (sym k)))
        ∙ ap (λ u. record { scheme = x.scheme; authority = x.authority; path = p; query = x.query; fragment = u })
        (still_so c.fragment s.fragment x.fragment (ap (λ (q : Strings). q.fragment) (sym k)))

    kept : (has : Bool) (h : List ℕ) → changed_path None has has h ≡ h
    kept true h = refl
    kept false h = refl

    set : (new : Option (List ℕ)) (had has : Bool) (g h : List ℕ) → changed_path (Some new) had had g ≡ changed_path (Some new) has had h
    set None had has g h = refl
    set (Some p) had has g h = refl

    by_path : (w : Wish) → c.path ≡ w → with_authority c s x.authority ≡ x
        → (with_authority c (placed x) x.authority ≡ placed x) ⊎ (with_authority c (placed x) x.authority ≡ x)
    by_path None i k =
        let p : changed_path c.path (is_some x.authority) (is_some x.authority) (placed x).path ≡ (placed x).path =
        ap (λ w. changed_path w (is_some x.authority) (is_some x.authority) (placed x).path) i ∙ kept (is_some x.authority) (placed x).path in
        inl (ends (changed_path c.path (is_some x.authority) (is_some x.authority) (placed x).path) k ∙ ap (λ p. record x { path = p }) p)
    by_path (Some new) i k =
        let p : changed_path c.path (is_some x.authority) (is_some x.authority) (placed x).path ≡ x.path =
        ap (λ w. changed_path w (is_some x.authority) (is_some x.authority) (placed x).path) i
        ∙ set new (is_some x.authority) (is_some s.authority) (placed x).path s.path
        ∙ ap (λ w. changed_path w (is_some s.authority) (is_some x.authority) s.path) (sym i) ∙ ap (λ (z : Strings). z.path) k in
        inr (ends (changed_path c.path (is_some x.authority) (is_some x.authority) (placed x).path) k ∙ ap (λ p. record x { path = p }) p)

pub made_again : (c : Wanted) (t : List ℕ) (v : Viewed) → changing c t ≡ Ok v → changing c v.text ≡ Ok v
made_again c t v h =
    let m = is_made c t v h in
    let y = strings_made_again c (strings t) m.made m.is in
    let is : changed_strings c (strings v.text) ≡ Ok y.0 = ap (changed_strings c) m.cut ∙ y.1 in
    by_strings y.0 is y.2
  where
    by_strings : (y : Strings) → changed_strings c (strings v.text) ≡ Ok y → (y ≡ placed (is_made c t v h).made) ⊎ (y ≡ (is_made c t v h).made)
        → changing c v.text ≡ Ok v
    by_strings y is (inl e) =
        let m = is_made c t v h in
        let same : y ≡ strings v.text = e ∙ sym m.cut in
        (changed_found c v.text y v.parts is (ap strings_reading same ∙ strings_again v.text v.parts (changing_spells c t v h))).0
        ∙ ap (λ u. Ok (record { text = u; parts = v.parts })) (ap whole same ∙ strings_whole v.text)
    by_strings y is (inr e) =
        let m = is_made c t v h in
        (changed_found c v.text y v.parts is (ap strings_reading e ∙ m.reads)).0
        ∙ ap (λ u. Ok (record { text = u; parts = v.parts })) (ap whole e ∙ m.spells)
