-- A change of components into what they are, and a change of the same components again.
use Rattle.std.proofs.Common.{◌≡◌, ℕ, Bool, true, false, List, Option, Some, None, Ok, Err, inl, inr, refl, sym, ap, ◌∙◌, subst}
use Rattle.std.specs.Prelude.{◌⊎◌, Result, is_some}
use Rattle.uriparse_text.specs.Readings.{◌>>=◌}
use Rattle.uriparse_authority.specs.Authority.{password_after, with_empty}
use Rattle.uriparse_reference.specs.Change.{AuthorityStrings, Strings, after_authority, authority_with, changed, changed_authority}
use Rattle.uriparse_reference.specs.Change.{changed_path, changed_strings, changing, is_set, strings, viewed_strings, with_authority}
use Rattle.uriparse_reference.specs.Cuts.{authority_text, path_text}
use Rattle.uriparse_reference.specs.Reference.{Parts, Spells}
use Rattle.uriparse_reference.specs.View.{Viewed}
use Rattle.uriparse_reference.specs.Wanted.{Wanted, Wish}
use Rattle.uriparse_reference.specs.declared.uri_reference.change.ChangeError.{ChangeError}
use Rattle.uriparse_reference.proofs.lemmas.reading.ReadingLemmas.{abempty_text}
use Rattle.uriparse.specs.Apart.{AreBothReplaced, IsOwn, IsReplaced, Replaces, WantsOwn}
use Rattle.uriparse.proofs.lemmas.ChangedPartLemmas.{authority_chosen, hosted, is_made, placed}
use Rattle.uriparse.proofs.lemmas.CommutingLemmas.{IsPairedIn, host_in, kept, nothing_before, paired_in, password_of, password_of_it, port_in, same_some, then_with, user_in, username_of, no_host}
use Rattle.uriparse.proofs.lemmas.UnchangedLemmas.{nothing_changed, path_made, strings_kept}

-- ---- what a component is

own : (c : Wish) (o : Option (List ℕ)) → IsOwn c o → changed c o ≡ o
own c o (inl e) = ap (λ w. changed w o) e
own c o (inr e) = ap (λ w. changed w o) e

-- a wish for an absent component sets none
nothing_own : (c : Wish) → IsOwn c None → is_set c ≡ false
nothing_own c (inl e) = ap is_set e
nothing_own c (inr e) = ap is_set e

pub own_authority : (c : Wanted) (o : Option AuthorityStrings) → IsPairedIn o → IsOwn c.username (user_in o) → IsOwn c.password (password_of_it o)
    → IsOwn c.host (host_in o) → IsOwn c.port (port_in o) → changed_authority c o (changed c.host (host_in o)) ≡ Ok o
own_authority c None pair user word host port =
    ap (changed_authority c None) (own c.host None host)
    ∙ rw (nothing_own c.username user, nothing_own c.password word, nothing_own c.port port) refl
own_authority c (Some a) pair user word host port = ap (changed_authority c (Some a)) (own c.host (Some a.host) host) ∙ ap (λ x. Ok (Some x)) same
  where
    words : password_of c.username c.password a.username a.password ≡ a.password
    words =
        ap (λ x. changed c.password (password_after x a.password)) (own c.username a.username user)
        ∙ ap (changed c.password) pair.0 ∙ own c.password a.password word

    users : username_of c.username c.password a.username a.password ≡ a.username
    users = ap (λ x. with_empty x (password_of c.username c.password a.username a.password)) (own c.username a.username user) ∙ ap (with_empty a.username) words ∙ pair.1

    same : authority_with c (Some a) a.host ≡ a
    same =
        ap (λ x. record { username = username_of c.username c.password a.username a.password; password = x; host = a.host; port = changed c.port a.port }) words
        ∙ ap (λ x. record { username = x; password = a.password; host = a.host; port = changed c.port a.port }) users
        ∙ ap (λ x. record { username = a.username; password = a.password; host = a.host; port = x }) (own c.port a.port port)

own_path : (c : Wish) (v : Bool) (h : List ℕ) → IsOwn c (Some h) → changed_path c v v h ≡ h
own_path c v h (inl e) = ap (λ w. changed_path w v v h) e ∙ kept v h
own_path c v h (inr e) = ap (λ w. changed_path w v v h) e

own_ends : (c : Wanted) (s : Strings) → WantsOwn c s → with_authority c s s.authority ≡ s
own_ends c s is =
    let h = changed_path c.path (is_some s.authority) (is_some s.authority) s.path in
    ap (λ u. record { scheme = u; authority = s.authority; path = h; query = changed c.query s.query; fragment = changed c.fragment s.fragment }) (own c.scheme s.scheme is.scheme)
    ∙ ap (λ u. record { scheme = s.scheme; authority = s.authority; path = u; query = changed c.query s.query; fragment = changed c.fragment s.fragment })
    (own_path c.path (is_some s.authority) s.path is.path)
    ∙ ap (λ u. record s { query = u; fragment = changed c.fragment s.fragment }) (own c.query s.query is.query)
    ∙ ap (λ u. record s { fragment = u }) (own c.fragment s.fragment is.fragment)

own_strings : (c : Wanted) (t : List ℕ) → WantsOwn c (strings t) → changed_strings c (strings t) ≡ Ok (strings t)
own_strings c t is =
    ap (λ r. r >>= λ a. Ok (with_authority c (strings t) a))
    (own_authority c (strings t).authority (paired_in (authority_text t)) is.username is.password is.host is.port)
    ∙ ap Ok (own_ends c (strings t) is)

pub own_changed : (c : Wanted) (t : List ℕ) (p : Parts) → Spells t p → WantsOwn c (strings t) → changing c t ≡ Ok (record { text = t; parts = p })
unfolding changing
own_changed c t p s is = ap (λ r. r >>= viewed_strings) (own_strings c t is ∙ sym (strings_kept t)) ∙ nothing_changed t p s

-- ---- a component that is named again

named_again : (c d : Wish) (o : Option (List ℕ)) → IsReplaced c d → changed d (changed c o) ≡ changed d o
named_again c d o (inl e) = ap (λ w. changed d (changed w o)) e
named_again c (Some x) o (inr e) = refl
named_again c None o (inr e) = cc

users_again : (a b e f : Wish) (u w : Option (List ℕ)) → AreBothReplaced a b e f → password_after u w ≡ w → with_empty u w ≡ u
    → (password_of e f (username_of a b u w) (password_of a b u w) ≡ password_of e f u w)
    × (username_of e f (username_of a b u w) (password_of a b u w) ≡ username_of e f u w)
users_again a b e f u w (inl (k, l)) i j =
    subst (λ x. (password_of e f (username_of x b u w) (password_of x b u w) ≡ password_of e f u w) × (username_of e f (username_of x b u w) (password_of x b u w) ≡ username_of e f u w))
    (sym k)
    (subst (λ x. (password_of e f (username_of None x u w) (password_of None x u w) ≡ password_of e f u w) × (username_of e f (username_of None x u w) (password_of None x u w) ≡ username_of e f u w))
    (sym l) (nothing_before e f u w i j))
users_again a b (Some x) (Some y) u w (inr (k, l)) i j = (refl, refl)
users_again a b None f u w (inr (k, l)) i j = cc
users_again a b (Some x) None u w (inr (k, l)) i j = cc

-- what a second change makes beside a host does not depend on a first one that it replaces
beside_again : (c d : Wanted) (o : Option AuthorityStrings) (g : List ℕ) → Replaces d c → IsPairedIn o
    → authority_with d (Some (authority_with c o g)) g ≡ authority_with d o g
beside_again c d o g is pair =
    let m = users_again c.username c.password d.username d.password (user_in o) (password_of_it o) is.userinfo pair.0 pair.1 in
    let twice = authority_with d (Some (authority_with c o g)) g in
    let once = authority_with d o g in
    ap (λ x. record { username = twice.username; password = x; host = g; port = twice.port }) m.0
    ∙ ap (λ x. record { username = x; password = once.password; host = g; port = twice.port }) m.1
    ∙ ap (λ x. record { username = once.username; password = once.password; host = g; port = x }) (named_again c.port d.port (port_in o) is.port)

set_again : (c d : Wish) (o : Option (List ℕ)) → (c ≡ None) ⊎ ((is_set c ≡ true) × (is_some d ≡ true)) → changed d (changed c o) ≡ changed d o
set_again c d o (inl e) = named_again c d o (inl e)
set_again c d o (inr (k, e)) = named_again c d o (inr e)

-- without a host after the first change there was none before it
no_host_before : (c d : Wish) (o : Option AuthorityStrings) → (c ≡ None) ⊎ ((is_set c ≡ true) × (is_some d ≡ true)) → changed c (host_in o) ≡ None → o ≡ None
no_host_before c d o (inl e) k = no_host o (sym (ap (λ w. changed w (host_in o)) e) ∙ k)
no_host_before (Some (Some x)) d o (inr (i, e)) k = cc
no_host_before (Some None) d o (inr (i, e)) k = cc
no_host_before None d o (inr (i, e)) k = cc

authority_again : (c d : Wanted) (o a : Option AuthorityStrings) → Replaces d c → IsPairedIn o → changed_authority c o (changed c.host (host_in o)) ≡ Ok a
    → changed_authority d a (changed d.host (host_in a)) ≡ changed_authority d o (changed d.host (host_in o))
authority_again c d o a is pair e =
    ap (λ h. changed_authority d a (changed d.host h)) (hosted c o (changed c.host (host_in o)) a e)
    ∙ ap (changed_authority d a) (set_again c.host d.host (host_in o) is.host)
    ∙ by_host (changed d.host (host_in o))
  where
    by_host : (h : Option (List ℕ)) → changed_authority d a h ≡ changed_authority d o h
    by_host None = refl
    by_host (Some g) =
        ap (λ x. Ok (Some x))
        (then_with c d o a (changed c.host (host_in o)) g e (no_host_before c.host d.host o is.host) ∙ beside_again c d o g is pair)

path_again : (c d : Wanted) (s x : Strings) (b : Bool) → Replaces d c → after_authority (is_some s.authority) s.path ≡ s.path → changed_strings c s ≡ Ok x
    → changed_path d.path (is_some x.authority) b (placed x).path ≡ changed_path d.path (is_some s.authority) b s.path
path_again c d s x b is fits e = by_path d.path is.path
  where
    by_path : (f : Wish) → ((c.host ≡ None) × (c.path ≡ None)) ⊎ (is_some f ≡ true)
        → changed_path f (is_some x.authority) b (placed x).path ≡ changed_path f (is_some s.authority) b s.path
    by_path (Some None) (inr k) = refl
    by_path (Some (Some new)) (inr k) = refl
    by_path None (inr k) = cc
    by_path f (inl (k, l)) =
        let m = authority_chosen c s x e in
        let v = is_some s.authority in
        let has : is_some x.authority ≡ v = same_some c s.authority x.authority m.0 k in
        let path : x.path ≡ s.path = ap (λ (q : Strings). q.path) (sym m.1)
        ∙ ap (λ w. changed_path w v (is_some x.authority) s.path) l ∙ ap (λ w. changed_path None v w s.path) has ∙ kept v s.path in
        ap (λ w. changed_path f w b (after_authority w x.path)) has ∙ ap (λ h. changed_path f v b (after_authority v h)) path
        ∙ ap (changed_path f v b) fits

strings_replaced : (c d : Wanted) (s x : Strings) → Replaces d c → IsPairedIn s.authority → after_authority (is_some s.authority) s.path ≡ s.path → changed_strings c s ≡ Ok x
    → changed_strings d (placed x) ≡ changed_strings d s
strings_replaced c d s x is pair fits e =
    ap (λ r. r >>= λ a. Ok (with_authority d (placed x) a)) (authority_again c d s.authority x.authority is pair m.0)
    ∙ by_authority (changed_authority d s.authority (changed d.host (host_in s.authority)))
  where
    m : (changed_authority c s.authority (changed c.host (host_in s.authority)) ≡ Ok x.authority) × (with_authority c s x.authority ≡ x)
    m = authority_chosen c s x e

    same : (a : Option AuthorityStrings) → with_authority d (placed x) a ≡ with_authority d s a
    same a =
        let h = changed_path d.path (is_some x.authority) (is_some a) (placed x).path in
        ap (λ u. record { scheme = u; authority = a; path = h; query = changed d.query x.query; fragment = changed d.fragment x.fragment })
        (ap (λ (q : Strings). changed d.scheme q.scheme) (sym m.1) ∙ named_again c.scheme d.scheme s.scheme is.scheme)
        ∙ ap (λ u. record { scheme = changed d.scheme s.scheme; authority = a; path = u; query = changed d.query x.query; fragment = changed d.fragment x.fragment })
        (path_again c d s x (is_some a) is fits e)
        ∙ ap (λ u. record (with_authority d s a) { query = u; fragment = changed d.fragment x.fragment })
        (ap (λ (q : Strings). changed d.query q.query) (sym m.1) ∙ named_again c.query d.query s.query is.query)
        ∙ ap (λ u. record (with_authority d s a) { fragment = u })
        (ap (λ (q : Strings). changed d.fragment q.fragment) (sym m.1) ∙ named_again c.fragment d.fragment s.fragment is.fragment)

    by_authority : (r : Result (Option AuthorityStrings) ChangeError) → (r >>= λ a. Ok (with_authority d (placed x) a)) ≡ (r >>= λ a. Ok (with_authority d s a))
    by_authority (Ok a) = ap Ok (same a)
    by_authority (Err y) = refl

pub last_change : (c d : Wanted) (t : List ℕ) (v : Viewed) → Replaces d c → changing c t ≡ Ok v → changing d v.text ≡ changing d t
unfolding changing
last_change c d t v is h =
    let m = is_made c t v h in
    ap (λ r. r >>= viewed_strings)
    (ap (changed_strings d) m.cut
    ∙ strings_replaced c d (strings t) m.made is (paired_in (authority_text t)) (path_made (authority_text t) (path_text t) (abempty_text t)) m.is)
