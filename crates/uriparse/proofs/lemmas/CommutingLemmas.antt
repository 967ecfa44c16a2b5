-- Changes of different components make the same string in either order.
use Rattle.std.proofs.Common.{◌≡◌, ℕ, Bool, true, false, cond, ◌||◌, List, ◌∷◌, Option, Some, None, Ok, Err, inl, inr, refl, sym, ap, ◌∙◌, subst}
use Rattle.std.specs.Prelude.{Result, is_some}
use Rattle.std.specs.Option.{option_and_then, option_map}
use Rattle.uriparse_text.specs.Bytes.{slash}
use Rattle.uriparse_authority.specs.Authority.{password_after, password_in, userinfo_text, username_in, with_empty}
use Rattle.uriparse_reference.specs.Change.{AuthorityStrings, Strings, after_authority, authority_strings, authority_with, changed, changed_authority}
use Rattle.uriparse_reference.specs.Change.{changed_path, changed_strings, changing, is_set, sets_beside_host, strings, whole}
use Rattle.uriparse_reference.specs.Cuts.{authority_text, path_text}
use Rattle.uriparse_reference.specs.Reference.{Spells, is_abempty}
use Rattle.uriparse_reference.specs.View.{Viewed}
use Rattle.uriparse_reference.specs.Wanted.{Wanted, Wish}
use Rattle.uriparse_reference.specs.declared.uri_reference.change.ChangeError.{ChangeError}
use Rattle.uriparse_reference.specs.declared.uri_reference.change.ChangeError.TheVariants as errors
use Rattle.uriparse_reference.proofs.lemmas.edits.ChangeLemmas.{changing_spells}
use Rattle.uriparse_reference.proofs.lemmas.reading.ReadingLemmas.{abempty_text, one_reading}
use Rattle.uriparse.specs.Apart.{AreApart, OneKeeps, OneKeepsBoth}
use Rattle.uriparse.proofs.lemmas.ChangedPartLemmas.{authority_chosen, hosted, is_made, placed}
use Rattle.uriparse.proofs.lemmas.UnchangedLemmas.{path_made, strings_whole}

swapped : (c d : Wish) (o : Option (List ℕ)) → OneKeeps c d → changed d (changed c o) ≡ changed c (changed d o)
swapped c d o (inl e) = ap (λ w. changed d (changed w o)) e ∙ sym (ap (λ w. changed w (changed d o)) e)
swapped c d o (inr e) = ap (λ w. changed w (changed c o)) e ∙ sym (ap (λ w. changed c (changed w o)) e)

-- ---- a user name and a password

abbrev pub password_of : (a b : Wish) (u w : Option (List ℕ)) → Option (List ℕ)
password_of a b u w = changed b (password_after (changed a u) w)

abbrev pub username_of : (a b : Wish) (u w : Option (List ℕ)) → Option (List ℕ)
username_of a b u w = with_empty (changed a u) (password_of a b u w)

stays : (x y : Option (List ℕ)) → (password_after (with_empty x y) y ≡ y) × (with_empty (with_empty x y) y ≡ with_empty x y)
stays None None = (refl, refl)
stays None (Some y) = (refl, refl)
stays (Some x) y = (refl, refl)

nothing_after : (a b : Wish) (u w : Option (List ℕ))
    → (password_of None None (username_of a b u w) (password_of a b u w) ≡ password_of a b u w)
    × (username_of None None (username_of a b u w) (password_of a b u w) ≡ username_of a b u w)
nothing_after a b u w =
    let s = stays (changed a u) (password_of a b u w) in
    (s.0, ap (with_empty (username_of a b u w)) s.0 ∙ s.1)

pub nothing_before : (a b : Wish) (u w : Option (List ℕ)) → password_after u w ≡ w → with_empty u w ≡ u
    → (password_of a b (username_of None None u w) (password_of None None u w) ≡ password_of a b u w)
    × (username_of a b (username_of None None u w) (password_of None None u w) ≡ username_of a b u w)
nothing_before a b u w i j =
    let k : with_empty u (password_after u w) ≡ u = ap (with_empty u) i ∙ j in (
      ap (λ x. password_of a b x (password_after u w)) k ∙ ap (password_of a b u) i,
      ap (λ x. username_of a b x (password_after u w)) k ∙ ap (username_of a b u) i,
    )

abbrev Users : (a b e f : Wish) (u w : Option (List ℕ)) → Type 0
Users a b e f u w =
    (password_of e f (username_of a b u w) (password_of a b u w) ≡ password_of a b (username_of e f u w) (password_of e f u w))
    × (username_of e f (username_of a b u w) (password_of a b u w) ≡ username_of a b (username_of e f u w) (password_of e f u w))

users : (a b e f : Wish) (u w : Option (List ℕ)) → OneKeepsBoth a b e f → password_after u w ≡ w → with_empty u w ≡ u → Users a b e f u w
users a b e f u w (inl (k, l)) i j =
    let p = nothing_before e f u w i j in
    let q = nothing_after e f u w in
    subst (λ x. Users x b e f u w) (sym k) (subst (λ x. Users None x e f u w) (sym l) (p.0 ∙ sym q.0, p.1 ∙ sym q.1))
users a b e f u w (inr (k, l)) i j =
    let p = nothing_before a b u w i j in
    let q = nothing_after a b u w in
    subst (λ x. Users a b x f u w) (sym k) (subst (λ x. Users a b None x u w) (sym l) (q.0 ∙ sym p.0, q.1 ∙ sym p.1))

-- ---- an authority

abbrev pub host_in : Option AuthorityStrings → Option (List ℕ)
host_in o = option_map (λ (a : AuthorityStrings). a.host) o

abbrev pub user_in : Option AuthorityStrings → Option (List ℕ)
user_in o = option_and_then (λ (a : AuthorityStrings). a.username) o

abbrev pub password_of_it : Option AuthorityStrings → Option (List ℕ)
password_of_it o = option_and_then (λ (a : AuthorityStrings). a.password) o

abbrev pub port_in : Option AuthorityStrings → Option (List ℕ)
port_in o = option_and_then (λ (a : AuthorityStrings). a.port) o

-- a password stands with a user name
abbrev pub IsPairedIn : Option AuthorityStrings → Type 0
IsPairedIn o = (password_after (user_in o) (password_of_it o) ≡ password_of_it o) × (with_empty (user_in o) (password_of_it o) ≡ user_in o)

both_with : (c d : Wanted) (o : Option AuthorityStrings) (g : List ℕ) → AreApart c d → IsPairedIn o
    → authority_with d (Some (authority_with c o g)) g ≡ authority_with c (Some (authority_with d o g)) g
both_with c d o g apart pair =
    let m = users c.username c.password d.username d.password (user_in o) (password_of_it o) apart.userinfo pair.0 pair.1 in
    let left = authority_with d (Some (authority_with c o g)) g in
    let right = authority_with c (Some (authority_with d o g)) g in
    ap (λ x. record { username = left.username; password = x; host = g; port = left.port }) m.0
    ∙ ap (λ x. record { username = x; password = right.password; host = g; port = left.port }) m.1
    ∙ ap (λ x. record { username = right.username; password = right.password; host = g; port = x }) (swapped c.port d.port (port_in o) apart.port)

pub no_host : (o : Option AuthorityStrings) → host_in o ≡ None → o ≡ None
no_host None e = refl
no_host (Some a) e = cc

some_host : (o : Option AuthorityStrings) → is_some (host_in o) ≡ is_some o
some_host None = refl
some_host (Some a) = refl

-- what sets no component of an authority makes none where there is none
nothing_set : (a b n : Wish) → (is_set a || (is_set b || is_set n)) ≡ false
    → (username_of a b None None ≡ None) × (password_of a b None None ≡ None) × (changed n None ≡ None)
nothing_set None None None e = (refl, refl, refl)
nothing_set None None (Some None) e = (refl, refl, refl)
nothing_set None None (Some (Some x)) e = cc
nothing_set None (Some None) None e = (refl, refl, refl)
nothing_set None (Some None) (Some None) e = (refl, refl, refl)
nothing_set None (Some None) (Some (Some x)) e = cc
nothing_set None (Some (Some x)) n e = cc
nothing_set (Some None) None None e = (refl, refl, refl)
nothing_set (Some None) None (Some None) e = (refl, refl, refl)
nothing_set (Some None) None (Some (Some x)) e = cc
nothing_set (Some None) (Some None) None e = (refl, refl, refl)
nothing_set (Some None) (Some None) (Some None) e = (refl, refl, refl)
nothing_set (Some None) (Some None) (Some (Some x)) e = cc
nothing_set (Some None) (Some (Some x)) n e = cc
nothing_set (Some (Some x)) b n e = cc

-- what a second change makes beside a host depends on the first change's user name, password and port alone
pub then_with : (c d : Wanted) (o a : Option AuthorityStrings) (h : Option (List ℕ)) (g : List ℕ) → changed_authority c o h ≡ Ok a → (h ≡ None → o ≡ None)
    → authority_with d a g ≡ authority_with d (Some (authority_with c o g)) g
then_with c d o a (Some k) g e gone =
    let same : Some (authority_with c o k) ≡ a = cc in ap (λ x. authority_with d x g) (sym same)
then_with c d o a None g e gone = by_test (sets_beside_host c) refl e
  where
    by_test : (v : Bool) → sets_beside_host c ≡ v → cond {A = Result (Option AuthorityStrings) ChangeError} v (Err errors.MissingHost) (Ok None) ≡ Ok a
        → authority_with d a g ≡ authority_with d (Some (authority_with c o g)) g
    by_test true i k = cc
    by_test false i k =
        let none : None ≡ a = cc in
        let m = nothing_set c.username c.password c.port i in
        let empty : authority_with c None g ≡ record { username = None; password = None; host = g; port = None } =
        ap (λ x. record { username = x; password = password_of c.username c.password None None; host = g; port = changed c.port None }) m.0
        ∙ ap (λ x. record { username = None; password = x; host = g; port = changed c.port None }) m.1
        ∙ ap (λ x. record { username = None; password = None; host = g; port = x }) m.2 in
        ap (λ x. authority_with d x g) (sym none)
        ∙ sym (ap (λ x. authority_with d (Some x) g) empty)
        ∙ ap (λ x. authority_with d (Some (authority_with c x g)) g) (sym (gone refl))

gone : (e f : Wish) (o : Option (List ℕ)) (g : List ℕ) → OneKeeps e f → changed f (changed e o) ≡ Some g → changed e o ≡ None → o ≡ None
gone e f o g (inl k) i j = ap (λ w. changed w o) (sym k) ∙ j
gone e f o g (inr k) i j = let no : None ≡ Some g = sym j ∙ ap (λ w. changed w (changed e o)) (sym k) ∙ i in absurd (cc)

made_with : (d : Wanted) (a b : Option AuthorityStrings) (g : List ℕ) → changed_authority d a (Some g) ≡ Ok b → b ≡ Some (authority_with d a g)
made_with d a b g e = cc

hosts_apart : (c d : Wanted) → AreApart c d → OneKeeps c.host d.host
hosts_apart c d apart = by_apart apart.host_and_path
  where
    by_apart : OneKeepsBoth c.host c.path d.host d.path → OneKeeps c.host d.host
    by_apart (inl (e, f)) = inl e
    by_apart (inr (e, f)) = inr e

turned : (c d : Wish) → OneKeeps c d → OneKeeps d c
turned c d (inl e) = inr e
turned c d (inr e) = inl e

-- the authority that two changes make, one after the other
second : (c d : Wanted) (o a b : Option AuthorityStrings) → changed_authority c o (changed c.host (host_in o)) ≡ Ok a
    → changed_authority d a (changed d.host (host_in a)) ≡ Ok b → changed_authority d a (changed d.host (changed c.host (host_in o))) ≡ Ok b
second c d o a b e k = ap (λ h. changed_authority d a (changed d.host h)) (sym (hosted c o (changed c.host (host_in o)) a e)) ∙ k

one_authority : (c d : Wanted) (o a b x y : Option AuthorityStrings) → AreApart c d → IsPairedIn o
    → changed_authority c o (changed c.host (host_in o)) ≡ Ok a → changed_authority d a (changed d.host (host_in a)) ≡ Ok b
    → changed_authority d o (changed d.host (host_in o)) ≡ Ok x → changed_authority c x (changed c.host (host_in x)) ≡ Ok y → b ≡ y
one_authority c d o a b x y apart pair i j k l =
    by_host (changed d.host (changed c.host (host_in o))) refl (second c d o a b i j)
    (ap (changed_authority c x) (swapped c.host d.host (host_in o) (hosts_apart c d apart)) ∙ second d c o x y k l)
  where
    by_host : (h : Option (List ℕ)) → changed d.host (changed c.host (host_in o)) ≡ h → changed_authority d a h ≡ Ok b → changed_authority c x h ≡ Ok y → b ≡ y
    by_host None e m n = no_host b (hosted d a None b m) ∙ sym (no_host y (hosted c x None y n))
    by_host (Some g) e m n =
        let keeps = hosts_apart c d apart in
        let turn : changed c.host (changed d.host (host_in o)) ≡ Some g = sym (swapped c.host d.host (host_in o) keeps) ∙ e in
        made_with d a b g m
        ∙ ap Some (then_with c d o a (changed c.host (host_in o)) g i (λ h. no_host o (gone c.host d.host (host_in o) g keeps e h))
        ∙ both_with c d o g apart pair
        ∙ sym (then_with d c o x (changed d.host (host_in o)) g k (λ h. no_host o (gone d.host c.host (host_in o) g (turned c.host d.host keeps) turn h))))
        ∙ sym (made_with c x y g n)

pub same_some : (d : Wanted) (o a : Option AuthorityStrings) → changed_authority d o (changed d.host (host_in o)) ≡ Ok a → d.host ≡ None → is_some a ≡ is_some o
same_some d o a e k =
    sym (some_host a) ∙ ap is_some (hosted d o (changed d.host (host_in o)) a e ∙ ap (λ w. changed w (host_in o)) k) ∙ some_host o

-- ---- a path

pub kept : (v : Bool) (h : List ℕ) → changed_path None v v h ≡ h
kept true h = refl
kept false h = refl

placed_twice : (v : Bool) (h : List ℕ) → after_authority v (after_authority v h) ≡ after_authority v h
placed_twice false h = refl
placed_twice true h = by_test (is_abempty h) refl
  where
    by_test : (v : Bool) → is_abempty h ≡ v → after_authority true (cond v h (slash ∷ h)) ≡ cond v h (slash ∷ h)
    by_test true e = ap (λ b. cond b h (slash ∷ h)) e
    by_test false e = refl

-- the path that two changes make: with these authorities before, between and after them
abbrev in_turn : (e f : Wish) (v w x : Bool) (h : List ℕ) → List ℕ
in_turn e f v w x h = after_authority x (changed_path f w x (after_authority w (changed_path e v w h)))

one_path : (e f : Wish) (v w x z : Bool) (h : List ℕ) → after_authority v h ≡ h → f ≡ None → x ≡ w → z ≡ v → in_turn e f v w x h ≡ in_turn f e v z x h
one_path e f v w x z h fits i j k =
    ap (λ b. in_turn e f v w b h) j ∙ ap (λ f. in_turn e f v w w h) i
    ∙ ap (after_authority w) (kept w (after_authority w (changed_path e v w h))) ∙ placed_twice w (changed_path e v w h)
    ∙ sym (ap (λ b. in_turn f e v z b h) j ∙ ap (λ b. in_turn f e v b w h) k ∙ ap (λ f. in_turn f e v v w h) i
    ∙ ap (λ u. after_authority w (changed_path e v w (after_authority v u))) (kept v h) ∙ ap (λ u. after_authority w (changed_path e v w u)) fits)

-- ---- the strings of two changes, one after the other

record AreMadeInTurn (c d : Wanted) (s x y : Strings) : Type 0 where
  first : changed_authority c s.authority (changed c.host (host_in s.authority)) ≡ Ok x.authority
  then : changed_authority d x.authority (changed d.host (host_in x.authority)) ≡ Ok y.authority
  scheme : y.scheme ≡ changed d.scheme (changed c.scheme s.scheme)
  query : y.query ≡ changed d.query (changed c.query s.query)
  fragment : y.fragment ≡ changed d.fragment (changed c.fragment s.fragment)
  path : after_authority (is_some y.authority) y.path ≡ in_turn c.path d.path (is_some s.authority) (is_some x.authority) (is_some y.authority) s.path

made_in_turn : (c d : Wanted) (s x y : Strings) → changed_strings c s ≡ Ok x → changed_strings d (placed x) ≡ Ok y → AreMadeInTurn c d s x y
made_in_turn c d s x y e k =
    let m = authority_chosen c s x e in
    let n = authority_chosen d (placed x) y k in
    record {
      first = m.0;
      then = n.0;
      scheme = ap (λ (q : Strings). q.scheme) (sym n.1) ∙ ap (λ (q : Strings). changed d.scheme q.scheme) (sym m.1);
      query = ap (λ (q : Strings). q.query) (sym n.1) ∙ ap (λ (q : Strings). changed d.query q.query) (sym m.1);
      fragment = ap (λ (q : Strings). q.fragment) (sym n.1) ∙ ap (λ (q : Strings). changed d.fragment q.fragment) (sym m.1);
      path = ap (λ (q : Strings). after_authority (is_some y.authority) q.path) (sym n.1)
          ∙ ap (λ (q : Strings). after_authority (is_some y.authority) (changed_path d.path (is_some x.authority) (is_some y.authority)
          (after_authority (is_some x.authority) q.path))) (sym m.1);
    }

one_order : (c d : Wanted) (s x y z w : Strings) → AreApart c d → IsPairedIn s.authority → after_authority (is_some s.authority) s.path ≡ s.path
    → AreMadeInTurn c d s x y → AreMadeInTurn d c s z w → placed y ≡ placed w
one_order c d s x y z w apart pair fits i j =
    let a = authorities in
    let ends = after_authority (is_some w.authority) w.path in
    ap (λ u. record { scheme = u; authority = y.authority; path = (placed y).path; query = y.query; fragment = y.fragment })
    (i.scheme ∙ swapped c.scheme d.scheme s.scheme apart.scheme ∙ sym j.scheme)
    ∙ ap (λ u. record { scheme = w.scheme; authority = y.authority; path = u; query = y.query; fragment = y.fragment })
    (i.path ∙ by_apart apart.host_and_path ∙ ap (λ b. in_turn d.path c.path (is_some s.authority) (is_some z.authority) b s.path) (ap is_some a) ∙ sym j.path)
    ∙ ap (λ u. record { scheme = w.scheme; authority = u; path = ends; query = y.query; fragment = y.fragment }) a
    ∙ ap (λ u. record { scheme = w.scheme; authority = w.authority; path = ends; query = u; fragment = y.fragment })
    (i.query ∙ swapped c.query d.query s.query apart.query ∙ sym j.query)
    ∙ ap (λ u. record { scheme = w.scheme; authority = w.authority; path = ends; query = w.query; fragment = u })
    (i.fragment ∙ swapped c.fragment d.fragment s.fragment apart.fragment ∙ sym j.fragment)
  where
    authorities : y.authority ≡ w.authority
    authorities = one_authority c d s.authority x.authority y.authority z.authority w.authority apart pair i.first i.then j.first j.then

    by_apart : OneKeepsBoth c.host c.path d.host d.path
        → in_turn c.path d.path (is_some s.authority) (is_some x.authority) (is_some y.authority) s.path
        ≡ in_turn d.path c.path (is_some s.authority) (is_some z.authority) (is_some y.authority) s.path
    by_apart (inr (e, f)) =
        one_path c.path d.path (is_some s.authority) (is_some x.authority) (is_some y.authority) (is_some z.authority) s.path fits f
        (same_some d x.authority y.authority i.then e) (same_some d s.authority z.authority j.first e)
    by_apart (inl (e, f)) =
        sym (one_path d.path c.path (is_some s.authority) (is_some z.authority) (is_some y.authority) (is_some x.authority) s.path fits f
        (ap is_some authorities ∙ same_some c z.authority w.authority j.then e) (same_some c s.authority x.authority i.first e))

pub paired_in : (o : Option (List ℕ)) → IsPairedIn (option_map authority_strings o)
paired_in None = (refl, refl)
paired_in (Some a) = by_user (userinfo_text a)
  where
    by_user : (o : Option (List ℕ))
        → (password_after (username_in o) (password_in o) ≡ password_in o) × (with_empty (username_in o) (password_in o) ≡ username_in o)
    by_user None = (refl, refl)
    by_user (Some i) = (refl, refl)

same_view : (v x : Viewed) → v.text ≡ x.text → v.parts ≡ x.parts → v ≡ x
same_view v x e k = ap (λ q. record { text = q; parts = v.parts }) e ∙ ap (λ q. record { text = x.text; parts = q }) k

pub commuting : (c d : Wanted) (t : List ℕ) (u v w x : Viewed) → AreApart c d → changing c t ≡ Ok u → changing d u.text ≡ Ok v → changing d t ≡ Ok w
    → changing c w.text ≡ Ok x → v ≡ x
commuting c d t u v w x apart i j k l =
    let a = is_made c t u i in
    let b = is_made d u.text v j in
    let e = is_made d t w k in
    let f = is_made c w.text x l in
    let m = made_in_turn c d (strings t) a.made b.made a.is (ap (changed_strings d) (sym a.cut) ∙ b.is) in
    let n = made_in_turn d c (strings t) e.made f.made e.is (ap (changed_strings c) (sym e.cut) ∙ f.is) in
    let same = one_order c d (strings t) a.made b.made e.made f.made apart (paired_in (authority_text t))
    (path_made (authority_text t) (path_text t) (abempty_text t)) m n in
    let texts : v.text ≡ x.text = sym (strings_whole v.text) ∙ ap whole (b.cut ∙ same ∙ sym f.cut) ∙ strings_whole x.text in
    let parts : v.parts ≡ x.parts =
    one_reading x.text v.parts x.parts (subst (λ q. Spells q v.parts) texts (changing_spells d u.text v j)) (changing_spells c w.text x l) in
    same_view v x texts parts
