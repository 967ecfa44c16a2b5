-- Sort keys order references as their components do.
use Rattle.std.proofs.Common.{◌≡◌, ◌↔◌, ℕ, zero, suc, ◌+◌, ◌/◌, ◌%◌, ◌<◌, ◌≤◌, Bool, true, false, List, [], ◌∷◌, ◌++◌, Option, Some, None, refl, sym, ap, subst, ◌∙◌, append_assoc, append-nil, arith}
use Rattle.std.specs.Prelude.{◌^◌, IfSome, cond, nat_lt}
use Rattle.std.specs.Cmp.Lexicographic.{nat_list_cmp_total, slice_cmp}
use Rattle.std.specs.List.{flat_map}
use Rattle.std.specs.Option.{option_cmp, option_map}
use Rattle.std.specs.Ordering.{nat_cmp, ordering_then}
use Rattle.std.specs.declared.cmp.Ordering.{Ordering}
use Rattle.std.specs.declared.cmp.Ordering.TheVariants.{Less, Equal, Greater}
use Rattle.std.proofs.lemmas.Bool.{and_from, and_parts}
use Rattle.std.proofs.lemmas.Bool.Decides.{nat_tests}
use Rattle.std.proofs.Math.Nat.{div-lt_iff_lt-mul, mod-lt, one-le-pow, pow-succ'}
use Rattle.std.specs.Char.{digit_char}
use Rattle.std.proofs.Common.{All, IsUtf8}
use Rattle.std.proofs.lemmas.List.Elements.{All-nil, All-cons}
use Rattle.std.proofs.lemmas.Str.{IsUtf8-from_ascii}
use Rattle.std.proofs.lemmas.Str.Ascii.{IsAscii-from_all}
use Rattle.std.proofs.lemmas.Cmp.{tied_itself}
use Rattle.std.proofs.lemmas.List.Folds.{list_all-append}
use Rattle.uriparse_text.specs.declared.internal.class.Class.{Class}
use Rattle.uriparse_text.specs.declared.internal.class.Class.TheVariants as class
use Rattle.uriparse_text.specs.declared.internal.token.Case.TheVariants as case
use Rattle.uriparse_text.specs.Address.{IsOctets, IsSegments}
use Rattle.uriparse_text.specs.Bytes.{is_hex, is_sub_delim, is_unreserved}
use Rattle.uriparse_text.specs.Canonical.{canonical, canonical_lowered}
use Rattle.uriparse_text.specs.Classes.{is_plain}
use Rattle.uriparse_text.specs.Faults.{IsIn}
use Rattle.uriparse_text.proofs.lemmas.classes.ClassLemmas.{IsIn-canonical_in, bytes-in_class}
use Rattle.uriparse_text.proofs.lemmas.readings.CutLemmas.{weaker}
use Rattle.uriparse_authority.specs.Authority as authority
use Rattle.uriparse_authority.specs.Authority.{AuthorityParts}
use Rattle.uriparse_authority.specs.Future.{is_future_byte}
use Rattle.uriparse_authority.specs.Host as host
use Rattle.uriparse_authority.specs.Order.{host_rank, rank_cmp}
use Rattle.uriparse_authority.specs.Order as order
use Rattle.uriparse_authority.specs.Port as port
use Rattle.uriparse_authority.specs.declared.authority.host.Host.{Host}
use Rattle.uriparse_authority.specs.declared.authority.host.Host.TheVariants.{IPv4Address, IPv6Address, IPvFuture, RegisteredName}
use Rattle.uriparse_authority.proofs.lemmas.hosts.FutureLemmas.{IsFuture-bytes, IsFuture-canonical_lowered}
use Rattle.uriparse_authority.proofs.lemmas.authorities.OrderLemmas.{same_lists}
use Rattle.uriparse_scheme.specs.Scheme as scheme
use Rattle.uriparse_scheme.specs.declared.scheme.Scheme.{Scheme}
use Rattle.uriparse_scheme.proofs.lemmas.schemes.GrammarLemmas.{is_scheme-canonical_lowered}
use Rattle.uriparse_scheme.proofs.lemmas.schemes.SchemeLemmas.{is_scheme-text}
use Rattle.uriparse_path.specs.Path as path
use Rattle.uriparse_path.proofs.lemmas.text.CanonicalTextLemmas.{is_path-canonical}
use Rattle.uriparse_reference.specs.Order.{reference_cmp}
use Rattle.uriparse_reference.specs.Reference.{Parts, Same, Spells, Valid}
use Rattle.uriparse_reference.proofs.lemmas.equality.OrderLemmas.{order_same}
use Rattle.uriparse_reference.proofs.lemmas.reading.CharacterLemmas.{AreUriBytes, is_uri_byte, uri_bytes-in_class, uri_bytes-path, uri_bytes-scheme, uri_bytes-spelled}
use Rattle.uriparse_reference.proofs.lemmas.reading.SpellingLemmas.{valid_placed}
use Rattle.uriparse.specs.SortKey.{AreKeyBytes, absent, authority_key, digits, end, ended, host_key, is_key_byte, key_order, optional, present, sort_key, version}
use Rattle.uriparse.proofs.lemmas.SortLemmas.{AreAbove, AreBelow, Carries, digits_carry, ended_carries, lists_carry, then_assoc}

-- ---- the bytes of canonical spellings

is_above : ℕ → Bool
is_above b = nat_lt end b

class_byte : (c : Class) (b : ℕ) → is_plain c b ≡ true → nat_lt end b ≡ true
unfolding is_plain is_unreserved is_sub_delim
class_byte class.Name b h = grind (arith, nat_tests)
class_byte class.UserInfo b h = grind (arith, nat_tests)
class_byte class.Segment b h = grind (arith, nat_tests)
class_byte class.Query b h = grind (arith, nat_tests)

hex_byte : (b : ℕ) → is_hex b ≡ true → nat_lt end b ≡ true
hex_byte b h = grind (arith, nat_tests)

uri_byte : (b : ℕ) → is_uri_byte b ≡ true → nat_lt end b ≡ true
unfolding is_unreserved is_sub_delim
uri_byte b h = grind (arith, nat_tests)

future_byte : (b : ℕ) → is_future_byte b ≡ true → nat_lt end b ≡ true
unfolding is_unreserved is_sub_delim
future_byte b h = grind (arith, nat_tests)

pub above-in_class : (c : Class) (t : List ℕ) → IsIn c t → AreAbove t
above-in_class c t h = bytes-in_class c (λ b. nat_lt end b) (class_byte c) refl hex_byte t h

abbrev IsText : Class → List ℕ → Type 0
IsText c t = IsIn c t

-- a text of a class, in canonical spelling
pub spelled_carries : (c : Class) → Carries (IsText c) (λ t u. slice_cmp nat_cmp (canonical t) (canonical u)) (λ t. ended (canonical t))
spelled_carries c t u i j =
    ended_carries (canonical t) (canonical u) (above-in_class c (canonical t) (IsIn-canonical_in c case.Kept t i))
    (above-in_class c (canonical u) (IsIn-canonical_in c case.Kept u j))

-- an optional one
pub texts_carry : (c : Class) (o p : Option (List ℕ)) → IfSome o (IsIn c) → IfSome p (IsIn c) → (r s : List ℕ)
    → slice_cmp nat_cmp (optional ended (option_map canonical o) ++ r) (optional ended (option_map canonical p) ++ s)
    ≡ ordering_then (option_cmp (slice_cmp nat_cmp) (option_map canonical o) (option_map canonical p)) (slice_cmp nat_cmp r s)
texts_carry c None None i j r s = refl
texts_carry c None (Some u) i j r s = refl
texts_carry c (Some t) None i j r s = refl
texts_carry c (Some t) (Some u) i j r s = spelled_carries c t u i j r s

-- ---- hosts

name_above : (n : List ℕ) → IsIn class.Name n → AreAbove (canonical_lowered n)
name_above n is = above-in_class class.Name (canonical_lowered n) (IsIn-canonical_in class.Name case.Lowered n is)

future_above : (f : List ℕ) → host.Valid (IPvFuture f) → AreAbove (canonical_lowered f)
future_above f is = weaker is_future_byte (λ b. nat_lt end b) future_byte (canonical_lowered f) (IsFuture-bytes (canonical_lowered f) (IsFuture-canonical_lowered f is))

pub octets_below : (a : List ℕ) → IsOctets a → AreBelow (16 ^ 2) a
octets_below a is = is.fit

pub segments_below : (a : List ℕ) → IsSegments a → AreBelow (16 ^ 4) a
segments_below a is = is.fit

pub hosts_carry : (g h : Host) → host.Valid g → host.Valid h → (r s : List ℕ)
    → slice_cmp nat_cmp (host_key g ++ r) (host_key h ++ s) ≡ ordering_then (slice_cmp nat_cmp (host_rank g) (host_rank h)) (slice_cmp nat_cmp r s)
hosts_carry (IPv4Address a) (IPv4Address b) v w r s =
    lists_carry 16 2 (omega arith) (omega arith) a b (v.four ∙ sym w.four) (octets_below a v) (octets_below b w) r s
hosts_carry (IPv6Address a) (IPv6Address b) v w r s =
    lists_carry 16 4 (omega arith) (omega arith) a b (v.eight ∙ sym w.eight) (segments_below a v) (segments_below b w) r s
hosts_carry (IPvFuture f) (IPvFuture g) v w r s = ended_carries (canonical_lowered f) (canonical_lowered g) (future_above f v) (future_above g w) r s
hosts_carry (RegisteredName m) (RegisteredName n) v w r s = ended_carries (canonical_lowered m) (canonical_lowered n) (name_above m v) (name_above n w) r s
hosts_carry (IPv4Address a) (IPv6Address b) v w r s = refl
hosts_carry (IPv4Address a) (IPvFuture g) v w r s = refl
hosts_carry (IPv4Address a) (RegisteredName n) v w r s = refl
hosts_carry (IPv6Address a) (IPv4Address b) v w r s = refl
hosts_carry (IPv6Address a) (IPvFuture g) v w r s = refl
hosts_carry (IPv6Address a) (RegisteredName n) v w r s = refl
hosts_carry (IPvFuture f) (IPv4Address b) v w r s = refl
hosts_carry (IPvFuture f) (IPv6Address b) v w r s = refl
hosts_carry (IPvFuture f) (RegisteredName n) v w r s = refl
hosts_carry (RegisteredName m) (IPv4Address b) v w r s = refl
hosts_carry (RegisteredName m) (IPv6Address b) v w r s = refl
hosts_carry (RegisteredName m) (IPvFuture g) v w r s = refl

-- ---- authorities

pub ports_carry : (m n : Option ℕ) → IfSome m port.IsPort → IfSome n port.IsPort → (r s : List ℕ)
    → slice_cmp nat_cmp (optional (digits 10 5) m ++ r) (optional (digits 10 5) n ++ s) ≡ ordering_then (option_cmp nat_cmp m n) (slice_cmp nat_cmp r s)
ports_carry None None v w r s = refl
ports_carry None (Some n) v w r s = refl
ports_carry (Some m) None v w r s = refl
ports_carry (Some m) (Some n) v w r s = digits_carry 10 (omega arith) (omega arith) 5 m n (omega arith) (omega arith) r s

pub authorities_carry : (a b : AuthorityParts) → authority.Valid a → authority.Valid b → (r s : List ℕ)
    → slice_cmp nat_cmp (authority_key a ++ r) (authority_key b ++ s) ≡ ordering_then (rank_cmp (order.rank a) (order.rank b)) (slice_cmp nat_cmp r s)
authorities_carry a b v w r s =
    let user = optional ended (option_map canonical a.username) in
    let word = optional ended (option_map canonical a.password) in
    let place = optional (digits 10 5) a.port in
    let user2 = optional ended (option_map canonical b.username) in
    let word2 = optional ended (option_map canonical b.password) in
    let place2 = optional (digits 10 5) b.port in
    let first = option_cmp (slice_cmp nat_cmp) (option_map canonical a.username) (option_map canonical b.username) in
    let second = option_cmp (slice_cmp nat_cmp) (option_map canonical a.password) (option_map canonical b.password) in
    let third = slice_cmp nat_cmp (host_rank a.host) (host_rank b.host) in
    let fourth = option_cmp nat_cmp a.port b.port in
    let last = slice_cmp nat_cmp r s in
    let at = slice_cmp nat_cmp in
    let whole : (user ++ (word ++ (host_key a.host ++ place))) ++ r ≡ user ++ (word ++ (host_key a.host ++ (place ++ r))) =
    append_assoc user (word ++ (host_key a.host ++ place)) r ∙ ap (λ t. user ++ t) (append_assoc word (host_key a.host ++ place) r)
    ∙ ap (λ t. user ++ (word ++ t)) (append_assoc (host_key a.host) place r) in
    let other : (user2 ++ (word2 ++ (host_key b.host ++ place2))) ++ s ≡ user2 ++ (word2 ++ (host_key b.host ++ (place2 ++ s))) =
    append_assoc user2 (word2 ++ (host_key b.host ++ place2)) s ∙ ap (λ t. user2 ++ t) (append_assoc word2 (host_key b.host ++ place2) s)
    ∙ ap (λ t. user2 ++ (word2 ++ t)) (append_assoc (host_key b.host) place2 s) in
    ap (λ t. slice_cmp nat_cmp t ((user2 ++ (word2 ++ (host_key b.host ++ place2))) ++ s)) whole
    ∙ ap (slice_cmp nat_cmp (user ++ (word ++ (host_key a.host ++ (place ++ r))))) other
    ∙ texts_carry class.Name a.username b.username v.is_username w.is_username (word ++ (host_key a.host ++ (place ++ r))) (word2 ++ (host_key b.host ++ (place2 ++ s)))
    ∙ ap (ordering_then first) (texts_carry class.UserInfo a.password b.password v.is_password w.is_password (host_key a.host ++ (place ++ r)) (host_key b.host ++ (place2 ++ s)))
    ∙ ap (λ o. ordering_then first (ordering_then second o)) (hosts_carry a.host b.host v.is_host w.is_host (place ++ r) (place2 ++ s))
    ∙ ap (λ o. ordering_then first (ordering_then second (ordering_then third o))) (ports_carry a.port b.port v.is_port w.is_port r s)
    ∙ sym (then_assoc first (ordering_then second (ordering_then third fourth)) last
    ∙ ap (ordering_then first) (then_assoc second (ordering_then third fourth) last)
    ∙ ap (λ o. ordering_then first (ordering_then second o)) (then_assoc third fourth last))

-- ---- references

scheme_above : (s : Scheme) → scheme.Valid s → AreAbove (scheme.canonical_text s)
scheme_above s v = weaker is_uri_byte (λ b. nat_lt end b) uri_byte (scheme.canonical_text s) (uri_bytes-scheme (scheme.canonical_text s) (is_scheme-canonical_lowered (scheme.text s) (is_scheme-text s v)))

schemes_carry : (o p : Option Scheme) → IfSome o scheme.Valid → IfSome p scheme.Valid → (r s : List ℕ)
    → slice_cmp nat_cmp (optional ended (option_map scheme.canonical_text o) ++ r) (optional ended (option_map scheme.canonical_text p) ++ s)
    ≡ ordering_then (option_cmp (slice_cmp nat_cmp) (option_map scheme.canonical_text o) (option_map scheme.canonical_text p)) (slice_cmp nat_cmp r s)
schemes_carry None None v w r s = refl
schemes_carry None (Some b) v w r s = refl
schemes_carry (Some a) None v w r s = refl
schemes_carry (Some a) (Some b) v w r s = ended_carries (scheme.canonical_text a) (scheme.canonical_text b) (scheme_above a v) (scheme_above b w) r s

places_carry : (o p : Option AuthorityParts) → IfSome o authority.Valid → IfSome p authority.Valid → (r s : List ℕ)
    → slice_cmp nat_cmp (optional (λ a. a) (option_map authority_key o) ++ r) (optional (λ a. a) (option_map authority_key p) ++ s)
    ≡ ordering_then (option_cmp rank_cmp (option_map order.rank o) (option_map order.rank p)) (slice_cmp nat_cmp r s)
places_carry None None v w r s = refl
places_carry None (Some b) v w r s = refl
places_carry (Some a) None v w r s = refl
places_carry (Some a) (Some b) v w r s = authorities_carry a b v w r s

path_above : (p : Parts) → Valid p → AreAbove (canonical (path.text p.path))
path_above p v = weaker is_uri_byte (λ b. nat_lt end b) uri_byte (canonical (path.text p.path)) (uri_bytes-path (canonical (path.text p.path)) (is_path-canonical (path.text p.path) (valid_placed p v).is_path))

pub keys_ordered : (p q : Parts) → Valid p → Valid q → key_order (sort_key p) (sort_key q) ≡ reference_cmp p q
keys_ordered p q v w =
    let h = canonical (path.text p.path) in
    let g = canonical (path.text q.path) in
    let tail = optional ended (option_map canonical p.fragment) in
    let tail2 = optional ended (option_map canonical q.fragment) in
    let query = optional ended (option_map canonical p.query) in
    let query2 = optional ended (option_map canonical q.query) in
    let first = option_cmp (slice_cmp nat_cmp) (option_map scheme.canonical_text p.scheme) (option_map scheme.canonical_text q.scheme) in
    let second = option_cmp rank_cmp (option_map order.rank p.authority) (option_map order.rank q.authority) in
    let third = slice_cmp nat_cmp h g in
    let fourth = option_cmp (slice_cmp nat_cmp) (option_map canonical p.query) (option_map canonical q.query) in
    schemes_carry p.scheme q.scheme v.is_scheme w.is_scheme _ _
    ∙ ap (ordering_then first) (places_carry p.authority q.authority v.is_authority w.is_authority (ended h ++ (query ++ tail)) (ended g ++ (query2 ++ tail2)))
    ∙ ap (λ o. ordering_then first (ordering_then second o)) (ended_carries h g (path_above p v) (path_above q w) (query ++ tail) (query2 ++ tail2))
    ∙ ap (λ o. ordering_then first (ordering_then second (ordering_then third o))) (texts_carry class.Query p.query q.query v.is_query w.is_query tail tail2)
    ∙ ap (λ o. ordering_then first (ordering_then second (ordering_then third (ordering_then fourth o)))) (last p.fragment q.fragment v.is_fragment w.is_fragment)
  where
    then_equal : (o : Ordering) → ordering_then o Equal ≡ o
    then_equal Less = refl
    then_equal Equal = refl
    then_equal Greater = refl

    last : (o e : Option (List ℕ)) → IfSome o (IsIn class.Query) → IfSome e (IsIn class.Query)
        → slice_cmp nat_cmp (optional ended (option_map canonical o)) (optional ended (option_map canonical e)) ≡ option_cmp (slice_cmp nat_cmp) (option_map canonical o) (option_map canonical e)
    last o e i j =
        ap (λ t. slice_cmp nat_cmp t (optional ended (option_map canonical e))) (sym (append-nil (optional ended (option_map canonical o))))
        ∙ ap (slice_cmp nat_cmp (optional ended (option_map canonical o) ++ [])) (sym (append-nil (optional ended (option_map canonical e))))
        ∙ texts_carry class.Query o e i j [] [] ∙ then_equal (option_cmp (slice_cmp nat_cmp) (option_map canonical o) (option_map canonical e))

pub same_keys : (p q : Parts) → Valid p → Valid q → (sort_key p ≡ sort_key q) ↔ Same p q
same_keys p q v w = (
  λ e. (order_same p q v w).0 (sym (keys_ordered p q v w) ∙ ap (key_order (sort_key p)) (sym e) ∙ tied_itself nat_list_cmp_total (sort_key p)),
  λ s. same_lists (sort_key p) (sort_key q) (keys_ordered p q v w ∙ (order_same p q v w).1 s),
)

not_absent : is_uri_byte absent ≡ true → ⊥
unfolding is_unreserved is_sub_delim
not_absent h = cc

not_present : is_uri_byte present ≡ true → ⊥
unfolding is_unreserved is_sub_delim
not_present h = cc

no_byte : (o : Option Scheme) (t : List ℕ) → AreUriBytes (version ∷ (optional ended (option_map scheme.canonical_text o) ++ t)) → ⊥
no_byte None t h = not_absent (and_parts (is_uri_byte absent) _ (and_parts (is_uri_byte version) _ h).1).0
no_byte (Some x) t h = not_present (and_parts (is_uri_byte present) _ (and_parts (is_uri_byte version) _ h).1).0

-- no reference has the text of a key
pub never_spelled : (p q : Parts) → Spells (sort_key p) q → ⊥
never_spelled p q s = no_byte p.scheme _ (uri_bytes-spelled (sort_key p) q s)

-- ---- the bytes of a key

pub key_byte : (b : ℕ) → is_uri_byte b ≡ true → is_key_byte b ≡ true
unfolding is_unreserved is_sub_delim
key_byte b h = grind (arith, nat_tests)

pub joined : (t u : List ℕ) → AreKeyBytes t → AreKeyBytes u → AreKeyBytes (t ++ u)
joined t u h k = list_all-append is_key_byte t u ∙ and_from _ _ h k

pub of_uri_bytes : (t : List ℕ) → AreUriBytes t → AreKeyBytes (ended t)
of_uri_bytes t h = joined t (end ∷ []) (weaker is_uri_byte is_key_byte key_byte t h) refl

pub optional_bytes : {A : Type 0} (ok : A → Type 0) (f : A → List ℕ) → ((x : A) → ok x → AreKeyBytes (f x)) → (o : Option A) → IfSome o ok → AreKeyBytes (optional f o)
optional_bytes ok f h None v = refl
optional_bytes ok f h (Some x) v = and_from (is_key_byte present) _ refl (h x v)

pub in_class : (c : Class) (o : Option (List ℕ)) → IfSome o (IsIn c) → AreKeyBytes (optional ended (option_map canonical o))
in_class c None i = refl
in_class c (Some t) i = and_from (is_key_byte present) _ refl (of_uri_bytes (canonical t) (uri_bytes-in_class c (canonical t) (IsIn-canonical_in c case.Kept t i)))

digit_byte : (n : ℕ) → n < 16 → is_key_byte (digit_char n) ≡ true
digit_byte n h = by_test (nat_lt n 10) refl
  where
    by_test : (w : Bool) → nat_lt n 10 ≡ w → is_key_byte (cond w (48 + n) (87 + n)) ≡ true
    by_test true e = grind (arith, nat_tests)
    by_test false e = grind (arith, nat_tests)

digits_bytes : (base : ℕ) → 0 < base → base ≤ 16 → (k n : ℕ) → n < base ^ k → AreKeyBytes (digits base k n)
digits_bytes base some few zero n h = refl
digits_bytes base some few (suc k) n h =
    let pos = one-le-pow k base some in
    let q = (div-lt_iff_lt-mul pos).1 (subst (λ x. n < x) (pow-succ' base k) h) in
    and_from _ _ (digit_byte (n / base ^ k) (omega arith)) (digits_bytes base some few k (n % base ^ k) (mod-lt n pos))

pub lists_bytes : (k : ℕ) (xs : List ℕ) → AreBelow (16 ^ k) xs → AreKeyBytes (flat_map (digits 16 k) xs)
lists_bytes k [] v = refl
lists_bytes k (x ∷ xs) v =
    joined (digits 16 k x) (flat_map (digits 16 k) xs) (digits_bytes 16 (omega arith) (omega arith) k x (v 0)) (lists_bytes k xs (λ i. v (suc i)))

pub future_key : (b : ℕ) → is_future_byte b ≡ true → is_key_byte b ≡ true
unfolding is_unreserved is_sub_delim
future_key b h = grind (arith, nat_tests)

host_bytes : (h : Host) → host.Valid h → AreKeyBytes (host_key h)
host_bytes (IPv4Address a) v = lists_bytes 2 a (octets_below a v)
host_bytes (IPv6Address a) v = lists_bytes 4 a (segments_below a v)
host_bytes (IPvFuture f) v = joined (canonical_lowered f) (end ∷ []) (weaker is_future_byte is_key_byte future_key (canonical_lowered f) (IsFuture-bytes (canonical_lowered f) (IsFuture-canonical_lowered f v))) refl
host_bytes (RegisteredName n) v = of_uri_bytes (canonical_lowered n) (uri_bytes-in_class class.Name (canonical_lowered n) (IsIn-canonical_in class.Name case.Lowered n v))

pub port_bytes : (n : ℕ) → port.IsPort n → AreKeyBytes (digits 10 5 n)
port_bytes n v = digits_bytes 10 (omega arith) (omega arith) 5 n (omega arith)

authority_bytes : (a : AuthorityParts) → authority.Valid a → AreKeyBytes (authority_key a)
authority_bytes a v =
    joined (optional ended (option_map canonical a.username)) _ (in_class class.Name a.username v.is_username)
    (joined (optional ended (option_map canonical a.password)) _ (in_class class.UserInfo a.password v.is_password)
    (joined (host_key a.host) _ (host_bytes a.host v.is_host) (optional_bytes port.IsPort (digits 10 5) port_bytes a.port v.is_port)))

pub key_bytes : (p : Parts) → Valid p → AreKeyBytes (sort_key p)
key_bytes p v =
    and_from (is_key_byte version) _ refl
    (joined (optional ended (option_map scheme.canonical_text p.scheme)) _ (of_scheme p.scheme v.is_scheme)
    (joined (optional (λ a. a) (option_map authority_key p.authority)) _ (of_authority p.authority v.is_authority)
    (joined (ended (canonical (path.text p.path))) _ (of_uri_bytes (canonical (path.text p.path)) (uri_bytes-path (canonical (path.text p.path)) (is_path-canonical (path.text p.path) (valid_placed p v).is_path)))
    (joined (optional ended (option_map canonical p.query)) _ (in_class class.Query p.query v.is_query) (in_class class.Query p.fragment v.is_fragment)))))
  where
    of_scheme : (o : Option Scheme) → IfSome o scheme.Valid → AreKeyBytes (optional ended (option_map scheme.canonical_text o))
    of_scheme None h = refl
    of_scheme (Some s) h = and_from (is_key_byte present) _ refl (of_uri_bytes (scheme.canonical_text s) (uri_bytes-scheme (scheme.canonical_text s) (is_scheme-canonical_lowered (scheme.text s) (is_scheme-text s h))))

    of_authority : (o : Option AuthorityParts) → IfSome o authority.Valid → AreKeyBytes (optional (λ a. a) (option_map authority_key o))
    of_authority None h = refl
    of_authority (Some a) h = and_from (is_key_byte present) _ refl (authority_bytes a h)

small_byte : (b : ℕ) → is_key_byte b ≡ true → b < 128
small_byte b h = grind (arith, nat_tests)

all_small : (t : List ℕ) → AreKeyBytes t → All (λ b. b < 128) t
all_small [] h = All-nil (λ b. b < 128)
all_small (b ∷ t) h = let both = and_parts (is_key_byte b) _ h in All-cons (λ b. b < 128) b t (small_byte b both.0) (all_small t both.1)

pub IsUtf8-bytes : (t : List ℕ) → AreKeyBytes t → IsUtf8 t
IsUtf8-bytes t h = IsUtf8-from_ascii t (IsAscii-from_all t (all_small t h))

pub IsUtf8-key : (p : Parts) → Valid p → IsUtf8 (sort_key p)
IsUtf8-key p v = IsUtf8-bytes (sort_key p) (key_bytes p v)
