-- Reading a host is exact; what its texts are made of; and how hosts compare.
use Rattle.std.proofs.Common.{◌≡◌, ◌⊎◌, ◌↔◌, ℕ, Bool, true, false, cond, List, [], ◌∷◌, ◌++◌, Option, Some, None, Ok, Err, refl, sym, ap, ◌∙◌, subst, inl, inr}
use Rattle.std.proofs.Common.{fold, arith}
use Rattle.std.specs.Prelude.{not, ◌==◌, is_none, bytes_eq, Result}
use Rattle.std.specs.Option.{option_map, ok_or}
use Rattle.std.specs.List.{list_all}
use Rattle.std.specs.Hash.{HashWrites, slice, u8, u16}
use Rattle.std.proofs.lemmas.Bool.{false≢true, eqb-true, and_parts, and_from}
use Rattle.std.proofs.lemmas.Bool.Decides.{nat_tests, same_from_decides}
use Rattle.std.proofs.lemmas.Slice.Eq.{bytes_eq-Decides}
use Rattle.uriparse_text.specs.declared.internal.class.Class.TheVariants as class
use Rattle.uriparse_text.specs.declared.internal.token.Case.TheVariants.{Lowered}
use Rattle.uriparse_text.specs.Bytes.{left_bracket, right_bracket, colon, is_unreserved, is_sub_delim}
use Rattle.uriparse_text.specs.Faults.{fault}
use Rattle.uriparse_text.specs.Canonical.{canonical_lowered, fed_text}
use Rattle.uriparse_text.specs.Cuts.{lacks}
use Rattle.uriparse_text.specs.Address.{IsOctets, IsSegments, SpellsIpv6, is_ipv6_byte, ipv4_reading, ipv6_reading, ipv4_text, ipv6_text}
use Rattle.uriparse_text.proofs.lemmas.classes.FaultLemmas.{no_fault}
use Rattle.uriparse_text.proofs.lemmas.classes.ClassLemmas.{IsIn-canonical_in}
use Rattle.uriparse_text.proofs.lemmas.readings.CutLemmas.{weaker, lacks_by, lacks-append, from_last-none, from_last-of, none_of_two}
use Rattle.uriparse_text.specs.Readings.{reading_in}
use Rattle.uriparse_text.proofs.lemmas.readings.ReadingLemmas.{IsExact, exact_in}
use Rattle.uriparse_text.proofs.lemmas.addresses.ReadingLemmas.{ipv4_reading-spelled, ipv4_reading-found, ipv6_reading-spelled, ipv6_reading-found, SpellsIpv4-ipv4_text}
use Rattle.uriparse_text.proofs.lemmas.addresses.ReadingLemmas.{SpellsIpv6-ipv6_text, ipv4_text-injective, ipv6_text-injective}
use Rattle.uriparse_text.proofs.lemmas.addresses.ByteLemmas.{SpellsIpv6-bytes, IsIn-SpellsIpv4}
use Rattle.uriparse_text.proofs.lemmas.addresses.RangeLemmas.{IsSegments-SpellsIpv6}
use Rattle.uriparse_text.proofs.lemmas.addresses.Ipv4Lemmas.{IsOctets-SpellsIpv4}
use Rattle.uriparse_authority.specs.Future.{is_future_byte, is_future_letter, IsFuture, begins_future}
use Rattle.uriparse_authority.specs.Future as future
use Rattle.uriparse_authority.specs.Name.{IsName}
use Rattle.uriparse_authority.specs.Name as name
use Rattle.uriparse_authority.specs.declared.authority.host.Host.{Host}
use Rattle.uriparse_authority.specs.declared.authority.host.Host.TheVariants.{IPv4Address, IPv6Address, IPvFuture, RegisteredName}
use Rattle.uriparse_authority.specs.declared.authority.error.HostError.{HostError}
use Rattle.uriparse_authority.specs.declared.authority.error.HostError.TheVariants.{InvalidIPv4OrRegisteredNameCharacter, InvalidIPv6Character}
use Rattle.uriparse_authority.specs.declared.authority.error.HostError.TheVariants.{InvalidIPv6Format}
use Rattle.uriparse_authority.specs.Host.{Kind, kind, kind_code, bracketed, Spells, text, canonical_text, Valid, ReadsBack, IsHiddenAddress, closed}
use Rattle.uriparse_authority.specs.Host.{in_brackets, future_host, literal_reading, address_or_name, name_reading, bracket_reading, reading}
use Rattle.uriparse_authority.specs.Host.{key, fed, fed_read, fed_key}
use Rattle.uriparse_authority.specs.Authority.{ends_host, colon_part, cut_port}
use Rattle.uriparse_authority.proofs.lemmas.authorities.UserLemmas.{is_gen_delim, gen_delim_not_future, username_lacks}
use Rattle.uriparse_authority.proofs.lemmas.hosts.FutureLemmas.{IsFuture-bytes, IsFuture-canonical_lowered, IsFuture-twice, future_again, future_found}

-- ---- brackets

-- the last byte decides
pub closed-last : (t : List ℕ) (b : ℕ) → closed (t ++ b ∷ []) ≡ cond (b == right_bracket) (Some t) None
closed-last [] b = refl
closed-last (c ∷ []) b =
    elim (b == right_bracket) as (λ v. option_map (λ u. c ∷ u) (cond v (Some []) None) ≡ cond v (Some (c ∷ [])) None) [ true ↦ refl | false ↦ refl ]
closed-last (c ∷ d ∷ t) b =
    ap (option_map (λ u. c ∷ u)) (closed-last (d ∷ t) b)
    ∙ elim (b == right_bracket) as (λ v. option_map (λ u. c ∷ u) (cond v (Some (d ∷ t)) None) ≡ cond v (Some (c ∷ d ∷ t)) None) [ true ↦ refl | false ↦ refl ]

pub closed-bracket : (t : List ℕ) → closed (t ++ right_bracket ∷ []) ≡ Some t
closed-bracket t = closed-last t right_bracket

pub closed_by_last : (t u : List ℕ) (b : ℕ) (v : Bool) → t ≡ u ++ b ∷ [] → (b == right_bracket) ≡ v → closed t ≡ cond v (Some u) None
closed_by_last t u b v e k = ap closed e ∙ closed-last u b ∙ ap (λ w. cond w (Some u) None) k

closed_is : (t u : List ℕ) → closed t ≡ Some u → t ≡ u ++ right_bracket ∷ []
closed_is [] u h = cc
closed_is (b ∷ []) u h = at_byte (b == right_bracket) refl h
  where
    at_byte : (v : Bool) → (b == right_bracket) ≡ v → cond v (Some []) None ≡ Some u → b ∷ [] ≡ u ++ right_bracket ∷ []
    at_byte true e k = let p : [] ≡ u = cc in ap (λ x. x ∷ []) (eqb-true b right_bracket e) ∙ ap (λ x. x ++ right_bracket ∷ []) p
    at_byte false e k = cc
closed_is (b ∷ c ∷ t) u h = at_rest (closed (c ∷ t)) (closed_is (c ∷ t)) h
  where
    at_rest : (o : Option (List ℕ)) → ((u : List ℕ) → o ≡ Some u → c ∷ t ≡ u ++ right_bracket ∷ []) → option_map (λ u. b ∷ u) o ≡ Some u
        → b ∷ c ∷ t ≡ u ++ right_bracket ∷ []
    at_rest None f k = cc
    at_rest (Some w) f k = let p : b ∷ w ≡ u = cc in ap (λ x. b ∷ x) (f w refl) ∙ ap (λ x. x ++ right_bracket ∷ []) p

brackets_are : (t u : List ℕ) → in_brackets t ≡ Some u → t ≡ bracketed u
brackets_are [] u h = cc
brackets_are (b ∷ t) u h = at_byte (b == left_bracket) refl h
  where
    at_byte : (v : Bool) → (b == left_bracket) ≡ v → cond v (closed t) None ≡ Some u → b ∷ t ≡ bracketed u
    at_byte true e k = ap (λ x. x ∷ t) (eqb-true b left_bracket e) ∙ ap (λ x. left_bracket ∷ x) (closed_is t u k)
    at_byte false e k = cc

pub brackets_exactly : (t u : List ℕ) → (in_brackets t ≡ Some u) ↔ (t ≡ bracketed u)
brackets_exactly t u = (brackets_are t u, λ e. ap in_brackets e ∙ closed-bracket u)

no_brackets : (t : List ℕ) → lacks left_bracket t ≡ true → in_brackets t ≡ None
no_brackets [] h = refl
no_brackets (b ∷ t) h = at_byte (b == left_bracket) (and_parts _ _ h).0
  where
    at_byte : (v : Bool) → not v ≡ true → cond v (closed t) None ≡ None
    at_byte true k = absurd (false≢true k)
    at_byte false k = refl

name_no_brackets : (t : List ℕ) → IsName t → in_brackets t ≡ None
name_no_brackets t is = no_brackets t (username_lacks left_bracket refl t is)

-- ---- reading is exact

no_future : (t : List ℕ) → list_all is_ipv6_byte t ≡ true → begins_future t ≡ false
no_future [] h = refl
no_future (v ∷ t) h = not_v v (and_parts _ _ h).0
  where
    not_v : (v : ℕ) → is_ipv6_byte v ≡ true → is_future_letter v ≡ false
    not_v v h = grind (arith, nat_tests)

begins : (t : List ℕ) → IsFuture t → begins_future t ≡ true
begins t f = ap begins_future f.whole ∙ f.is_letter

-- no text is both kinds of address
pub not_both : (t : List ℕ) → list_all is_ipv6_byte t ≡ true → IsFuture t → ⊥
not_both t h f = false≢true (sym (no_future t h) ∙ begins t f)

name_or : (t : List ℕ) (o : Option (List ℕ)) → ((a : List ℕ) → o ≡ Some a → ⊥) → address_or_name t o ≡ RegisteredName t
name_or t None h = refl
name_or t (Some a) h = absurd (h a refl)

again : (t : List ℕ) (h : Host) → Spells t h → reading t ≡ Ok h
again t (IPv4Address a) s =
    let is = IsIn-SpellsIpv4 t a s in
    rw (name_no_brackets t is, (no_fault class.Name t).1 is, ipv4_reading-spelled t a s) refl
again t (IPv6Address a) s =
    let inner : List ℕ = s.0 in
    let bytes = SpellsIpv6-bytes inner a s.2 in
    let e : in_brackets t ≡ Some inner = ap in_brackets s.1 ∙ closed-bracket inner in
    rw (e, no_future inner bytes, bytes, ipv6_reading-spelled inner a s.2) refl
again t (IPvFuture f) s =
    let e : in_brackets t ≡ Some f = ap in_brackets s.0 ∙ closed-bracket f in
    rw (e, begins f s.1, future_again f s.1) refl
again t (RegisteredName n) s =
    rw (name_no_brackets t s.1, (no_fault class.Name t).1 s.1, name_or t (ipv4_reading t) (λ a e. s.2 a (ipv4_reading-found t a e)))
    (ap (λ x. Ok (RegisteredName x)) (sym s.0))

name_found : (t : List ℕ) (h : Host) → name_reading t ≡ Ok h → Spells t h
name_found t h k = at_fault (fault class.Name t) refl k
  where
    at_name : (o : Option (List ℕ)) → ipv4_reading t ≡ o → IsName t → Spells t (address_or_name t o)
    at_name None e n = (refl, n, λ a s. let x : None ≡ Some a = sym e ∙ ipv4_reading-spelled t a s in cc)
    at_name (Some a) e n = ipv4_reading-found t a e

    at_fault : (f : Option ℕ) → fault class.Name t ≡ f → cond (is_none f) (Ok (address_or_name t (ipv4_reading t))) (Err InvalidIPv4OrRegisteredNameCharacter) ≡
        Ok h → Spells t h
    at_fault None e k =
        let p : address_or_name t (ipv4_reading t) ≡ h = cc in subst (λ x. Spells t x) p (at_name (ipv4_reading t) refl ((no_fault class.Name t).0 e))
    at_fault (Some x) e k = cc

literal_found : (t : List ℕ) (h : Host) → literal_reading t ≡ Ok h → Spells (bracketed t) h
literal_found t h k = at_tests (begins_future t) (list_all is_ipv6_byte t) (ipv6_reading t) refl k
  where
    at_future : (r : Result (List ℕ) HostError) → future.reading t ≡ r → future_host r ≡ Ok h → Spells (bracketed t) h
    at_future (Ok f) e k =
        let is = future_found t f e in
        let p : IPvFuture f ≡ h = cc in
        subst (λ x. Spells (bracketed t) x) p (ap bracketed (sym is.0), subst IsFuture (sym is.0) is.1)
    at_future (Err x) e k = cc

    at_tests : (v w : Bool) (o : Option (List ℕ)) → ipv6_reading t ≡ o
        → cond v (future_host (future.reading t)) (cond w (ok_or (option_map IPv6Address o) InvalidIPv6Format) (Err InvalidIPv6Character)) ≡ Ok h
        → Spells (bracketed t) h
    at_tests true w o f k = at_future (future.reading t) refl k
    at_tests false false o f k = cc
    at_tests false true None f k = cc
    at_tests false true (Some a) f k = let p : IPv6Address a ≡ h = cc in subst (λ x. Spells (bracketed t) x) p (t, refl, ipv6_reading-found t a f)

found : (t : List ℕ) (h : Host) → reading t ≡ Ok h → Spells t h
found t h k = at_brackets (in_brackets t) refl k
  where
    at_brackets : (o : Option (List ℕ)) → in_brackets t ≡ o → bracket_reading o t ≡ Ok h → Spells t h
    at_brackets None e k = name_found t h k
    at_brackets (Some u) e k = subst (λ x. Spells x h) (sym (brackets_are t u e)) (literal_found u h k)

pub host_exact : IsExact Spells reading
host_exact = record { again = again; found = found }

-- a name read by itself is the name that reading a host returns
names_again : (t n : List ℕ) → Spells t (RegisteredName n) → name.reading t ≡ Ok n
names_again t n s = at_address (ipv4_reading t) refl
  where
    at_address : (o : Option (List ℕ)) → ipv4_reading t ≡ o → cond (is_none o) (reading_in class.Name name.error_of t) (Err (record {})) ≡ Ok n
    at_address None e = (exact_in class.Name name.error_of).again t n (record { same = s.0; fine = s.1 })
    at_address (Some a) e = absurd (s.2 a (ipv4_reading-found t a e))

names_found : (t n : List ℕ) → name.reading t ≡ Ok n → Spells t (RegisteredName n)
names_found t n h = at_address (ipv4_reading t) refl h
  where
    at_address : (o : Option (List ℕ)) → ipv4_reading t ≡ o → cond (is_none o) (reading_in class.Name name.error_of t) (Err (record {})) ≡ Ok n
        → Spells t (RegisteredName n)
    at_address None e k =
        let is = (exact_in class.Name name.error_of).found t n k in
        (is.same, is.fine, λ a s. let x : None ≡ Some a = sym e ∙ ipv4_reading-spelled t a s in cc)
    at_address (Some a) e k = cc

pub names_exactly : (t n : List ℕ) → (name.reading t ≡ Ok n) ↔ Spells t (RegisteredName n)
names_exactly t n = (names_found t n, names_again t n)

pub host_valid : (t : List ℕ) (h : Host) → Spells t h → Valid h
host_valid t (IPv4Address a) s = IsOctets-SpellsIpv4 t a s
host_valid t (IPv6Address a) s = IsSegments-SpellsIpv6 s.0 a s.2
host_valid t (IPvFuture f) s = s.1
host_valid t (RegisteredName n) s = subst (λ x. IsName x) (sym s.0) s.1

-- a text of the class of names that spells a host is read as that host
pub name_read : (t : List ℕ) (h : Host) → fault class.Name t ≡ None → Spells t h → name_reading t ≡ Ok h
name_read t h e s = sym (ap (λ o. bracket_reading o t) (name_no_brackets t ((no_fault class.Name t).0 e))) ∙ again t h s

-- ---- the texts of hosts

-- a name, or bytes of an address in brackets
abbrev pub IsHostText : List ℕ → Type 0
IsHostText g = (IsName g) ⊎ ((u : List ℕ) × (g ≡ bracketed u) × (list_all is_future_byte u ≡ true))

ipv6_byte : (b : ℕ) → is_ipv6_byte b ≡ true → is_future_byte b ≡ true
unfolding is_unreserved is_sub_delim
ipv6_byte b h = grind (arith, nat_tests)

ipv6_bytes : (t a : List ℕ) → SpellsIpv6 t a → list_all is_future_byte t ≡ true
ipv6_bytes t a s = weaker is_ipv6_byte is_future_byte ipv6_byte t (SpellsIpv6-bytes t a s)

pub spelled_host : (t : List ℕ) (h : Host) → Spells t h → IsHostText t
spelled_host t (IPv4Address a) s = inl (IsIn-SpellsIpv4 t a s)
spelled_host t (IPv6Address a) s = inr (s.0, s.1, ipv6_bytes s.0 a s.2)
spelled_host t (IPvFuture f) s = inr (f, s.0, IsFuture-bytes f s.1)
spelled_host t (RegisteredName n) s = inl s.1

pub printed_host : (h : Host) → Valid h → IsHostText (text h)
printed_host (IPv4Address a) v = inl (IsIn-SpellsIpv4 (ipv4_text a) a (SpellsIpv4-ipv4_text a v))
printed_host (IPv6Address a) v = inr (ipv6_text a, refl, ipv6_bytes (ipv6_text a) a (SpellsIpv6-ipv6_text a v))
printed_host (IPvFuture f) v = inr (f, refl, IsFuture-bytes f v)
printed_host (RegisteredName n) v = inl v

pub canonical_host : (h : Host) → Valid h → IsHostText (canonical_text h)
canonical_host (IPv4Address a) v = printed_host (IPv4Address a) v
canonical_host (IPv6Address a) v = printed_host (IPv6Address a) v
canonical_host (IPvFuture f) v = inr (canonical_lowered f, refl, IsFuture-bytes (canonical_lowered f) (IsFuture-canonical_lowered f v))
canonical_host (RegisteredName n) v = inl (IsIn-canonical_in class.Name Lowered n v)

-- it has none of the delimiters that stand in no name and no address
pub host_text_lacks : (b : ℕ) → is_gen_delim b ≡ true → (b == colon) ≡ false → not (left_bracket == b) ≡ true → not (right_bracket == b) ≡ true
    → (g : List ℕ) → IsHostText g → lacks b g ≡ true
host_text_lacks b gen other left right g (inl n) = username_lacks b gen g n
host_text_lacks b gen other left right g (inr u) =
    subst (λ x. lacks b x ≡ true) (sym u.1) (and_from (not (left_bracket == b)) _ left
    (lacks-append b u.0 (right_bracket ∷ []) (lacks_by is_future_byte b u.0 (gen_delim_not_future b gen other) u.2)
    (and_from (not (right_bracket == b)) true right refl)))

-- no port starts inside a host
pub no_port : (g : List ℕ) → IsHostText g → cut_port g ≡ None
no_port g (inl n) =
    ap colon_part (from_last-none ends_host g (none_of_two colon right_bracket g (username_lacks colon refl g n) (username_lacks right_bracket refl g n)))
no_port g (inr u) = ap cut_port u.1 ∙ ap colon_part (from_last-of ends_host (left_bracket ∷ u.0) right_bracket [] refl refl)

-- but for a name that hides an address, a host's text stands for it
pub host_back : (h : Host) → Valid h → (IsHiddenAddress h → ⊥) → ReadsBack h
host_back (IPv4Address a) v plain = SpellsIpv4-ipv4_text a v
host_back (IPv6Address a) v plain = (ipv6_text a, refl, SpellsIpv6-ipv6_text a v)
host_back (IPvFuture f) v plain = (refl, v)
host_back (RegisteredName n) v plain = (refl, v, λ a s. plain (a, s))

-- the text of a host that a text spells stands for it
pub spelled_back : (t : List ℕ) (h : Host) → Spells t h → ReadsBack h
spelled_back t (IPv4Address a) s = SpellsIpv4-ipv4_text a (IsOctets-SpellsIpv4 t a s)
spelled_back t (IPv6Address a) s = (ipv6_text a, refl, SpellsIpv6-ipv6_text a (IsSegments-SpellsIpv6 s.0 a s.2))
spelled_back t (IPvFuture f) s = (refl, s.1)
spelled_back t (RegisteredName n) s = subst (λ x. Spells x (RegisteredName n)) (sym s.0) s

-- a name's text isn't in brackets
pub unbracketed : (t u : List ℕ) → IsName t → t ≡ bracketed u → ⊥
unbracketed t u is e = let o : None ≡ Some u = sym (name_no_brackets t is) ∙ (brackets_exactly t u).1 e in cc

-- ---- hosts with one printed text

pub bracketed-injective : (t u : List ℕ) → bracketed t ≡ bracketed u → t ≡ u
bracketed-injective t u e = let o : Some t ≡ Some u = sym (closed-bracket t) ∙ ap in_brackets e ∙ closed-bracket u in cc

-- hosts of one kind with one text have one canonical text
pub host_alike : (g h : Host) → Valid g → Valid h → text g ≡ text h → kind g ≡ kind h → canonical_text g ≡ canonical_text h
host_alike (IPv4Address a) (IPv4Address b) v w e k = e
host_alike (IPv6Address a) (IPv6Address b) v w e k = e
host_alike (IPvFuture f) (IPvFuture g) v w e k = ap (λ t. bracketed (canonical_lowered t)) (bracketed-injective f g e)
host_alike (RegisteredName m) (RegisteredName n) v w e k = ap canonical_lowered e
host_alike (IPv4Address a) (IPv6Address b) v w e k = absurd (cc)
host_alike (IPv4Address a) (IPvFuture g) v w e k = absurd (cc)
host_alike (IPv4Address a) (RegisteredName n) v w e k = absurd (cc)
host_alike (IPv6Address a) (IPv4Address b) v w e k = absurd (cc)
host_alike (IPv6Address a) (IPvFuture g) v w e k = absurd (cc)
host_alike (IPv6Address a) (RegisteredName n) v w e k = absurd (cc)
host_alike (IPvFuture f) (IPv4Address b) v w e k = absurd (cc)
host_alike (IPvFuture f) (IPv6Address b) v w e k = absurd (cc)
host_alike (IPvFuture f) (RegisteredName n) v w e k = absurd (cc)
host_alike (RegisteredName m) (IPv4Address b) v w e k = absurd (cc)
host_alike (RegisteredName m) (IPv6Address b) v w e k = absurd (cc)
host_alike (RegisteredName m) (IPvFuture g) v w e k = absurd (cc)

-- ---- comparing

ipv4_test : (a b : List ℕ) → IsOctets a → IsOctets b → bytes_eq a b ≡ bytes_eq (key (IPv4Address a)) (key (IPv4Address b))
ipv4_test a b v w =
    let test = bytes_eq-Decides a b in
    same_from_decides (bytes_eq a b) (bytes_eq (4 ∷ ipv4_text a) (4 ∷ ipv4_text b))
    (λ t. ap (λ x. 4 ∷ ipv4_text x) (test.0 t), λ e. let texts : ipv4_text a ≡ ipv4_text b = cc in test.1 (ipv4_text-injective a b v w texts))
    (bytes_eq-Decides (4 ∷ ipv4_text a) (4 ∷ ipv4_text b))

pub same_ipv4 : (g h : Host) (a b x y : List ℕ) (r : Bool) → g ≡ IPv4Address a → h ≡ IPv4Address b → IsOctets a → IsOctets b → x ≡ a → y ≡ b → r ≡ bytes_eq x y
    → r ≡ bytes_eq (key g) (key h)
same_ipv4 g h a b x y r e f v w i j k = rw (e, f) (k ∙ rw (i, j) (ipv4_test a b v w))

ipv6_test : (a b : List ℕ) → IsSegments a → IsSegments b → bytes_eq a b ≡ bytes_eq (key (IPv6Address a)) (key (IPv6Address b))
ipv6_test a b v w =
    let test = bytes_eq-Decides a b in
    same_from_decides (bytes_eq a b) (bytes_eq (6 ∷ bracketed (ipv6_text a)) (6 ∷ bracketed (ipv6_text b))) (
      λ t. ap (λ x. 6 ∷ bracketed (ipv6_text x)) (test.0 t),
      λ e. let texts : bracketed (ipv6_text a) ≡ bracketed (ipv6_text b) = cc in test.1
          (ipv6_text-injective a b v w (bracketed-injective (ipv6_text a) (ipv6_text b) texts)),
    )
    (bytes_eq-Decides (6 ∷ bracketed (ipv6_text a)) (6 ∷ bracketed (ipv6_text b)))

pub same_ipv6 : (g h : Host) (a b x y : List ℕ) (r : Bool) → g ≡ IPv6Address a → h ≡ IPv6Address b → IsSegments a → IsSegments b → x ≡ a → y ≡ b
    → r ≡ bytes_eq x y → r ≡ bytes_eq (key g) (key h)
same_ipv6 g h a b x y r e f v w i j k = rw (e, f) (k ∙ rw (i, j) (ipv6_test a b v w))

-- the text of an address of a later version is compared by itself
pub same_future : (g h : Host) (a b : List ℕ) (r : Bool) → g ≡ IPvFuture a → h ≡ IPvFuture b → r ≡ bytes_eq (canonical_lowered a) (canonical_lowered b)
    → r ≡ bytes_eq (key g) (key h)
same_future g h a b r e f k = rw (e, f) (k ∙ future_test (canonical_lowered a) (canonical_lowered b))
  where
    future_test : (x y : List ℕ) → bytes_eq x y ≡ bytes_eq (7 ∷ bracketed x) (7 ∷ bracketed y)
    future_test x y =
        let test = bytes_eq-Decides x y in
        same_from_decides (bytes_eq x y) (bytes_eq (7 ∷ bracketed x) (7 ∷ bracketed y)) (
          λ t. ap (λ z. 7 ∷ bracketed z) (test.0 t),
          λ e. let texts : bracketed x ≡ bracketed y = cc in test.1 (bracketed-injective x y texts),
        )
        (bytes_eq-Decides (7 ∷ bracketed x) (7 ∷ bracketed y))

pub code_kind : (k l : Kind) → kind_code k ≡ kind_code l → k ≡ l
code_kind Kind.V4 Kind.V4 e = refl
code_kind Kind.V6 Kind.V6 e = refl
code_kind Kind.Future Kind.Future e = refl
code_kind Kind.Name Kind.Name e = refl
code_kind Kind.V4 Kind.V6 e = absurd (cc)
code_kind Kind.V4 Kind.Future e = absurd (cc)
code_kind Kind.V4 Kind.Name e = absurd (cc)
code_kind Kind.V6 Kind.V4 e = absurd (cc)
code_kind Kind.V6 Kind.Future e = absurd (cc)
code_kind Kind.V6 Kind.Name e = absurd (cc)
code_kind Kind.Future Kind.V4 e = absurd (cc)
code_kind Kind.Future Kind.V6 e = absurd (cc)
code_kind Kind.Future Kind.Name e = absurd (cc)
code_kind Kind.Name Kind.V4 e = absurd (cc)
code_kind Kind.Name Kind.V6 e = absurd (cc)
code_kind Kind.Name Kind.Future e = absurd (cc)

pub same_host : (g h : Host) → (key g ≡ key h) ↔ ((canonical_text g ≡ canonical_text h) × (kind g ≡ kind h))
same_host g h = (
  (λ e. let codes : kind_code (kind g) ≡ kind_code (kind h) = cc in let texts : canonical_text g ≡ canonical_text h = cc in
      (texts, code_kind (kind g) (kind h) codes)),
  (λ s. rw (s.0, s.1) refl),
)

-- ---- what a hasher is fed: the kind, and then an address as its numbers or any other text

-- the key alone determines it
pub fed_host : (h : Host) → Valid h → fed_key (key h) ≡ fed h
fed_host (IPv4Address a) v = ap fed_read (host_exact.again (ipv4_text a) (IPv4Address a) (SpellsIpv4-ipv4_text a v))
fed_host (IPv6Address a) v =
    ap fed_read (host_exact.again (bracketed (ipv6_text a)) (IPv6Address a) (ipv6_text a, refl, SpellsIpv6-ipv6_text a v))
fed_host (IPvFuture f) v =
    ap fed_read (host_exact.again (bracketed (canonical_lowered f)) (IPvFuture (canonical_lowered f)) (refl, IsFuture-canonical_lowered f v))
    ∙ ap (λ t. u8 (kind_code Kind.Future) ++ fed_text t) (IsFuture-twice f v)
fed_host (RegisteredName n) v = refl

feeds : {S : Type 0} (write : S → List ℕ → S) (s t u : S) (h : Host) (code : ℕ) (numbers : HashWrites) → fed_key (key h) ≡ u8 code ++ numbers
    → t ≡ write s (code ∷ []) → u ≡ fold write t numbers → u ≡ fold write s (fed_key (key h))
feeds write s t u h code numbers i e f = f ∙ ap (λ y. fold write y numbers) e ∙ sym (ap (fold write s) i)

pub feeds_ipv4 : {S : Type 0} (write : S → List ℕ → S) (s t u : S) (h : Host) (a x : List ℕ) → h ≡ IPv4Address a → IsOctets a → x ≡ a → t ≡ write s (4 ∷ [])
    → u ≡ fold write t (slice u8 x) → u ≡ fold write s (fed_key (key h))
feeds_ipv4 write s t u h a x i v j e f =
    feeds write s t u h 4 (slice u8 a) (ap (λ g. fed_key (key g)) i ∙ fed_host (IPv4Address a) v) e (f ∙ ap (λ y. fold write t (slice u8 y)) j)

pub feeds_ipv6 : {S : Type 0} (write : S → List ℕ → S) (s t u : S) (h : Host) (a x : List ℕ) → h ≡ IPv6Address a → IsSegments a → x ≡ a → t ≡ write s (6 ∷ [])
    → u ≡ fold write t (slice u16 x) → u ≡ fold write s (fed_key (key h))
feeds_ipv6 write s t u h a x i v j e f =
    feeds write s t u h 6 (slice u16 a) (ap (λ g. fed_key (key g)) i ∙ fed_host (IPv6Address a) v) e (f ∙ ap (λ y. fold write t (slice u16 y)) j)

pub feeds_future : {S : Type 0} (write : S → List ℕ → S) (s t u : S) (h : Host) (f : List ℕ) → h ≡ IPvFuture f → IsFuture f → t ≡ write s (7 ∷ [])
    → u ≡ fold write t (fed_text (canonical_lowered f)) → u ≡ fold write s (fed_key (key h))
feeds_future write s t u h f i v e k =
    feeds write s t u h 7 (fed_text (canonical_lowered f)) (ap (λ g. fed_key (key g)) i ∙ fed_host (IPvFuture f) v) e k
