-- What is printed is read back: texts of valid references, of normal forms, and of targets.
use Rattle.std.proofs.Common.{◌≡◌, ℕ, Bool, true, false, List, Option, Some, None, refl, sym, ap, subst, ◌∙◌}
use Rattle.std.specs.Prelude.{IfSome, cond, is_some, nat_le, length, unwrap_or}
use Rattle.std.specs.Option.{option_map}
use Rattle.uriparse_text.specs.Address.{SpellsIpv4, ipv4_reading}
use Rattle.uriparse_text.proofs.lemmas.addresses.Ipv4Lemmas.{IsOctets-SpellsIpv4, printed_alone}
use Rattle.uriparse_text.proofs.lemmas.addresses.ReadingLemmas.{ipv4_reading-exact, SpellsIpv4-ipv4_text}
use Rattle.uriparse_text.specs.Canonical.{canonical}
use Rattle.uriparse_path.specs.Path.{PathParts, max_segments, pieces, text, is_rooted}
use Rattle.uriparse_authority.specs.declared.authority.host.Host.{Host}
use Rattle.uriparse_authority.specs.declared.authority.host.Host.TheVariants.{IPv4Address, IPv6Address, IPvFuture, RegisteredName}
use Rattle.uriparse_authority.specs.Host as host
use Rattle.uriparse_authority.specs.Authority as authority
use Rattle.uriparse_authority.specs.Authority.{AuthorityParts}
use Rattle.uriparse_authority.specs.Normal.{canonical_authority, canonical_host}
use Rattle.uriparse_authority.specs.Port as port
use Rattle.uriparse_authority.proofs.lemmas.hosts.HostLemmas.{host_back}
use Rattle.uriparse_scheme.specs.declared.scheme.Scheme.{Scheme}
use Rattle.uriparse_scheme.specs.Scheme as scheme
use Rattle.uriparse_reference.specs.Reference.{Parts, Spells, Valid, ReadsBack, joined, print}
use Rattle.uriparse_reference.specs.Normal.{normal}
use Rattle.uriparse_reference.specs.Target.{dots_removed, is_empty, merge, target, target_of}
use Rattle.uriparse_reference.proofs.lemmas.reading.SpellingLemmas.{back}
use Rattle.uriparse_reference.proofs.lemmas.normalizing.NormalFormLemmas.{normal_twice, normal_valid}
use Rattle.uriparse_reference.proofs.lemmas.resolving.ValidTargetLemmas.{chosen, target_valid}

-- ---- the host that the text of a host stands for

record Read (h : Host) : Type 0 where
  pub read : Host
  pub same : host.text read ≡ host.text h
  pub valid : host.Valid read
  pub back : host.ReadsBack read
  pub fixed : canonical_host h ≡ h → canonical_host read ≡ read

itself : (h : Host) → host.Valid h → (host.IsHiddenAddress h → ⊥) → Read h
itself h valid plain = record { read = h; same = refl; valid = valid; back = host_back h valid plain; fixed = λ e. e }

read_host : (h : Host) → host.Valid h → Read h
read_host (IPv4Address a) valid = itself (IPv4Address a) valid (λ x. x)
read_host (IPv6Address a) valid = itself (IPv6Address a) valid (λ x. x)
read_host (IPvFuture f) valid = itself (IPvFuture f) valid (λ x. x)
read_host (RegisteredName n) valid = by_reading (ipv4_reading n) refl
  where
    by_reading : (o : Option (List ℕ)) → ipv4_reading n ≡ o → Read (RegisteredName n)
    by_reading None e =
        itself (RegisteredName n) valid
        (λ hidden. let some : ipv4_reading n ≡ Some hidden.0 = (ipv4_reading-exact n hidden.0).1 hidden.1 in absurd (cc))
    by_reading (Some a) e =
        let spells : SpellsIpv4 n a = (ipv4_reading-exact n a).0 e in
        let octets = IsOctets-SpellsIpv4 n a spells in
        record { read = IPv4Address a; same = sym (printed_alone n a spells); valid = octets; back = SpellsIpv4-ipv4_text a octets; fixed = λ _. refl }

-- ---- the reference that the text of a reference stands for

-- A reference with the same text, which spells it. If the one is its own normal form, so is the other.
pub record ReadAgain (p : Parts) : Type 0 where
  pub read : Parts
  pub spells : Spells (print p) read
  pub same : print read ≡ print p
  pub normal : normal p ≡ p → normal read ≡ read

again : (s : Option Scheme) (a : Option AuthorityParts) (q : PathParts) (query fragment : Option (List ℕ))
    → Valid (record { scheme = s; authority = a; path = q; query = query; fragment = fragment })
    → ReadAgain (record { scheme = s; authority = a; path = q; query = query; fragment = fragment })
again s None q query fragment valid =
    let p : Parts = record { scheme = s; authority = None; path = q; query = query; fragment = fragment } in
    record { read = p; spells = back p valid tt; same = refl; normal = λ e. e }
again s (Some a) q query fragment valid =
    record { read = p; spells = subst (λ t. Spells t p) same (back p fits r.back); same = same; normal = fixed }
  where
    r : Read a.host
    r = read_host a.host valid.is_authority.is_host

    b : AuthorityParts
    b = record { username = a.username; password = a.password; host = r.read; port = a.port }

    p : Parts
    p = record { scheme = s; authority = Some b; path = q; query = query; fragment = fragment }

    own : Parts
    own = record { scheme = s; authority = Some a; path = q; query = query; fragment = fragment }

    same : print p ≡ print own
    same =
        ap (λ t. joined (option_map scheme.text s) (Some (authority.joined a.username a.password t (option_map port.text a.port))) (text q) query fragment)
        r.same

    fits : Valid p
    fits = record {
      is_scheme = valid.is_scheme;
      is_authority = record {
        is_username = valid.is_authority.is_username;
        is_password = valid.is_authority.is_password;
        paired = valid.is_authority.paired;
        is_host = r.valid;
        is_port = valid.is_authority.is_port;
      };
      is_path = valid.is_path;
      absolute = valid.absolute;
      plain = valid.plain;
      fit = valid.fit;
      is_query = valid.is_query;
      is_fragment = valid.is_fragment;
    }

    fixed : normal own ≡ own → normal p ≡ p
    fixed e =
        let of_authority : Some (canonical_authority a) ≡ Some a = ap (λ x. x.authority) e in
        let of_username : option_map canonical a.username ≡ a.username = ap (λ o. (unwrap_or o a).username) of_authority in
        let of_password : option_map canonical a.password ≡ a.password = ap (λ o. (unwrap_or o a).password) of_authority in
        let of_host : canonical_host r.read ≡ r.read = r.fixed (ap (λ o. (unwrap_or o a).host) of_authority) in
        ap (λ x. record { scheme = x; authority = (normal p).authority; path = (normal p).path; query = (normal p).query; fragment = (normal p).fragment })
        (ap (λ x. x.scheme) e)
        ∙ ap (λ x. record { scheme = s; authority = (normal p).authority; path = x; query = (normal p).query; fragment = (normal p).fragment })
        (ap (λ x. x.path) e)
        ∙ ap (λ x. record { scheme = s; authority = (normal p).authority; path = q; query = x; fragment = (normal p).fragment }) (ap (λ x. x.query) e)
        ∙ ap (λ x. record { scheme = s; authority = (normal p).authority; path = q; query = query; fragment = x }) (ap (λ x. x.fragment) e)
        ∙ ap (λ x. record {
          scheme = s;
          authority = Some (record { username = x; password = option_map canonical a.password; host = canonical_host r.read; port = a.port });
          path = q;
          query = query;
          fragment = fragment;
        }) of_username
        ∙ ap (λ x. record {
          scheme = s;
          authority = Some (record { username = a.username; password = x; host = canonical_host r.read; port = a.port });
          path = q;
          query = query;
          fragment = fragment;
        }) of_password
        ∙ ap (λ x. record {
          scheme = s;
          authority = Some (record { username = a.username; password = a.password; host = x; port = a.port });
          path = q;
          query = query;
          fragment = fragment;
        }) of_host

pub read_again : (p : Parts) → Valid p → ReadAgain p
read_again p valid = again p.scheme p.authority p.path p.query p.fragment valid

pub printed_read : (p : Parts) → Valid p → (q : Parts) × Spells (print p) q × (print q ≡ print p)
printed_read p valid = let r = read_again p valid in (r.read, r.spells, r.same)

pub normal_read : (p : Parts) → Valid p → (q : Parts) × Spells (print (normal p)) q × (print (normal q) ≡ print (normal p))
normal_read p valid =
    let r = read_again (normal p) (normal_valid p valid) in (r.read, r.spells, ap print (r.normal (normal_twice p valid)) ∙ r.same)

-- ---- the target

target_back : (b r : Parts) → ReadsBack b → ReadsBack r → IfSome (target b r) ReadsBack
target_back b r own given = by_case (is_some r.scheme) (is_some r.authority) (is_empty (text r.path)) (is_rooted (text r.path))
  where
    by_case : (v w x y : Bool) → IfSome (chosen v w x y b r) ReadsBack
    by_case true w x y = given
    by_case false true x y = given
    by_case false false true y = own
    by_case false false false true = own
    by_case false false false false = by_room (nat_le (length (pieces (merge b r))) max_segments)
      where
        by_room : (z : Bool) → IfSome (cond z (Some (target_of b.scheme b.authority (dots_removed (merge b r)) r.query r.fragment)) None) ReadsBack
        by_room true = own
        by_room false = tt

pub target_read : (b r t : Parts) → Valid b → Valid r → ReadsBack b → ReadsBack r → is_some b.scheme ≡ true → target b r ≡ Some t → Spells (print t) t
target_read b r t vb vr own given has is =
    back t (subst (λ o. IfSome o Valid) is (target_valid b r vb vr has)) (subst (λ o. IfSome o ReadsBack) is (target_back b r own given))
