use Rattle.std.proofs.Common.{◌≡◌, ◌++◌, ◌∷◌, [], ℕ, Bool, List, true, false, cond, Option, Some, None, inl, inr, refl, sym, ap, subst, ◌∙◌, arith}
use Rattle.std.specs.Prelude.{◌==◌, ◌⊎◌, IfSome, bytes_eq, codes, if◌then◌else◌}
use Rattle.std.specs.Hash.{u16}
use Rattle.std.proofs.lemmas.Bool.{and_from, and_parts, eqb-true}
use Rattle.std.proofs.lemmas.Bool.Decides.{nat_tests}
use Rattle.std.proofs.lemmas.Slice.Eq.{bytes_eq-Decides}
use Rattle.std.specs.Str.{str_to_ascii_lowercase}
use Rattle.uriparse_text.specs.Bytes.{colon, slash}
use Rattle.uriparse_text.specs.Canonical.{canonical_lowered, fed_text}
use Rattle.uriparse_text.specs.Cuts.{following}
use Rattle.uriparse_authority.specs.Authority as authority
use Rattle.uriparse_authority.specs.Authority.{AuthorityParts}
use Rattle.uriparse_authority.specs.Host as host
use Rattle.uriparse_authority.specs.Normal.{canonical_host}
use Rattle.uriparse_authority.specs.Port as port
use Rattle.uriparse_authority.proofs.lemmas.authorities.NormalLemmas.{host_kind-canonical, host_text-canonical}
use Rattle.uriparse_authority.proofs.lemmas.hosts.HostLemmas.{same_host}
use Rattle.uriparse_scheme.specs.Scheme as scheme
use Rattle.uriparse_scheme.specs.DefaultPort.{default_port}
use Rattle.uriparse_scheme.specs.Normal.{canonical_scheme}
use Rattle.uriparse_scheme.proofs.lemmas.schemes.NormalLemmas.{text-canonical}
use Rattle.uriparse_scheme.specs.Registered.{name_of, registered_named}
use Rattle.uriparse_scheme.proofs.lemmas.schemes.GrammarLemmas.{canonical_low_of_scheme}
use Rattle.uriparse_scheme.proofs.lemmas.table.TableLemmas.{canonical_name, named_itself, same_name}
use Rattle.uriparse_scheme.specs.declared.scheme.registered.RegisteredScheme.{RegisteredScheme}
use Rattle.uriparse.specs.Origin.{are_alike, are_both, if_named, named_host, named_port, origin}
use Rattle.std.specs.Option.{option_and_then, option_eq, option_map, option_or}
use Rattle.uriparse_scheme.specs.declared.scheme.Scheme.{Scheme}
use Rattle.uriparse_scheme.specs.declared.scheme.Scheme.TheVariants.{Registered, Unregistered}
use Rattle.uriparse_authority.specs.declared.authority.host.Host.{Host}
use Rattle.uriparse_reference.specs.Reference.{OneHidesAddress, Parts, Valid, host_of, port_of}
use Rattle.uriparse_reference.proofs.lemmas.reading.PrintedLemmas.{printed_apart}
use Rattle.uriparse_reference.specs.Ports.{port_or_default, without_default_port}
use Rattle.uriparse_reference.proofs.lemmas.edits.PortLemmas.{scheme_without, host_without, port_without}
use Rattle.uriparse.specs.declared.uri.origin.Origin.{Origin}
use Rattle.uriparse.proofs.lemmas.OriginLemmas.{made, of_origin, printed_of, same_default, valid_of}
use Rattle.uriparse.proofs.laws.one_origin.Goals as goal

eq_from : (m n : ℕ) → m ≡ n → (m == n) ≡ true
eq_from m n e = grind (arith, nat_tests)

-- the three parts of the comparison
parts_alike : (a b : Origin) → are_alike a b ≡ true → (scheme.canonical_text a.scheme ≡ scheme.canonical_text b.scheme) × (host.key a.host ≡ host.key b.host) × (a.port ≡ b.port)
parts_alike a b h =
    let both = and_parts (bytes_eq (scheme.canonical_text a.scheme) (scheme.canonical_text b.scheme)) _ h in
    let later = and_parts (bytes_eq (host.key a.host) (host.key b.host)) _ both.1 in
    ((bytes_eq-Decides _ _).0 both.0, (bytes_eq-Decides _ _).0 later.0, eqb-true _ _ later.1)

alike_parts : (a b : Origin) → (scheme.canonical_text a.scheme ≡ scheme.canonical_text b.scheme) × (host.key a.host ≡ host.key b.host) × (a.port ≡ b.port) → are_alike a b ≡ true
alike_parts a b h =
    and_from _ _ ((bytes_eq-Decides _ _).1 h.0) (and_from _ _ ((bytes_eq-Decides _ _).1 h.1) (eq_from a.port b.port h.2))

pub returns-clause-parts : goal.returns-clause-parts
returns-clause-parts c = λ a b. (parts_alike a b, alike_parts a b)

pub returns-clause-hash : goal.returns-clause-hash
returns-clause-hash c = λ a b h.
    let parts = parts_alike a b h in
    ap (λ t. fed_text t ++ (host.fed_key (host.key a.host) ++ u16 a.port)) parts.0
    ∙ ap (λ k. fed_text (scheme.canonical_text b.scheme) ++ (host.fed_key k ++ u16 a.port)) parts.1
    ∙ ap (λ n. fed_text (scheme.canonical_text b.scheme) ++ (host.fed_key (host.key b.host) ++ u16 n)) parts.2

pub returns-clause-same : goal.returns-clause-same
returns-clause-same c = λ p q a b e f. ap (λ o. are_both o (origin q)) e ∙ ap (are_both (Some a)) f

none_made : (s : Option Scheme) (n : Option ℕ) → made s None n ≡ None
none_made None n = refl
none_made (Some s) n = refl

pub returns-clause-hostless : goal.returns-clause-hostless
returns-clause-hostless c = λ p h e empty.
    ap (λ o. made p.scheme (option_and_then if_named o) (port_or_default p)) e
    ∙ ap (λ is. made p.scheme (cond is None (Some h)) (port_or_default p)) empty ∙ none_made p.scheme (port_or_default p)

none_of : (o : Option Origin) → are_both o None ≡ false
none_of None = refl
none_of (Some a) = refl

pub returns-clause-none : goal.returns-clause-none
returns-clause-none c = λ p q e. (ap (λ o. are_both o (origin q)) e, ap (are_both (origin q)) e ∙ none_of (origin q))

pub returns-clause-port : goal.returns-clause-port
returns-clause-port c = λ p.
    let q = without_default_port p in
    ap (λ s. made s (named_host q) (port_or_default q)) (scheme_without p)
    ∙ ap (λ h. made p.scheme (option_and_then if_named h) (port_or_default q)) (host_without p) ∙ ap (made p.scheme (named_host p)) (port_without p)

-- ---- one text

made_scheme : (s : Option Scheme) (h : Option Host) (n : Option ℕ) (a : Origin) → made s h n ≡ Some a → s ≡ Some a.scheme
made_scheme None h n a e = absurd (cc)
made_scheme (Some s) None n a e = absurd (cc)
made_scheme (Some s) (Some h) None a e = absurd (cc)
made_scheme (Some s) (Some h) (Some n) a e =
    let same : ◌≡◌ {A = Origin} (record { scheme = s; host = h; port = n }) a = cc in
    ap (λ (o : Origin). Some o.scheme) same

valid_scheme : (p : Parts) (a : Origin) → Valid p → origin p ≡ Some a → scheme.Valid a.scheme
valid_scheme p a v e = subst (λ s. IfSome s scheme.Valid) (made_scheme p.scheme (named_host p) (port_or_default p) a e) v.is_scheme

pub returns-clause-text : goal.returns-clause-text
returns-clause-text c = λ p q a b v w e f h.
    let parts = parts_alike a b h in
    let host_text = ((same_host a.host b.host).0 parts.1).0 in
    let default = same_default a.scheme b.scheme (valid_scheme p a v e) (valid_scheme q b w f) parts.0 in
    ap (λ t. t ++ (codes "://" ++ (host.canonical_text a.host ++ following colon (option_map port.text (named_port a))))) parts.0
    ∙ ap (λ t. scheme.canonical_text b.scheme ++ (codes "://" ++ (t ++ following colon (option_map port.text (named_port a))))) host_text
    ∙ ap (λ d. scheme.canonical_text b.scheme ++ (codes "://" ++ (host.canonical_text b.host
    ++ following colon (option_map port.text (cond (option_eq ◌==◌ (Some a.port) d) None (Some a.port)))))) default
    ∙ ap (λ n. scheme.canonical_text b.scheme ++ (codes "://" ++ (host.canonical_text b.host
    ++ following colon (option_map port.text (cond (option_eq ◌==◌ (Some n) (default_port b.scheme)) None (Some n)))))) parts.2

-- ---- an origin's text stands for it

made_host : (s : Option Scheme) (h : Option Host) (n : Option ℕ) (a : Origin) → made s h n ≡ Some a → h ≡ Some a.host
made_host None h n a e = absurd (cc)
made_host (Some s) None n a e = absurd (cc)
made_host (Some s) (Some h) None a e = absurd (cc)
made_host (Some s) (Some h) (Some n) a e =
    let same : ◌≡◌ {A = Origin} (record { scheme = s; host = h; port = n }) a = cc in
    ap (λ (o : Origin). Some o.host) same

made_port : (s : Option Scheme) (h : Option Host) (n : Option ℕ) (a : Origin) → made s h n ≡ Some a → n ≡ Some a.port
made_port None h n a e = absurd (cc)
made_port (Some s) None n a e = absurd (cc)
made_port (Some s) (Some h) None a e = absurd (cc)
made_port (Some s) (Some h) (Some n) a e =
    let same : ◌≡◌ {A = Origin} (record { scheme = s; host = h; port = n }) a = cc in
    ap (λ (o : Origin). Some o.port) same

abbrev unless : {A : Type 0} → Bool → A → Option A
unless is x = if is then None else Some x

host_kept : (w : Bool) (g h : Host) → unless w g ≡ Some h → g ≡ h
host_kept true g h e = absurd (cc)
host_kept false g h e = cc

valid_host : (o : Option AuthorityParts) (h : Host) → IfSome o authority.Valid → option_and_then if_named (option_map (λ (a : AuthorityParts). a.host) o) ≡ Some h
    → host.Valid h
valid_host None h v e = absurd (cc)
valid_host (Some a) h v e = subst host.Valid (host_kept (host.is_empty a.host) a.host h e) v.is_host

same_number : (n : ℕ) → (n == n) ≡ true
same_number n = eq_from n n refl

named_in_range : (w : Bool) (n : ℕ) → port.IsPort n → IfSome (unless w n) port.IsPort
named_in_range true n is = tt
named_in_range false n is = is

valid_port : (o : Option AuthorityParts) (d : Option ℕ) (n : ℕ) → IfSome o authority.Valid
    → option_and_then (λ (a : AuthorityParts). option_or a.port d) o ≡ Some n → IfSome (unless (option_eq ◌==◌ (Some n) d) n) port.IsPort
valid_port None d n v e = absurd (cc)
valid_port (Some a) d n v e = by_port a.port v.is_port e
  where
    by_port : (m : Option ℕ) → IfSome m port.IsPort → option_or m d ≡ Some n → IfSome (unless (option_eq ◌==◌ (Some n) d) n) port.IsPort
    by_port None is k =
        subst (λ x. IfSome (unless (option_eq ◌==◌ (Some n) x) n) port.IsPort) (sym k) (subst (λ w. IfSome (unless w n) port.IsPort) (sym (same_number n)) tt)
    by_port (Some m) is k =
        let same : m ≡ n = cc in
        named_in_range (option_eq ◌==◌ (Some n) d) n (subst port.IsPort same is)

valid_made : (p : Parts) (a : Origin) → Valid p → origin p ≡ Some a → Valid (of_origin a)
valid_made p a v e =
    let there = made_scheme p.scheme (named_host p) (port_or_default p) a e in
    let used : option_and_then (λ (x : AuthorityParts). option_or x.port (default_port a.scheme)) p.authority ≡ Some a.port =
    subst (λ s. option_and_then (λ (x : AuthorityParts). option_or x.port (option_and_then default_port s)) p.authority ≡ Some a.port) there
    (made_port p.scheme (named_host p) (port_or_default p) a e) in
    valid_of a (valid_scheme p a v e) (valid_host p.authority a.host v.is_authority (made_host p.scheme (named_host p) (port_or_default p) a e))
    (valid_port p.authority (default_port a.scheme) a.port v.is_authority used)

-- ports that are left out alike are equal
same_port : (d : Option ℕ) (m n : ℕ) → unless (option_eq ◌==◌ (Some m) d) m ≡ unless (option_eq ◌==◌ (Some n) d) n → m ≡ n
same_port None m n e = cc
same_port (Some k) m n e = by_tests (m == k) (n == k) refl refl e
  where
    by_tests : (w x : Bool) → (m == k) ≡ w → (n == k) ≡ x → unless w m ≡ unless x n → m ≡ n
    by_tests true true f g h = eqb-true m k f ∙ sym (eqb-true n k g)
    by_tests true false f g h = absurd (cc)
    by_tests false true f g h = absurd (cc)
    by_tests false false f g h = cc

same_parts : (a b : Origin) → scheme.Valid a.scheme → scheme.Valid b.scheme → of_origin a ≡ of_origin b → are_alike a b ≡ true
same_parts a b v w e =
    let some_scheme : Some (scheme.text (canonical_scheme a.scheme)) ≡ Some (scheme.text (canonical_scheme b.scheme)) = ap (λ (p : Parts). option_map scheme.text p.scheme) e in
    let text : scheme.text (canonical_scheme a.scheme) ≡ scheme.text (canonical_scheme b.scheme) = cc in
    let schemes = sym (text-canonical a.scheme) ∙ text ∙ text-canonical b.scheme in
    let some_host : Some (canonical_host a.host) ≡ Some (canonical_host b.host) = ap host_of e in
    let hosts : canonical_host a.host ≡ canonical_host b.host = cc in
    let spelled = sym (host_text-canonical a.host) ∙ ap host.text hosts ∙ host_text-canonical b.host in
    let kinds = sym (host_kind-canonical a.host) ∙ ap host.kind hosts ∙ host_kind-canonical b.host in
    let ports : named_port a ≡ named_port b = ap port_of e in
    let default = same_default a.scheme b.scheme v w schemes in
    let named = ports ∙ ap (λ d. unless (option_eq ◌==◌ (Some b.port) d) b.port) (sym default) in
    alike_parts a b (schemes, (same_host a.host b.host).1 (spelled, kinds), same_port (default_port a.scheme) a.port b.port named)

pub returns-clause-back : goal.returns-clause-back
returns-clause-back c = λ p q a b v w e f same.
    by_case a b (valid_scheme p a v e) (valid_scheme q b w f)
    (printed_apart (of_origin a) (of_origin b) (valid_made p a v e) (valid_made q b w f)
    (printed_of a ∙ ap (λ t. t ++ slash ∷ []) same ∙ sym (printed_of b)))
  where
    by_case : (a b : Origin) → scheme.Valid a.scheme → scheme.Valid b.scheme → (of_origin a ≡ of_origin b) ⊎ OneHidesAddress (of_origin a) (of_origin b)
        → (are_alike a b ≡ true) ⊎ host.OneHidesAddress (canonical_host a.host) (canonical_host b.host)
    by_case a b v w (inl e) = inl (same_parts a b v w e)
    by_case a b v w (inr apart) = inr apart
