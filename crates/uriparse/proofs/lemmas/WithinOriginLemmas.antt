-- A URI below another one has the origin of that one.
use Rattle.std.proofs.Common.{◌≡◌, ℕ, zero, suc, Bool, true, false, List, [], ◌∷◌, ◌++◌, Option, Some, None, refl, sym, ap, ◌∙◌, cond, arith}
use Rattle.std.specs.Prelude.{◌==◌, IfSome, bytes_eq, flat_map, leb, length, map, slice_get}
use Rattle.std.specs.List.{list_all}
use Rattle.std.specs.Option.{option_and_then, option_eq, option_map, option_or}
use Rattle.std.specs.Ordering.{on}
use Rattle.std.proofs.lemmas.Bool.{and_from, and_parts, eqb-true}
use Rattle.std.proofs.lemmas.Bool.Decides.{nat_tests}
use Rattle.std.proofs.lemmas.Slice.Eq.{bytes_eq-Decides}
use Rattle.uriparse_text.specs.Canonical.{canonical, canonical_lowered, canonical_token}
use Rattle.uriparse_text.specs.Tokens.{spell, tokens}
use Rattle.uriparse_text.specs.declared.internal.token.Case.TheVariants.{Lowered}
use Rattle.uriparse_text.specs.declared.internal.token.Token.{Token}
use Rattle.uriparse_text.specs.declared.internal.token.Token.TheVariants.{Byte, Escape}
use Rattle.uriparse_text.proofs.lemmas.canonical.CanonicalLemmas.{by_escaped, spell-canonical_token}
use Rattle.uriparse_text.proofs.lemmas.tokens.TokenLemmas.{spell-tokens}
use Rattle.uriparse_scheme.specs.DefaultPort.{default_port, registered_port}
use Rattle.uriparse_scheme.specs.Scheme as scheme
use Rattle.uriparse_scheme.specs.SchemeTable.{variants}
use Rattle.uriparse_scheme.specs.declared.scheme.Scheme.{Scheme}
use Rattle.uriparse_scheme.specs.declared.scheme.Scheme.TheVariants.{Registered, Unregistered}
use Rattle.uriparse_scheme.specs.declared.scheme.registered.RegisteredScheme.{RegisteredScheme}
use Rattle.uriparse_scheme.proofs.lemmas.table.TableLemmas.{listed}
use Rattle.uriparse_authority.specs.Authority as authority
use Rattle.uriparse_authority.specs.Authority.{AuthorityParts}
use Rattle.uriparse_authority.specs.Host as host
use Rattle.uriparse_authority.specs.Port as port
use Rattle.uriparse_authority.specs.declared.authority.host.Host.{Host}
use Rattle.uriparse_authority.specs.declared.authority.host.Host.TheVariants.{IPv4Address, IPv6Address, IPvFuture, RegisteredName}
use Rattle.uriparse_authority.proofs.lemmas.authorities.AuthorityLemmas.{tested}
use Rattle.uriparse_reference.specs.Reference.{Parts, Valid}
use Rattle.uriparse.specs.declared.uri.origin.Origin.{Origin}
use Rattle.uriparse.specs.Origin.{are_alike, are_both, have_same_origin, if_named, origin}
use Rattle.uriparse.specs.Within.{IsWithin, with_used_port}
use Rattle.uriparse.proofs.lemmas.OriginLemmas.{made}
use Rattle.uriparse.proofs.lemmas.WithinLemmas.{valid_with_port}

-- ---- default ports are ports

abbrev fits : Option ℕ → Bool
fits None = true
fits (Some n) = leb n port.largest

all_fit : list_all (λ s. fits (registered_port s)) variants ≡ true
unfolding registered_port variants
all_fit = refl

passes_at : (p : RegisteredScheme → Bool) (xs : List RegisteredScheme) (k : ℕ) (s : RegisteredScheme) → list_all p xs ≡ true → slice_get xs k ≡ Some s → p s ≡ true
passes_at p [] k s all at = cc
passes_at p (x ∷ xs) zero s all at = let same : x ≡ s = cc in ap p (sym same) ∙ (and_parts _ _ all).0
passes_at p (x ∷ xs) (suc k) s all at = passes_at p xs k s (and_parts (p x) _ all).1 at

fitting : (n : Option ℕ) → fits n ≡ true → IfSome n port.IsPort
fitting None e = tt
fitting (Some n) e = grind (arith, nat_tests)

pub default_in_range : (s : Option Scheme) → IfSome (option_and_then default_port s) port.IsPort
default_in_range None = tt
default_in_range (Some (Registered s)) =
    let at = listed s in fitting (registered_port s) (passes_at (λ s. fits (registered_port s)) variants at.0 s all_fit at.1)
default_in_range (Some (Unregistered t)) = tt

-- ---- hosts that are empty

lowered_tokens : (ts : List Token) → flat_map spell (map (canonical_token Lowered) ts) ≡ [] → flat_map spell ts ≡ []
lowered_tokens [] h = refl
lowered_tokens (Byte b ∷ ts) h = cc
lowered_tokens (Escape high low ∷ ts) h =
    let no : flat_map spell (map (canonical_token Lowered) (Escape high low ∷ ts)) ≡ []
    → ⊥ = by_escaped Lowered high low (λ t. spell t ++ flat_map spell (map (canonical_token Lowered) ts) ≡ [] → ⊥) (λ e k. cc) (λ e k. cc) in
    absurd (no h)

-- only the empty name has an empty canonical spelling
lowered_empty : (s : List ℕ) → canonical_lowered s ≡ [] → s ≡ []
lowered_empty s h = sym (spell-tokens s) ∙ lowered_tokens (tokens s) (spell-canonical_token Lowered s ∙ h)

more_than_none : (n : ℕ) → (suc n == 0) ≡ false
more_than_none n = grind (arith, nat_tests)

named : (m n : List ℕ) → canonical_lowered m ≡ canonical_lowered n → host.is_empty (RegisteredName n) ≡ false → host.is_empty (RegisteredName m) ≡ false
unfolding tokens
named (x ∷ u) n e some = more_than_none (length u)
named [] n e some =
    let none : n ≡ [] = lowered_empty n (sym e ∙ sym (spell-canonical_token Lowered [])) in
    let no : true ≡ false = sym (ap (λ t. host.is_empty (RegisteredName t)) none) ∙ some in absurd (cc)

also_named : (g h : Host) → host.key g ≡ host.key h → host.is_empty h ≡ false → host.is_empty g ≡ false
also_named (IPv4Address a) h e some = refl
also_named (IPv6Address a) h e some = refl
also_named (IPvFuture f) h e some = refl
also_named (RegisteredName m) (RegisteredName n) e some = let texts : canonical_lowered m ≡ canonical_lowered n = cc in named m n texts some
also_named (RegisteredName m) (IPv4Address a) e some = absurd (cc)
also_named (RegisteredName m) (IPv6Address a) e some = absurd (cc)
also_named (RegisteredName m) (IPvFuture f) e some = absurd (cc)

-- ---- the origin

used_in_range : (a : AuthorityParts) (s : Option Scheme) → IfSome a.port port.IsPort → IfSome (option_or a.port (option_and_then default_port s)) port.IsPort
used_in_range a s is = by_port a.port is
  where
    by_port : (n : Option ℕ) → IfSome n port.IsPort → IfSome (option_or n (option_and_then default_port s)) port.IsPort
    by_port None h = default_in_range s
    by_port (Some n) h = h

same_ports : (m n : Option ℕ) → option_eq ◌==◌ m n ≡ true → m ≡ n
same_ports None None e = refl
same_ports None (Some n) e = cc
same_ports (Some m) None e = cc
same_ports (Some m) (Some n) e = ap Some (eqb-true m n e)

-- what authorities with one key have in common
one_place : (s t : Option Scheme) (a d : AuthorityParts) → authority.Valid a → authority.Valid d
    → option_map authority.key (with_used_port s (Some a)) ≡ option_map authority.key (with_used_port t (Some d))
    → (host.key a.host ≡ host.key d.host) × (option_or a.port (option_and_then default_port s) ≡ option_or d.port (option_and_then default_port t))
one_place s t a d v w e =
    let m = option_or a.port (option_and_then default_port s) in
    let n = option_or d.port (option_and_then default_port t) in
    let x = authority.with_port a m in
    let y = authority.with_port d n in
    let keys : authority.key x ≡ authority.key y = cc in
    let test : authority.each_alike x y ≡ true =
    tested x y (valid_with_port a m v (used_in_range a s v.is_port)) (valid_with_port d n w (used_in_range d t w.is_port)) ∙ (bytes_eq-Decides _ _).1 keys in
    let later = and_parts (option_eq (on canonical bytes_eq) x.username y.username) _ test in
    let last = and_parts (option_eq (on canonical bytes_eq) x.password y.password) _ later.1 in
    let ends = and_parts (bytes_eq (host.key x.host) (host.key y.host)) _ last.1 in
    ((bytes_eq-Decides _ _).0 ends.0, same_ports m n ends.1)

pub within_origin : (p b : Parts) (o : Origin) → Valid p → Valid b → IsWithin p b → origin b ≡ Some o → have_same_origin p b ≡ true
within_origin p b o v w is e =
    ap (are_both (origin p)) e ∙ by_parts p.scheme b.scheme p.authority b.authority v.is_authority w.is_authority is.place.schemes is.place.authorities e
  where
    by_host : (x y : Scheme) (a d : AuthorityParts) (empty : Bool) (n : Option ℕ) → scheme.canonical_text x ≡ scheme.canonical_text y → host.key a.host ≡ host.key d.host
        → option_or a.port (default_port x) ≡ n → host.is_empty d.host ≡ empty
        → made (Some y) (cond empty None (Some d.host)) n ≡ Some o → are_both (made (Some x) (if_named a.host) (option_or a.port (default_port x))) (Some o) ≡ true
    by_host x y a d true n i j k l h = cc
    by_host x y a d false None i j k l h = cc
    by_host x y a d false (Some n) i j k l h =
        let same : record { scheme = y; host = d.host; port = n } ≡ o = cc in
        ap (λ q. are_both (made (Some x) (cond q None (Some a.host)) (option_or a.port (default_port x))) (Some o)) (also_named a.host d.host j l)
        ∙ ap (λ q. are_both (made (Some x) (Some a.host) q) (Some o)) k
        ∙ ap (are_alike (record { scheme = x; host = a.host; port = n })) (sym same)
        ∙ and_from _ _ ((bytes_eq-Decides _ _).1 i) (and_from _ _ ((bytes_eq-Decides _ _).1 j) (eq_itself n))
      where
        eq_itself : (n : ℕ) → (n == n) ≡ true
        eq_itself n = grind (arith, nat_tests)

    by_parts : (s t : Option Scheme) (a d : Option AuthorityParts) → IfSome a authority.Valid → IfSome d authority.Valid
        → option_map scheme.canonical_text s ≡ option_map scheme.canonical_text t
        → option_map authority.key (with_used_port s a) ≡ option_map authority.key (with_used_port t d)
        → made t (option_and_then if_named (option_map (λ (a : AuthorityParts). a.host) d)) (option_and_then (λ (a : AuthorityParts). option_or a.port (option_and_then default_port t)) d) ≡ Some o
        → are_both (made s (option_and_then if_named (option_map (λ (a : AuthorityParts). a.host) a)) (option_and_then (λ (a : AuthorityParts). option_or a.port (option_and_then default_port s)) a)) (Some o) ≡ true
    by_parts s None a d f g i j h = cc
    by_parts s (Some y) a None f g i j h = cc
    by_parts None (Some y) a (Some d) f g i j h = cc
    by_parts (Some x) (Some y) None (Some d) f g i j h = cc
    by_parts (Some x) (Some y) (Some a) (Some d) f g i j h =
        let one = one_place (Some x) (Some y) a d f g j in
        let texts : scheme.canonical_text x ≡ scheme.canonical_text y = cc in
        by_host x y a d (host.is_empty d.host) (option_or d.port (default_port y)) texts one.0 one.1 refl h
