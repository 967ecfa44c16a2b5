-- How long the texts of hosts and authorities are at most.
use Rattle.std.proofs.Common.{◌≡◌, ℕ, ◌+◌, ◌≤◌, List, [], ◌∷◌, length, Option, Some, None, arith}
use Rattle.std.proofs.lemmas.Fmt.{length-decimal-le}
use Rattle.std.proofs.lemmas.List.{length-append}
use Rattle.std.specs.Prelude.{◌++◌, IfSome, unwrap_or}
use Rattle.std.specs.Option.{option_map}
use Rattle.uriparse_text.specs.Address.{IsOctets, IsSegments, ipv6_text}
use Rattle.uriparse_text.specs.Bytes.{at_sign, colon, right_bracket}
use Rattle.uriparse_text.specs.Cuts.{ahead, following}
use Rattle.uriparse_text.proofs.lemmas.addresses.LengthLemmas.{length-ipv4_text, length-ipv6_text}
use Rattle.uriparse_authority.specs.declared.authority.host.Host.{Host}
use Rattle.uriparse_authority.specs.declared.authority.host.Host.TheVariants.{IPv4Address, IPv6Address}
use Rattle.uriparse_authority.specs.Host as host
use Rattle.uriparse_authority.specs.Port as port
use Rattle.uriparse_authority.specs.Authority.{AuthorityParts, Valid, userinfo, print}

-- ---- hosts

pub length-ipv4_host : (h : Host) (a : List ℕ) → h ≡ IPv4Address a → IsOctets a → length (host.text h) ≤ 15
length-ipv4_host h a is v = rw is (length-ipv4_text a v.fit)

length-bracketed : (t : List ℕ) → length t ≤ 39 → length (host.bracketed t) ≤ 41
length-bracketed t short = let whole = length-append t (right_bracket ∷ []) in omega arith

pub length-ipv6_host : (h : Host) (a : List ℕ) → h ≡ IPv6Address a → IsSegments a → length (host.text h) ≤ 41
length-ipv6_host h a is v = rw is (length-bracketed (ipv6_text a) (length-ipv6_text a v))

-- ---- authorities

length-user : (u w : Option (List ℕ)) → length (ahead at_sign (userinfo u w)) ≤ 2 + length (unwrap_or u []) + length (unwrap_or w [])
length-user None w = omega arith
length-user (Some t) None = simp length-append (omega arith)
length-user (Some t) (Some p) = simp length-append (omega arith)

length-port : (n : Option ℕ) → IfSome n port.IsPort → length (following colon (option_map port.text n)) ≤ 6
length-port None h = omega arith
length-port (Some n) h = let digits = length-decimal-le 5 n (omega arith) (omega arith) (omega arith) in omega arith

pub length-print : (p : AuthorityParts) → Valid p
    → length (print p) ≤ 8 + length (unwrap_or p.username []) + length (unwrap_or p.password []) + length (host.text p.host)
length-print p v =
    let front = ahead at_sign (userinfo p.username p.password) in
    let back = following colon (option_map port.text p.port) in
    let a = length-user p.username p.password in
    let b = length-port p.port v.is_port in
    omega (arith, length-append front (host.text p.host ++ back), length-append (host.text p.host) back)
