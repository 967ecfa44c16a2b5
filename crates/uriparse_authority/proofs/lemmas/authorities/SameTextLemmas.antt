-- The text that an authority was read from, and the text that it prints.
use Rattle.std.proofs.Common.{◌≡◌, ◌↔◌, ℕ, ◌-◌, ◌^◌, ◌<◌, ◌≤◌, Bool, true, false, List, [], length, take, drop, bytes_eq, Option, refl, sym, ap, ◌∙◌, arith, subst, drop_of_length-le, take_all}
use Rattle.std.proofs.lemmas.Bool.{false≢true}
use Rattle.std.proofs.lemmas.Slice.Eq.{bytes_eq-Decides}
use Rattle.std.specs.Prelude.{IsTrue}
use Rattle.std.specs.Option.{option_map}
use Rattle.uriparse_text.specs.Ends.{EndsWith}
use Rattle.uriparse_text.proofs.lemmas.addresses.Ipv4Lemmas.{printed_alone}
use Rattle.uriparse_authority.specs.declared.authority.host.Host.{Host}
use Rattle.uriparse_authority.specs.declared.authority.host.Host.TheVariants.{IPv4Address, IPv6Address, IPvFuture, RegisteredName}
use Rattle.uriparse_authority.specs.Host as host
use Rattle.uriparse_authority.specs.Port as port
use Rattle.uriparse_authority.specs.Authority.{AuthorityParts, Spells, joined, host_text, port_text, print}
use Rattle.uriparse_authority.specs.Normal.{canonical_authority, canonical_host}
use Rattle.uriparse_authority.proofs.lemmas.authorities.NormalLemmas.{valid_canonical}
use Rattle.uriparse_authority.proofs.lemmas.authorities.AuthorityLemmas.{cut_again, print_cut, spelled_pieces, valid}

-- what was put at the end of an empty buffer
pub ends_empty : (buffer : List ℕ) → EndsWith buffer 0 []
ends_empty buffer = record { size = omega arith; fits = λ h. drop_of_length-le buffer (omega arith) }

pub length_put : (buffer t : List ℕ) (n : ℕ) → EndsWith buffer n t → length t < 2 ^ 63 → n ≡ length t
length_put buffer t n h small = let e = h.size in grind arith

pub text_put : (room : ℕ) (buffer t : List ℕ) (n : ℕ) → EndsWith buffer n t → length buffer ≡ room → length t < 2 ^ 63 → length t ≤ room
    → take (room - (room - n)) (drop (room - n) buffer) ≡ t
text_put room buffer t n h e small within =
    let len = length_put buffer t n h small in
    ap (λ k. take (room - (room - n)) (drop (room - k) buffer)) len ∙ ap (λ k. take (room - (room - n)) (drop (k - length t) buffer)) (sym e)
    ∙ ap (take (room - (room - n))) (h.fits (subst (λ k. length t ≤ k) (sym e) within)) ∙ take_all (room - (room - n)) t (omega arith)

-- a comparison with it
pub compared_put : (t u v : List ℕ) (r : Bool) → r ≡ bytes_eq v u → v ≡ t → IsTrue r ↔ (t ≡ u)
compared_put t u v r e same =
    let test = bytes_eq-Decides v u in
    ((λ h. sym same ∙ test.0 (sym e ∙ h)), (λ h. e ∙ test.1 (same ∙ h)))

-- a host that is no IPv6 address has one text
pub other_host : (t : List ℕ) (h : Host) → host.Spells t h → ((a : List ℕ) → h ≡ IPv6Address a → ⊥) → host.text h ≡ t
other_host t (IPv4Address a) s none = sym (printed_alone t a s)
other_host t (IPv6Address a) s none = absurd (none a refl)
other_host t (IPvFuture f) s none = sym s.0
other_host t (RegisteredName n) s none = s.0

-- so only the host and the port can make a difference
pub same_authority : (t : List ℕ) (p : AuthorityParts) → Spells t p
    → (print p ≡ t) ↔ ((option_map port.text p.port ≡ port_text t) × (host.text p.host ≡ host_text t))
same_authority t p s =
    let printed = print_cut p (valid t p s) in
    let cut = cut_again t p.username p.password s.host_text s.port_text (spelled_pieces t p s) s.whole in
    let whole : joined p.username p.password (host_text t) (port_text t) ≡ t =
    ap (λ g. joined p.username p.password g (port_text t)) cut.host ∙ ap (joined p.username p.password s.host_text) cut.port ∙ sym s.whole in (
      (λ e. (sym printed.port ∙ ap port_text e, sym printed.host ∙ ap host_text e)),
      (λ h. ap (joined p.username p.password (host.text p.host)) h.0 ∙ ap (λ g. joined p.username p.password g (port_text t)) h.1 ∙ whole),
    )

-- the text of the host, which its cut spells
pub host_spelled : (t : List ℕ) (p : AuthorityParts) → Spells t p → host.Spells (host_text t) p.host
host_spelled t p s =
    subst (λ g. host.Spells g p.host) (sym (cut_again t p.username p.password s.host_text s.port_text (spelled_pieces t p s) s.whole).host) s.is_host

-- the two tests
module _ (t : List ℕ) (p : AuthorityParts) (s : Spells t p) (n : Option ℕ) (h : Host) (o : Option (List ℕ)) (g : List ℕ) (en : n ≡ p.port) (eh : h ≡ p.host)
    (eo : o ≡ port_text t) (eg : g ≡ host_text t) where
  pub with_port : (r q : Bool) → IsTrue r ↔ (option_map port.text n ≡ o) → r ≡ true → IsTrue q ↔ (host.text h ≡ g) → IsTrue q ↔ (print p ≡ t)
  with_port r q ports is hosts = (
    (λ k. (same_authority t p s).1 (ap (option_map port.text) (sym en) ∙ ports.0 is ∙ eo, ap host.text (sym eh) ∙ hosts.0 k ∙ eg)),
    (λ e. hosts.1 (ap host.text eh ∙ ((same_authority t p s).0 e).1 ∙ sym eg)),
  )

  pub without_port : (r : Bool) → IsTrue r ↔ (option_map port.text n ≡ o) → r ≡ false → IsTrue r ↔ (print p ≡ t)
  without_port r ports is =
      ((λ k. absurd (false≢true (sym is ∙ k))), (λ e. ports.1 (ap (option_map port.text) en ∙ ((same_authority t p s).0 e).0 ∙ sym eo)))

-- a host whose canonical text was read is printed so
read_canonical : (t : List ℕ) (h : Host) → host.Spells t h → t ≡ host.text (canonical_host h) → host.text h ≡ t
read_canonical t (IPv4Address a) s e = sym e
read_canonical t (IPv6Address a) s e = sym e
read_canonical t (IPvFuture f) s e = sym s.0
read_canonical t (RegisteredName n) s e = s.0

-- so is an authority
pub canonical_read : (t : List ℕ) (p : AuthorityParts) → Spells t p → print (canonical_authority p) ≡ t → print p ≡ t
canonical_read t p s e =
    let cut = print_cut (canonical_authority p) (valid_canonical p (valid t p s)) in
    (same_authority t p s).1 (sym cut.port ∙ ap port_text e, read_canonical (host_text t) p.host (host_spelled t p s) (ap host_text (sym e) ∙ cut.host))
