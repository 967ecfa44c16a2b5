-- The name that the text of an authority begins with, if its host is one and no user information precedes it.
use Rattle.std.proofs.Common.{◌≡◌, ◌+◌, ℕ, Bool, true, List, ◌++◌, Option, Some, None, Ok, length, take, refl, sym, ap, subst, ◌∙◌, arith}
use Rattle.std.specs.Prelude.{IfSome, is_none}
use Rattle.std.proofs.Math.Seq.{take-append_seam}
use Rattle.std.proofs.lemmas.List.{length-append}
use Rattle.uriparse_text.specs.Cuts.{following}
use Rattle.uriparse_text.specs.Bytes.{colon}
use Rattle.uriparse_text.specs.declared.internal.class.Class.TheVariants as class
use Rattle.uriparse_text.specs.declared.internal.token.Case.TheVariants as case
use Rattle.uriparse_text.specs.Spelling.{IsValidText}
use Rattle.uriparse_authority.specs.declared.authority.host.Host.{Host}
use Rattle.uriparse_authority.specs.declared.authority.host.Host.TheVariants.{IPv4Address, IPv6Address, IPvFuture, RegisteredName}
use Rattle.uriparse_authority.specs.Authority.{AuthorityParts, IsPaired, Spells, reading}
use Rattle.uriparse_authority.specs.Scanned.{IsNameOf, IsNamed}
use Rattle.uriparse_authority.proofs.lemmas.authorities.AuthorityLemmas.{found}

-- the text of such an authority
name_first : (text g n : List ℕ) (p : Option (List ℕ)) (len : ℕ) (canonical : Bool) (port : Option ℕ) (a : AuthorityParts)
    → a ≡ record { username = None; password = None; host = RegisteredName n; port = a.port } → text ≡ g ++ following colon p → n ≡ g → length n ≡ len
    → IsValidText class.Name case.Lowered canonical n → IsNamed len canonical text a
name_first text g n p len canonical port a parts whole same long kept =
    let first : take len text ≡ n = ap (λ k. take k text) (sym long) ∙ ap (take (length n)) whole ∙ ap (λ m. take (length m) (g ++ following colon p)) same
    ∙ take-append_seam g (following colon p) ∙ sym same in
    let sum : length text ≡ length g + length (following colon p) = ap length whole ∙ length-append g (following colon p) in
    let less : length g ≡ len = ap length (sym same) ∙ long in
    record {
      within = omega arith;
      is_name = parts ∙ ap (λ m. record { username = None; password = None; host = RegisteredName m; port = a.port }) (sym first);
      is_valid_text = subst (λ m. IsValidText class.Name case.Lowered canonical m) (sym first) kept;
    }

unpaired : (u w : Option (List ℕ)) → IsPaired u w → u ≡ None → w ≡ None
unpaired None None h e = refl
unpaired None (Some t) h e = absurd (cc)
unpaired (Some t) w h e = absurd (cc)

by_host : (text : List ℕ) (len : ℕ) (canonical : Bool) (u w : Option (List ℕ)) (h : Host) (n : Option ℕ) → u ≡ None → IsNameOf len canonical h
    → Spells text (record { username = u; password = w; host = h; port = n })
    → IsNamed len canonical text (record { username = u; password = w; host = h; port = n })
by_host text len canonical u w (IPv4Address a) n none name s = absurd name
by_host text len canonical u w (IPv6Address a) n none name s = absurd name
by_host text len canonical u w (IPvFuture f) n none name s = absurd name
by_host text len canonical u w (RegisteredName m) n none name s =
    let x : w ≡ None = unpaired u w s.paired none in
    name_first text s.host_text m s.port_text len canonical n _ (rw (none, x) refl)
    (s.whole ∙ rw none refl) s.is_host.0 name.0 name.1

named : (a : AuthorityParts) (len : ℕ) (canonical : Bool) → a.username ≡ None → IsNameOf len canonical a.host → (text : List ℕ)
    → reading text ≡ Ok a → IsNamed len canonical text a
named a len canonical none name text reads = by_host text len canonical a.username a.password a.host a.port none name (found text a reads)

absent : (o : Option (List ℕ)) → is_none o ≡ true → o ≡ None
absent None h = refl
absent (Some t) h = absurd (cc)

pub named_if : (a : AuthorityParts) (words : Option (ℕ × Bool)) → is_none a.username ≡ true → IfSome words (λ w. IsNameOf w.0 w.1 a.host)
    → IfSome words (λ w. (text : List ℕ) → reading text ≡ Ok a → IsNamed w.0 w.1 text a)
named_if a None none name = tt
named_if a (Some w) none name = λ text reads. named a w.0 w.1 (absent a.username none) name text reads
