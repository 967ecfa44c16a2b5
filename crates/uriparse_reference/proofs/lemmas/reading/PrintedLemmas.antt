-- References with the same printed text.
use Rattle.std.proofs.Common.{◌≡◌, ◌⊎◌, ℕ, List, Option, Some, None, refl, sym, ap, ◌∙◌, inl, inr}
use Rattle.std.specs.Prelude.{IfSome}
use Rattle.std.specs.Option.{option_map, IsSomeAnd}
use Rattle.uriparse_text.specs.Readings.{IfPresent}
use Rattle.uriparse_authority.specs.Authority as authority
use Rattle.uriparse_authority.specs.Authority.{AuthorityParts}
use Rattle.uriparse_authority.specs.Host as host
use Rattle.uriparse_authority.proofs.lemmas.hosts.HostLemmas.{host_back}
use Rattle.uriparse_authority.proofs.lemmas.authorities.PrintedLemmas as authorities
use Rattle.uriparse_reference.specs.Reference.{Parts, Spells, Valid, ReadsBack, HidesAddress, OneHidesAddress, print}
use Rattle.uriparse_reference.specs.Cuts.{authority_text}
use Rattle.uriparse_reference.proofs.lemmas.reading.SpellingLemmas.{back}
use Rattle.uriparse_reference.proofs.lemmas.equality.EqualityLemmas.{print_cut}
use Rattle.uriparse_reference.proofs.lemmas.normalizing.NormalizingLemmas.{printed_alike}

-- ---- reading back

pub spelled_reads_back : (t : List ℕ) (p : Parts) → Spells t p → ReadsBack p
spelled_reads_back t p s = by_authority s.authority_text p.authority s.is_authority
  where
    by_authority : (o : Option (List ℕ)) (a : Option AuthorityParts) → IfPresent authority.Spells o a → IfSome a authority.ReadsBack
    by_authority None None h = tt
    by_authority None (Some a) h = absurd h
    by_authority (Some u) None h = absurd h
    by_authority (Some u) (Some a) h = authorities.spelled_reads_back u a h

pub plain_back : (p : Parts) → Valid p → (HidesAddress p → ⊥) → Spells (print p) p
plain_back p v plain = back p v (by_authority p.authority v.is_authority plain)
  where
    by_authority : (a : Option AuthorityParts) → IfSome a authority.Valid
        → (IsSomeAnd (option_map (λ (x : AuthorityParts). x.host) a) host.IsHiddenAddress → ⊥) → IfSome a authority.ReadsBack
    by_authority None i hides = tt
    by_authority (Some a) i hides = host_back a.host i.is_host hides

-- ---- the same printed text

abbrev Apart : Option AuthorityParts → Option AuthorityParts → Type 0
Apart a b = IsSomeAnd (option_map (λ (x : AuthorityParts). x.host) a)
    (λ g. IsSomeAnd (option_map (λ (x : AuthorityParts). x.host) b) (λ h. host.OneHidesAddress g h))

authorities_apart : (a b : Option AuthorityParts) → IfSome a authority.Valid → IfSome b authority.Valid
    → option_map authority.print a ≡ option_map authority.print b
    → (option_map authority.kind a ≡ option_map authority.kind b) ⊎ Apart a b
authorities_apart None None v w e = inl refl
authorities_apart None (Some b) v w e = absurd (cc)
authorities_apart (Some a) None v w e = absurd (cc)
authorities_apart (Some a) (Some b) v w e =
    let texts : authority.print a ≡ authority.print b = cc in
    by_case (authorities.printed_apart a b v w texts)
  where
    by_case : (a ≡ b) ⊎ host.OneHidesAddress a.host b.host → (Some (authority.kind a) ≡ Some (authority.kind b)) ⊎ host.OneHidesAddress a.host b.host
    by_case (inl same) = inl (ap (λ x. Some (authority.kind x)) same)
    by_case (inr apart) = inr apart

-- references with the same printed text are equal, or one has as a name what the other has as an IPv4 address
pub printed_apart : (p q : Parts) → Valid p → Valid q → print p ≡ print q → (p ≡ q) ⊎ OneHidesAddress p q
printed_apart p q v w e =
    by_case (authorities_apart p.authority q.authority v.is_authority w.is_authority (sym (print_cut p v).authority ∙ ap authority_text e
    ∙ (print_cut q w).authority))
  where
    by_case : (option_map authority.kind p.authority ≡ option_map authority.kind q.authority) ⊎ Apart p.authority q.authority → (p ≡ q) ⊎ OneHidesAddress p q
    by_case (inl kinds) = inl (printed_alike p q v w e kinds)
    by_case (inr apart) = inr apart
