-- The laws of being within a domain.
use Rattle.std.proofs.Common.{◌≡◌, ℕ, true, false, List, [], ◌∷◌, ◌++◌, refl, sym, ap, ◌∙◌, subst, append_assoc, ◌⊎◌, inl, inr, Option, Some, None}
use Rattle.std.specs.Prelude.{is_some}
use Rattle.std.specs.List.{join_with_byte}
use Rattle.std.proofs.lemmas.Bool.{false≢true}
use Rattle.uriparse_text.specs.Address.{ipv4_reading}
use Rattle.uriparse_text.specs.Bytes.{dot}
use Rattle.uriparse_text.proofs.lemmas.addresses.ReadingLemmas.{ipv4_reading-found}
use Rattle.uriparse_authority.specs.declared.authority.host.Host.{Host}
use Rattle.uriparse_authority.specs.declared.authority.host.Host.TheVariants.{IPv4Address, IPv6Address, IPvFuture, RegisteredName}
use Rattle.uriparse_authority.specs.Host.{Kind, canonical_text, key, kind}
use Rattle.uriparse_authority.specs.Within.{EndsWithName, IsNameWithin, IsWithin, has_escape, has_escapes, hides_address, is_address, labels, without_end_dot}
use Rattle.uriparse_authority.proofs.lemmas.hosts.EndDotLemmas.{address_end}
use Rattle.uriparse_authority.proofs.lemmas.hosts.HostLemmas.{same_host}
use Rattle.uriparse_authority.proofs.lemmas.hosts.WithinLemmas.{cut, joined-pieces, pieces}

-- ---- equal hosts

-- the same of two hosts as of two equal ones
abbrev pub IsNamedWithin : Host → Host → Type 0
IsNamedWithin h d = (kind h ≡ Kind.Name) × (kind d ≡ Kind.Name) × IsNameWithin (canonical_text h) (canonical_text d)

named_equals : (g h c d : Host) → key g ≡ key h → key c ≡ key d → IsNamedWithin g c → IsNamedWithin h d
named_equals g h c d e f w =
    let first = (same_host g h).0 e in
    let second = (same_host c d).0 f in (
      sym first.1 ∙ w.0,
      sym second.1 ∙ w.1,
      subst (λ t. IsNameWithin t (canonical_text d)) first.0 (subst (IsNameWithin (canonical_text g)) second.0 w.2),
    )

pub within_equals : (g h c d : Host) → key g ≡ key h → key c ≡ key d → IsWithin g c → IsWithin h d
within_equals g h c d e f (inl same) = inl (sym e ∙ same ∙ f)
within_equals g h c d e f (inr w) = inr (named_equals g h c d e f w)

-- ---- domains within domains

name_again : (t u v : List ℕ) → IsNameWithin t u → IsNameWithin u v → IsNameWithin t v
name_again t u v w x = record {
  full = w.full;
  unescaped = w.unescaped;
  unescaped_domain = x.unescaped_domain;
  plain = w.plain;
  plain_domain = x.plain_domain;
  ends = (
    w.ends.0 ++ x.ends.0,
    w.ends.1 ∙ ap (λ ls. w.ends.0 ++ ls) x.ends.1 ∙ sym (append_assoc w.ends.0 x.ends.0 (labels v)),
  );
}

pub within_again : (g h d : Host) → IsWithin g h → IsWithin h d → IsWithin g d
within_again g h d (inl e) x = within_equals h g d d (sym e) refl x
within_again g h d (inr w) (inl f) = within_equals g g h d refl f (inr w)
within_again g h d (inr w) (inr x) = inr (w.0, x.1, name_again _ _ _ w.2 x.2)

pub within_kinds : (h d : Host) → IsWithin h d → kind h ≡ kind d
within_kinds h d (inl e) = ((same_host h d).0 e).1
within_kinds h d (inr w) = w.0 ∙ sym w.1

-- ---- hidden addresses

-- the dot that a name without an address has at its end isn't there
address_kept : (t : List ℕ) → is_address t ≡ true → is_address (without_end_dot t) ≡ false → ⊥
address_kept t h n = by_reading (ipv4_reading t) refl
  where
    by_reading : (o : Option (List ℕ)) → ipv4_reading t ≡ o → ⊥
    by_reading None e = false≢true (sym (ap is_some e) ∙ h)
    by_reading (Some a) e = false≢true (sym n ∙ ap is_address (address_end t a (ipv4_reading-found t a e)) ∙ h)

hidden_text : (h : Host) → hides_address h ≡ true → is_address (canonical_text h) ≡ true
hidden_text (IPv4Address a) e = absurd (false≢true e)
hidden_text (IPv6Address a) e = absurd (false≢true e)
hidden_text (IPvFuture f) e = absurd (false≢true e)
hidden_text (RegisteredName n) e = e

pub within_hidden : (h d : Host) → (hides_address h ≡ true) ⊎ (hides_address d ≡ true) → IsWithin h d → key h ≡ key d
within_hidden h d hidden (inl e) = e
within_hidden h d (inl e) (inr w) = absurd (address_kept _ (hidden_text h e) w.2.plain)
within_hidden h d (inr e) (inr w) = absurd (address_kept _ (hidden_text d e) w.2.plain_domain)

-- ---- escapes

escaped_text : (h : Host) → has_escapes h ≡ true → has_escape (canonical_text h) ≡ true
escaped_text (IPv4Address a) e = absurd (false≢true e)
escaped_text (IPv6Address a) e = absurd (false≢true e)
escaped_text (IPvFuture f) e = absurd (false≢true e)
escaped_text (RegisteredName n) e = e

pub within_escaped : (h d : Host) → (has_escapes h ≡ true) ⊎ (has_escapes d ≡ true) → IsWithin h d → key h ≡ key d
within_escaped h d escaped (inl e) = e
within_escaped h d (inl e) (inr w) = absurd (false≢true (sym w.2.unescaped ∙ escaped_text h e))
within_escaped h d (inr e) (inr w) = absurd (false≢true (sym w.2.unescaped_domain ∙ escaped_text d e))

-- ---- labels and bytes

pub within_labels : (h d : Host) → kind d ≡ Kind.Name → IsWithin h d → (front : List (List ℕ)) × (labels (canonical_text h) ≡ front ++ labels (canonical_text d))
within_labels h d name (inl e) = ([], ap labels ((same_host h d).0 e).0)
within_labels h d name (inr w) = w.2.ends

-- pieces after others, joined
joined_after : (t u : List ℕ) (front : List (List ℕ)) (p : List ℕ) (ps : List (List ℕ)) → pieces t ≡ front ++ p ∷ ps → pieces u ≡ p ∷ ps → EndsWithName t u
joined_after t u [] p ps e f = inl (sym (joined-pieces t) ∙ ap (join_with_byte dot) (e ∙ sym f) ∙ joined-pieces u)
joined_after t u (l ∷ ls) p ps e f = inr
    (join_with_byte dot (l ∷ ls), sym (joined-pieces t) ∙ ap (join_with_byte dot) e ∙ split l ls ∙ ap (λ x. join_with_byte dot (l ∷ ls) ++ dot ∷ x) (ap (join_with_byte dot) (sym f) ∙ joined-pieces u))
  where
    split : (l : List ℕ) (ls : List (List ℕ)) → join_with_byte dot ((l ∷ ls) ++ p ∷ ps) ≡ join_with_byte dot (l ∷ ls) ++ dot ∷ join_with_byte dot (p ∷ ps)
    split l [] = refl
    split l (m ∷ ls) = ap (λ x. l ++ dot ∷ x) (split m ls) ∙ sym (append_assoc l (dot ∷ join_with_byte dot (m ∷ ls)) (dot ∷ join_with_byte dot (p ∷ ps)))

pub within_bytes : (h d : Host) → IsWithin h d → (key h ≡ key d) ⊎ EndsWithName (without_end_dot (canonical_text h)) (without_end_dot (canonical_text d))
within_bytes h d (inl e) = inl e
within_bytes h d (inr w) =
    let c = cut (without_end_dot (canonical_text d)) in
    inr (joined_after (without_end_dot (canonical_text h)) (without_end_dot (canonical_text d)) w.2.ends.0 c.first c.others
    (w.2.ends.1 ∙ ap (λ ls. w.2.ends.0 ++ ls) c.parts) c.parts)
