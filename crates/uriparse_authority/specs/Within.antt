-- Hosts within domains, and names that are taken for addresses: RFC 1034, section 3.1, RFC 1123, section 2.1, and RFC 3986, section 7.4.
use Rattle.std.specs.Prelude.{◌≡◌, ◌⊎◌, ℕ, ◌<◌, ◌==◌, ◌&&◌, not, Bool, true, false, List, [], ◌∷◌, ◌++◌, length, is_some, if◌then◌else◌}
use Rattle.std.specs.Char.{is_digit}
use Rattle.std.specs.List.{list_all, list_any, slice_split}
use Rattle.uriparse_text.specs.Address.{ipv4_reading}
use Rattle.uriparse_text.specs.Bytes.{dot, percent}
use Rattle.uriparse_text.specs.Canonical.{canonical_lowered}
use Rattle.uriparse_authority.specs.Host.{Kind, canonical_text, key, kind}
use Rattle.uriparse_authority.specs.declared.authority.host.Host.{Host}
use Rattle.uriparse_authority.specs.declared.authority.host.Host.TheVariants.{IPv4Address, IPv6Address, IPvFuture, RegisteredName}

abbrev pub is_dot : ℕ → Bool
is_dot b = b == dot

-- the text without a dot at its end
abbrev pub without_end_dot : List ℕ → List ℕ
without_end_dot [] = []
without_end_dot (b ∷ []) = if is_dot b then [] else b ∷ []
without_end_dot (b ∷ c ∷ t) = b ∷ without_end_dot (c ∷ t)

-- the labels of a name in canonical spelling: what its dots separate, apart from the one that ends a fully qualified name
abbrev pub labels : List ℕ → List (List ℕ)
labels t = slice_split is_dot (without_end_dot t)

abbrev pub is_empty : List ℕ → Bool
is_empty [] = true
is_empty (b ∷ t) = false

-- one of the labels is empty, as in "a..b" and ".a", and in the empty name
abbrev pub has_empty_label : List ℕ → Bool
has_empty_label t = list_any is_empty (labels t)

-- the text spells an IPv4 address
abbrev pub is_address : List ℕ → Bool
is_address t = is_some (ipv4_reading t)

abbrev pub is_percent : ℕ → Bool
is_percent b = b == percent

-- the canonical spelling has an escape
abbrev pub has_escape : List ℕ → Bool
has_escape t = list_any is_percent t

-- The labels of a name end with all labels of a domain. No label of the name is empty, neither has an escape, and neither is an address without
-- the dot at its end. Both are in canonical spelling.
pub record IsNameWithin (name domain : List ℕ) : Type 0 where
  pub full : has_empty_label name ≡ false
  pub unescaped : has_escape name ≡ false
  pub unescaped_domain : has_escape domain ≡ false
  pub plain : is_address (without_end_dot name) ≡ false
  pub plain_domain : is_address (without_end_dot domain) ≡ false
  pub ends : (front : List (List ℕ)) × (labels name ≡ front ++ labels domain)

-- The hosts are equal, or both are names, of which one is within the other.
abbrev pub IsWithin : Host → Host → Type 0
IsWithin h d = (key h ≡ key d) ⊎ ((kind h ≡ Kind.Name) × (kind d ≡ Kind.Name) × IsNameWithin (canonical_text h) (canonical_text d))

-- the one text is the other, or ends with a dot and the other
abbrev pub EndsWithName : List ℕ → List ℕ → Type 0
EndsWithName t u = (t ≡ u) ⊎ ((front : List ℕ) × (t ≡ front ++ dot ∷ u))

-- a name whose canonical spelling is the text of an IPv4 address
abbrev pub hides_address : Host → Bool
hides_address (IPv4Address a) = false
hides_address (IPv6Address a) = false
hides_address (IPvFuture f) = false
hides_address (RegisteredName n) = is_address (canonical_lowered n)

abbrev pub last_label : List (List ℕ) → List ℕ
last_label [] = []
last_label (l ∷ []) = l
last_label (l ∷ m ∷ ls) = last_label (m ∷ ls)

abbrev pub begins_with_digit : List ℕ → Bool
begins_with_digit [] = false
begins_with_digit (b ∷ t) = is_digit b 10

-- a name whose last label begins with a digit
abbrev pub may_be_numeric : Host → Bool
may_be_numeric (IPv4Address a) = false
may_be_numeric (IPv6Address a) = false
may_be_numeric (IPvFuture f) = false
may_be_numeric (RegisteredName n) = begins_with_digit (last_label (labels (canonical_lowered n)))

-- a name whose canonical spelling has an escape
abbrev pub has_escapes : Host → Bool
has_escapes (IPv4Address a) = false
has_escapes (IPv6Address a) = false
has_escapes (IPvFuture f) = false
has_escapes (RegisteredName n) = has_escape (canonical_lowered n)

-- ---- words of private functions' clauses alone

-- The first of two names without dots at their ends has no empty label, neither has an escape, and neither is an address.
abbrev pub are_plain : List ℕ → List ℕ → Bool
are_plain t u =
    not (list_any is_empty (slice_split is_dot t)) && (not (has_escape t) && (not (has_escape u) && (not (is_address t) && not (is_address u))))

-- These bytes are a canonical token's. They are a dot if the octet is one, else they have none. They begin with a digit if the octet is one, and
-- they are an escape if it is "%".
pub record HasOctet (octet : ℕ) (bytes : List ℕ) : Type 0 where
  pub some : 0 < length bytes
  pub single : is_dot octet ≡ true → bytes ≡ dot ∷ []
  pub others : is_dot octet ≡ false → list_all (λ b. not (is_dot b)) bytes ≡ true
  pub first : begins_with_digit bytes ≡ is_digit octet 10
  pub escape : has_escape bytes ≡ is_percent octet

-- The canonical spelling of a text is a token's with this octet, and then that of the rest.
pub record BeginsWithOctet (octet : ℕ) (t rest : List ℕ) : Type 0 where
  pub front : List ℕ
  pub has : HasOctet octet front
  pub whole : canonical_lowered t ≡ front ++ canonical_lowered rest
