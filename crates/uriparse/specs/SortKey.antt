-- Sort keys: byte strings that are equal and ordered as references are, by RFC 3986, section 6.2.2.
use Rattle.std.specs.Prelude.{◌≡◌, ℕ, zero, suc, ◌/◌, ◌%◌, ◌^◌, ◌==◌, ◌&&◌, nat_le, Bool, true, false, if◌then◌else◌, List, [], ◌∷◌, ◌++◌, map, Option, Some, None}
use Rattle.std.specs.Char.{digit_char}
use Rattle.std.specs.Cmp.Lexicographic.{slice_cmp}
use Rattle.std.specs.List.{flat_map, list_all}
use Rattle.std.specs.Option.{option_map}
use Rattle.std.specs.Ordering.{nat_cmp}
use Rattle.std.specs.declared.cmp.Ordering.{Ordering}
use Rattle.uriparse_text.specs.Canonical.{canonical, canonical_lowered}
use Rattle.uriparse_scheme.specs.Scheme as scheme
use Rattle.uriparse_authority.specs.Authority as authority
use Rattle.uriparse_authority.specs.Host as host
use Rattle.uriparse_authority.specs.declared.authority.host.Host.{Host}
use Rattle.uriparse_authority.specs.declared.authority.host.Host.TheVariants.{IPv4Address, IPv6Address, IPvFuture, RegisteredName}
use Rattle.uriparse_path.specs.Path as path
use Rattle.uriparse_reference.specs.Reference.{Parts, port_of}
use Rattle.uriparse_reference.specs.Normal.{normal}
use Rattle.uriparse_reference.specs.Ports.{has_default_port, without_default_port}
use Rattle.uriparse_reference.specs.Examples.{on_both, read}
use Rattle.uriparse.specs.Uri.{base}
use Rattle.uriparse.specs.declared.sort_key.KeyForm.{KeyForm}

-- ---- bytes that no component has, each below the least byte that one has

-- ends a text
abbrev pub end : ℕ
end = 1

-- stands for an absent component
abbrev pub absent : ℕ
absent = 1

-- precedes a present one
abbrev pub present : ℕ
present = 2

-- the text, and then the byte that ends it
abbrev pub ended : List ℕ → List ℕ
ended t = t ++ end ∷ []

-- an optional component
abbrev pub optional : {X : Type 0} → (X → List ℕ) → Option X → List ℕ
optional f None = absent ∷ []
optional f (Some x) = present ∷ f x

-- ---- numbers, by as many digits as are said

-- the last digits of the number in this base, as many as are said
abbrev pub digits : ℕ → ℕ → ℕ → List ℕ
digits base zero n = []
digits base (suc k) n = digit_char (n / base ^ k) ∷ digits base k (n % base ^ k)

-- ---- components

-- The digit of the host's kind; and then the digits of an address, two for each octet and four for each segment, or the canonical spelling of
-- another host.
abbrev pub host_key : Host → List ℕ
host_key (IPv4Address a) = digit_char (host.kind_code host.V4) ∷ flat_map (digits 16 2) a
host_key (IPv6Address a) = digit_char (host.kind_code host.V6) ∷ flat_map (digits 16 4) a
host_key (IPvFuture f) = digit_char (host.kind_code host.Future) ∷ ended (canonical_lowered f)
host_key (RegisteredName n) = digit_char (host.kind_code host.Name) ∷ ended (canonical_lowered n)

-- the user name, the password, the host and the port, by five digits
abbrev pub authority_key : authority.AuthorityParts → List ℕ
authority_key a =
    optional ended (option_map canonical a.username)
    ++ (optional ended (option_map canonical a.password) ++ (host_key a.host ++ optional (digits 10 5) a.port))

-- ---- keys

-- the version of this layout, the first byte of each key
abbrev pub version : ℕ
version = 49

-- the keys of the components in their order
abbrev pub key_of : Option (List ℕ) → Option (List ℕ) → List ℕ → Option (List ℕ) → Option (List ℕ) → List ℕ
key_of scheme_text authority path_text query fragment =
    version ∷ (optional ended scheme_text ++ (optional (λ a. a) authority ++ (ended path_text ++ (optional ended query ++ optional ended fragment))))

-- the sort key of a reference: of its components in canonical spelling
abbrev pub sort_key : Parts → List ℕ
sort_key p =
    key_of (option_map scheme.canonical_text p.scheme) (option_map authority_key p.authority) (canonical (path.text p.path)) (option_map canonical p.query)
    (option_map canonical p.fragment)

-- the order of byte strings
abbrev pub key_order : List ℕ → List ℕ → Ordering
key_order = slice_cmp nat_cmp

-- the byte is neither 0 nor above "~"
abbrev pub is_key_byte : ℕ → Bool
is_key_byte b = nat_le 1 b && nat_le b 126

abbrev pub AreKeyBytes : List ℕ → Type 0
AreKeyBytes t = list_all is_key_byte t ≡ true

-- ---- what a key is of

abbrev pub changed_if : Bool → (Parts → Parts) → Parts → Parts
changed_if is change p = if is then change p else p

-- The reference without its fragment, without a default port and in normal form, each if the form says so.
abbrev pub in_form : KeyForm → Parts → Parts
in_form f p = changed_if f.normalized normal (changed_if f.without_default_port without_default_port (changed_if f.without_fragment base p))

-- the reference as it is
abbrev pub exact : KeyForm
exact = record { normalized = false; without_default_port = false; without_fragment = false }

-- the page that it leads to
abbrev pub page : KeyForm
page = record { normalized = true; without_default_port = true; without_fragment = true }

-- ---- words of private functions' clauses alone

-- the port that a key of this form has
abbrev pub key_port : KeyForm → Parts → Option ℕ
key_port f p = if f.without_default_port && has_default_port p then None else port_of p

-- the text of the path that a key has
abbrev pub key_path : Bool → Parts → List ℕ
key_path true p = path.text (normal p).path
key_path false p = canonical (path.text p.path)

-- the fragment that a key has, in canonical spelling
abbrev pub key_fragment : Bool → Parts → Option (List ℕ)
key_fragment true p = None
key_fragment false p = option_map canonical p.fragment

-- ---- the same of texts, if they spell references: words of examples

-- "|" for the byte that ends a text or stands for an absent component, and "^" for the one before a present one
abbrev pub shown : ℕ → ℕ
shown b = if b == end then 124 else if b == present then 94 else b

abbrev pub shown_key : KeyForm → List ℕ → Option (List ℕ)
shown_key f t = option_map (λ p. map shown (sort_key (in_form f p))) (read t)

abbrev pub compared_keys : KeyForm → List ℕ → List ℕ → Option Ordering
compared_keys f t u = on_both (λ p q. Some (key_order (sort_key (in_form f p)) (sort_key (in_form f q)))) t u
