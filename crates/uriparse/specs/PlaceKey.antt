-- Place keys: byte strings that begin with a URI's host from its last label on, so that the keys of all URIs within a domain, and of all URIs below
-- another one, begin with the same bytes. RFC 3986, sections 6.2.2 and 6.2.3, and RFC 1034, section 3.1.
use Rattle.std.specs.Prelude.{◌≡◌, ℕ, suc, ◌==◌, ◌&&◌, not, Bool, true, false, if◌then◌else◌, List, [], ◌∷◌, ◌++◌, drop, length, map, reverse, Option, Some}
use Rattle.std.specs.Char.{digit_char}
use Rattle.std.specs.List.{flat_map, list_any, slice_split}
use Rattle.std.specs.Option.{option_and_then, option_map, option_or}
use Rattle.std.specs.declared.cmp.Ordering.TheVariants.{Less}
use Rattle.uriparse_text.specs.Bytes.{slash}
use Rattle.uriparse_text.specs.Canonical.{canonical, canonical_lowered}
use Rattle.uriparse_text.specs.Tokens.{is_well_formed}
use Rattle.uriparse_scheme.specs.Scheme as scheme
use Rattle.uriparse_authority.specs.Authority as authority
use Rattle.uriparse_authority.specs.Within as hosts
use Rattle.uriparse_authority.specs.declared.authority.host.Host.{Host}
use Rattle.uriparse_authority.specs.declared.authority.host.Host.TheVariants.{IPv4Address, IPv6Address, IPvFuture, RegisteredName}
use Rattle.uriparse_path.specs.Dots.{all_but_last, is_dot_segment}
use Rattle.uriparse_path.specs.Normal.{pnormal}
use Rattle.uriparse_path.specs.Path as path
use Rattle.uriparse_path.specs.Path.{PathParts}
use Rattle.uriparse_path.specs.Relative.{is_last}
use Rattle.uriparse_path.specs.Within.{between_slashes, has_ambiguous, removes_unclear}
use Rattle.uriparse_reference.specs.Examples.{on_both, read}
use Rattle.uriparse_reference.specs.Reference.{Parts, host_of}
use Rattle.uriparse.specs.SortKey.{digits, ended, key_order, optional, present, shown}
use Rattle.uriparse.specs.Within.{IsSamePlace, with_used_port}

-- ---- hosts

-- ends a host that doesn't end with a dot
abbrev pub host_end : ℕ
host_end = 2

-- ends a name that ends with a dot
abbrev pub dot_end : ℕ
dot_end = 3

-- A name can be within a domain other than itself: none of its labels is empty, it has no escape, and it isn't an address.
abbrev pub has_labels : List ℕ → Bool
has_labels t = not (hosts.has_empty_label t) && (not (hosts.has_escape t) && not (hosts.is_address (hosts.without_end_dot t)))

-- the labels from the last one on, each ended
abbrev pub reversed_labels : List (List ℕ) → List ℕ
reversed_labels ls = flat_map ended (reverse ls)

-- "1" and the labels from the last one on, or "2" and another name as it is
abbrev pub name_prefix : List ℕ → List ℕ
name_prefix t = if has_labels t then digit_char 1 ∷ reversed_labels (hosts.labels t) else digit_char 2 ∷ ended t

-- the text ends with a dot
abbrev pub ends_with_dot : List ℕ → Bool
ends_with_dot [] = false
ends_with_dot (b ∷ []) = hosts.is_dot b
ends_with_dot (b ∷ c ∷ t) = ends_with_dot (c ∷ t)

-- What the host and each host within it begin with: a digit for the kind; then the labels of a name, the digits of an address, or the canonical
-- spelling of another host.
abbrev pub host_prefix : Host → List ℕ
host_prefix (IPv4Address a) = digit_char 4 ∷ ended (flat_map (digits 16 2) a)
host_prefix (IPv6Address a) = digit_char 6 ∷ ended (flat_map (digits 16 4) a)
host_prefix (IPvFuture f) = digit_char 7 ∷ ended (canonical_lowered f)
host_prefix (RegisteredName n) = name_prefix (canonical_lowered n)

-- the byte that ends a host
abbrev pub end_of : Host → ℕ
end_of (IPv4Address a) = host_end
end_of (IPv6Address a) = host_end
end_of (IPvFuture f) = host_end
end_of (RegisteredName n) = if ends_with_dot (canonical_lowered n) then dot_end else host_end

abbrev pub place_host : Host → List ℕ
place_host h = host_prefix h ++ end_of h ∷ []

-- ---- keys

-- the version of this layout, the first byte of each key: "p"
abbrev pub place_version : ℕ
place_version = 112

-- the host, the port by five digits, the user name and the password
abbrev pub place_authority : authority.AuthorityParts → List ℕ
place_authority a =
    place_host a.host
    ++ (optional (digits 10 5) a.port ++ (optional ended (option_map canonical a.username) ++ optional ended (option_map canonical a.password)))

-- the version, the authority with the port that it uses, and the scheme
abbrev pub front_of : Option (List ℕ) → Option (List ℕ) → List ℕ
front_of authority scheme_text = place_version ∷ (optional (λ a. a) authority ++ optional ended scheme_text)

abbrev pub place_front : Parts → List ℕ
place_front p = front_of (option_map place_authority (with_used_port p.scheme p.authority)) (option_map scheme.canonical_text p.scheme)

-- the text of the path without dot segments and in canonical spelling
abbrev pub place_path : Parts → List ℕ
place_path p = path.text (pnormal p.path false)

-- The place key of a URI: the host, the port that it uses, the user information and the scheme; and then the path in normal form, the query and
-- the fragment.
abbrev pub place_key : Parts → List ℕ
place_key p =
    place_front p
    ++ (ended (place_path p) ++ (optional ended (option_map canonical p.query) ++ optional ended (option_map canonical p.fragment)))

-- ---- prefixes

-- What the keys of all URIs whose hosts are within the domain begin with.
abbrev pub domain_prefix : Host → List ℕ
domain_prefix d = place_version ∷ present ∷ host_prefix d

-- The segments of a base's directory, each followed by a slash. A base without a slash has no directory: all of its path counts.
abbrev pub directory_prefix : List (List ℕ) → List ℕ
directory_prefix [] = []
directory_prefix (s ∷ []) = ended s
directory_prefix (s ∷ r ∷ ss) = flat_map (λ u. u ++ slash ∷ []) (all_but_last (s ∷ r ∷ ss))

-- What the keys of all URIs below the base begin with.
abbrev pub base_prefix : Parts → List ℕ
base_prefix b = place_front b ++ directory_prefix (between_slashes (pnormal b.path false))

-- the one byte string begins with the other
abbrev pub BeginsWith : List ℕ → List ℕ → Type 0
BeginsWith t u = (rest : List ℕ) × (t ≡ u ++ rest)

-- the segments of the URI's path in normal form that follow the base's directory
abbrev pub segments_after : Parts → Parts → List (List ℕ)
segments_after p b = drop (length (all_but_last (between_slashes (pnormal b.path false)))) (between_slashes (pnormal p.path false))

-- No segment after the base's directory is ambiguous, and in the URI's path as it stands no ".." removes a segment on which readers disagree.
pub record IsClearBelow (p b : Parts) : Type 0 where
  pub plain : has_ambiguous (segments_after p b) ≡ false
  pub clear : removes_unclear p.path ≡ false

-- the same bytes with the last one greater by one
abbrev pub successor : List ℕ → List ℕ
successor [] = []
successor (b ∷ []) = suc b ∷ []
successor (b ∷ c ∷ t) = b ∷ successor (c ∷ t)

-- not less than the one byte string, and less than the other
pub record IsBetween (t u v : List ℕ) : Type 0 where
  pub from : key_order t u ≡ Less → ⊥
  pub below : key_order t v ≡ Less

-- Both have the same normal form, apart from a port that is the scheme's default port and a "." that keeps a path from beginning with two slashes.
pub record IsSamePage (p q : Parts) : Type 0 where
  pub place : IsSamePlace p.scheme q.scheme p.authority q.authority
  pub path : place_path p ≡ place_path q
  pub query : option_map canonical p.query ≡ option_map canonical q.query
  pub fragment : option_map canonical p.fragment ≡ option_map canonical q.fragment

-- ---- words of private functions' clauses alone

-- what a normal directory comes from: the path without its last segment, or the whole path if that is a dot segment
abbrev pub directory_of : PathParts → PathParts
directory_of p = if is_last is_dot_segment p.segments then p else record p { segments = all_but_last p.segments ++ [] ∷ [] }

-- a name without a dot at its end has labels
abbrev pub are_labels : List ℕ → Bool
are_labels t = not (list_any hosts.is_empty (slice_split hosts.is_dot t)) && (not (hosts.has_escape t) && not (hosts.is_address t))

-- what is put for an authority with the port that it names, or else this one
abbrev pub authority_text : Option authority.AuthorityParts → Option ℕ → List ℕ
authority_text o default =
    optional (λ t. t) (option_map (λ (a : authority.AuthorityParts). place_authority (authority.with_port a (option_or a.port default))) o)

-- A text is a token's, with this octet in canonical spelling, and then the rest.
pub record BeginsWithToken (octet : ℕ) (t rest : List ℕ) : Type 0 where
  pub front : List ℕ
  pub whole : t ≡ front ++ rest
  pub formed : is_well_formed front ≡ true
  pub has : hosts.HasOctet octet (canonical_lowered front)

-- ---- the same of texts, if they spell references: words of examples

-- "|" and "^" as in sort keys, and "{" for the byte that ends a name with a dot at its end
abbrev pub shown_byte : ℕ → ℕ
shown_byte b = if b == dot_end then 123 else shown b

abbrev pub shown_place : List ℕ → Option (List ℕ)
shown_place t = option_map (λ p. map shown_byte (place_key p)) (read t)

abbrev pub shown_base : List ℕ → Option (List ℕ)
shown_base t = option_map (λ b. map shown_byte (base_prefix b)) (read t)

-- the domain is the host of a reference
abbrev pub shown_domain : List ℕ → Option (List ℕ)
shown_domain t = option_map (λ d. map shown_byte (domain_prefix d)) (option_and_then host_of (read t))

abbrev pub begins : List ℕ → List ℕ → Bool
begins t [] = true
begins [] (b ∷ u) = false
begins (a ∷ t) (b ∷ u) = (a == b) && begins t u

-- the key of the one begins with the prefix of the other as a base
abbrev pub shown_begins : List ℕ → List ℕ → Option Bool
shown_begins t u = on_both (λ p b. Some (begins (place_key p) (base_prefix b))) t u
