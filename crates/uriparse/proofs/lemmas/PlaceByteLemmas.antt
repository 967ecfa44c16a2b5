-- The bytes of place keys and of prefixes.
use Rattle.std.proofs.Common.{◌≡◌, ℕ, Bool, true, false, cond, List, [], ◌∷◌, ◌++◌, reverse, Option, Some, None, refl, sym, subst}
use Rattle.std.specs.Prelude.{IfSome}
use Rattle.std.specs.List.{flat_map}
use Rattle.std.specs.Option.{option_map}
use Rattle.std.proofs.lemmas.Bool.{and_from, and_parts}
use Rattle.uriparse_text.specs.declared.internal.class.Class.TheVariants as class
use Rattle.uriparse_text.specs.declared.internal.token.Case.TheVariants as case
use Rattle.uriparse_text.specs.Bytes.{slash}
use Rattle.uriparse_text.specs.Canonical.{canonical, canonical_lowered}
use Rattle.uriparse_text.specs.Segment.{is_segment}
use Rattle.uriparse_text.proofs.lemmas.classes.ClassLemmas.{IsIn-canonical_in}
use Rattle.uriparse_text.proofs.lemmas.readings.CutLemmas.{weaker}
use Rattle.uriparse_scheme.specs.Scheme as scheme
use Rattle.uriparse_scheme.specs.declared.scheme.Scheme.{Scheme}
use Rattle.uriparse_scheme.proofs.lemmas.schemes.GrammarLemmas.{is_scheme-canonical_lowered}
use Rattle.uriparse_scheme.proofs.lemmas.schemes.SchemeLemmas.{is_scheme-text}
use Rattle.uriparse_authority.specs.Authority as authority
use Rattle.uriparse_authority.specs.Authority.{AuthorityParts}
use Rattle.uriparse_authority.specs.Future.{is_future_byte}
use Rattle.uriparse_authority.specs.Host as host
use Rattle.uriparse_authority.specs.Port as port
use Rattle.uriparse_authority.specs.Within as hosts
use Rattle.uriparse_authority.specs.declared.authority.host.Host.{Host}
use Rattle.uriparse_authority.specs.declared.authority.host.Host.TheVariants.{IPv4Address, IPv6Address, IPvFuture, RegisteredName}
use Rattle.uriparse_authority.proofs.lemmas.hosts.FutureLemmas.{IsFuture-bytes, IsFuture-canonical_lowered}
use Rattle.uriparse_path.specs.Dots.{all_but_last}
use Rattle.uriparse_reference.specs.Reference.{Parts, Valid}
use Rattle.uriparse_reference.proofs.lemmas.reading.CharacterLemmas.{AreUriBytes, is_uri_byte, uri_bytes-in_class, uri_bytes-scheme}
use Rattle.uriparse.specs.PlaceKey.{base_prefix, directory_prefix, domain_prefix, dot_end, end_of, ends_with_dot, has_labels, host_end, host_prefix, name_prefix, place_authority, place_front, place_key, place_path, place_version, reversed_labels}
use Rattle.uriparse.specs.SortKey.{AreKeyBytes, digits, end, ended, is_key_byte, optional, present}
use Rattle.uriparse.specs.Within.{with_used_port}
use Rattle.uriparse.proofs.lemmas.PlaceHostLemmas.{labels_all}
use Rattle.uriparse.proofs.lemmas.PlaceKeyLemmas.{normal_segments, normal_text, used_valid}
use Rattle.uriparse.proofs.lemmas.PlaceListLemmas.{AreAll}
use Rattle.uriparse.proofs.lemmas.PlacePathLemmas.{AreSegments, front_segments, joined_all, slashed}
use Rattle.uriparse.proofs.lemmas.SortKeyLemmas.{future_key, in_class, joined, key_byte, lists_bytes, octets_below, of_uri_bytes, optional_bytes, port_bytes, segments_below}

-- ---- hosts

ended_bytes : (t : List ℕ) → AreKeyBytes t → AreKeyBytes (ended t)
ended_bytes t h = joined t (end ∷ []) h refl

row_bytes : (ts : List (List ℕ)) → AreAll is_key_byte ts → AreKeyBytes (flat_map ended ts)
row_bytes [] h = refl
row_bytes (t ∷ ts) h = let both = and_parts _ _ h in joined (ended t) (flat_map ended ts) (ended_bytes t both.0) (row_bytes ts both.1)

from_uri_bytes : (t : List ℕ) → AreUriBytes t → AreKeyBytes t
from_uri_bytes t h = weaker is_uri_byte is_key_byte key_byte t h

name_bytes : (t : List ℕ) → AreKeyBytes t → AreKeyBytes (name_prefix t)
name_bytes t h = by_labels (has_labels t)
  where
    by_labels : (v : Bool) → AreKeyBytes (cond v (49 ∷ reversed_labels (hosts.labels t)) (50 ∷ ended t))
    by_labels true = and_from (is_key_byte 49) _ refl (row_bytes (reverse (hosts.labels t)) (labels_all is_key_byte t h))
    by_labels false = and_from (is_key_byte 50) _ refl (ended_bytes t h)

prefix_bytes : (h : Host) → host.Valid h → AreKeyBytes (host_prefix h)
prefix_bytes (IPv4Address a) v = and_from (is_key_byte 52) _ refl (ended_bytes (flat_map (digits 16 2) a) (lists_bytes 2 a (octets_below a v)))
prefix_bytes (IPv6Address a) v = and_from (is_key_byte 54) _ refl (ended_bytes (flat_map (digits 16 4) a) (lists_bytes 4 a (segments_below a v)))
prefix_bytes (IPvFuture f) v =
    and_from (is_key_byte 55) _ refl
    (ended_bytes (canonical_lowered f) (weaker is_future_byte is_key_byte future_key (canonical_lowered f) (IsFuture-bytes (canonical_lowered f) (IsFuture-canonical_lowered f v))))
prefix_bytes (RegisteredName n) v =
    name_bytes (canonical_lowered n) (from_uri_bytes (canonical_lowered n) (uri_bytes-in_class class.Name (canonical_lowered n) (IsIn-canonical_in class.Name case.Lowered n v)))

end_byte : (h : Host) → is_key_byte (end_of h) ≡ true
end_byte (IPv4Address a) = refl
end_byte (IPv6Address a) = refl
end_byte (IPvFuture f) = refl
end_byte (RegisteredName n) = by_dot (ends_with_dot (canonical_lowered n))
  where
    by_dot : (v : Bool) → is_key_byte (cond v dot_end host_end) ≡ true
    by_dot true = refl
    by_dot false = refl

pub domain_bytes : (d : Host) → host.Valid d → AreKeyBytes (domain_prefix d)
domain_bytes d v = and_from (is_key_byte place_version) _ refl (and_from (is_key_byte present) _ refl (prefix_bytes d v))

-- ---- what precedes the path

authority_bytes : (a : AuthorityParts) → authority.Valid a → AreKeyBytes (place_authority a)
authority_bytes a v =
    joined (host_prefix a.host ++ end_of a.host ∷ []) _ (joined (host_prefix a.host) (end_of a.host ∷ []) (prefix_bytes a.host v.is_host) (and_from _ _ (end_byte a.host) refl))
    (joined (optional (digits 10 5) a.port) _ (optional_bytes port.IsPort (digits 10 5) port_bytes a.port v.is_port)
    (joined (optional ended (option_map canonical a.username)) _ (in_class class.Name a.username v.is_username) (in_class class.UserInfo a.password v.is_password)))

front_bytes : (p : Parts) → Valid p → AreKeyBytes (place_front p)
front_bytes p v =
    and_from (is_key_byte place_version) _ refl
    (joined (optional (λ t. t) (option_map place_authority (with_used_port p.scheme p.authority))) _
    (of_authority (with_used_port p.scheme p.authority) (used_valid p.scheme p.authority v.is_authority)) (of_scheme p.scheme v.is_scheme))
  where
    of_scheme : (o : Option Scheme) → IfSome o scheme.Valid → AreKeyBytes (optional ended (option_map scheme.canonical_text o))
    of_scheme None h = refl
    of_scheme (Some s) h = and_from (is_key_byte present) _ refl (of_uri_bytes (scheme.canonical_text s) (uri_bytes-scheme (scheme.canonical_text s) (is_scheme-canonical_lowered (scheme.text s) (is_scheme-text s h))))

    of_authority : (o : Option AuthorityParts) → IfSome o authority.Valid → AreKeyBytes (optional (λ t. t) (option_map place_authority o))
    of_authority None h = refl
    of_authority (Some a) h = and_from (is_key_byte present) _ refl (authority_bytes a h)

-- ---- paths

segment_bytes : (s : List ℕ) → is_segment s ≡ true → AreKeyBytes s
segment_bytes s h = from_uri_bytes s (uri_bytes-in_class class.Segment s h)

path_bytes : (p : Parts) → Valid p → AreKeyBytes (place_path p)
path_bytes p v = subst AreKeyBytes (sym (normal_text p v)) (joined_all is_key_byte refl segment_bytes _ (normal_segments p.path v.is_path))

pub key_bytes : (p : Parts) → Valid p → AreKeyBytes (place_key p)
key_bytes p v =
    joined (place_front p) _ (front_bytes p v)
    (joined (ended (place_path p)) _ (ended_bytes (place_path p) (path_bytes p v))
    (joined (optional ended (option_map canonical p.query)) _ (in_class class.Query p.query v.is_query) (in_class class.Query p.fragment v.is_fragment)))

slashed_bytes : (ds : List (List ℕ)) → AreSegments ds → AreKeyBytes (slashed ds)
slashed_bytes [] h = refl
slashed_bytes (d ∷ ds) h =
    let both = and_parts (is_segment d) _ h in
    joined (d ++ slash ∷ []) (slashed ds) (joined d (slash ∷ []) (segment_bytes d both.0) refl) (slashed_bytes ds both.1)

directory_bytes : (bs : List (List ℕ)) → AreSegments bs → AreKeyBytes (directory_prefix bs)
directory_bytes [] h = refl
directory_bytes (b ∷ []) h = ended_bytes b (segment_bytes b (and_parts _ _ h).0)
directory_bytes (b ∷ c ∷ bs) h = slashed_bytes (all_but_last (b ∷ c ∷ bs)) (front_segments (b ∷ c ∷ bs) h)

pub base_bytes : (b : Parts) → Valid b → AreKeyBytes (base_prefix b)
base_bytes b v = joined (place_front b) _ (front_bytes b v) (directory_bytes _ (normal_segments b.path v.is_path))
