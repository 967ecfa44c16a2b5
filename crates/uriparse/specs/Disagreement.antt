-- Where readers of a URI may disagree: RFC 3986, section 7, next to the URL Standard.
use Rattle.std.specs.Prelude.{◌≡◌, ℕ, ◌&&◌, not, Bool, true, false, if◌then◌else◌, List, [], ◌∷◌, Option, Some, None, is_none, is_some}
use Rattle.std.specs.List.{find, list_any}
use Rattle.std.specs.Option.{option_and_then, option_map, option_map_or, option_or}
use Rattle.uriparse_text.specs.Segment.{is_dot_segment}
use Rattle.uriparse_scheme.specs.Scheme as scheme
use Rattle.uriparse_scheme.specs.declared.scheme.Scheme.{Scheme}
use Rattle.uriparse_authority.specs.Host as host
use Rattle.uriparse_authority.specs.Within.{has_escape, may_be_numeric}
use Rattle.uriparse_authority.specs.declared.authority.host.Host.{Host}
use Rattle.uriparse_authority.specs.declared.authority.host.Host.TheVariants.{IPv4Address, IPv6Address, IPvFuture, RegisteredName}
use Rattle.uriparse_reference.specs.Examples.{on_both, read}
use Rattle.uriparse_reference.specs.Reference.{Parts, host_of, username_of}
use Rattle.uriparse.specs.Web.{has_encoded_label, special_port}
use Rattle.uriparse.specs.declared.uri.disagreement.Disagreement.{Disagreement}
use Rattle.uriparse.specs.declared.uri.disagreement.Disagreement.TheVariants as variants

-- the scheme is http, https, ws, wss or ftp
abbrev pub is_special : Option Scheme → Bool
is_special s = is_some (option_and_then (λ s. special_port (scheme.canonical_text s)) s)

-- there is a host, and it passes
abbrev pub host_passes : (Host → Bool) → Option Host → Bool
host_passes test h = option_map_or test h false

-- the host is a name that passes
abbrev pub is_name : (List ℕ → Bool) → Host → Bool
is_name test (IPv4Address a) = false
is_name test (IPv6Address a) = false
is_name test (IPvFuture f) = false
is_name test (RegisteredName n) = test n

abbrev pub is_future : Host → Bool
is_future (IPv4Address a) = false
is_future (IPv6Address a) = false
is_future (IPvFuture f) = true
is_future (RegisteredName n) = false

-- a dot segment with an escape
abbrev pub is_escaped_dots : List ℕ → Bool
is_escaped_dots s = is_dot_segment s && has_escape s

-- Readers may disagree for this reason on a URI with this scheme, this host, user information if so said, and these segments.
abbrev pub holds : Disagreement → Option Scheme → Option Host → Bool → List (List ℕ) → Bool
holds variants.Scheme s h user ss = not (is_special s)
holds variants.NoHost s h user ss = not (host_passes (λ h. not (host.is_empty h)) h)
holds variants.LaterAddress s h user ss = host_passes is_future h
holds variants.EscapedName s h user ss = host_passes (is_name has_escape) h
holds variants.NumericName s h user ss = host_passes may_be_numeric h
holds variants.EncodedName s h user ss = host_passes (is_name has_encoded_label) h
holds variants.EscapedDots s h user ss = list_any is_escaped_dots ss
holds variants.UserInformation s h user ss = user

abbrev pub disagrees : Disagreement → Parts → Bool
disagrees d p = holds d p.scheme (host_of p) (is_some (username_of p)) p.path.segments

-- the reasons, in the order in which the first one is told
abbrev pub reasons : List Disagreement
reasons =
    variants.Scheme
    ∷ variants.NoHost
    ∷ variants.LaterAddress
    ∷ variants.EscapedName
    ∷ variants.NumericName
    ∷ variants.EncodedName
    ∷ variants.EscapedDots
    ∷ variants.UserInformation
    ∷ []

-- the first reason, if there is one
abbrev pub first_reason : Option Scheme → Option Host → Bool → List (List ℕ) → Option Disagreement
first_reason s h user ss = find (λ d. holds d s h user ss) reasons

abbrev pub disagreement : Parts → Option Disagreement
disagreement p = first_reason p.scheme (host_of p) (is_some (username_of p)) p.path.segments

-- ---- references

-- the reference with the scheme of the base, and the base's authority, if it has none of its own
abbrev pub placed : Parts → Parts → Parts
placed b r =
    if is_some r.scheme then r
    else record r { scheme = b.scheme; authority = option_or r.authority b.authority }

-- Readers agree on the base, and on where the reference leads from there.
abbrev pub leads_alike : Parts → Parts → Bool
leads_alike b r = is_none (disagreement b) && is_none (disagreement (placed b r))

-- ---- the same of strings, if they spell references: words of examples

abbrev pub shown_disagreement : List ℕ → Option (Option Disagreement)
shown_disagreement t = option_map disagreement (read t)

abbrev pub shown_leads_alike : List ℕ → List ℕ → Option Bool
shown_leads_alike t u = on_both (λ b r. Some (leads_alike b r)) t u
