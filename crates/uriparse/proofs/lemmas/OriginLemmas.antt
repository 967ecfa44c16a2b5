-- The origin of a reference, and its text: with a slash after it, it is printed of a reference.
use Rattle.std.proofs.Common.{◌≡◌, ◌≤◌, ◌++◌, ◌∷◌, [], List, ℕ, true, Option, Some, None, IsAscii, IsUtf8, length, refl, sym, ap, subst, ◌∙◌, arith, append_assoc}
use Rattle.std.specs.Prelude.{IfSome}
use Rattle.std.specs.Str.{str_to_ascii_lowercase}
use Rattle.uriparse_text.specs.Canonical.{canonical_lowered}
use Rattle.std.specs.Option.{option_and_then, option_map}
use Rattle.std.proofs.Math.Seq.{take-append_seam}
use Rattle.std.proofs.lemmas.Bool.{and_from}
use Rattle.std.proofs.lemmas.Str.{IsAscii-take, IsUtf8-from_ascii}
use Rattle.uriparse_text.specs.Bytes.{colon, slash}
use Rattle.uriparse_text.specs.Cuts.{following}
use Rattle.uriparse_text.proofs.lemmas.canonical.DotLemmas.{empty_segment}
use Rattle.uriparse_path.proofs.lemmas.reading.ReadingLemmas.{limit_is}
use Rattle.uriparse_authority.specs.declared.authority.host.Host.{Host}
use Rattle.uriparse_authority.specs.Host as host
use Rattle.uriparse_authority.specs.Normal.{canonical_authority, canonical_host}
use Rattle.uriparse_authority.specs.Port as port
use Rattle.uriparse_authority.proofs.lemmas.authorities.NormalLemmas.{host_text-canonical, valid_canonical}
use Rattle.uriparse_scheme.specs.DefaultPort.{default_port}
use Rattle.uriparse_scheme.specs.Registered.{name_of, registered_named}
use Rattle.uriparse_scheme.specs.declared.scheme.Scheme.{Scheme}
use Rattle.uriparse_scheme.specs.declared.scheme.Scheme.TheVariants.{Registered, Unregistered}
use Rattle.uriparse_scheme.specs.declared.scheme.registered.RegisteredScheme.{RegisteredScheme}
use Rattle.uriparse_scheme.specs.Scheme as scheme
use Rattle.uriparse_scheme.specs.Normal.{canonical_scheme}
use Rattle.uriparse_scheme.proofs.lemmas.schemes.GrammarLemmas.{canonical_low_of_scheme}
use Rattle.uriparse_scheme.proofs.lemmas.schemes.NormalLemmas.{text-canonical}
use Rattle.uriparse_scheme.proofs.lemmas.table.TableLemmas.{canonical_name, named_itself, same_name}
use Rattle.uriparse_scheme.proofs.lemmas.schemes.NormalLemmas as schemes
use Rattle.uriparse_reference.specs.Reference.{Parts, Valid, print}
use Rattle.uriparse_reference.proofs.lemmas.reading.AsciiLemmas.{IsAscii-print}
use Rattle.uriparse.specs.Origin.{named_port, text}
use Rattle.uriparse.specs.declared.uri.origin.Origin.{Origin}

-- an origin is made of these, if all are present
abbrev pub made : Option Scheme → Option Host → Option ℕ → Option Origin
made scheme host port =
    option_and_then (λ s. option_and_then (λ h. option_map (λ n. record { scheme = s; host = h; port = n }) port) host) scheme

-- ---- the text

abbrev pub of_origin : Origin → Parts
of_origin o = record {
  scheme = Some (canonical_scheme o.scheme);
  authority = Some (canonical_authority (record { username = None; password = None; host = o.host; port = named_port o }));
  path = record { absolute = true; segments = [] ∷ [] };
  query = None;
  fragment = None;
}

pub printed_of : (o : Origin) → print (of_origin o) ≡ text o ++ slash ∷ []
printed_of o =
    let s = scheme.canonical_text o.scheme in
    let h = host.canonical_text o.host ++ following colon (option_map port.text (named_port o)) in
    ap (λ t. print_of t (host.text (canonical_host o.host) ++ following colon (option_map port.text (named_port o)))) (text-canonical o.scheme)
    ∙ ap (λ t. print_of s (t ++ following colon (option_map port.text (named_port o)))) (host_text-canonical o.host)
    ∙ append_assoc s (colon ∷ []) (slash ∷ slash ∷ (h ++ slash ∷ []))
    ∙ sym (append_assoc s (colon ∷ slash ∷ slash ∷ h) (slash ∷ []))
  where
    print_of : List ℕ → List ℕ → List ℕ
    print_of s h = (s ++ colon ∷ []) ++ (slash ∷ slash ∷ (h ++ slash ∷ []))

pub valid_of : (o : Origin) → scheme.Valid o.scheme → host.Valid o.host → IfSome (named_port o) port.IsPort → Valid (of_origin o)
valid_of o s h n = record {
  is_scheme = schemes.valid_canonical o.scheme s;
  is_authority = valid_canonical (record { username = None; password = None; host = o.host; port = named_port o }) (record {
    is_username = tt;
    is_password = tt;
    paired = tt;
    is_host = h;
    is_port = n;
  });
  is_path = record { some = omega arith; short = subst (λ m. 1 ≤ m) limit_is (omega arith); each = and_from _ _ empty_segment refl };
  absolute = refl;
  plain = refl;
  fit = refl;
  is_query = tt;
  is_fragment = tt;
}

pub IsUtf8-text : (o : Origin) → scheme.Valid o.scheme → host.Valid o.host → IfSome (named_port o) port.IsPort → IsUtf8 (text o)
IsUtf8-text o s h n =
    let t = text o in
    let whole : IsAscii (t ++ slash ∷ []) = subst IsAscii (printed_of o) (IsAscii-print (of_origin o) (valid_of o s h n)) in
    IsUtf8-from_ascii t (subst IsAscii (take-append_seam t (slash ∷ [])) (IsAscii-take (t ++ slash ∷ []) (length t) whole))

-- ---- default ports

-- no scheme that isn't registered has the name of one that is
never_named : (a : RegisteredScheme) (t : List ℕ) → scheme.IsUnregistered t → canonical_lowered t ≡ name_of a → ⊥
never_named a t is e =
    let low : str_to_ascii_lowercase t ≡ name_of a = sym (canonical_low_of_scheme t is.scheme) ∙ e in
    let both : Some a ≡ None = sym (named_itself a) ∙ sym (ap registered_named low) ∙ is.nameless in
    cc

-- schemes of one canonical text have one default port
pub same_default : (r s : Scheme) → scheme.Valid r → scheme.Valid s → scheme.canonical_text r ≡ scheme.canonical_text s → default_port r ≡ default_port s
same_default (Registered a) (Registered b) v w e = ap (λ r. default_port (Registered r)) (same_name a b (sym (canonical_name a) ∙ e ∙ canonical_name b))
same_default (Registered a) (Unregistered t) v w e = absurd (never_named a t w (sym e ∙ canonical_name a))
same_default (Unregistered t) (Registered b) v w e = absurd (never_named b t v (e ∙ canonical_name b))
same_default (Unregistered t) (Unregistered u) v w e = refl
