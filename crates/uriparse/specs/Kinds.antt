-- References of one kind: all have a scheme, or none has one. RFC 3986, section 4.1.
use Rattle.std.specs.Prelude.{◌≡◌, ℕ, Bool, false, if◌then◌else◌, List, Option, Result, Ok, Err, is_some}
use Rattle.std.specs.Bool.{beq}
use Rattle.std.specs.Option.{option_map, option_or}
use Rattle.uriparse_text.specs.Readings.{◌>>=◌, fault_in, of_piece}
use Rattle.uriparse_reference.specs.declared.uri_reference.error.URIReferenceError.{URIReferenceError}
use Rattle.uriparse_reference.specs.Reference.{Parts}
use Rattle.uriparse_reference.specs.Builder.{Held}
use Rattle.uriparse_reference.specs.Offset.{first_fault}
use Rattle.uriparse_reference.specs.Reading.{reading}
use Rattle.uriparse_reference.specs.View.{Viewed}

-- the same result, its error mapped to another
abbrev pub with_mapped_error : {E F A : Type 0} → (E → F) → Result A E → Result A F
with_mapped_error map_error answer = of_piece map_error answer

-- it has a scheme, or has none, as all of its kind
abbrev pub IsOfKind : Bool → Parts → Type 0
IsOfKind has_scheme p = is_some p.scheme ≡ has_scheme

-- the same components if they are of the kind, else this error
abbrev pub of_kind : {E : Type 0} → Bool → E → Parts → Result Parts E
of_kind has_scheme other p = if beq (is_some p.scheme) has_scheme then Ok p else Err other

-- What reading a text returns. Its fault comes before the error of another kind.
abbrev pub reading_of : {E : Type 0} → Bool → (URIReferenceError → E) → E → List ℕ → Result Parts E
reading_of has_scheme map_error other t = with_mapped_error map_error (reading t) >>= of_kind has_scheme other

-- why a text is rejected
abbrev pub fault_of : {E : Type 0} → Bool → (URIReferenceError → E) → E → List ℕ → Option E
fault_of has_scheme map_error other t = fault_in (reading_of has_scheme map_error other t)

-- What viewing a text returns: the text with its components, or why it is rejected.
abbrev pub viewed_of : {E : Type 0} → Bool → (URIReferenceError → E) → E → List ℕ → Result Viewed E
viewed_of has_scheme map_error other t = do
  parts ← reading_of has_scheme map_error other t
  Ok (record { text = t; parts = parts })

-- Where a text is wrong, and why: where its fault is, or else at its beginning, if it is of the other kind. A scheme that is
-- missing would begin there, and one that may not be begins there.
abbrev pub first_fault_of : {E : Type 0} → Bool → (URIReferenceError → E) → E → List ℕ → Option (ℕ × E)
first_fault_of has_scheme map_error other t =
    option_or (option_map (λ f. (f.0, map_error f.1)) (first_fault t)) (option_map (λ e. (0, e)) (fault_of has_scheme map_error other t))

-- a builder holds a scheme only where the kind has one
abbrev pub HoldsKind : Bool → Held → Type 0
HoldsKind has_scheme h = has_scheme ≡ false → is_some h.scheme ≡ false
