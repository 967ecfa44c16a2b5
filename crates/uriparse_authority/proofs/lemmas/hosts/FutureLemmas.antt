-- Addresses of later versions: reading one is exact, and what its text is known to be.
use Rattle.std.proofs.Common.{◌≡◌, ℕ, Bool, true, false, cond, List, [], ◌∷◌, ◌++◌, Option, Some, None, Ok, Err, refl, sym, ap, ◌∙◌, subst, arith}
use Rattle.std.specs.Prelude.{not, ◌&&◌, Result, OnOk, OnErr}
use Rattle.std.specs.Char.{to_ascii_lowercase}
use Rattle.std.specs.List.{list_all}
use Rattle.std.specs.Str.{str_to_ascii_lowercase}
use Rattle.std.proofs.lemmas.Bool.{false≢true, and_parts, and_from}
use Rattle.std.proofs.lemmas.Bool.Decides.{nat_tests}
use Rattle.std.proofs.lemmas.List.{map-append}
use Rattle.std.proofs.lemmas.List.Folds.{list_all-append}
use Rattle.uriparse_text.specs.declared.internal.class.Class.TheVariants as class
use Rattle.uriparse_text.specs.declared.internal.token.Case.TheVariants.{Lowered}
use Rattle.uriparse_text.specs.Bytes.{dot, percent, is_hex, is_unreserved, is_sub_delim}
use Rattle.uriparse_text.specs.Classes.{is_plain}
use Rattle.uriparse_text.specs.Faults.{IsIn}
use Rattle.uriparse_text.specs.Canonical.{canonical_lowered}
use Rattle.uriparse_text.specs.Cuts.{lacks, following, before, after}
use Rattle.uriparse_text.specs.Readings.{unless_fault}
use Rattle.uriparse_text.proofs.lemmas.classes.FaultLemmas.{IsIn-plain}
use Rattle.uriparse_text.proofs.lemmas.classes.ClassLemmas.{well_formed-in_class}
use Rattle.uriparse_text.proofs.lemmas.canonical.CanonicalLemmas.{canonical_in-canonical_in}
use Rattle.uriparse_text.proofs.lemmas.readings.CutLemmas.{weaker, lacks_by, before_after, before_of, after_of}
use Rattle.uriparse_text.proofs.lemmas.tokens.UnescapedLemmas.{canonical_lowered-plain}
use Rattle.uriparse_authority.specs.declared.authority.error.HostError.TheVariants.{InvalidIPvFutureCharacter, InvalidIPvFutureFormat}
use Rattle.uriparse_authority.specs.Future.{is_future_byte, is_future_letter, is_some_of, IsFuture, has_address, has_form, fault, reading}

-- ---- bytes

letter_byte : (b : ℕ) → is_future_letter b ≡ true → is_future_byte b ≡ true
unfolding is_unreserved is_sub_delim
letter_byte b h = grind (arith, nat_tests)

hex_byte : (b : ℕ) → is_hex b ≡ true → is_future_byte b ≡ true
unfolding is_unreserved is_sub_delim
hex_byte b h = grind (arith, nat_tests)

dot_byte : is_future_byte dot ≡ true
unfolding is_unreserved is_sub_delim
dot_byte = refl

plain_byte : (b : ℕ) → is_future_byte b ≡ true → is_plain class.UserInfo b ≡ true
unfolding is_plain
plain_byte b h = h

not_percent : is_future_byte percent ≡ false
unfolding is_unreserved is_sub_delim
not_percent = refl

letter-lowered : (b : ℕ) → is_future_letter b ≡ true → is_future_letter (to_ascii_lowercase b) ≡ true
letter-lowered b h = grind (arith, nat_tests)

hex-lowered : (b : ℕ) → is_hex b ≡ true → is_hex (to_ascii_lowercase b) ≡ true
hex-lowered b h = grind (arith, nat_tests)

byte-lowered : (b : ℕ) → is_future_byte b ≡ true → is_future_byte (to_ascii_lowercase b) ≡ true
unfolding is_unreserved is_sub_delim
byte-lowered b h = grind (arith, nat_tests)

-- ---- texts

some_all : (p : ℕ → Bool) (t : List ℕ) → is_some_of p t ≡ true → list_all p t ≡ true
some_all p [] h = refl
some_all p (b ∷ t) h = h

pub IsFuture-bytes : (t : List ℕ) → IsFuture t → list_all is_future_byte t ≡ true
IsFuture-bytes t f =
    ap (list_all is_future_byte) f.whole
    ∙ and_from _ _ (letter_byte f.letter f.is_letter)
    (list_all-append is_future_byte f.version (dot ∷ f.address)
    ∙ and_from _ _ (weaker is_hex is_future_byte hex_byte f.version (some_all is_hex f.version f.is_version))
    (and_from _ _ dot_byte (some_all is_future_byte f.address f.is_address)))

pub IsFuture-lacks : (t : List ℕ) → IsFuture t → lacks percent t ≡ true
IsFuture-lacks t f = lacks_by is_future_byte percent t not_percent (IsFuture-bytes t f)

pub IsFuture-in_class : (t : List ℕ) → IsFuture t → IsIn class.UserInfo t
IsFuture-in_class t f = IsIn-plain class.UserInfo t (weaker is_future_byte (is_plain class.UserInfo) plain_byte t (IsFuture-bytes t f))

-- ---- reading is exact

address_there : (t : List ℕ) → is_some_of is_future_byte t ≡ true → has_address (Some t) ≡ true
address_there [] h = absurd (false≢true h)
address_there (b ∷ t) h = refl

form_there : (t : List ℕ) → IsFuture t → has_form t ≡ true
form_there t f =
    let version : lacks dot f.version ≡ true = lacks_by is_hex dot f.version refl (some_all is_hex f.version f.is_version) in
    ap has_form f.whole
    ∙ and_from _ _ f.is_letter
    (and_from _ _ (ap (is_some_of is_hex) (before_of dot f.version (Some f.address) refl version) ∙ f.is_version)
    (ap has_address (after_of dot f.version (Some f.address) refl version) ∙ address_there f.address f.is_address))

of_form : (t : List ℕ) → list_all is_future_byte t ≡ true → has_form t ≡ true → IsFuture t
of_form [] h k = absurd (false≢true k)
of_form (b ∷ t) h k =
    let bytes = and_parts _ _ h in
    let letter = and_parts _ _ k in
    let cut = and_parts _ _ letter.1 in
    by_address (after dot t) (before_after dot t) cut.1 letter.0 cut.0 bytes.1
  where
    by_address : (o : Option (List ℕ)) → before dot t ++ following dot o ≡ t → has_address o ≡ true → is_future_letter b ≡ true
        → is_some_of is_hex (before dot t) ≡ true → list_all is_future_byte t ≡ true → IsFuture (b ∷ t)
    by_address None e there l v all = absurd (false≢true there)
    by_address (Some []) e there l v all = absurd (false≢true there)
    by_address (Some (c ∷ u)) e there l v all =
        let split : (list_all is_future_byte (before dot t) && list_all is_future_byte (dot ∷ c ∷ u)) ≡ true =
        sym (list_all-append is_future_byte (before dot t) (dot ∷ c ∷ u)) ∙ ap (list_all is_future_byte) e ∙ all in
        record {
          letter = b;
          version = before dot t;
          address = c ∷ u;
          whole = ap (λ r. b ∷ r) (sym e);
          is_letter = l;
          is_version = v;
          is_address = (and_parts _ _ (and_parts _ _ split).1).1;
        }

pub future_again : (t : List ℕ) → IsFuture t → reading t ≡ Ok t
future_again t f = rw (IsFuture-bytes t f, form_there t f) refl

pub future_found : (t u : List ℕ) → reading t ≡ Ok u → (u ≡ t) × IsFuture t
future_found t u h = by_tests (list_all is_future_byte t) (has_form t) refl refl h
  where
    by_tests : (v w : Bool) → list_all is_future_byte t ≡ v → has_form t ≡ w
        → unless_fault (cond (not v) (Some InvalidIPvFutureCharacter) (cond (not w) (Some InvalidIPvFutureFormat) None)) t ≡ Ok u → (u ≡ t) × IsFuture t
    by_tests true true bytes form k = let same : u ≡ t = cc in (same, of_form t bytes form)
    by_tests true false bytes form k = absurd (cc)
    by_tests false w bytes form k = absurd (cc)

-- what has no fault is such an address
pub fault_none : (t : List ℕ) → fault t ≡ None → IsFuture t
fault_none t h = (future_found t t (ap (λ o. unless_fault o t) h)).1

-- ---- in lower case it is one

bytes-lowered : (p : ℕ → Bool) → ((b : ℕ) → p b ≡ true → p (to_ascii_lowercase b) ≡ true) → (t : List ℕ) → list_all p t ≡ true
    → list_all p (str_to_ascii_lowercase t) ≡ true
bytes-lowered p f [] h = refl
bytes-lowered p f (b ∷ t) h = let both = and_parts _ _ h in and_from _ _ (f b both.0) (bytes-lowered p f t both.1)

some-lowered : (p : ℕ → Bool) → ((b : ℕ) → p b ≡ true → p (to_ascii_lowercase b) ≡ true) → (t : List ℕ) → is_some_of p t ≡ true
    → is_some_of p (str_to_ascii_lowercase t) ≡ true
some-lowered p f [] h = h
some-lowered p f (b ∷ t) h = let both = and_parts _ _ h in and_from _ _ (f b both.0) (bytes-lowered p f t both.1)

IsFuture-lowered : (t : List ℕ) → IsFuture t → IsFuture (str_to_ascii_lowercase t)
IsFuture-lowered t f =
    record {
      letter = to_ascii_lowercase f.letter;
      version = str_to_ascii_lowercase f.version;
      address = str_to_ascii_lowercase f.address;
      whole = ap str_to_ascii_lowercase f.whole
          ∙ ap (λ u. to_ascii_lowercase f.letter ∷ u) (map-append to_ascii_lowercase f.version (dot ∷ f.address));
      is_letter = letter-lowered f.letter f.is_letter;
      is_version = some-lowered is_hex hex-lowered f.version f.is_version;
      is_address = some-lowered is_future_byte byte-lowered f.address f.is_address;
    }

pub IsFuture-canonical_lowered : (t : List ℕ) → IsFuture t → IsFuture (canonical_lowered t)
IsFuture-canonical_lowered t f = subst IsFuture (sym (canonical_lowered-plain t (IsFuture-lacks t f))) (IsFuture-lowered t f)

pub IsFuture-twice : (t : List ℕ) → IsFuture t → canonical_lowered (canonical_lowered t) ≡ canonical_lowered t
IsFuture-twice t f = canonical_in-canonical_in Lowered t (well_formed-in_class class.UserInfo t (IsFuture-in_class t f))

-- a text that is kept or put in lower case stays one
pub kept_or_lowered : {E : Type 0} (old new : List ℕ) (r : Result (Unit {0}) E) → IsFuture old → OnOk r (new ≡ canonical_lowered old) → OnErr r (new ≡ old)
    → IsFuture new
kept_or_lowered old new (Ok u) is ok err = subst IsFuture (sym ok) (IsFuture-canonical_lowered old is)
kept_or_lowered old new (Err e) is ok err = subst IsFuture (sym err) is
