-- Schemes, authorities and texts in canonical spelling.
use Rattle.std.proofs.Common.{◌≡◌, ◌↔◌, ℕ, true, List, Option, Some, None, refl, ap}
use Rattle.std.specs.Prelude.{IfSome, is_some, is_none, bytes_eq}
use Rattle.std.specs.Option.{option_map, option_eq, option_or}
use Rattle.std.proofs.lemmas.Bool.{false≢true}
use Rattle.std.proofs.lemmas.Slice.Eq.{bytes_eq-Decides}
use Rattle.uriparse_text.specs.Canonical.{canonical}
use Rattle.uriparse_authority.specs.Authority as authority
use Rattle.uriparse_authority.specs.Authority.{AuthorityParts, IsPaired}
use Rattle.uriparse_authority.specs.Normal.{canonical_authority}
use Rattle.uriparse_scheme.specs.declared.scheme.Scheme.{Scheme}
use Rattle.uriparse_scheme.specs.Scheme as scheme
use Rattle.uriparse_scheme.specs.Normal.{canonical_scheme}
use Rattle.uriparse_scheme.proofs.lemmas.schemes.NormalLemmas as schemes
use Rattle.uriparse_authority.proofs.lemmas.authorities.NormalLemmas as authorities
pub use Rattle.uriparse_authority.proofs.lemmas.authorities.NormalLemmas.{text_valid, text_twice}

-- ---- schemes

pub scheme-text : (s : Option Scheme) → option_map scheme.text (option_map canonical_scheme s) ≡ option_map scheme.canonical_text s
scheme-text None = refl
scheme-text (Some s) = ap Some (schemes.text-canonical s)

pub scheme_valid : (s : Option Scheme) → IfSome s scheme.Valid → IfSome (option_map canonical_scheme s) scheme.Valid
scheme_valid None v = tt
scheme_valid (Some s) v = schemes.valid_canonical s v

pub scheme_twice : (s : Option Scheme) → IfSome s scheme.Valid → option_map canonical_scheme (option_map canonical_scheme s) ≡ option_map canonical_scheme s
scheme_twice None v = refl
scheme_twice (Some s) v = ap Some (schemes.canonical_twice s v)

-- ---- texts that may be absent

pub same_texts : (x y : Option (List ℕ)) → (option_eq bytes_eq x y ≡ true) ↔ (x ≡ y)
same_texts None None = ((λ h. refl), (λ h. refl))
same_texts None (Some y) = ((λ h. absurd (false≢true h)), (λ h. absurd (cc)))
same_texts (Some x) None = ((λ h. absurd (false≢true h)), (λ h. absurd (cc)))
same_texts (Some x) (Some y) = ((λ h. ap Some ((bytes_eq-Decides x y).0 h)), (λ h. let e : x ≡ y = cc in (bytes_eq-Decides x y).1 e))

pub some_map : {A B : Type 0} (f : A → B) (o : Option A) → is_some (option_map f o) ≡ is_some o
some_map f None = refl
some_map f (Some x) = refl

pub none_map : {A B : Type 0} (f : A → B) (o : Option A) → is_none (option_map f o) ≡ is_none o
none_map f None = refl
none_map f (Some x) = refl

pub map_or : (x y : Option (List ℕ)) → option_map canonical (option_or x y) ≡ option_or (option_map canonical x) (option_map canonical y)
map_or None y = refl
map_or (Some x) y = refl

pub or_valid : (P : List ℕ → Type 0) (x y : Option (List ℕ)) → IfSome x P → IfSome y P → IfSome (option_or x y) P
or_valid P None y h k = k
or_valid P (Some x) y h k = h

-- ---- authorities

pub authority-print : (a : Option AuthorityParts) → option_map authority.print (option_map canonical_authority a) ≡ option_map authority.canonical_text a
authority-print None = refl
authority-print (Some a) = ap Some (authorities.print-canonical a)

pub authority-kind : (a : Option AuthorityParts) → option_map authority.kind (option_map canonical_authority a) ≡ option_map authority.kind a
authority-kind None = refl
authority-kind (Some a) = ap Some (authorities.kind-canonical a)

pub authority_valid : (a : Option AuthorityParts) → IfSome a authority.Valid → IfSome (option_map canonical_authority a) authority.Valid
authority_valid None v = tt
authority_valid (Some a) v = authorities.valid_canonical a v

pub authority_twice : (a : Option AuthorityParts) → IfSome a authority.Valid
    → option_map canonical_authority (option_map canonical_authority a) ≡ option_map canonical_authority a
authority_twice None v = refl
authority_twice (Some a) v = ap Some (authorities.canonical_twice a v)

-- ---- components that are kept

pub scheme_kept : (s : Option Scheme) → option_map scheme.text (option_map canonical_scheme s) ≡ option_map scheme.text s → option_map canonical_scheme s ≡ s
scheme_kept None e = refl
scheme_kept (Some s) e = let texts : scheme.text (canonical_scheme s) ≡ scheme.text s = cc in ap Some (schemes.canonical_kept s texts)

pub authority_kept : (a : Option AuthorityParts) → IfSome a authority.Valid
    → option_map authority.print (option_map canonical_authority a) ≡ option_map authority.print a → option_map canonical_authority a ≡ a
authority_kept None v e = refl
authority_kept (Some a) v e = let texts : authority.print (canonical_authority a) ≡ authority.print a = cc in ap Some (authorities.canonical_kept a v texts)
