-- A reference that is put together from its end in a buffer.
use Rattle.std.proofs.Common.{◌≡◌, ℕ, not, List, [], ◌∷◌, ◌++◌, Option, Some, None, refl, sym, ap, ◌∙◌, arith, append_assoc}
use Rattle.std.specs.Prelude.{is_some, is_none}
use Rattle.std.proofs.Math.ListN.{drop_of_length-le}
use Rattle.std.specs.Option.{option_map}
use Rattle.uriparse_text.specs.declared.internal.token.Case.TheVariants.{Kept, Lowered}
use Rattle.uriparse_text.specs.declared.internal.backward_buffer.Form.{Form}
use Rattle.uriparse_text.specs.declared.internal.backward_buffer.Form.TheVariants.{AsIs, Canonical}
use Rattle.uriparse_text.specs.Bytes.{colon, question_mark, number_sign}
use Rattle.uriparse_text.specs.Cuts.{ahead, following}
use Rattle.uriparse_text.specs.Ends.{EndsWith, formed}
use Rattle.uriparse_path.specs.Path.{PathParts, spelled, text}
use Rattle.uriparse_path.proofs.lemmas.text.PathTextLemmas.{spelled-text}
use Rattle.uriparse_path.specs.Edits.{with_dot_prefix_unless}
use Rattle.uriparse_path.specs.Normal.{normal_at, pnormal}
use Rattle.uriparse_path.specs.declared.path.normal.PathContext.{PathContext}
use Rattle.uriparse_text.specs.Canonical.{canonical}
use Rattle.uriparse_authority.specs.Authority.{AuthorityParts}
use Rattle.uriparse_authority.specs.Authority.{print as print_authority}
use Rattle.uriparse_authority.specs.Normal.{canonical_authority}
use Rattle.uriparse_authority.specs.Ends.{formed_authority}
use Rattle.uriparse_scheme.specs.declared.scheme.Scheme.{Scheme}
use Rattle.uriparse_scheme.specs.Scheme as scheme
use Rattle.uriparse_scheme.specs.Normal.{canonical_scheme}
use Rattle.uriparse_scheme.proofs.lemmas.schemes.NormalLemmas.{text-canonical}
use Rattle.uriparse_reference.specs.Reference.{Parts, Valid, after_slashes, joined, print}
use Rattle.uriparse_reference.specs.Normal.{normal, dot_prefixed}
use Rattle.uriparse_reference.specs.Into.{formed_scheme}
use Rattle.uriparse_reference.proofs.lemmas.edits.PathRuleLemmas.{fits_of}

-- no text at the end of a buffer
pub ends_none : (buffer : List ℕ) → EndsWith buffer 0 []
ends_none buffer = record { size = omega arith; fits = λ h. drop_of_length-le buffer (omega arith) }

pub as_is : (o : Option (List ℕ)) → option_map (formed AsIs Kept) o ≡ o
as_is None = refl
as_is (Some t) = refl

pub scheme_as_is : (o : Option Scheme) → option_map (formed_scheme AsIs) o ≡ o
scheme_as_is None = refl
scheme_as_is (Some s) = refl

pub authority_as_is : (o : Option AuthorityParts) → option_map (formed_authority AsIs) o ≡ o
authority_as_is None = refl
authority_as_is (Some a) = refl

-- a scheme that is present, and a colon
pub scheme_text : (form : Form) (o : Option Scheme) (s : Scheme) (x t : List ℕ) → o ≡ Some s → x ≡ scheme.text s
    → formed form Lowered x ++ (colon ∷ t) ≡ ahead colon (option_map scheme.text (option_map (formed_scheme form) o)) ++ t
scheme_text form o s x t e f =
    ap (λ y. formed form Lowered y ++ (colon ∷ t)) f
    ∙ by_form form
    ∙ sym (ap (λ v. ahead colon (option_map scheme.text (option_map (formed_scheme form) v)) ++ t) e
    ∙ append_assoc (scheme.text (formed_scheme form s)) (colon ∷ []) t)
  where
    by_form : (v : Form) → formed v Lowered (scheme.text s) ++ (colon ∷ t) ≡ scheme.text (formed_scheme v s) ++ (colon ∷ t)
    by_form AsIs = refl
    by_form Canonical = ap (λ u. u ++ (colon ∷ t)) (sym (text-canonical s))

-- the path of a valid reference is that of its text
pub path_spelled : (p : Parts) → Valid p → spelled (text p.path) ≡ p.path
path_spelled p v = let fits = fits_of p v in spelled-text p.path fits.listed ∙ fits.formed

pub shielded_unless : (a : Option AuthorityParts) (q : PathParts) → with_dot_prefix_unless (is_some a) q ≡ dot_prefixed a q
shielded_unless None q = refl
shielded_unless (Some a) q = refl

not_some : {X : Type 0} (o : Option X) → not (is_some o) ≡ is_none o
not_some None = refl
not_some (Some x) = refl

-- the text of the path of a normal form
pub normal_path : (p : Parts) (context : PathContext) → Valid p → context.has_scheme ≡ is_some p.scheme → context.has_authority ≡ is_some p.authority
    → text (normal_at context (spelled (text p.path))) ≡ text (normal p).path
normal_path p context v e f =
    ap (λ q. text (normal_at context q)) (path_spelled p v)
    ∙ ap (λ w. text (with_dot_prefix_unless w (pnormal p.path (not context.has_scheme)))) f
    ∙ ap (λ w. text (with_dot_prefix_unless (is_some p.authority) (pnormal p.path (not w)))) e
    ∙ ap (λ w. text (with_dot_prefix_unless (is_some p.authority) (pnormal p.path w))) (not_some p.scheme)
    ∙ ap text (shielded_unless p.authority (pnormal p.path (is_none p.scheme)))

-- the texts of the components, put together
abbrev pub put : Option Scheme → Option AuthorityParts → List ℕ → Option (List ℕ) → Option (List ℕ) → List ℕ
put s a x q f =
    (ahead colon (option_map scheme.text s) ++ after_slashes (option_map print_authority a)) ++ (x ++ (following question_mark q ++ following number_sign f))

-- as they are, or in canonical spelling
abbrev pub prepend_text : Form → Option Scheme → Option AuthorityParts → List ℕ → Option (List ℕ) → Option (List ℕ) → List ℕ
prepend_text form s a x q f =
    put (option_map (formed_scheme form) s) (option_map (formed_authority form) a) x (option_map (formed form Kept) q) (option_map (formed form Kept) f)

-- those of a reference
pub same_text : (form : Form) (p : Parts) (s : Option Scheme) (a : Option AuthorityParts) (x y : List ℕ) (q f : Option (List ℕ)) → s ≡ p.scheme
    → a ≡ p.authority → x ≡ y → q ≡ p.query → f ≡ p.fragment → prepend_text form s a x q f ≡ prepend_text form p.scheme p.authority y p.query p.fragment
same_text form p s a x y q f e g h i j =
    ap (λ u. prepend_text form u a x q f) e
    ∙ ap (λ u. prepend_text form p.scheme u x q f) g
    ∙ ap (λ u. prepend_text form p.scheme p.authority u q f) h
    ∙ ap (λ u. prepend_text form p.scheme p.authority y u f) i
    ∙ ap (λ u. prepend_text form p.scheme p.authority y p.query u) j

pub normal_text : (p : Parts) → prepend_text Canonical p.scheme p.authority (text (normal p).path) p.query p.fragment ≡ print (normal p)
normal_text p =
    append_assoc (ahead colon (option_map scheme.text (option_map canonical_scheme p.scheme)))
    (after_slashes (option_map print_authority (option_map canonical_authority p.authority)))
    (text (normal p).path ++ (following question_mark (option_map canonical p.query) ++ following number_sign (option_map canonical p.fragment)))

pub joined_text : (s : Option Scheme) (a : Option AuthorityParts) (x : List ℕ) (q f : Option (List ℕ))
    → prepend_text AsIs s a x q f ≡ joined (option_map scheme.text s) (option_map print_authority a) x q f
joined_text s a x q f =
    ap (λ u. put u (option_map (formed_authority AsIs) a) x (option_map (formed AsIs Kept) q) (option_map (formed AsIs Kept) f)) (scheme_as_is s)
    ∙ ap (λ u. put s u x (option_map (formed AsIs Kept) q) (option_map (formed AsIs Kept) f)) (authority_as_is a)
    ∙ ap (λ u. put s a x u (option_map (formed AsIs Kept) f)) (as_is q)
    ∙ ap (put s a x q) (as_is f)
    ∙ append_assoc (ahead colon (option_map scheme.text s)) (after_slashes (option_map print_authority a)) (x ++ (following question_mark q ++ following number_sign f))
