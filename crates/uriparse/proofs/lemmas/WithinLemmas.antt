-- URIs below other URIs.
use Rattle.std.proofs.Common.{◌≡◌, ◌↔◌, ℕ, ◌<◌, Bool, false, List, Option, Some, None, sym, ap, subst, ◌∙◌, arith}
use Rattle.std.specs.Prelude.{IfSome, IsTrue}
use Rattle.std.proofs.lemmas.Bool.{cond-false}
use Rattle.std.proofs.lemmas.Slice.Eq.{bytes_eq-Decides}
use Rattle.uriparse_authority.specs.Authority as authority
use Rattle.uriparse_authority.specs.Port as port
use Rattle.uriparse_authority.proofs.lemmas.authorities.AuthorityLemmas.{tested}
use Rattle.uriparse_path.specs.Path.{has_hidden_root, spelled, text}
use Rattle.uriparse_path.specs.Normal.{pnormal}
use Rattle.uriparse_path.specs.Within.{IsPathWithin, removes_unclear}
use Rattle.uriparse_path.proofs.lemmas.text.PathTextLemmas.{spelled-text}
use Rattle.uriparse_scheme.specs.declared.scheme.Scheme.{Scheme}
use Rattle.uriparse_reference.specs.Reference.{Parts, Valid}
use Rattle.uriparse.specs.Within.{IsSamePlace, IsWithin}

-- ---- authorities with the ports that they use

pub port_fits : (n : Option ℕ) → IfSome n (λ k. k < 65536) → IfSome n port.IsPort
port_fits None h = h
port_fits (Some n) h = omega (arith, h)

pub valid_with_port : (a : authority.AuthorityParts) (n : Option ℕ) → authority.Valid a → IfSome n port.IsPort → authority.Valid (authority.with_port a n)
valid_with_port a n v h = record { is_username = v.is_username; is_password = v.is_password; paired = v.paired; is_host = v.is_host; is_port = h }

pub same_authority : (a b : authority.AuthorityParts) (m n : Option ℕ) (r : Bool) → authority.Valid a → authority.Valid b → IfSome m port.IsPort → IfSome n port.IsPort
    → r ≡ authority.each_alike (authority.with_port a m) (authority.with_port b n)
    → IsTrue r ↔ (authority.key (authority.with_port a m) ≡ authority.key (authority.with_port b n))
same_authority a b m n r v w f g e =
    let test = e ∙ tested (authority.with_port a m) (authority.with_port b n) (valid_with_port a m v f) (valid_with_port b n w g) in
    let decides = bytes_eq-Decides (authority.key (authority.with_port a m)) (authority.key (authority.with_port b n)) in
    ((λ h. decides.0 (sym test ∙ h)), (λ h. test ∙ decides.1 h))

-- ---- paths in their texts

pub path_of_text : (p : Parts) (t : List ℕ) → Valid p → t ≡ text p.path → spelled t ≡ p.path
path_of_text p t v e = ap spelled e ∙ spelled-text p.path v.is_path ∙ cond-false (has_hidden_root p.path) _ _ v.plain

pub shown_text : (p : Parts) (t : List ℕ) → Valid p → t ≡ text p.path → has_hidden_root (spelled t) ≡ false
shown_text p t v e = ap has_hidden_root (path_of_text p t v e) ∙ v.plain

pub within_texts : (p b : Parts) (t u : List ℕ) (r : Bool) → Valid p → Valid b → t ≡ text p.path → u ≡ text b.path
    → IsSamePlace p.scheme b.scheme p.authority b.authority
    → IsTrue r ↔ (IsPathWithin (pnormal (spelled t) false) (pnormal (spelled u) false) × (removes_unclear (spelled t) ≡ false)) → IsTrue r ↔ IsWithin p b
within_texts p b t u r v w e f place iff =
    let both : IsTrue r ↔ (IsPathWithin (pnormal p.path false) (pnormal b.path false) × (removes_unclear p.path ≡ false)) =
    subst (λ q. IsTrue r ↔ (IsPathWithin (pnormal p.path false) (pnormal q false) × (removes_unclear p.path ≡ false))) (path_of_text b u w f)
    (subst (λ q. IsTrue r ↔ (IsPathWithin (pnormal q false) (pnormal (spelled u) false) × (removes_unclear q ≡ false))) (path_of_text p t v e) iff) in
    ((λ h. let is = both.0 h in record { place = place; path = is.0; clear = is.1 }), (λ h. both.1 (h.path, h.clear)))

pub place_along : (s r t u : Option Scheme) (a b d e : Option authority.AuthorityParts) → s ≡ r → t ≡ u → a ≡ b → d ≡ e → IsSamePlace s t a d → IsSamePlace r u b e
place_along s r t u a b d e f g h i p =
    subst (λ x. IsSamePlace r u b x) i (subst (λ x. IsSamePlace r u x d) h (subst (λ x. IsSamePlace r x a d) g (subst (λ x. IsSamePlace x t a d) f p)))
