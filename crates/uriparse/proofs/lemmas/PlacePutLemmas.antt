-- Place keys and prefixes, put together from their ends.
use Rattle.std.proofs.Common.{◌≡◌, ℕ, false, List, [], ◌∷◌, ◌++◌, Option, Some, None, refl, sym, ap, ◌∙◌, append-nil}
use Rattle.std.specs.Option.{option_and_then, option_map}
use Rattle.uriparse_text.specs.Canonical.{canonical}
use Rattle.uriparse_scheme.specs.DefaultPort.{default_port}
use Rattle.uriparse_scheme.specs.Scheme as scheme
use Rattle.uriparse_scheme.specs.declared.scheme.Scheme.{Scheme}
use Rattle.uriparse_authority.specs.Authority.{AuthorityParts}
use Rattle.uriparse_path.specs.Normal.{pnormal}
use Rattle.uriparse_path.specs.Path.{spelled, text}
use Rattle.uriparse_path.specs.Within.{between_slashes}
use Rattle.uriparse_reference.specs.Ports.{default_port_of}
use Rattle.uriparse_reference.specs.Reference.{Parts, Valid}
use Rattle.uriparse.specs.PlaceKey.{authority_text, base_prefix, directory_prefix, place_authority, place_front, place_key, place_path}
use Rattle.uriparse.specs.SortKey.{end, ended, optional}
use Rattle.uriparse.specs.Within.{with_used_port}
use Rattle.uriparse.proofs.lemmas.PlaceKeyLemmas.{front-before}
use Rattle.uriparse.proofs.lemmas.PlaceListLemmas.{ended-before}
use Rattle.uriparse.proofs.lemmas.WithinLemmas.{path_of_text}

used_text : (s : Option Scheme) (o : Option AuthorityParts)
    → authority_text o (option_and_then default_port s) ≡ optional (λ t. t) (option_map place_authority (with_used_port s o))
used_text s None = refl
used_text s (Some a) = refl

pub front_put : (p : Parts) (s : Option Scheme) (a : Option AuthorityParts) (n : Option ℕ) (t : List ℕ) → s ≡ p.scheme → a ≡ p.authority → n ≡ default_port_of p
    → 112 ∷ (authority_text a n ++ (optional ended (option_map scheme.canonical_text s) ++ t)) ≡ place_front p ++ t
front_put p s a n t e f g =
    let last = optional ended (option_map scheme.canonical_text p.scheme) ++ t in
    ap (λ x. 112 ∷ (authority_text a n ++ (optional ended (option_map scheme.canonical_text x) ++ t))) e
    ∙ ap (λ x. 112 ∷ (authority_text x n ++ last)) f
    ∙ ap (λ x. 112 ∷ (authority_text p.authority x ++ last)) g
    ∙ ap (λ x. 112 ∷ (x ++ last)) (used_text p.scheme p.authority)
    ∙ sym (front-before (option_map place_authority (with_used_port p.scheme p.authority)) (option_map scheme.canonical_text p.scheme) t)

pub key_put : (p : Parts) (t : List ℕ) (q f : Option (List ℕ)) → Valid p → t ≡ text p.path → q ≡ p.query → f ≡ p.fragment
    → place_front p ++ (text (pnormal (spelled t) false) ++ (end ∷ (optional ended (option_map canonical q) ++ (optional ended (option_map canonical f) ++ []))))
    ≡ place_key p
key_put p t q f v e g h =
    let query = optional ended (option_map canonical p.query) in
    ap (λ x. place_front p ++ (text (pnormal x false) ++ (end ∷ (optional ended (option_map canonical q) ++ (optional ended (option_map canonical f) ++ [])))))
    (path_of_text p t v e)
    ∙ ap (λ x. place_front p ++ (place_path p ++ (end ∷ (optional ended (option_map canonical x) ++ (optional ended (option_map canonical f) ++ []))))) g
    ∙ ap (λ x. place_front p ++ (place_path p ++ (end ∷ (query ++ (optional ended (option_map canonical x) ++ []))))) h
    ∙ ap (λ x. place_front p ++ (place_path p ++ (end ∷ (query ++ x)))) (append-nil (optional ended (option_map canonical p.fragment)))
    ∙ ap (λ x. place_front p ++ x) (sym (ended-before (place_path p) (query ++ optional ended (option_map canonical p.fragment))))

pub base_put : (p : Parts) (t : List ℕ) → Valid p → t ≡ text p.path
    → place_front p ++ directory_prefix (between_slashes (pnormal (spelled t) false)) ≡ base_prefix p
base_put p t v e = ap (λ x. place_front p ++ directory_prefix (between_slashes (pnormal x false))) (path_of_text p t v e)
