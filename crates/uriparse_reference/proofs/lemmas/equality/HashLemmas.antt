-- What a hasher is fed for a reference, component by component, and by its key alone.
use Rattle.std.proofs.Common.{◌≡◌, ℕ, List, ◌∷◌, ◌++◌, fold, Option, Some, None, refl, sym, ap, ◌∙◌}
use Rattle.std.specs.Prelude.{IfSome}
use Rattle.std.specs.Option.{option_map}
use Rattle.std.specs.Hash.{HashWrites, option}
use Rattle.std.proofs.lemmas.Grind.{fold-append}
use Rattle.uriparse_text.specs.Canonical.{canonical, fed_text}
use Rattle.uriparse_text.proofs.lemmas.readings.OptionLemmas.{fed_option}
use Rattle.uriparse_path.specs.Path as path
use Rattle.uriparse_authority.specs.Authority as authority
use Rattle.uriparse_authority.specs.Authority.{AuthorityParts}
use Rattle.uriparse_authority.proofs.lemmas.authorities.AuthorityLemmas as authorities
use Rattle.uriparse_scheme.specs.Scheme as scheme
use Rattle.uriparse_reference.specs.Reference.{Parts, Valid, canonical_text}
use Rattle.uriparse_reference.specs.Reference.{kind}
use Rattle.uriparse_reference.specs.Cuts.{authority_text, path_text, query_text, fragment_text}
use Rattle.uriparse_reference.specs.Key.{kind_code, key, fed, fed_pieces, fed_key}
use Rattle.uriparse_reference.proofs.lemmas.reading.CutLemmas.{IsCutInto}
use Rattle.uriparse_reference.proofs.lemmas.equality.EqualityLemmas.{canonical_cut}

fed_authority : (a : Option AuthorityParts)
    → option (λ t. authority.fed_key (kind_code (option_map authority.kind a) ∷ t)) (option_map authority.canonical_text a)
    ≡ option (λ b. authority.fed_key (authority.key b)) a
fed_authority None = refl
fed_authority (Some a) = refl

-- the key of an authority determines what is fed for it
fed_held : (a : Option AuthorityParts) → IfSome a authority.Valid → option (λ b. authority.fed_key (authority.key b)) a ≡ option authority.fed a
fed_held None v = refl
fed_held (Some a) v = ap (λ w. option (λ (n : ℕ). w) (Some 0)) (authorities.fed_parts a v)

fed_cut : (code : ℕ) (t : List ℕ) (s a : Option (List ℕ)) (h : List ℕ) (q f : Option (List ℕ)) → IsCutInto t s a h q f
    → fed_key (code ∷ t) ≡ fed_pieces code s a h q f
fed_cut code t s a h q f cut =
    ap (λ x. fed_pieces code x (authority_text t) (path_text t) (query_text t) (fragment_text t)) cut.scheme
    ∙ ap (λ x. fed_pieces code s x (path_text t) (query_text t) (fragment_text t)) cut.authority
    ∙ ap (λ x. fed_pieces code s a x (query_text t) (fragment_text t)) cut.path
    ∙ ap (λ x. fed_pieces code s a h x (fragment_text t)) cut.query
    ∙ ap (λ x. fed_pieces code s a h q x) cut.fragment

-- the key alone determines it
pub fed_parts : (p : Parts) → Valid p → fed_key (key p) ≡ fed p
fed_parts p v =
    fed_cut (kind_code (kind p)) (canonical_text p) (option_map scheme.canonical_text p.scheme) (option_map authority.canonical_text p.authority)
    (canonical (path.text p.path)) (option_map canonical p.query) (option_map canonical p.fragment) (canonical_cut p v)
    ∙ rw (
      fed_option scheme.canonical_text fed_text p.scheme,
      fed_authority p.authority,
      fed_held p.authority v.is_authority,
      fed_option canonical fed_text p.query,
      fed_option canonical fed_text p.fragment,
    ) refl

pub feeds_key : {S : Type 0} (write : S → List ℕ → S) (s t : S) (p : Parts) → Valid p → t ≡ fold write s (fed p) → t ≡ fold write s (fed_key (key p))
feeds_key write s t p v e = e ∙ sym (ap (fold write s) (fed_parts p v))

-- five lists of writes, one after another
fed_in_turn : {S : Type 0} (write : S → List ℕ → S) (s : S) (a b c d e : HashWrites)
    → fold write (fold write (fold write (fold write (fold write s a) b) c) d) e ≡ fold write s (a ++ (b ++ (c ++ (d ++ e))))
fed_in_turn write s a b c d e =
    sym (fold-append write s a (b ++ (c ++ (d ++ e)))
    ∙ fold-append write (fold write s a) b (c ++ (d ++ e))
    ∙ fold-append write (fold write (fold write s a) b) c (d ++ e)
    ∙ fold-append write (fold write (fold write (fold write s a) b) c) d e)

-- the components are fed one after another
pub fed_by_turns : {S : Type 0} (write : S → List ℕ → S) (s₀ s₁ s₂ s₃ s₄ s₅ : S) (p : Parts) → Valid p
    → s₁ ≡ fold write s₀ (option (λ s. fed_text (scheme.canonical_text s)) p.scheme)
    → s₂ ≡ fold write s₁ (option (λ a. authority.fed_key (authority.key a)) p.authority)
    → s₃ ≡ fold write s₂ (path.fed (canonical (path.text p.path)))
    → s₄ ≡ fold write s₃ (option (λ q. fed_text (canonical q)) p.query)
    → s₅ ≡ fold write s₄ (option (λ f. fed_text (canonical f)) p.fragment)
    → s₅ ≡ fold write s₀ (fed p)
fed_by_turns write s₀ s₁ s₂ s₃ s₄ s₅ p v a b c d e =
    let held : s₂ ≡ fold write s₁ (option authority.fed p.authority) = b ∙ ap (fold write s₁) (fed_held p.authority v.is_authority) in
    rw (e, d, c, held, a) (fed_in_turn write s₀
    (option (λ s. fed_text (scheme.canonical_text s)) p.scheme)
    (option authority.fed p.authority)
    (path.fed (canonical (path.text p.path)))
    (option (λ q. fed_text (canonical q)) p.query)
    (option (λ f. fed_text (canonical f)) p.fragment))
