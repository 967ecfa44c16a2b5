-- The bytes that the components of a text do not have.
use Rattle.std.proofs.Common.{◌≡◌, ℕ, Bool, true, false, cond, List, drop, Option, Some, None, refl, ap, ◌∙◌}
use Rattle.std.specs.Prelude.{IfSome}
use Rattle.uriparse_text.specs.Bytes.{colon, question_mark, number_sign}
use Rattle.uriparse_text.specs.Cuts.{lacks, none_pass, before, front, up_to}
use Rattle.uriparse_text.proofs.lemmas.readings.CutLemmas.{lacks-before, lacks-after, before-lacks, up_to-none}
use Rattle.uriparse_path.specs.Path.{has_two_slashes}
use Rattle.uriparse_authority.specs.Authority.{ends_authority}
use Rattle.uriparse_scheme.specs.Scheme as scheme
use Rattle.uriparse_reference.specs.Cuts.{if_scheme, scheme_text, after_scheme, authority_text, after_authority, path_text, query_text}
use Rattle.uriparse_reference.proofs.lemmas.reading.CutLemmas.{path_cut}

-- ---- bytes that a component does not have

pub scheme_is : (t : List ℕ) → IfSome (scheme_text t) (λ s. scheme.is_scheme s ≡ true)
scheme_is t = by_front (front colon t)
  where
    by_test : (s : List ℕ) (v : Bool) → scheme.is_scheme s ≡ v → IfSome (cond v (Some s) None) (λ u. scheme.is_scheme u ≡ true)
    by_test s true e = e
    by_test s false e = tt

    by_front : (o : Option (List ℕ)) → IfSome (if_scheme o) (λ s. scheme.is_scheme s ≡ true)
    by_front None = tt
    by_front (Some s) = by_test s (scheme.is_scheme s) refl

pub authority_lacks : (t : List ℕ) → IfSome (authority_text t) (λ a. none_pass ends_authority a ≡ true)
authority_lacks t = by_slashes (has_two_slashes (after_scheme t))
  where
    by_slashes : (v : Bool) → IfSome (cond v (Some (up_to ends_authority (drop 2 (after_scheme t)))) None) (λ a. none_pass ends_authority a ≡ true)
    by_slashes true = up_to-none ends_authority (drop 2 (after_scheme t))
    by_slashes false = tt

pub path_lacks_question_mark : (t : List ℕ) → lacks question_mark (path_text t) ≡ true
path_lacks_question_mark t = ap (lacks question_mark) (path_cut (after_authority t)) ∙ before-lacks question_mark (before number_sign (after_authority t))

pub path_lacks_number_sign : (t : List ℕ) → lacks number_sign (path_text t) ≡ true
path_lacks_number_sign t = ap (lacks number_sign) (path_cut (after_authority t))
    ∙ lacks-before number_sign question_mark (before number_sign (after_authority t)) (before-lacks number_sign (after_authority t))

pub query_lacks_number_sign : (t : List ℕ) → IfSome (query_text t) (λ q. lacks number_sign q ≡ true)
query_lacks_number_sign t = lacks-after number_sign question_mark (before number_sign (after_authority t)) (before-lacks number_sign (after_authority t))
