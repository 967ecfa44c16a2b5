-- The source of a text's fault, and faults that no text has.
use Rattle.std.proofs.Common.{◌≡◌, ℕ, Bool, true, false, cond, List, [], ◌∷◌, drop, Option, Some, None, Ok, Err, inl, inr, refl, sym, ap, ◌∙◌}
use Rattle.std.specs.Prelude.{◌⊎◌, ◌||◌, ◌&&◌, Result, is_some}
use Rattle.std.proofs.lemmas.Bool.{false≢true}
use Rattle.std.specs.Option.{option_map}
use Rattle.uriparse_text.specs.declared.fragment.FragmentError.{FragmentError}
use Rattle.uriparse_text.specs.declared.query.QueryError.{QueryError}
use Rattle.uriparse_text.specs.Cuts.{up_to, from_first}
use Rattle.uriparse_text.specs.Readings.{◌>>=◌, fault_in, if_present, of_piece, some_of, unless_fault}
use Rattle.uriparse_text.specs.Query as query
use Rattle.uriparse_text.specs.Fragment as fragment
use Rattle.uriparse_text.specs.declared.segment.error.PathError.{PathError}
use Rattle.uriparse_text.specs.declared.segment.error.PathError.TheVariants.{OutOfMemory}
use Rattle.uriparse_path.specs.Path.{has_two_slashes, is_rooted, is_slash, spelled}
use Rattle.uriparse_path.specs.Faults as paths
use Rattle.uriparse_path.specs.Faults.{ends_path}
use Rattle.uriparse_path.proofs.lemmas.reading.LengthFaultLemmas.{never_memory}
use Rattle.uriparse_authority.specs.declared.authority.error.AuthorityError.{AuthorityError}
use Rattle.uriparse_authority.specs.Authority as authority
use Rattle.uriparse_authority.specs.Authority.{AuthorityParts, ends_authority}
use Rattle.uriparse_authority.specs.declared.authority.error.AuthorityError.TheVariants as authority_errors
use Rattle.uriparse_authority.specs.declared.authority.error.HostError.TheVariants as host_errors
use Rattle.uriparse_authority.specs.declared.authority.error.UsernameError.TheVariants as username_errors
use Rattle.uriparse_authority.proofs.lemmas.authorities.FaultLemmas as never
use Rattle.uriparse_scheme.specs.declared.scheme.error.SchemeError.{SchemeError}
use Rattle.uriparse_scheme.specs.Scheme as scheme
use Rattle.uriparse_reference.specs.declared.uri_reference.error.URIReferenceError.{URIReferenceError}
use Rattle.uriparse_reference.specs.declared.uri_reference.error.URIReferenceError.TheVariants as errors
use Rattle.uriparse_reference.specs.Reference.{is_noscheme, path_of, path_refusal}
use Rattle.uriparse_reference.specs.Cuts.{after_scheme, authority_text, fragment_text, path_text, query_text, scheme_text}
use Rattle.uriparse_reference.specs.Reading.{fault, path_reading, reading}

-- the fault of a text is that of one of its components, or that its path may not follow the scheme and the authority
pub data Source (t : List ℕ) (e : URIReferenceError) : Type 0 where
  of_authority : (a : List ℕ) (x : AuthorityError) → authority.fault a ≡ Some x → errors.Authority x ≡ e → Source t e
  of_path : (x : PathError) → paths.fault (path_text t) ≡ Some x → errors.Path x ≡ e → Source t e
  of_offset : path_refusal (is_some (scheme_text t)) (is_some (authority_text t)) (path_text t) ≡ Some e → Source t e
  of_query : (x : QueryError) → errors.Query x ≡ e → Source t e
  of_fragment : (x : FragmentError) → errors.Fragment x ≡ e → Source t e

piece_told : {A E : Type 0} (told : E → URIReferenceError) (r : Result A E) (e : URIReferenceError) → fault_in (of_piece told r) ≡ Some e → (x : E) × (told x ≡ e)
piece_told told (Ok a) e h = absurd (cc)
piece_told told (Err x) e h = (x, cc)

authority_told : (o : Option (List ℕ)) (e : URIReferenceError) → fault_in (of_piece errors.Authority (if_present authority.reading o)) ≡ Some e
    → (a : List ℕ) × (x : AuthorityError) × (authority.fault a ≡ Some x) × (errors.Authority x ≡ e)
authority_told None e h = absurd (cc)
authority_told (Some a) e h = by_reading (authority.reading a) refl h
  where
    by_reading : (r : Result AuthorityParts AuthorityError) → authority.reading a ≡ r → fault_in (of_piece errors.Authority (some_of r)) ≡ Some e
        → (a : List ℕ) × (x : AuthorityError) × (authority.fault a ≡ Some x) × (errors.Authority x ≡ e)
    by_reading (Ok p) f k = absurd (cc)
    by_reading (Err x) f k = (a, x, ap fault_in f, cc)

-- the fault of four results in sequence is that of one of them
pub by_results : {A B C D E : Type 0} (a : Result A URIReferenceError) (b : Result B URIReferenceError) (c : Result C URIReferenceError)
    (d : Result D URIReferenceError) (make : A → B → C → D → E) (e : URIReferenceError)
    → fault_in (a >>= λ x. b >>= λ y. c >>= λ z. d >>= λ w. Ok (make x y z w)) ≡ Some e
    → (fault_in a ≡ Some e) ⊎ ((fault_in b ≡ Some e) ⊎ ((fault_in c ≡ Some e) ⊎ (fault_in d ≡ Some e)))
by_results (Err x) b c d make e h = inl h
by_results (Ok a) (Err x) c d make e h = inr (inl h)
by_results (Ok a) (Ok b) (Err x) d make e h = inr (inr (inl h))
by_results (Ok a) (Ok b) (Ok c) (Err x) make e h = inr (inr (inr h))
by_results (Ok a) (Ok b) (Ok c) (Ok d) make e h = absurd (cc)

path_told : (v w : Bool) (h : List ℕ) (e : URIReferenceError) → fault_in (path_reading v w h) ≡ Some e
    → ((x : PathError) × (paths.fault h ≡ Some x) × (errors.Path x ≡ e)) ⊎ (path_refusal v w h ≡ Some e)
path_told v w h e = by_fault (paths.fault h) refl
  where
    by_offset : (o : Option URIReferenceError) → fault_in (unless_fault o (path_of w h)) ≡ Some e → o ≡ Some e
    by_offset None k = absurd (cc)
    by_offset (Some x) k = k

    by_fault : (o : Option PathError) → paths.fault h ≡ o
        → fault_in (of_piece errors.Path (unless_fault o (spelled h)) >>= λ _. unless_fault (path_refusal v w h) (path_of w h)) ≡ Some e
        → ((x : PathError) × (paths.fault h ≡ Some x) × (errors.Path x ≡ e)) ⊎ (path_refusal v w h ≡ Some e)
    by_fault None f k = inr (by_offset (path_refusal v w h) k)
    by_fault (Some x) f k = inl (x, f, cc)

pub source : (t : List ℕ) (e : URIReferenceError) → fault t ≡ Some e → Source t e
unfolding reading
source t e h =
    told (by_results (of_piece errors.Authority (if_present authority.reading (authority_text t)))
    (path_reading (is_some (scheme_text t)) (is_some (authority_text t)) (path_text t)) (of_piece errors.Query (if_present query.reading (query_text t)))
    (of_piece errors.Fragment (if_present fragment.reading (fragment_text t)))
    (λ a p q f. record { scheme = option_map scheme.named (scheme_text t); authority = a; path = p; query = q; fragment = f }) e h)
  where
    told : (fault_in (of_piece errors.Authority (if_present authority.reading (authority_text t))) ≡ Some e)
        ⊎ ((fault_in (path_reading (is_some (scheme_text t)) (is_some (authority_text t)) (path_text t)) ≡ Some e)
        ⊎ ((fault_in (of_piece errors.Query (if_present query.reading (query_text t))) ≡ Some e)
        ⊎ (fault_in (of_piece errors.Fragment (if_present fragment.reading (fragment_text t))) ≡ Some e)))
        → Source t e
    told (inl k) = let x = authority_told (authority_text t) e k in of_authority x.0 x.1 x.2 x.3
    told (inr (inl k)) = by_path (path_told (is_some (scheme_text t)) (is_some (authority_text t)) (path_text t) e k)
      where
        by_path : ((x : PathError) × (paths.fault (path_text t) ≡ Some x) × (errors.Path x ≡ e))
            ⊎ (path_refusal (is_some (scheme_text t)) (is_some (authority_text t)) (path_text t) ≡ Some e)
            → Source t e
        by_path (inl x) = of_path x.0 x.1 x.2
        by_path (inr refused) = of_offset refused
    told (inr (inr (inl k))) = let x = piece_told errors.Query _ e k in of_query x.0 x.1
    told (inr (inr (inr k))) = let x = piece_told errors.Fragment _ e k in of_fragment x.0 x.1

-- why a path may not follow the scheme and the authority
offset_told : (v w : Bool) (h : List ℕ) (e : URIReferenceError) → path_refusal v w h ≡ Some e
    → (errors.SchemelessPathStartsWithColonSegment ≡ e)
    ⊎ ((w ≡ false) × (has_two_slashes h ≡ true) × (errors.AbsolutePathStartsWithTwoSlashes ≡ e))
offset_told v true h e k = absurd (cc)
offset_told v false h e k = by_slashes (has_two_slashes h) refl k
  where
    by_colon : (x : Bool) → cond x None (Some errors.SchemelessPathStartsWithColonSegment) ≡ Some e
        → (errors.SchemelessPathStartsWithColonSegment ≡ e)
        ⊎ ((false ≡ false) × (has_two_slashes h ≡ true) × (errors.AbsolutePathStartsWithTwoSlashes ≡ e))
    by_colon true i = absurd (cc)
    by_colon false i = inl cc

    by_slashes : (x : Bool) → has_two_slashes h ≡ x
        → cond x (Some errors.AbsolutePathStartsWithTwoSlashes) (cond (v || is_noscheme h) None (Some errors.SchemelessPathStartsWithColonSegment)) ≡ Some e
        → (errors.SchemelessPathStartsWithColonSegment ≡ e)
        ⊎ ((false ≡ false) × (has_two_slashes h ≡ true) × (errors.AbsolutePathStartsWithTwoSlashes ≡ e))
    by_slashes true f i = inr (refl, f, cc)
    by_slashes false f i = by_colon (v || is_noscheme h) i

-- two leading slashes of a text precede a byte that ends it
two_slashes_front : (p : ℕ → Bool) (u : List ℕ) → has_two_slashes (up_to p u) ≡ true → has_two_slashes u ≡ true
two_slashes_front p [] h = h
two_slashes_front p (b ∷ []) h = elim (p b) as (λ v. has_two_slashes (cond v [] (b ∷ [])) ≡ true → has_two_slashes (b ∷ []) ≡ true) [ true ↦ λ i. absurd (cc) | false ↦ λ i. i ] h
two_slashes_front p (b ∷ c ∷ u) h = by_first (p b) h
  where
    one : (v : Bool) → (v && is_rooted (cond v [] (b ∷ []))) ≡ true → ⊥
    one true i = cc
    one false i = cc

    both : (v : Bool) → (v && is_rooted (cond v (c ∷ up_to p u) (b ∷ c ∷ up_to p u))) ≡ true → (v && is_rooted (cond v (c ∷ u) (b ∷ c ∷ u))) ≡ true
    both true i = i
    both false i = i

    by_second : (v : Bool) → has_two_slashes (b ∷ cond v [] (c ∷ up_to p u)) ≡ true → has_two_slashes (b ∷ c ∷ u) ≡ true
    by_second true i = absurd (one (is_slash b) i)
    by_second false i = both (is_slash b) i

    by_first : (v : Bool) → has_two_slashes (cond v [] (b ∷ up_to p (c ∷ u))) ≡ true → has_two_slashes (b ∷ c ∷ u) ≡ true
    by_first true i = absurd (cc)
    by_first false i = by_second (p c) i

-- a text without an authority has no path that begins with two slashes
pub no_slashes : (t : List ℕ) → is_some (authority_text t) ≡ false → has_two_slashes (path_text t) ≡ true → ⊥
no_slashes t none two = by_slashes (has_two_slashes (after_scheme t)) refl none two
  where
    by_slashes : (v : Bool) → has_two_slashes (after_scheme t) ≡ v → is_some (cond v (Some (up_to ends_authority (drop 2 (after_scheme t)))) None) ≡ false
        → has_two_slashes (up_to ends_path (cond v (from_first ends_authority (drop 2 (after_scheme t))) (after_scheme t))) ≡ true → ⊥
    by_slashes true e i k = cc
    by_slashes false e i k = absurd (false≢true (sym e ∙ two_slashes_front ends_path (after_scheme t) k))

pub never_slashes : (t : List ℕ) → fault t ≡ Some errors.AbsolutePathStartsWithTwoSlashes → ⊥
never_slashes t h = by_source (source t errors.AbsolutePathStartsWithTwoSlashes h)
  where
    by_offset : (errors.SchemelessPathStartsWithColonSegment ≡ errors.AbsolutePathStartsWithTwoSlashes)
        ⊎ ((is_some (authority_text t) ≡ false) × (has_two_slashes (path_text t) ≡ true)
        × (errors.AbsolutePathStartsWithTwoSlashes ≡ errors.AbsolutePathStartsWithTwoSlashes)) → ⊥
    by_offset (inl k) = cc
    by_offset (inr k) = no_slashes t k.0 k.1

    by_source : Source t errors.AbsolutePathStartsWithTwoSlashes → ⊥
    by_source (of_authority a x f k) = cc
    by_source (of_path x f k) = cc
    by_source (of_offset k) = by_offset (offset_told (is_some (scheme_text t)) (is_some (authority_text t)) (path_text t) _ k)
    by_source (of_query x k) = cc
    by_source (of_fragment x k) = cc

-- a fault that is neither a component's nor the path's rule
abbrev IsElsewhere : URIReferenceError → Type 0
IsElsewhere e = (errors.SchemelessPathStartsWithColonSegment ≡ e → ⊥) × (errors.AbsolutePathStartsWithTwoSlashes ≡ e → ⊥)

by_offset : (t : List ℕ) (e : URIReferenceError) → IsElsewhere e → path_refusal (is_some (scheme_text t)) (is_some (authority_text t)) (path_text t) ≡ Some e → ⊥
by_offset t e not k = by_told (offset_told (is_some (scheme_text t)) (is_some (authority_text t)) (path_text t) e k)
  where
    by_told : (errors.SchemelessPathStartsWithColonSegment ≡ e)
        ⊎ ((is_some (authority_text t) ≡ false) × (has_two_slashes (path_text t) ≡ true) × (errors.AbsolutePathStartsWithTwoSlashes ≡ e)) → ⊥
    by_told (inl i) = not.0 i
    by_told (inr i) = not.1 i.2

pub never_missing : (t : List ℕ) → fault t ≡ Some errors.MissingPath → ⊥
never_missing t h = by_source (source t errors.MissingPath h)
  where
    by_source : Source t errors.MissingPath → ⊥
    by_source (of_authority a x f k) = cc
    by_source (of_path x f k) = cc
    by_source (of_offset k) = by_offset t errors.MissingPath (λ i. cc, λ i. cc) k
    by_source (of_query x k) = cc
    by_source (of_fragment x k) = cc

pub never_scheme : (t : List ℕ) (e : SchemeError) → fault t ≡ Some (errors.Scheme e) → ⊥
never_scheme t e h = by_source (source t (errors.Scheme e) h)
  where
    by_source : Source t (errors.Scheme e) → ⊥
    by_source (of_authority a x f k) = cc
    by_source (of_path x f k) = cc
    by_source (of_offset k) = by_offset t (errors.Scheme e) (λ i. cc, λ i. cc) k
    by_source (of_query x k) = cc
    by_source (of_fragment x k) = cc

pub never_want : (t : List ℕ) → fault t ≡ Some (errors.Path OutOfMemory) → ⊥
never_want t h = by_source (source t (errors.Path OutOfMemory) h)
  where
    by_source : Source t (errors.Path OutOfMemory) → ⊥
    by_source (of_authority a x f k) = cc
    by_source (of_path x f k) = let same : x ≡ OutOfMemory = cc in never_memory (path_text t) (f ∙ ap Some same)
    by_source (of_offset k) = by_offset t (errors.Path OutOfMemory) (λ i. cc, λ i. cc) k
    by_source (of_query x k) = cc
    by_source (of_fragment x k) = cc

-- an error that is never an authority's fault
never_authority : (t : List ℕ) (y : AuthorityError) → ((a : List ℕ) → authority.fault a ≡ Some y → ⊥) → fault t ≡ Some (errors.Authority y) → ⊥
never_authority t y none h = by_source (source t (errors.Authority y) h)
  where
    by_source : Source t (errors.Authority y) → ⊥
    by_source (of_authority a x f k) = let same : x ≡ y = cc in none a (f ∙ ap Some same)
    by_source (of_path x f k) = cc
    by_source (of_offset k) = by_offset t (errors.Authority y) (λ i. cc, λ i. cc) k
    by_source (of_query x k) = cc
    by_source (of_fragment x k) = cc

pub never_unsupported : (t : List ℕ) → fault t ≡ Some (errors.Authority (authority_errors.Host host_errors.AddressMechanismNotSupported)) → ⊥
never_unsupported t = never_authority t _ never.never_unsupported

pub never_colon : (t : List ℕ) → fault t ≡ Some (errors.Authority (authority_errors.Username username_errors.ContainsColon)) → ⊥
never_colon t = never_authority t _ never.never_colon
