-- Reading the text after an authority, component by component.
use Rattle.std.proofs.Common.{◌≡◌, ℕ, Bool, List, Option, Some, None, Ok, Err, refl, sym, ap, ◌∙◌}
use Rattle.std.specs.Prelude.{Result}
use Rattle.uriparse_text.specs.Bytes.{number_sign}
use Rattle.uriparse_text.specs.Cuts.{after, up_to, from_first}
use Rattle.uriparse_text.specs.Readings.{◌>>=◌, if_present, of_piece, unless_fault}
use Rattle.uriparse_text.specs.Query as query
use Rattle.uriparse_text.specs.Fragment as fragment
use Rattle.uriparse_text.specs.declared.segment.error.PathError.{PathError}
use Rattle.uriparse_path.specs.Path.{PathParts}
use Rattle.uriparse_path.specs.Faults as paths
use Rattle.uriparse_path.specs.Faults.{ends_path}
use Rattle.uriparse_reference.specs.declared.uri_reference.error.URIReferenceError.{URIReferenceError}
use Rattle.uriparse_reference.specs.declared.uri_reference.error.URIReferenceError.TheVariants as errors
use Rattle.uriparse_reference.specs.Reference.{path_of, path_refusal}
use Rattle.uriparse_reference.specs.Cuts.{tail_query, tail_fragment}
use Rattle.uriparse_reference.specs.Reading.{after_reading, tail_reading, text_tail}
use Rattle.uriparse_reference.proofs.lemmas.reading.CutLemmas.{query_cut, fragment_cut}

abbrev pub Tail : Type 0
Tail = PathParts × Option (List ℕ) × Option (List ℕ)

abbrev pub with_path : PathParts → Option (List ℕ) × Option (List ℕ) → Tail
with_path p x = (p, x.0, x.1)

module _ (v w : Bool) where
  module _ (h : List ℕ) (q f : Option (List ℕ)) where
    path_first : (e : PathError) → paths.fault h ≡ Some e → tail_reading v w h q f ≡ Err (errors.Path e)
    path_first e is = rw is refl

    module _ (none : paths.fault h ≡ None) where
      offset_next : (e : URIReferenceError) → path_refusal v w h ≡ Some e → tail_reading v w h q f ≡ Err e
      offset_next e is = rw (none, is) refl

      after_last : path_refusal v w h ≡ None → tail_reading v w h q f ≡ (after_reading q f >>= λ x. Ok (with_path (path_of w h) x))
      after_last is =
          rw (none, is) (by_results (of_piece errors.Query (if_present query.reading q)) (of_piece errors.Fragment (if_present fragment.reading f)))
        where
          by_results : (q f : Result (Option (List ℕ)) URIReferenceError)
              → (q >>= λ y. f >>= λ z. Ok (with_path (path_of w h) (y, z))) ≡ ((q >>= λ y. f >>= λ z. Ok (y, z)) >>= λ x. Ok (with_path (path_of w h) x))
          by_results (Ok y) (Ok z) = refl
          by_results (Ok y) (Err e) = refl
          by_results (Err e) f = refl

  module _ (u : List ℕ) where
    tail_is : text_tail v w u
        ≡ tail_reading v w (up_to ends_path u) (tail_query (from_first ends_path u)) (tail_fragment (from_first ends_path u))
    tail_is =
        ap (λ q. tail_reading v w (up_to ends_path u) q (after number_sign u)) (sym (query_cut u))
        ∙ ap (tail_reading v w (up_to ends_path u) (tail_query (from_first ends_path u))) (sym (fragment_cut u))

    pub refused_path : (e : PathError) → paths.fault (up_to ends_path u) ≡ Some e → text_tail v w u ≡ Err (errors.Path e)
    refused_path e is = tail_is ∙ path_first (up_to ends_path u) _ _ e is

    module _ (h back : List ℕ) (none : paths.fault (up_to ends_path u) ≡ None) (front : h ≡ up_to ends_path u) (rest : back ≡ from_first ends_path u) where
      pub refused_offset : (e : URIReferenceError) → path_refusal v w h ≡ Some e → text_tail v w u ≡ Err e
      refused_offset e is = tail_is ∙ offset_next (up_to ends_path u) _ _ none e (ap (path_refusal v w) (sym front) ∙ is)

      module _ (placed : path_refusal v w h ≡ None) where
        read_is : (r : Result (Option (List ℕ) × Option (List ℕ)) URIReferenceError) → r ≡ after_reading (tail_query back) (tail_fragment back)
            → text_tail v w u ≡ (r >>= λ x. Ok (with_path (path_of w h) x))
        read_is r is =
            tail_is ∙ after_last (up_to ends_path u) _ _ none (ap (path_refusal v w) (sym front) ∙ placed)
            ∙ ap (λ b. after_reading (tail_query b) (tail_fragment b) >>= λ x. Ok (with_path (path_of w (up_to ends_path u)) x)) (sym rest)
            ∙ ap (λ r. r >>= λ x. Ok (with_path (path_of w (up_to ends_path u)) x)) (sym is)
            ∙ ap (λ t. r >>= λ x. Ok (with_path (path_of w t) x)) (sym front)

        pub refused_after : (e : URIReferenceError) → Err e ≡ after_reading (tail_query back) (tail_fragment back) → text_tail v w u ≡ Err e
        refused_after e is = read_is (Err e) is

        pub accepted_tail : (x : Option (List ℕ) × Option (List ℕ)) → Ok x ≡ after_reading (tail_query back) (tail_fragment back)
            → text_tail v w u ≡ Ok (with_path (path_of w h) x)
        accepted_tail x is = read_is (Ok x) is

-- a path that is accepted, and one that is rejected
pub is_placed : (o : Option URIReferenceError) → ◌≡◌ {A = Result (Unit {0}) URIReferenceError} (Ok tt) (unless_fault o tt) → o ≡ None
is_placed None h = refl
is_placed (Some e) h = cc

pub is_refused : (o : Option URIReferenceError) (e : URIReferenceError) → ◌≡◌ {A = Result (Unit {0}) URIReferenceError} (Err e) (unless_fault o tt) → o ≡ Some e
is_refused None e h = cc
is_refused (Some x) e h = let same : x ≡ e = cc in ap Some same
