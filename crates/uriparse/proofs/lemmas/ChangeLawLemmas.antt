-- What the strings of a changed reference are cut into.
use Rattle.std.proofs.Common.{◌≡◌, ℕ, List, Ok, refl, sym, ap, ◌∙◌, subst}
use Rattle.std.specs.Prelude.{IfSome, is_some}
use Rattle.std.specs.Option.{option_map}
use Rattle.uriparse_text.specs.declared.internal.class.Class.TheVariants as class
use Rattle.uriparse_text.specs.Query as query
use Rattle.uriparse_text.specs.Query.{IsQuery}
use Rattle.uriparse_text.specs.Readings.{of_piece, if_present}
use Rattle.uriparse_text.proofs.lemmas.readings.ReadingLemmas.{bind_ok, piece_found, present_found, texts_found}
use Rattle.uriparse_scheme.specs.Scheme as scheme
use Rattle.uriparse_reference.specs.Change.{AuthorityStrings, Strings, after_authority, authority_if, authority_whole, changed, changed_authority, changed_strings, changing, path_reading, strings, strings_reading, viewed_strings, whole, with_authority}
use Rattle.uriparse_reference.specs.Cuts.{fragment_text, query_text, scheme_text}
use Rattle.uriparse_reference.specs.Reference.{Parts, path_refusal}
use Rattle.uriparse_reference.specs.View.{Viewed}
use Rattle.uriparse_reference.specs.Wanted.{Wanted}
use Rattle.uriparse_reference.specs.declared.uri_reference.change.ChangeError.TheVariants as errors
use Rattle.uriparse_reference.specs.declared.uri_reference.error.URIReferenceError.TheVariants as faults
use Rattle.uriparse_reference.proofs.lemmas.edits.ChangeLemmas.{ArePaired, authority_found, changed_paired, if_there, path_found, placed_fit, placed_path, scheme_exact, still_there}
use Rattle.uriparse_reference.proofs.lemmas.reading.CutLemmas.{ArePieces, IsCutInto, cut_again}
use Rattle.uriparse_reference.proofs.lemmas.reading.ReadingLemmas.{authorities_end, schemes_are}

pieces_of : (s : Strings) (p : Parts) → ArePaired s.authority → strings_reading s ≡ Ok p
    → ArePieces s.scheme (option_map authority_whole s.authority) (after_authority (is_some s.authority) s.path) s.query
pieces_of s p pair k =
    let has = is_some s.authority in
    let x = bind_ok (of_piece faults.Scheme (if_present scheme.reading s.scheme)) _ p k in
    let y = bind_ok (of_piece faults.Authority (authority_if s.authority)) _ p x.2 in
    let z = bind_ok (path_reading (is_some s.scheme) has s.path) _ p y.2 in
    let v = bind_ok (of_piece faults.Query (if_present query.reading s.query)) _ p z.2 in
    let d = texts_found class.Query query.error_of s.query v.0 (piece_found faults.Query _ v.0 v.1) in
    let f = path_found (is_some s.scheme) has s.path z.0 z.1 in
    record {
      is_scheme = (schemes_are s.scheme x.0 (present_found scheme.Spells scheme.reading scheme_exact s.scheme x.0 (piece_found faults.Scheme _ x.0 x.1))).0;
      is_authority = authorities_end (option_map authority_whole s.authority) y.0 (authority_found s.authority y.0 pair (piece_found faults.Authority _ y.0 y.1));
      is_path = placed_path has s.path f.0;
      abempty = if_there s.authority s.path;
      fit = ap (λ b. path_refusal (is_some s.scheme) b (after_authority has s.path)) (still_there s.authority) ∙ placed_fit (is_some s.scheme) has s.path f.1;
      is_query = subst (λ o. IfSome o IsQuery) d.0 d.1;
    }

-- what the string that they make is cut into
pub whole_cut : (s : Strings) (p : Parts) → ArePaired s.authority → strings_reading s ≡ Ok p
    → IsCutInto (whole s) s.scheme (option_map authority_whole s.authority) (after_authority (is_some s.authority) s.path) s.query s.fragment
whole_cut s p pair k = cut_again (whole s) s.scheme (option_map authority_whole s.authority) (after_authority (is_some s.authority) s.path) s.query s.fragment
    (pieces_of s p pair k) refl

pub made_cut : (c : Wanted) (t : List ℕ) (v : Viewed) → changing c t ≡ Ok v
    → (x : Strings) × (changed_strings c (strings t) ≡ Ok x)
    × IsCutInto v.text x.scheme (option_map authority_whole x.authority) (after_authority (is_some x.authority) x.path) x.query x.fragment
unfolding changing
made_cut c t v h =
    let x = bind_ok (changed_strings c (strings t)) viewed_strings v h in
    let y = bind_ok (of_piece errors.Reference (strings_reading x.0)) _ v x.2 in
    let same : record { text = whole x.0; parts = y.0 } ≡ v = cc (y.2) in (
      x.0,
      x.1,
      subst (λ (q : Viewed). IsCutInto q.text x.0.scheme (option_map authority_whole x.0.authority) (after_authority (is_some x.0.authority) x.0.path) x.0.query x.0.fragment)
          same (whole_cut x.0 y.0 (changed_paired c (strings t) x.0 x.1) (piece_found errors.Reference _ y.0 y.1)),
    )

-- the changed strings, apart from the authority
ends_made : (c : Wanted) (s x : Strings) → changed_strings c s ≡ Ok x
    → (x.scheme ≡ changed c.scheme s.scheme) × (x.query ≡ changed c.query s.query) × (x.fragment ≡ changed c.fragment s.fragment)
ends_made c s x e =
    let y = bind_ok (changed_authority c s.authority (changed c.host (option_map (λ (a : AuthorityStrings). a.host) s.authority))) _ x e in
    let same : with_authority c s y.0 ≡ x = cc (y.2) in
    (ap (λ (q : Strings). q.scheme) (sym same), ap (λ (q : Strings). q.query) (sym same), ap (λ (q : Strings). q.fragment) (sym same))

pub scheme_made : (c : Wanted) (t : List ℕ) (v : Viewed) → changing c t ≡ Ok v → scheme_text v.text ≡ changed c.scheme (scheme_text t)
scheme_made c t v h = let m = made_cut c t v h in m.2.scheme ∙ (ends_made c (strings t) m.0 m.1).0

pub query_made : (c : Wanted) (t : List ℕ) (v : Viewed) → changing c t ≡ Ok v → query_text v.text ≡ changed c.query (query_text t)
query_made c t v h = let m = made_cut c t v h in m.2.query ∙ (ends_made c (strings t) m.0 m.1).1

pub fragment_made : (c : Wanted) (t : List ℕ) (v : Viewed) → changing c t ≡ Ok v → fragment_text v.text ≡ changed c.fragment (fragment_text t)
fragment_made c t v h = let m = made_cut c t v h in m.2.fragment ∙ (ends_made c (strings t) m.0 m.1).2
