-- The strings of the components of a changed reference, read by themselves and together.
use Rattle.std.proofs.Common.{◌≡◌, ℕ, Bool, true, false, cond, List, [], ◌∷◌, ◌++◌, Option, Some, None, Ok, Err, refl, sym, ap, ◌∙◌, subst, append-nil}
use Rattle.std.specs.Prelude.{IfSome, IsOk, MatchResult, Result, is_some, unwrap_or}
use Rattle.std.specs.Option.{option_map, option_or}
use Rattle.std.specs.List.{slice_split}
use Rattle.std.proofs.lemmas.Bool.{false≢true}
use Rattle.uriparse_text.specs.declared.internal.class.Class.TheVariants as class
use Rattle.uriparse_text.specs.Bytes.{slash}
use Rattle.uriparse_text.specs.Cuts.{up_to, from_first}
use Rattle.uriparse_text.specs.Query as query
use Rattle.uriparse_text.specs.Fragment as fragment
use Rattle.uriparse_text.specs.Readings.{◌>>=◌, of_piece, some_of, if_present, unless_fault, IfPresent}
use Rattle.uriparse_text.specs.declared.segment.error.PathError.{PathError}
use Rattle.uriparse_text.proofs.lemmas.readings.CutLemmas.{cut-whole}
use Rattle.uriparse_text.proofs.lemmas.readings.ReadingLemmas.{IsExact, texts_found, present_found, piece_found, bind_ok}
use Rattle.uriparse_path.specs.Path.{PathParts, IsListed, IsPath, is_slash, pieces, spelled}
use Rattle.uriparse_path.specs.Faults as path
use Rattle.uriparse_path.specs.Faults.{ends_path}
use Rattle.uriparse_path.proofs.lemmas.reading.ReadingLemmas.{path_read}
use Rattle.uriparse_authority.specs.Authority as authority
use Rattle.uriparse_authority.specs.Authority.{AuthorityParts, IsPaired, joined, with_empty}
use Rattle.uriparse_authority.specs.Username as username
use Rattle.uriparse_authority.specs.Password as password
use Rattle.uriparse_authority.specs.Host as host
use Rattle.uriparse_authority.specs.Port as port
use Rattle.uriparse_authority.specs.Pieces.{pieces_reading}
use Rattle.uriparse_authority.specs.declared.authority.error.AuthorityError.{AuthorityError}
use Rattle.uriparse_authority.specs.declared.authority.error.AuthorityError.TheVariants as authority_faults
use Rattle.uriparse_authority.proofs.lemmas.authorities.PortLemmas.{port_exact}
use Rattle.uriparse_authority.proofs.lemmas.hosts.HostLemmas.{host_exact}
use Rattle.uriparse_scheme.specs.Scheme as scheme
use Rattle.uriparse_scheme.proofs.lemmas.schemes.SchemeLemmas.{reads}
use Rattle.uriparse_reference.specs.Change.{AuthorityStrings, Strings, after_authority, authority_if, authority_reading, authority_whole, authority_with, changed}
use Rattle.uriparse_reference.specs.Change.{changed_authority, changed_path, changed_strings, changing, end_fault, path_fault, path_reading, sets_beside_host, strings, strings_reading}
use Rattle.uriparse_reference.specs.Change.{viewed_strings, whole, with_authority}
use Rattle.uriparse_reference.specs.Wanted.{Wanted}
use Rattle.uriparse_reference.specs.declared.uri_reference.change.ChangeError.{ChangeError}
use Rattle.uriparse_reference.specs.declared.uri_reference.change.ChangeError.TheVariants as errors
use Rattle.uriparse_reference.specs.declared.uri_reference.error.URIReferenceError.{URIReferenceError}
use Rattle.uriparse_reference.specs.declared.uri_reference.error.URIReferenceError.TheVariants as faults
use Rattle.uriparse_reference.specs.Reference.{Parts, Spells, is_abempty, joined as joined_components, path_of, path_refusal}
use Rattle.uriparse_reference.specs.OwnedText.{IsReference, viewed_in}
use Rattle.uriparse_reference.specs.View.{Viewed}
use Rattle.uriparse_reference.proofs.lemmas.reading.TextEditLemmas.{made_stands}

-- ---- the authority

pub pieces_found : (u w : Option (List ℕ)) (g : List ℕ) (n : Option (List ℕ)) (p : AuthorityParts) → IsPaired u w → pieces_reading u w g n ≡ Ok p
    → authority.Spells (joined u w g n) p
pieces_found u w g n p pair k =
    let x = bind_ok (of_piece authority_faults.Username (if_present username.reading u)) _ p k in
    let y = bind_ok (of_piece authority_faults.Password (if_present password.reading w)) _ p x.2 in
    let z = bind_ok (of_piece authority_faults.Host (host.reading g)) _ p y.2 in
    let v = bind_ok (of_piece authority_faults.Port (port.reading (unwrap_or n []))) _ p z.2 in
    let d = texts_found class.Name username.error_of u x.0 (piece_found authority_faults.Username _ x.0 x.1) in
    let e = texts_found class.UserInfo password.error_of w y.0 (piece_found authority_faults.Password _ y.0 y.1) in
    let same : record { username = x.0; password = y.0; host = z.0; port = v.0 } ≡ p = cc (v.2) in
    subst (λ q. authority.Spells (joined u w g n) q) same
    (record {
      host_text = g;
      port_text = n;
      whole = ap (λ o. joined o w g n) (sym d.0) ∙ ap (λ o. joined x.0 o g n) (sym e.0);
      is_username = d.1;
      is_password = e.1;
      paired = subst (λ o. IsPaired o y.0) (sym d.0) (subst (λ o. IsPaired u o) (sym e.0) pair);
      is_host = host_exact.found g z.0 (piece_found authority_faults.Host _ z.0 z.1);
      is_port = port_exact.found (unwrap_or n []) v.0 (piece_found authority_faults.Port _ v.0 v.1);
    })

abbrev pub ArePaired : Option AuthorityStrings → Type 0
ArePaired o = IfSome o (λ a. IsPaired a.username a.password)

pub authority_found : (o : Option AuthorityStrings) (a : Option AuthorityParts) → ArePaired o → authority_if o ≡ Ok a
    → IfPresent authority.Spells (option_map authority_whole o) a
authority_found None None pair h = tt
authority_found None (Some p) pair h = cc
authority_found (Some s) a pair h = by_reading (authority_reading s) refl a h
  where
    by_reading : (r : Result AuthorityParts AuthorityError) → authority_reading s ≡ r → (a : Option AuthorityParts) → some_of r ≡ Ok a
        → IfPresent authority.Spells (Some (authority_whole s)) a
    by_reading (Ok x) e None k = cc
    by_reading (Ok x) e (Some y) k =
        let p : x ≡ y = cc in pieces_found s.username s.password s.host s.port y pair (e ∙ ap Ok p)
    by_reading (Err y) e a k = cc

-- ---- the path

accepted : {A E : Type 0} (o : Option E) (y x : A) → unless_fault o y ≡ Ok x → (o ≡ None) × (x ≡ y)
accepted None y x h = (refl, cc)
accepted (Some e) y x h = cc

no_fault_in : (a b : Option PathError) → option_or a b ≡ None → (a ≡ None) × (b ≡ None)
no_fault_in None b h = (refl, h)
no_fault_in (Some e) b h = cc

nothing_left : (t : List ℕ) → end_fault t ≡ None → t ≡ []
nothing_left [] h = refl
nothing_left (b ∷ t) h = cc

path_is : (h : List ℕ) → path_fault h ≡ None → IsPath h
path_is h e =
    let x = no_fault_in (path.fault (up_to ends_path h)) (end_fault (from_first ends_path h)) e in
    let front : up_to ends_path h ≡ h =
    sym (append-nil (up_to ends_path h)) ∙ ap (λ u. up_to ends_path h ++ u) (sym (nothing_left (from_first ends_path h) x.1)) ∙ cut-whole ends_path h in
    let fine : path.fault h ≡ None = ap path.fault (sym front) ∙ x.0 in
    (path_read h (spelled h) (ap (λ o. unless_fault o (spelled h)) fine)).0

pub path_found : (v w : Bool) (h : List ℕ) (p : PathParts) → path_reading v w h ≡ Ok p → IsPath h × (path_refusal v w h ≡ None) × (p ≡ path_of w h)
path_found v w h p k =
    let x = bind_ok (of_piece faults.Path (unless_fault (path_fault h) (path_of w h))) _ p k in
    let y = accepted (path_fault h) (path_of w h) x.0 (piece_found faults.Path _ x.0 x.1) in
    let z = accepted (path_refusal v w h) x.0 p x.2 in
    (path_is h y.0, z.0, z.1 ∙ y.1)

-- a slash before a path that has none adds no segment
slashed : (h : List ℕ) → is_abempty h ≡ false → pieces (slash ∷ h) ≡ pieces h
slashed [] e = absurd (false≢true (sym e))
slashed (b ∷ t) e = sym (ap (λ v. slice_split is_slash (cond v t (b ∷ t))) e)

pub placed_path : (w : Bool) (h : List ℕ) → IsPath h → IsPath (after_authority w h)
placed_path false h is = is
placed_path true h is = by_test (is_abempty h) refl
  where
    by_test : (v : Bool) → is_abempty h ≡ v → IsPath (cond v h (slash ∷ h))
    by_test true e = is
    by_test false e = subst IsListed (sym (slashed h e)) is

placed_same : (w : Bool) (h : List ℕ) → path_of w (after_authority w h) ≡ path_of w h
placed_same false h = refl
placed_same true h = by_test (is_abempty h) refl
  where
    by_test : (v : Bool) → is_abempty h ≡ v → path_of true (cond v h (slash ∷ h)) ≡ path_of true h
    by_test true e = refl
    by_test false e = ap (λ ss. record { absolute = true; segments = ss }) (slashed h e)

placed_abempty : (h : List ℕ) → is_abempty (after_authority true h) ≡ true
placed_abempty h = by_test (is_abempty h) refl
  where
    by_test : (v : Bool) → is_abempty h ≡ v → is_abempty (cond v h (slash ∷ h)) ≡ true
    by_test true e = e
    by_test false e = refl

pub placed_fit : (v w : Bool) (h : List ℕ) → path_refusal v w h ≡ None → path_refusal v w (after_authority w h) ≡ None
placed_fit v true h e = refl
placed_fit v false h e = e

-- ---- the whole

pub scheme_exact : IsExact scheme.Spells scheme.reading
scheme_exact = record { again = λ t s h. (reads t s).1 h; found = λ t s h. (reads t s).0 h }

pub still_there : (o : Option AuthorityStrings) → is_some (option_map authority_whole o) ≡ is_some o
still_there None = refl
still_there (Some a) = refl

pub if_there : (o : Option AuthorityStrings) (h : List ℕ) → IfSome (option_map authority_whole o) (λ _. is_abempty (after_authority (is_some o) h) ≡ true)
if_there None h = tt
if_there (Some a) h = placed_abempty h

pub strings_found : (s : Strings) (p : Parts) → ArePaired s.authority → strings_reading s ≡ Ok p → Spells (whole s) p
strings_found s p pair k =
    let has = is_some s.authority in
    let there = still_there s.authority in
    let a = option_map authority_whole s.authority in
    let h = after_authority has s.path in
    let x = bind_ok (of_piece faults.Scheme (if_present scheme.reading s.scheme)) _ p k in
    let y = bind_ok (of_piece faults.Authority (authority_if s.authority)) _ p x.2 in
    let z = bind_ok (path_reading (is_some s.scheme) has s.path) _ p y.2 in
    let v = bind_ok (of_piece faults.Query (if_present query.reading s.query)) _ p z.2 in
    let w = bind_ok (of_piece faults.Fragment (if_present fragment.reading s.fragment)) _ p v.2 in
    let d = texts_found class.Query query.error_of s.query v.0 (piece_found faults.Query _ v.0 v.1) in
    let e = texts_found class.Query fragment.error_of s.fragment w.0 (piece_found faults.Fragment _ w.0 w.1) in
    let f = path_found (is_some s.scheme) has s.path z.0 z.1 in
    let same : record { scheme = x.0; authority = y.0; path = z.0; query = v.0; fragment = w.0 } ≡ p = cc (w.2) in
    subst (λ q. Spells (whole s) q) same
    (record {
      scheme_text = s.scheme;
      authority_text = option_map authority_whole s.authority;
      path_text = after_authority has s.path;
      whole = ap (λ o. joined_components s.scheme a h o s.fragment) (sym d.0) ∙ ap (λ o. joined_components s.scheme a h v.0 o) (sym e.0);
      is_scheme = present_found scheme.Spells scheme.reading scheme_exact s.scheme x.0 (piece_found faults.Scheme _ x.0 x.1);
      is_authority = authority_found s.authority y.0 pair (piece_found faults.Authority _ y.0 y.1);
      is_path = placed_path has s.path f.0;
      abempty = if_there s.authority s.path;
      fit = ap (λ b. path_refusal (is_some s.scheme) b (after_authority has s.path)) there ∙ placed_fit (is_some s.scheme) has s.path f.1;
      is_query = d.1;
      is_fragment = e.1;
      path = f.2 ∙ sym (placed_same has s.path) ∙ ap (λ b. path_of b (after_authority has s.path)) (sym there);
    })

pair_made : (u w : Option (List ℕ)) → IsPaired (with_empty u w) w
pair_made u None = tt
pair_made None (Some w) = refl
pair_made (Some u) (Some w) = refl

paired_with : (c : Wanted) (o : Option AuthorityStrings) (h : Option (List ℕ)) (a : Option AuthorityStrings) → changed_authority c o h ≡ Ok a → ArePaired a
paired_with c o (Some h) a e =
    let same : Some (authority_with c o h) ≡ a = cc in subst ArePaired same (pair_made _ (authority_with c o h).password)
paired_with c o None None e = tt
paired_with c o None (Some a) e = by_test (sets_beside_host c) e
  where
    by_test : (v : Bool) → cond {A = Result (Option AuthorityStrings) ChangeError} v (Err errors.MissingHost) (Ok None) ≡ Ok (Some a) → ArePaired (Some a)
    by_test true k = cc
    by_test false k = cc

-- the changed strings have a user name wherever they have a password
pub changed_paired : (c : Wanted) (s x : Strings) → changed_strings c s ≡ Ok x → ArePaired x.authority
changed_paired c s x e =
    let y = bind_ok (changed_authority c s.authority (changed c.host (option_map (λ (a : AuthorityStrings). a.host) s.authority))) _ x e in
    let same : with_authority c s y.0 ≡ x = cc (y.2) in
    subst (λ (q : Strings). ArePaired q.authority) same (paired_with c s.authority _ y.0 y.1)

-- what the changed strings make, and what that spells
pub changed_found : (c : Wanted) (t : List ℕ) (x : Strings) (p : Parts) → changed_strings c (strings t) ≡ Ok x → strings_reading x ≡ Ok p
    → (changing c t ≡ Ok (record { text = whole x; parts = p })) × Spells (whole x) p
unfolding changing
changed_found c t x p e k =
    (rw e (rw k refl), strings_found x p (changed_paired c (strings t) x e) k)

pub changed_fault : (c : Wanted) (t : List ℕ) (e : ChangeError) → changed_strings c (strings t) ≡ Err e → changing c t ≡ Err e
unfolding changing
changed_fault c t e k = rw k refl

pub changed_made : (c : Wanted) (t : List ℕ) (x : Strings) → changed_strings c (strings t) ≡ Ok x → IsOk (strings_reading x)
    → (p : Parts) × (changing c t ≡ Ok (record { text = whole x; parts = p })) × Spells (whole x) p
changed_made c t x e k = by_reading (strings_reading x) refl k
  where
    by_reading : (r : Result Parts URIReferenceError) → strings_reading x ≡ r → IsOk r
        → (p : Parts) × (changing c t ≡ Ok (record { text = whole x; parts = p })) × Spells (whole x) p
    by_reading (Ok p) i j = let all = changed_found c t x p e i in (p, all.0, all.1)
    by_reading (Err y) i j = absurd (false≢true j)

pub changed_refused : (c : Wanted) (t : List ℕ) (x : Strings) (e : URIReferenceError) → changed_strings c (strings t) ≡ Ok x → strings_reading x ≡ Err e
    → changing c t ≡ Err (errors.Reference e)
unfolding changing
changed_refused c t x e i k = rw i (rw k refl)

pub changing_spells : (c : Wanted) (t : List ℕ) (v : Viewed) → changing c t ≡ Ok v → Spells v.text v.parts
unfolding changing
changing_spells c t v h =
    let x = bind_ok (changed_strings c (strings t)) viewed_strings v h in
    let y = bind_ok (of_piece errors.Reference (strings_reading x.0)) _ v x.2 in
    let same : record { text = whole x.0; parts = y.0 } ≡ v = cc (y.2) in
    subst (λ (q : Viewed). Spells q.text q.parts) same
    (strings_found x.0 y.0 (changed_paired c (strings t) x.0 x.1) (piece_found errors.Reference _ y.0 y.1))

-- the string that is made stands for what it spells
pub changed_stands : (c : Wanted) (t u : List ℕ) (v : Viewed) → changing c t ≡ Ok v → u ≡ v.text → IsReference u × (viewed_in u ≡ v)
changed_stands c t u v h e = made_stands u v.text v.parts (changing_spells c t v h) e

-- what is asked of a string that was made, for a reference that owns it
pub text_made : (c : Wanted) (t u : List ℕ) (X : ChangeError → Type 0) → ((e : ChangeError) → X e → ⊥) → MatchResult (changing c t) (λ v. u ≡ v.text) X
    → IsReference u
text_made c t u X never h = by_made (changing c t) refl h
  where
    by_made : (r : Result Viewed ChangeError) → changing c t ≡ r → MatchResult r (λ v. u ≡ v.text) X → IsReference u
    by_made (Ok v) e k = (changed_stands c t u v e k).0
    by_made (Err x) e k = absurd (never x k)

pub text_viewed : (c : Wanted) (t u : List ℕ) (w : Viewed) (X Y : ChangeError → Type 0) → w ≡ viewed_in u → ((e : ChangeError) → X e → ⊥)
    → MatchResult (changing c t) (λ v. u ≡ v.text) X → MatchResult (changing c t) (λ v. w ≡ v) Y
text_viewed c t u w X Y is never h = by_made (changing c t) refl h
  where
    by_made : (r : Result Viewed ChangeError) → changing c t ≡ r → MatchResult r (λ v. u ≡ v.text) X → MatchResult r (λ v. w ≡ v) Y
    by_made (Ok v) e k = is ∙ (changed_stands c t u v e k).1
    by_made (Err x) e k = absurd (never x k)

-- ---- the changed strings, component by component

pub changed_whole : (w : Wanted) (s : Strings) (a : Option AuthorityStrings) (x : Option (List ℕ)) (h : List ℕ) (q f : Option (List ℕ)) (had has : Bool)
    → Ok a ≡ changed_authority w s.authority (changed w.host (option_map (λ (a : AuthorityStrings). a.host) s.authority)) → x ≡ changed w.scheme s.scheme
    → had ≡ is_some s.authority → has ≡ is_some a → h ≡ changed_path w.path had has s.path → q ≡ changed w.query s.query → f ≡ changed w.fragment s.fragment
    → Ok (record { scheme = x; authority = a; path = h; query = q; fragment = f }) ≡ changed_strings w s
changed_whole w s a x h q f had has is_authority is_scheme is_had is_has is_path is_query is_fragment =
    let same : record { scheme = x; authority = a; path = h; query = q; fragment = f } ≡ with_authority w s a =
    ap (λ u. record { scheme = u; authority = a; path = h; query = q; fragment = f }) is_scheme
    ∙ ap (λ u. record { scheme = changed w.scheme s.scheme; authority = a; path = u; query = q; fragment = f })
    (is_path ∙ ap (λ v. changed_path w.path v has s.path) is_had ∙ ap (λ v. changed_path w.path (is_some s.authority) v s.path) is_has)
    ∙ ap (λ u. record { scheme = changed w.scheme s.scheme; authority = a; path = changed_path w.path (is_some s.authority) (is_some a) s.path; query = u; fragment = f }) is_query
    ∙ ap (λ u. record { scheme = changed w.scheme s.scheme; authority = a; path = changed_path w.path (is_some s.authority) (is_some a) s.path; query = changed w.query s.query; fragment = u }) is_fragment
    in
    ap Ok same ∙ ap (λ r. r >>= λ a. Ok (with_authority w s a)) is_authority
