-- A change of one component and the edit of that component.
use Rattle.std.proofs.Common.{◌≡◌, ℕ, Bool, true, false, List, [], Option, Some, None, Ok, Err, cond, inl, refl, sym, ap, ◌∙◌, subst}
use Rattle.std.specs.Prelude.{Result, is_some, unwrap_or}
use Rattle.std.specs.Option.{option_and_then}
use Rattle.uriparse_text.specs.declared.internal.class.Class.TheVariants as class
use Rattle.uriparse_text.specs.Query as query
use Rattle.uriparse_text.specs.Fragment as fragment
use Rattle.uriparse_text.specs.Readings.{◌>>=◌, if_present, of_piece, some_of, unless_fault}
use Rattle.uriparse_text.proofs.lemmas.readings.ReadingLemmas.{bind_ok, piece_found, texts_found}
use Rattle.uriparse_path.specs.Path as path
use Rattle.uriparse_path.proofs.lemmas.text.PathTextLemmas as path_texts
use Rattle.uriparse_authority.specs.Authority as authority
use Rattle.uriparse_authority.specs.Authority.{AuthorityParts, password_after, with_empty}
use Rattle.uriparse_authority.specs.Username as username
use Rattle.uriparse_authority.specs.Password as password
use Rattle.uriparse_authority.specs.Host as host
use Rattle.uriparse_authority.specs.Port as port
use Rattle.uriparse_authority.specs.declared.authority.host.Host.{Host}
use Rattle.uriparse_authority.specs.declared.authority.error.AuthorityError.{AuthorityError}
use Rattle.uriparse_authority.specs.declared.authority.error.AuthorityError.TheVariants as authority_faults
use Rattle.uriparse_scheme.specs.Scheme as scheme
use Rattle.uriparse_scheme.specs.declared.scheme.Scheme.{Scheme}
use Rattle.uriparse_reference.specs.Beside.{authority_of_host, beside, with_host, with_password, with_port, with_username}
use Rattle.uriparse_reference.specs.Change.{AuthorityStrings, Strings, after_authority, authority_if, authority_reading, authority_with, changed, changed_authority}
use Rattle.uriparse_reference.specs.Change.{changing, kept_path, path_reading, sets_beside_host, strings, strings_reading, whole, with_authority}
use Rattle.uriparse_reference.specs.Cuts.{authority_text, fragment_text, path_text, query_text, scheme_text}
use Rattle.uriparse_reference.specs.Edits.{edited}
use Rattle.uriparse_reference.specs.Reference.{Parts, Spells, joined, path_of, path_refusal}
use Rattle.uriparse_reference.specs.TextEdits.{with_end, with_fragment, with_query}
use Rattle.uriparse_reference.specs.View.{Viewed}
use Rattle.uriparse_reference.specs.Wanted.{Wanted, Wish, unchanged}
use Rattle.uriparse_reference.specs.declared.uri_reference.change.ChangeError.{ChangeError}
use Rattle.uriparse_reference.specs.declared.uri_reference.change.ChangeError.TheVariants as change_errors
use Rattle.uriparse_reference.specs.declared.uri_reference.edit.Edit.TheVariants as edits
use Rattle.uriparse_reference.specs.declared.uri_reference.error.URIReferenceError.TheVariants as faults
use Rattle.uriparse_reference.proofs.lemmas.edits.ChangeLemmas.{path_found}
use Rattle.uriparse_reference.proofs.lemmas.reading.ReadingLemmas.{abempty_text}
use Rattle.uriparse.proofs.lemmas.ChangedPartLemmas.{authority_chosen, is_made}
use Rattle.uriparse.proofs.lemmas.CommutingLemmas.{IsPairedIn, host_in, kept, paired_in}
use Rattle.uriparse.proofs.lemmas.ReplacedLemmas.{own_authority}
use Rattle.uriparse.proofs.lemmas.UnchangedLemmas.{authority_made, path_made, strings_again}

-- ---- what the strings of the components are read as

record AreRead (s : Strings) (p : Parts) : Type 0 where
  scheme : if_present scheme.reading s.scheme ≡ Ok p.scheme
  authority : authority_if s.authority ≡ Ok p.authority
  fit : path_refusal (is_some s.scheme) (is_some s.authority) s.path ≡ None
  path : p.path ≡ path_of (is_some s.authority) s.path
  query : p.query ≡ s.query
  fragment : p.fragment ≡ s.fragment

are_read : (s : Strings) (p : Parts) → strings_reading s ≡ Ok p → AreRead s p
are_read s p k =
    let x = bind_ok (of_piece faults.Scheme (if_present scheme.reading s.scheme)) _ p k in
    let y = bind_ok (of_piece faults.Authority (authority_if s.authority)) _ p x.2 in
    let z = bind_ok (path_reading (is_some s.scheme) (is_some s.authority) s.path) _ p y.2 in
    let v = bind_ok (of_piece faults.Query (if_present query.reading s.query)) _ p z.2 in
    let w = bind_ok (of_piece faults.Fragment (if_present fragment.reading s.fragment)) _ p v.2 in
    let same : record { scheme = x.0; authority = y.0; path = z.0; query = v.0; fragment = w.0 } ≡ p = cc (w.2) in
    let f = path_found (is_some s.scheme) (is_some s.authority) s.path z.0 z.1 in
    record {
      scheme = piece_found faults.Scheme _ x.0 x.1 ∙ ap (λ (q : Parts). Ok q.scheme) same;
      authority = piece_found faults.Authority _ y.0 y.1 ∙ ap (λ (q : Parts). Ok q.authority) same;
      fit = f.1;
      path = ap (λ (q : Parts). q.path) (sym same) ∙ f.2;
      query = ap (λ (q : Parts). q.query) (sym same) ∙ (texts_found class.Query query.error_of s.query v.0 (piece_found faults.Query _ v.0 v.1)).0;
      fragment = ap (λ (q : Parts). q.fragment) (sym same) ∙ (texts_found class.Query fragment.error_of s.fragment w.0 (piece_found faults.Fragment _ w.0 w.1)).0;
    }

one_result : {A E : Type 0} (r : Result A E) (x y : A) → r ≡ Ok x → r ≡ Ok y → x ≡ y
one_result r x y h k = let both = sym h ∙ k in cc

is_there : (o : Option AuthorityStrings) (a : Option AuthorityParts) → authority_if o ≡ Ok a → is_some a ≡ is_some o
is_there None None k = refl
is_there None (Some x) k = cc
is_there (Some s) a k = by_reading (authority_reading s) a k
  where
    by_reading : (r : Result AuthorityParts AuthorityError) (a : Option AuthorityParts) → some_of r ≡ Ok a → is_some a ≡ true
    by_reading (Ok x) None h = cc
    by_reading (Ok x) (Some y) h = refl
    by_reading (Err e) a h = cc

-- a reference as it was, and as a change made it, whose strings are these
record IsEdit (c : Wanted) (t : List ℕ) (p : Parts) (v : Viewed) : Type 0 where
  old : AreRead (strings t) p
  made : Strings
  new : AreRead made v.parts
  authority : changed_authority c (strings t).authority (changed c.host (host_in (strings t).authority)) ≡ Ok made.authority
  ends : with_authority c (strings t) made.authority ≡ made
  text : whole made ≡ v.text

is_edit : (c : Wanted) (t : List ℕ) (p : Parts) (v : Viewed) → Spells t p → changing c t ≡ Ok v → IsEdit c t p v
is_edit c t p v s h =
    let m = is_made c t v h in
    let a = authority_chosen c (strings t) m.made m.is in
    record {
      old = are_read (strings t) p (strings_again t p s);
      made = m.made;
      new = are_read m.made v.parts m.reads;
      authority = a.0;
      ends = a.1;
      text = m.spells;
    }

-- ---- the scheme, the query and the fragment

-- a change of these alone
abbrev of_ends : Wish → Wish → Wish → Wanted
of_ends n q f = record unchanged { scheme = n; query = q; fragment = f }

abbrev with_ends : Wish → Wish → Wish → List ℕ → Strings
with_ends n q f t =
    record (strings t) { scheme = changed n (scheme_text t); query = changed q (query_text t); fragment = changed f (fragment_text t) }

ends_made : (n q f : Wish) (t : List ℕ) (p : Parts) (v : Viewed) (e : IsEdit (of_ends n q f) t p v) → with_ends n q f t ≡ e.made
ends_made n q f t p v e =
    let o = (strings t).authority in
    let same : o ≡ e.made.authority = one_result (changed_authority (of_ends n q f) o (host_in o)) o e.made.authority
    (own_authority (of_ends n q f) o (paired_in (authority_text t)) (inl refl) (inl refl) (inl refl) (inl refl)) e.authority in
    ap (λ h. record (with_ends n q f t) { path = h }) (sym (kept (is_some o) (path_text t)))
    ∙ ap (with_authority (of_ends n q f) (strings t)) same ∙ e.ends

-- what such a change makes of the components
ends_read : (n q f : Wish) (t : List ℕ) (p : Parts) (v : Viewed) → Spells t p → changing (of_ends n q f) t ≡ Ok v
    → AreRead (with_ends n q f t) v.parts × (v.parts ≡ record { scheme = v.parts.scheme; authority = p.authority; path = p.path; query = changed q p.query; fragment = changed f p.fragment })
ends_read n q f t p v s h =
    let e = is_edit (of_ends n q f) t p v s h in
    let new : AreRead (with_ends n q f t) v.parts = subst (λ x. AreRead x v.parts) (sym (ends_made n q f t p v e)) e.new in
    let w = v.parts in (
      new,
      ap (λ x. record { scheme = w.scheme; authority = x; path = w.path; query = w.query; fragment = w.fragment })
          (one_result (authority_if (strings t).authority) w.authority p.authority new.authority e.old.authority)
          ∙ ap (λ x. record { scheme = w.scheme; authority = p.authority; path = x; query = w.query; fragment = w.fragment }) (new.path ∙ sym e.old.path)
          ∙ ap (λ x. record { scheme = w.scheme; authority = p.authority; path = p.path; query = x; fragment = w.fragment }) (new.query ∙ ap (changed q) (sym e.old.query))
          ∙ ap (λ x. record { scheme = w.scheme; authority = p.authority; path = p.path; query = changed q p.query; fragment = x })
          (new.fragment ∙ ap (changed f) (sym e.old.fragment)),
    )

ends_whole : (n q f : Wish) (t : List ℕ)
    → whole (with_ends n q f t) ≡ joined (changed n (scheme_text t)) (authority_text t) (path_text t) (changed q (query_text t)) (changed f (fragment_text t))
ends_whole n q f t =
    let h = after_authority (is_some (strings t).authority) (path_text t) in
    ap (λ a. joined (changed n (scheme_text t)) a h (changed q (query_text t)) (changed f (fragment_text t))) (authority_made (authority_text t))
    ∙ ap (λ h. joined (changed n (scheme_text t)) (authority_text t) h (changed q (query_text t)) (changed f (fragment_text t)))
    (path_made (authority_text t) (path_text t) (abempty_text t))

ends_text : (n q f : Wish) (t : List ℕ) (p : Parts) (v : Viewed) → Spells t p → changing (of_ends n q f) t ≡ Ok v
    → v.text ≡ joined (changed n (scheme_text t)) (authority_text t) (path_text t) (changed q (query_text t)) (changed f (fragment_text t))
ends_text n q f t p v s h =
    let e = is_edit (of_ends n q f) t p v s h in sym e.text ∙ ap whole (sym (ends_made n q f t p v e)) ∙ ends_whole n q f t

old_scheme : (q f : Wish) (t : List ℕ) (p : Parts) (v : Viewed) → Spells t p → changing (of_ends None q f) t ≡ Ok v → v.parts.scheme ≡ p.scheme
old_scheme q f t p v s h =
    one_result (if_present scheme.reading (scheme_text t)) v.parts.scheme p.scheme (ends_read None q f t p v s h).0.scheme
    (are_read (strings t) p (strings_again t p s)).scheme

pub query_edit : (q : Option (List ℕ)) (t : List ℕ) (p : Parts) (v : Viewed) → Spells t p → changing (record unchanged { query = Some q }) t ≡ Ok v
    → (edited p (edits.Query q) ≡ Ok v.parts) × (v.text ≡ with_query t q)
unfolding with_end
query_edit q t p v s h = (
  ap Ok
      (sym
      ((ends_read None (Some q) None t p v s h).1
      ∙ ap (λ x. record p { scheme = x; query = q }) (old_scheme (Some q) None t p v s h))),
  ends_text None (Some q) None t p v s h,
)

pub fragment_edit : (f : Option (List ℕ)) (t : List ℕ) (p : Parts) (v : Viewed) → Spells t p → changing (record unchanged { fragment = Some f }) t ≡ Ok v
    → (edited p (edits.Fragment f) ≡ Ok v.parts) × (v.text ≡ with_fragment t f)
unfolding with_end
fragment_edit f t p v s h = (
  ap Ok
      (sym
      ((ends_read None None (Some f) t p v s h).1
      ∙ ap (λ x. record p { scheme = x; fragment = f }) (old_scheme None (Some f) t p v s h))),
  ends_text None None (Some f) t p v s h,
)

-- what a path's own text refuses, its components refuse
refused_text : (w : Bool) (h : List ℕ) → path_refusal false w h ≡ None → path_refusal false w (path.text (path_of w h)) ≡ None
refused_text true h e = refl
refused_text false h e = ap (path_refusal false false) (path_texts.text-spelled h) ∙ e

pub scheme_edit : (n : Option (List ℕ)) (t : List ℕ) (p : Parts) (v : Viewed) → Spells t p → changing (record unchanged { scheme = Some n }) t ≡ Ok v
    → edited p (edits.Scheme v.parts.scheme) ≡ Ok v.parts
scheme_edit n t p v s h =
    let r = ends_read (Some n) None None t p v s h in
    by_scheme n v.parts.scheme r.0.scheme (fits n r.0.fit) ∙ ap Ok (sym r.1)
  where
    old : AreRead (strings t) p
    old = are_read (strings t) p (strings_again t p s)

    fits : (n : Option (List ℕ)) → path_refusal (is_some n) (is_some (strings t).authority) (path_text t) ≡ None
        → path_refusal (is_some n) (is_some p.authority) (path_text t) ≡ None
    fits n e = ap (λ w. path_refusal (is_some n) w (path_text t)) (is_there (strings t).authority p.authority old.authority) ∙ e

    by_scheme : (n : Option (List ℕ)) (o : Option Scheme) → if_present scheme.reading n ≡ Ok o → path_refusal (is_some n) (is_some p.authority) (path_text t) ≡ None
        → edited p (edits.Scheme o) ≡ Ok (record p { scheme = o })
    by_scheme n (Some y) k e = refl
    by_scheme None None k e =
        let same : path_of (is_some p.authority) (path_text t) ≡ p.path =
        ap (λ w. path_of w (path_text t)) (is_there (strings t).authority p.authority old.authority) ∙ sym old.path in
        ap (λ o. unless_fault o (record p { scheme = None }))
        (ap (λ h. path_refusal false (is_some p.authority) (path.text h)) (sym same) ∙ refused_text (is_some p.authority) (path_text t) e)
    by_scheme (Some x) None k e = by_reading (scheme.reading x) k
      where
        by_reading : {E : Type 0} (r : Result Scheme E) → some_of r ≡ Ok None → edited p (edits.Scheme None) ≡ Ok (record p { scheme = None })
        by_reading (Ok y) i = cc
        by_reading (Err y) i = cc

-- ---- an authority

record AuthorityRead (s : AuthorityStrings) (a : AuthorityParts) : Type 0 where
  username : a.username ≡ s.username
  password : a.password ≡ s.password
  host : host.reading s.host ≡ Ok a.host
  port : port.reading (unwrap_or s.port []) ≡ Ok a.port

authority_read : (s : AuthorityStrings) (a : AuthorityParts) → authority_reading s ≡ Ok a → AuthorityRead s a
authority_read s a k =
    let x = bind_ok (of_piece authority_faults.Username (if_present username.reading s.username)) _ a k in
    let y = bind_ok (of_piece authority_faults.Password (if_present password.reading s.password)) _ a x.2 in
    let z = bind_ok (of_piece authority_faults.Host (host.reading s.host)) _ a y.2 in
    let v = bind_ok (of_piece authority_faults.Port (port.reading (unwrap_or s.port []))) _ a z.2 in
    let same : record { username = x.0; password = y.0; host = z.0; port = v.0 } ≡ a = cc (v.2) in
    record {
      username = ap (λ (q : AuthorityParts). q.username) (sym same)
          ∙ (texts_found class.Name username.error_of s.username x.0 (piece_found authority_faults.Username _ x.0 x.1)).0;
      password = ap (λ (q : AuthorityParts). q.password) (sym same)
          ∙ (texts_found class.UserInfo password.error_of s.password y.0 (piece_found authority_faults.Password _ y.0 y.1)).0;
      host = piece_found authority_faults.Host _ z.0 z.1 ∙ ap (λ (q : AuthorityParts). Ok q.host) same;
      port = piece_found authority_faults.Port _ v.0 v.1 ∙ ap (λ (q : AuthorityParts). Ok q.port) same;
    }

some_read : (s : AuthorityStrings) (a : Option AuthorityParts) → authority_if (Some s) ≡ Ok a → (b : AuthorityParts) × (a ≡ Some b) × AuthorityRead s b
some_read s a k = by_reading (authority_reading s) refl a k
  where
    by_reading : (r : Result AuthorityParts AuthorityError) → authority_reading s ≡ r → (a : Option AuthorityParts) → some_of r ≡ Ok a
        → (b : AuthorityParts) × (a ≡ Some b) × AuthorityRead s b
    by_reading (Ok x) e a h = (x, cc, authority_read s x e)
    by_reading (Err y) e a h = cc

-- a change of these parts of the authority alone
abbrev of_authority : (u w h n : Wish) → Wanted
of_authority u w h n = record unchanged { username = u; password = w; host = h; port = n }

-- what such a change makes of the components
authority_changed : (u w h n : Wish) (t : List ℕ) (p : Parts) (v : Viewed) → Spells t p → changing (of_authority u w h n) t ≡ Ok v
    → (a : Option AuthorityStrings)
    × (changed_authority (of_authority u w h n) (strings t).authority (changed h (host_in (strings t).authority)) ≡ Ok a)
    × (authority_if a ≡ Ok v.parts.authority)
    × (path_refusal (is_some (scheme_text t)) (is_some a) (kept_path (is_some (strings t).authority) (is_some a) (path_text t)) ≡ None)
    × (v.parts ≡ record p { authority = v.parts.authority; path = path_of (is_some a) (kept_path (is_some (strings t).authority) (is_some a) (path_text t)) })
authority_changed u w h n t p v s k =
    let e = is_edit (of_authority u w h n) t p v s k in
    let a = e.made.authority in
    let new : AreRead (with_authority (of_authority u w h n) (strings t) a) v.parts = subst (λ x. AreRead x v.parts) (sym e.ends) e.new in
    let q = v.parts in
    let at = path_of (is_some a) (kept_path (is_some (strings t).authority) (is_some a) (path_text t)) in (
      a,
      e.authority,
      new.authority,
      new.fit,
      ap (λ x. record { scheme = x; authority = q.authority; path = q.path; query = q.query; fragment = q.fragment })
          (one_result (if_present scheme.reading (scheme_text t)) q.scheme p.scheme new.scheme e.old.scheme)
          ∙ ap (λ x. record { scheme = p.scheme; authority = q.authority; path = x; query = q.query; fragment = q.fragment }) new.path
          ∙ ap (λ x. record { scheme = p.scheme; authority = q.authority; path = at; query = x; fragment = q.fragment }) (new.query ∙ sym e.old.query)
          ∙ ap (λ x. record { scheme = p.scheme; authority = q.authority; path = at; query = p.query; fragment = x }) (new.fragment ∙ sym e.old.fragment),
    )

-- an authority stays in its place
same_place : (o : Option AuthorityStrings) (h : List ℕ) → kept_path (is_some o) (is_some o) h ≡ h
same_place None h = refl
same_place (Some a) h = refl

same_authority : (b d : AuthorityParts) → b.username ≡ d.username → b.password ≡ d.password → b.host ≡ d.host → b.port ≡ d.port → b ≡ d
same_authority b d i j k l =
    ap (λ x. record { username = x; password = b.password; host = b.host; port = b.port }) i
    ∙ ap (λ x. record { username = d.username; password = x; host = b.host; port = b.port }) j
    ∙ ap (λ x. record { username = d.username; password = d.password; host = x; port = b.port }) k
    ∙ ap (λ x. record { username = d.username; password = d.password; host = d.host; port = x }) l

-- ---- a user name, a password, a port

-- what a setter of values makes of the authority of a changed reference
abbrev IsBeside : Parts → Viewed → Bool → (AuthorityParts → AuthorityParts) → Type 0
IsBeside p v sets part = (beside p.authority sets part >>= (λ a. Ok (record p { authority = a }))) ≡ Ok v.parts

-- the parts are those of the old reference with an authority that is read
beside_made : (u w n : Wish) (t : List ℕ) (p : Parts) (v : Viewed) (sets : Bool) (part : AuthorityParts → AuthorityParts) → Spells t p
    → changing (of_authority u w None n) t ≡ Ok v → sets ≡ sets_beside_host (of_authority u w None n)
    → ((s : AuthorityStrings) (d b : AuthorityParts) → IsPairedIn (Some s) → AuthorityRead s d → AuthorityRead (authority_with (of_authority u w None n) (Some s) s.host) b → v.parts.authority ≡ Some b → b ≡ part d)
    → IsBeside p v sets part
beside_made u w n t p v sets part s k same reads =
    let m = authority_changed u w None n t p v s k in
    let old = are_read (strings t) p (strings_again t p s) in
    by_authority (strings t).authority p.authority m.0 (paired_in (authority_text t)) old.authority old.path m.1 m.2 m.4
  where
    by_sets : (b : Bool) (a : Option AuthorityStrings) (x : Option AuthorityParts) → sets ≡ b
        → cond {A = Result (Option AuthorityStrings) ChangeError} b (Err change_errors.MissingHost) (Ok None) ≡ Ok a
        → authority_if a ≡ Ok x → (a ≡ None) × (x ≡ None) × (sets ≡ false)
    by_sets true a x e i j = cc
    by_sets false None None e i j = (refl, refl, e)
    by_sets false None (Some y) e i j = cc
    by_sets false (Some y) x e i j = cc

    by_authority : (o : Option AuthorityStrings) (q : Option AuthorityParts) (a : Option AuthorityStrings) → IsPairedIn o → authority_if o ≡ Ok q
        → p.path ≡ path_of (is_some o) (path_text t)
        → changed_authority (of_authority u w None n) o (host_in o) ≡ Ok a → authority_if a ≡ Ok v.parts.authority
        → v.parts ≡ record p { authority = v.parts.authority; path = path_of (is_some a) (kept_path (is_some o) (is_some a) (path_text t)) }
        → (beside q sets part >>= (λ a. Ok (record p { authority = a }))) ≡ Ok v.parts
    by_authority None q a pair i path j l e =
        let none : None ≡ q = one_result (Ok None) None q refl i in
        let b = by_sets (sets_beside_host (of_authority u w None n)) a v.parts.authority same j l in
        ap (λ x. beside x sets part >>= (λ a. Ok (record p { authority = a }))) (sym none)
        ∙ ap (λ x. beside None x part >>= (λ a. Ok (record p { authority = a }))) b.2
        ∙ ap Ok (ap (λ x. record p { authority = x }) (sym b.1)
        ∙ ap (λ x. record p { authority = v.parts.authority; path = x }) (path ∙ ap (λ x. path_of (is_some x) (kept_path false (is_some x) (path_text t))) (sym b.0))
        ∙ sym e)
    by_authority (Some s) q a pair i path j l e =
        let d = some_read s q i in
        let new : Some (authority_with (of_authority u w None n) (Some s) s.host) ≡ a = cc in
        let b = some_read (authority_with (of_authority u w None n) (Some s) s.host) v.parts.authority (ap authority_if new ∙ l) in
        ap (λ x. beside x sets part >>= (λ a. Ok (record p { authority = a }))) d.1
        ∙ ap Ok (ap (λ x. record p { authority = Some x }) (sym (reads s d.0 b.0 pair d.2 b.2 b.1))
        ∙ ap (λ x. record p { authority = x }) (sym b.1)
        ∙ ap (λ x. record p { authority = v.parts.authority; path = x }) (path ∙ ap (λ x. path_of (is_some x) (kept_path true (is_some x) (path_text t))) new)
        ∙ sym e)

with_its_password : (u w : Option (List ℕ)) → with_empty u (password_after u w) ≡ u
with_its_password None w = refl
with_its_password (Some u) w = refl

pub username_edit : (u : Option (List ℕ)) (t : List ℕ) (p : Parts) (v : Viewed) → Spells t p → changing (record unchanged { username = Some u }) t ≡ Ok v
    → with_username p u ≡ Ok v.parts
username_edit u t p v s k = beside_made (Some u) None None t p v (is_some u) (λ a. authority.with_username a u) s k (is_set u)
    (λ s d b pair old new at. same_authority b (authority.with_username d u)
    (new.username ∙ with_its_password u s.password)
    (new.password ∙ ap (password_after u) (sym old.password))
    (one_result (host.reading s.host) b.host d.host new.host old.host)
    (one_result (port.reading (unwrap_or s.port [])) b.port d.port new.port old.port))
  where
    is_set : (u : Option (List ℕ)) → is_some u ≡ sets_beside_host (of_authority (Some u) None None None)
    is_set None = refl
    is_set (Some x) = refl

pub password_edit : (w : Option (List ℕ)) (t : List ℕ) (p : Parts) (v : Viewed) → Spells t p → changing (record unchanged { password = Some w }) t ≡ Ok v
    → with_password p w ≡ Ok v.parts
password_edit w t p v s k = beside_made None (Some w) None t p v (is_some w) (λ a. authority.with_password a w) s k (is_set w)
    (λ s d b pair old new at. same_authority b (authority.with_password d w)
    (new.username ∙ ap (λ x. with_empty x w) (sym old.username))
    new.password
    (one_result (host.reading s.host) b.host d.host new.host old.host)
    (one_result (port.reading (unwrap_or s.port [])) b.port d.port new.port old.port))
  where
    is_set : (w : Option (List ℕ)) → is_some w ≡ sets_beside_host (of_authority None (Some w) None None)
    is_set None = refl
    is_set (Some x) = refl

abbrev port_of : Parts → Option ℕ
port_of p = option_and_then (λ (a : AuthorityParts). a.port) p.authority

-- without an authority nothing is set, so what is said to be set doesn't matter
set_alike : (p q : Parts) (o : Option AuthorityParts) (b : Bool) (part : AuthorityParts → AuthorityParts)
    → (beside o b part >>= (λ a. Ok (record p { authority = a }))) ≡ Ok q → (beside o (is_some (port_of q)) part >>= (λ a. Ok (record p { authority = a }))) ≡ Ok q
set_alike p q (Some a) b part e = e
set_alike p q None true part e = cc
set_alike p q None false part e =
    let same : record p { authority = None } ≡ q = cc in
    ap (λ x. beside None (is_some (port_of x)) part >>= (λ a. Ok (record p { authority = a }))) (sym same) ∙ e

pub port_edit : (n : Option (List ℕ)) (t : List ℕ) (p : Parts) (v : Viewed) → Spells t p → changing (record unchanged { port = Some n }) t ≡ Ok v
    → with_port p (port_of v.parts) ≡ Ok v.parts
port_edit n t p v s k = set_alike p v.parts p.authority (is_some n) (λ a. authority.with_port a (port_of v.parts)) made
  where
    is_set : (n : Option (List ℕ)) → is_some n ≡ sets_beside_host (of_authority None None None (Some n))
    is_set None = refl
    is_set (Some x) = refl

    made : IsBeside p v (is_some n) (λ a. authority.with_port a (port_of v.parts))
    made =
        beside_made None None (Some n) t p v (is_some n) (λ a. authority.with_port a (port_of v.parts)) s k (is_set n)
        (λ x d b pair old new at. same_authority b (authority.with_port d (port_of v.parts))
        (new.username ∙ ap (with_empty x.username) pair.0 ∙ pair.1 ∙ sym old.username)
        (new.password ∙ pair.0 ∙ sym old.password)
        (one_result (host.reading x.host) b.host d.host new.host old.host)
        (ap (option_and_then (λ (a : AuthorityParts). a.port)) (sym at)))

-- ---- a host

absolute_again : (w : Bool) (h : List ℕ) → path_of true h ≡ path.made_absolute (path_of w h)
absolute_again true h = refl
absolute_again false h = refl

kept_beside : (w : Bool) (h : List ℕ) → kept_path w true h ≡ h
kept_beside true h = refl
kept_beside false h = refl

pub host_edit : (g : List ℕ) (t : List ℕ) (p : Parts) (v : Viewed) → Spells t p → changing (record unchanged { host = Some (Some g) }) t ≡ Ok v
    → (h : Host) × (host.reading g ≡ Ok h) × (v.parts ≡ with_host p h)
host_edit g t p v s k =
    let m = authority_changed None None (Some (Some g)) None t p v s k in
    let old = are_read (strings t) p (strings_again t p s) in
    by_authority (strings t).authority p.authority m.0 (paired_in (authority_text t)) old.authority old.path m.1 m.2 m.4 refl
  where
    c : Wanted
    c = of_authority None None (Some (Some g)) None

    put : (o : Option AuthorityStrings) (q : Option AuthorityParts) (a : Option AuthorityStrings) → p.path ≡ path_of (is_some o) (path_text t) → q ≡ p.authority
        → Some (authority_with c o g) ≡ a → authority_if a ≡ Ok v.parts.authority
        → v.parts ≡ record p { authority = v.parts.authority; path = path_of (is_some a) (kept_path (is_some o) (is_some a) (path_text t)) }
        → ((b : AuthorityParts) → AuthorityRead (authority_with c o g) b → b ≡ authority_of_host q b.host)
        → (h : Host) × (host.reading g ≡ Ok h) × (v.parts ≡ with_host p h)
    put o q a from at new l e reads =
        let b = some_read (authority_with c o g) v.parts.authority (ap authority_if new ∙ l) in (
          b.0.host,
          b.2.host,
          e
              ∙ ap (λ x. record p { authority = v.parts.authority; path = path_of (is_some x) (kept_path (is_some o) (is_some x) (path_text t)) }) (sym new)
              ∙ ap (λ h. record p { authority = v.parts.authority; path = path_of true h }) (kept_beside (is_some o) (path_text t))
              ∙ ap (λ h. record p { authority = v.parts.authority; path = h }) (absolute_again (is_some o) (path_text t) ∙ ap path.made_absolute (sym from))
              ∙ ap (λ x. record p { authority = x; path = path.made_absolute p.path })
              (b.1 ∙ ap Some (reads b.0 b.2 ∙ ap (λ x. authority_of_host x b.0.host) at)),
        )

    by_authority : (o : Option AuthorityStrings) (q : Option AuthorityParts) (a : Option AuthorityStrings) → IsPairedIn o → authority_if o ≡ Ok q
        → p.path ≡ path_of (is_some o) (path_text t) → changed_authority c o (Some g) ≡ Ok a → authority_if a ≡ Ok v.parts.authority
        → v.parts ≡ record p { authority = v.parts.authority; path = path_of (is_some a) (kept_path (is_some o) (is_some a) (path_text t)) }
        → q ≡ p.authority → (h : Host) × (host.reading g ≡ Ok h) × (v.parts ≡ with_host p h)
    by_authority None q a pair i from j l e at =
        let none : None ≡ q = one_result (Ok None) None q refl i in
        put None None a from (none ∙ at) (cc) l e
        (λ b new. same_authority b (authority_of_host None b.host) new.username new.password refl (one_result (port.reading []) b.port None new.port refl))
    by_authority (Some x) q a pair i from j l e at =
        let d = some_read x q i in
        put (Some x) (Some d.0) a from (sym d.1 ∙ at) (cc) l e
        (λ b new. same_authority b (authority_of_host (Some d.0) b.host)
        (new.username ∙ ap (with_empty x.username) pair.0 ∙ pair.1 ∙ sym d.2.username)
        (new.password ∙ pair.0 ∙ sym d.2.password)
        refl
        (one_result (port.reading (unwrap_or x.port [])) b.port d.0.port new.port d.2.port))
