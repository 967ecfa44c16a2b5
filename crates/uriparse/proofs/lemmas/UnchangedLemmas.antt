-- A change that keeps every component changes nothing.
use Rattle.std.proofs.Common.{◌≡◌, ℕ, Bool, true, List, [], Option, Some, None, Ok, refl, sym, ap, ◌∙◌, append-nil}
use Rattle.std.specs.Prelude.{IfSome, is_some}
use Rattle.std.specs.Option.{option_map, option_or}
use Rattle.uriparse_text.specs.declared.internal.class.Class.TheVariants as class
use Rattle.uriparse_text.specs.Bytes.{number_sign, question_mark}
use Rattle.uriparse_text.specs.Cuts.{from_first, none_pass, up_to}
use Rattle.uriparse_text.specs.Query as query
use Rattle.uriparse_text.specs.Fragment as fragment
use Rattle.uriparse_text.specs.Readings.{◌>>=◌, if_present}
use Rattle.uriparse_text.proofs.lemmas.readings.CutLemmas.{from_first-append, none_of_two, up_to-append}
use Rattle.uriparse_text.proofs.lemmas.readings.ReadingLemmas.{present_again, texts_again}
use Rattle.uriparse_path.specs.Faults as path
use Rattle.uriparse_path.specs.Faults.{ends_path}
use Rattle.uriparse_path.specs.Path.{IsPath}
use Rattle.uriparse_path.proofs.lemmas.reading.ReadingLemmas.{no_fault_iff}
use Rattle.uriparse_authority.specs.Authority as authority
use Rattle.uriparse_authority.specs.Authority.{password_after, password_in, userinfo_text, username_in, with_empty}
use Rattle.uriparse_authority.proofs.lemmas.authorities.AuthorityLemmas as authorities
use Rattle.uriparse_scheme.specs.Scheme as scheme
use Rattle.uriparse_reference.specs.Change.{AuthorityStrings, after_authority, authority_if, authority_strings, authority_whole}
use Rattle.uriparse_reference.specs.Change.{changed_authority, changed_strings, changing, end_fault, path_fault, path_reading, strings, strings_reading, whole, with_authority}
use Rattle.uriparse_reference.specs.Cuts.{authority_text, fragment_text, path_text, query_text, scheme_text}
use Rattle.uriparse_reference.specs.Reference.{Parts, Spells, is_abempty, joined, path_of, path_refusal}
use Rattle.uriparse_reference.specs.Wanted.{unchanged}
use Rattle.uriparse_reference.proofs.lemmas.edits.ChangeLemmas.{changed_found, scheme_exact}
use Rattle.uriparse_reference.proofs.lemmas.reading.CutLemmas.{path_number_sign, path_question_mark}
use Rattle.uriparse_reference.proofs.lemmas.reading.ReadingLemmas.{abempty_text, whole_is}
use Rattle.uriparse_reference.proofs.lemmas.reading.TextEditLemmas.{own_cut}

-- ---- the strings of a text, put together

pub authority_made : (o : Option (List ℕ)) → option_map authority_whole (option_map authority_strings o) ≡ o
authority_made None = refl
authority_made (Some a) = ap Some (sym (authorities.whole_is a))

pub path_made : (o : Option (List ℕ)) (h : List ℕ) → IfSome o (λ _. is_abempty h ≡ true) → after_authority (is_some (option_map authority_strings o)) h ≡ h
path_made None h is = refl
path_made (Some a) h is = rw is refl

pub strings_whole : (t : List ℕ) → whole (strings t) ≡ t
strings_whole t =
    ap (λ a. joined (scheme_text t) a (after_authority (is_some (option_map authority_strings (authority_text t))) (path_text t)) (query_text t) (fragment_text t))
    (authority_made (authority_text t))
    ∙ ap (λ h. joined (scheme_text t) (authority_text t) h (query_text t) (fragment_text t)) (path_made (authority_text t) (path_text t) (abempty_text t))
    ∙ sym (whole_is t)

-- ---- the strings of a text, read by themselves

authority_again : (o : Option (List ℕ)) → authority_if (option_map authority_strings o) ≡ if_present authority.reading o
unfolding authority.reading
authority_again None = refl
authority_again (Some a) = refl

-- a path has neither byte that ends one
path_plain : (h : List ℕ) → IsPath h → none_pass ends_path h ≡ true
path_plain h is = none_of_two question_mark number_sign h (path_question_mark h is) (path_number_sign h is)

path_faultless : (h : List ℕ) → IsPath h → path_fault h ≡ None
path_faultless h is =
    let none = path_plain h is in
    let front : up_to ends_path h ≡ h = ap (up_to ends_path) (sym (append-nil h)) ∙ up_to-append ends_path h [] none ∙ append-nil h in
    let rest : from_first ends_path h ≡ [] = ap (from_first ends_path) (sym (append-nil h)) ∙ from_first-append ends_path h [] none in
    ap (λ u. option_or (path.fault u) (end_fault (from_first ends_path h))) front
    ∙ ap (λ u. option_or (path.fault h) (end_fault u)) rest
    ∙ ap (λ o. option_or o None) ((no_fault_iff h).1 is)

pub path_again : (v w : Bool) (h : List ℕ) → IsPath h → path_refusal v w h ≡ None → path_reading v w h ≡ Ok (path_of w h)
path_again v w h is fit = rw (path_faultless h is, fit) refl

-- reading the path of a cut text
path_reading_is : (t : List ℕ) (s a : Option (List ℕ)) (h : List ℕ) → scheme_text t ≡ s → authority_text t ≡ a → path_text t ≡ h
    → path_reading (is_some (scheme_text t)) (is_some (option_map authority_strings (authority_text t))) (path_text t) ≡ path_reading (is_some s) (is_some a) h
path_reading_is t s a h e f g =
    ap (λ o. path_reading (is_some o) (is_some (option_map authority_strings (authority_text t))) (path_text t)) e
    ∙ ap (λ o. path_reading (is_some s) o (path_text t)) (same (authority_text t) ∙ ap is_some f)
    ∙ ap (path_reading (is_some s) (is_some a)) g
  where
    same : (o : Option (List ℕ)) → is_some (option_map authority_strings o) ≡ is_some o
    same None = refl
    same (Some x) = refl

pub strings_again : (t : List ℕ) (p : Parts) → Spells t p → strings_reading (strings t) ≡ Ok p
strings_again t p s =
    let cut = own_cut t p s in
    let n : if_present scheme.reading (scheme_text t) ≡ Ok p.scheme = ap (if_present scheme.reading) cut.scheme
    ∙ present_again scheme.Spells scheme.reading scheme_exact s.scheme_text p.scheme s.is_scheme in
    let x : authority_if (option_map authority_strings (authority_text t)) ≡ Ok p.authority = authority_again (authority_text t)
    ∙ ap (if_present authority.reading) cut.authority
    ∙ present_again authority.Spells authority.reading authorities.exact s.authority_text p.authority s.is_authority in
    let y : path_reading (is_some (scheme_text t)) (is_some (option_map authority_strings (authority_text t))) (path_text t) ≡ Ok p.path =
    path_reading_is t s.scheme_text s.authority_text s.path_text cut.scheme cut.authority cut.path
    ∙ path_again (is_some s.scheme_text) (is_some s.authority_text) s.path_text s.is_path s.fit ∙ ap Ok (sym s.path) in
    let v : if_present query.reading (query_text t) ≡ Ok p.query = ap (if_present query.reading) cut.query
    ∙ texts_again class.Query query.error_of p.query s.is_query in
    let w : if_present fragment.reading (fragment_text t) ≡ Ok p.fragment = ap (if_present fragment.reading) cut.fragment
    ∙ texts_again class.Query fragment.error_of p.fragment s.is_fragment in
    rw (n, x, y, v, w) refl

-- ---- no change

same_user : (o n : Option (List ℕ)) (h : List ℕ)
    → ◌≡◌ {A = AuthorityStrings}
    (record { username = with_empty (username_in o) (password_after (username_in o) (password_in o)); password = password_after (username_in o) (password_in o); host = h; port = n })
    (record { username = username_in o; password = password_in o; host = h; port = n })
same_user None n h = refl
same_user (Some i) n h = refl

authority_kept : (t : List ℕ) (o : Option (List ℕ))
    → (changed_authority unchanged (option_map authority_strings o) (option_map (λ (a : AuthorityStrings). a.host) (option_map authority_strings o))
    >>= λ a. Ok (with_authority unchanged (record (strings t) { authority = option_map authority_strings o }) a))
    ≡ Ok (record (strings t) { authority = option_map authority_strings o })
authority_kept t None = refl
authority_kept t (Some a) =
    ap (λ (x : AuthorityStrings). Ok (record (strings t) { authority = Some x })) (same_user (userinfo_text a) (authority.port_text a) (authority.host_text a))

pub strings_kept : (t : List ℕ) → changed_strings unchanged (strings t) ≡ Ok (strings t)
strings_kept t = authority_kept t (authority_text t)

pub nothing_changed : (t : List ℕ) (p : Parts) → Spells t p → changing unchanged t ≡ Ok (record { text = t; parts = p })
nothing_changed t p s =
    (changed_found unchanged t (strings t) p (strings_kept t) (strings_again t p s)).0
    ∙ ap (λ u. Ok (record { text = u; parts = p })) (strings_whole t)
