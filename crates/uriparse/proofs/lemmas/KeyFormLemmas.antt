-- The key of a form, by the components of the reference that it is made from.
use Rattle.std.proofs.Common.{◌≡◌, ℕ, Bool, true, false, List, [], ◌∷◌, ◌++◌, map, Option, Some, None, append_assoc, refl, sym, ap, subst, ◌∙◌}
use Rattle.std.specs.Prelude.{◌&&◌, ◌||◌, not, IfSome, bytes_eq, cond, is_none, is_some}
use Rattle.std.specs.List.{list_all}
use Rattle.std.specs.Char.{digit_char}
use Rattle.std.specs.Option.{option_and_then, option_map}
use Rattle.std.proofs.lemmas.Bool.{and_from, and_parts}
use Rattle.std.proofs.lemmas.Slice.Eq.{bytes_eq-Decides}
use Rattle.uriparse_text.specs.declared.internal.class.Class.TheVariants as class
use Rattle.uriparse_text.specs.Bytes.{dot, is_unreserved}
use Rattle.uriparse_text.specs.Canonical.{canonical, canonical_in, canonical_lowered}
use Rattle.uriparse_text.specs.Tokens.{tokens}
use Rattle.uriparse_authority.specs.Authority as authority
use Rattle.uriparse_authority.specs.Authority.{AuthorityParts, with_port}
use Rattle.uriparse_authority.specs.Host as host
use Rattle.uriparse_authority.specs.Normal.{canonical_authority, canonical_host}
use Rattle.uriparse_authority.specs.declared.authority.host.Host.{Host}
use Rattle.uriparse_authority.specs.declared.authority.host.Host.TheVariants.{IPv4Address, IPv6Address, IPvFuture, RegisteredName}
use Rattle.uriparse_authority.proofs.lemmas.authorities.NormalLemmas.{host_twice, text_twice}
use Rattle.uriparse_scheme.specs.Scheme as scheme
use Rattle.uriparse_scheme.specs.Normal.{canonical_scheme}
use Rattle.uriparse_scheme.specs.declared.scheme.Scheme.{Scheme}
use Rattle.uriparse_scheme.proofs.lemmas.schemes.NormalLemmas.{text-canonical}
use Rattle.uriparse_scheme.proofs.lemmas.schemes.NormalLemmas as schemes
use Rattle.uriparse_path.specs.Normal.{are_normal, is_canonical, is_dot_prefixed, is_normal_at, pnormal, stays_relative}
use Rattle.uriparse_path.specs.Path as path
use Rattle.uriparse_path.specs.Path.{starts_with_empty_segment}
use Rattle.uriparse_path.proofs.lemmas.normal.RelativeFormLemmas.{all_canonical_same}
use Rattle.uriparse_path.proofs.lemmas.text.CanonicalTextLemmas.{canonical-text}
use Rattle.uriparse_reference.specs.Normal.{context, dot_prefixed, is_normal, normal}
use Rattle.uriparse_reference.specs.Ports.{has_default_port, without_default_port}
use Rattle.uriparse_reference.specs.Reference.{Parts, Valid, port_of, print}
use Rattle.uriparse_reference.proofs.lemmas.edits.PortLemmas.{valid_without}
use Rattle.uriparse_reference.proofs.lemmas.normalizing.NormalFormLemmas.{normal_twice, normal_valid}
use Rattle.uriparse_reference.proofs.lemmas.normalizing.NormalizingLemmas.{normal_exactly}
use Rattle.uriparse.specs.Uri.{base}
use Rattle.uriparse.specs.SortKey.{authority_key, changed_if, digits, ended, host_key, key_fragment, key_of, key_path, key_port, in_form, optional, present, sort_key}
use Rattle.uriparse.specs.declared.sort_key.KeyForm.{KeyForm}

-- ---- valid references

valid_base : (p : Parts) → Valid p → Valid (base p)
valid_base p v = record {
  is_scheme = v.is_scheme;
  is_authority = v.is_authority;
  is_path = v.is_path;
  absolute = v.absolute;
  plain = v.plain;
  fit = v.fit;
  is_query = v.is_query;
  is_fragment = tt;
}

valid_if : (is : Bool) (change : Parts → Parts) → ((p : Parts) → Valid p → Valid (change p)) → (p : Parts) → Valid p → Valid (changed_if is change p)
valid_if true change f p v = f p v
valid_if false change f p v = v

pub valid_in_form : (f : KeyForm) (p : Parts) → Valid p → Valid (in_form f p)
valid_in_form f p v =
    let q = changed_if f.without_fragment base p in
    valid_if f.normalized normal normal_valid (changed_if f.without_default_port without_default_port q)
    (valid_if f.without_default_port without_default_port valid_without q (valid_if f.without_fragment base valid_base p v))

-- ---- the normal form

normal_scheme : (o : Option Scheme) → IfSome o scheme.Valid → option_map scheme.canonical_text (option_map canonical_scheme o) ≡ option_map scheme.canonical_text o
normal_scheme None v = refl
normal_scheme (Some s) v = ap Some (sym (text-canonical (canonical_scheme s)) ∙ ap scheme.text (schemes.canonical_twice s v) ∙ text-canonical s)

normal_host : (h : Host) → host.Valid h → host_key (canonical_host h) ≡ host_key h
normal_host (IPv4Address a) v = refl
normal_host (IPv6Address a) v = refl
normal_host (IPvFuture f) v =
    let twice = host_twice (IPvFuture f) v in
    let same : canonical_lowered (canonical_lowered f) ≡ canonical_lowered f = cc in
    ap (λ t. digit_char 7 ∷ ended t) same
normal_host (RegisteredName n) v =
    let twice = host_twice (RegisteredName n) v in
    let same : canonical_lowered (canonical_lowered n) ≡ canonical_lowered n = cc in
    ap (λ t. digit_char 1 ∷ ended t) same

normal_authority : (o : Option AuthorityParts) → IfSome o authority.Valid → option_map authority_key (option_map canonical_authority o) ≡ option_map authority_key o
normal_authority None v = refl
normal_authority (Some a) v =
    let later = λ (t : List ℕ). t ++ optional (digits 10 5) a.port in
    ap (λ u. Some (optional ended u ++ (optional ended (option_map canonical (option_map canonical a.password)) ++ later (host_key (canonical_host a.host)))))
    (text_twice class.Name a.username v.is_username)
    ∙ ap (λ u. Some (optional ended (option_map canonical a.username) ++ (optional ended u ++ later (host_key (canonical_host a.host)))))
    (text_twice class.UserInfo a.password v.is_password)
    ∙ ap (λ t. Some (optional ended (option_map canonical a.username) ++ (optional ended (option_map canonical a.password) ++ later t)))
    (normal_host a.host v.is_host)

from_normal : (a stays : Bool) (ss : List (List ℕ)) → are_normal stays ss ≡ true → list_all is_canonical ss ≡ true
from_normal a stays ss h = (and_parts (list_all is_canonical ss) _ h).0

dot_is_canonical : is_canonical (dot ∷ []) ≡ true
unfolding canonical_in tokens is_unreserved
dot_is_canonical = refl

from_prefixed : (a : Bool) (ss : List (List ℕ)) → is_dot_prefixed a ss ≡ true → list_all is_canonical ss ≡ true
from_prefixed a [] h = absurd (cc)
from_prefixed a (s ∷ ss) h =
    let outer = and_parts (a && bytes_eq s (dot ∷ []) && starts_with_empty_segment ss) _ h in
    let inner = and_parts (a && bytes_eq s (dot ∷ [])) _ outer.0 in
    let same : s ≡ dot ∷ [] = (bytes_eq-Decides s (dot ∷ [])).0 (and_parts a _ inner.0).1 in
    and_from (is_canonical s) _ (ap is_canonical same ∙ dot_is_canonical) (from_normal a (stays_relative (record { absolute = a; segments = ss }) false) ss outer.1)

from_either : (w a : Bool) (stays : Bool) (ss : List (List ℕ)) → (are_normal stays ss || (w && is_dot_prefixed a ss)) ≡ true → list_all is_canonical ss ≡ true
from_either w a stays ss h = by_test (are_normal stays ss) refl
  where
    by_test : (t : Bool) → are_normal stays ss ≡ t → list_all is_canonical ss ≡ true
    by_test true e = from_normal a stays ss e
    by_test false e = from_prefixed a ss (and_parts w _ (ap (λ x. x || (w && is_dot_prefixed a ss)) (sym e) ∙ h)).1

pub normal_path : (p : Parts) → Valid p → canonical (path.text (normal p).path) ≡ path.text (normal p).path
normal_path p v =
    let valid = normal_valid p v in
    let is : is_normal (normal p) ≡ true = (normal_exactly (normal p) valid).1 (ap print (normal_twice p v)) in
    let at = (and_parts (is_normal_at (context (normal p)) (normal p).path) _ (and_parts _ _ (and_parts _ _ is).1).1).0 in
    let all : list_all is_canonical (normal p).path.segments ≡ true =
    from_either (not (is_some (normal p).authority)) (normal p).path.absolute (stays_relative (normal p).path (not (is_some (normal p).scheme))) (normal p).path.segments at in
    canonical-text (normal p).path valid.is_path
    ∙ ap (λ ss. path.text (record { absolute = (normal p).path.absolute; segments = ss })) (all_canonical_same (normal p).path.segments all)

-- the key of a reference with the text of another path
abbrev pub key_at : List ℕ → Parts → List ℕ
key_at h p =
    key_of (option_map scheme.canonical_text p.scheme) (option_map authority_key p.authority) h (option_map canonical p.query) (option_map canonical p.fragment)

normal_key : (p : Parts) → Valid p → sort_key (normal p) ≡ key_at (path.text (normal p).path) p
normal_key p v =
    rw (
      normal_scheme p.scheme v.is_scheme,
      normal_authority p.authority v.is_authority,
      normal_path p v,
      text_twice class.Query p.query v.is_query,
      text_twice class.Query p.fragment v.is_fragment,
    ) refl

-- ---- the forms

key_if : (is : Bool) (p : Parts) → Valid p → sort_key (changed_if is normal p) ≡ key_at (key_path is p) p
key_if true p v = normal_key p v
key_if false p v = refl

-- what an authority's key is with this port
abbrev with_ports : Option ℕ → Option AuthorityParts → Option (List ℕ)
with_ports n o = option_map (λ a. authority_key (with_port a n)) o

own_port : (p : Parts) → option_map authority_key p.authority ≡ with_ports (port_of p) p.authority
own_port p = by_authority p.authority
  where
    by_authority : (o : Option AuthorityParts) → option_map authority_key o ≡ with_ports (option_and_then (λ (a : AuthorityParts). a.port) o) o
    by_authority None = refl
    by_authority (Some a) = refl

no_port : (o : Option AuthorityParts) → option_map authority_key (option_map (λ a. with_port a None) o) ≡ with_ports None o
no_port None = refl
no_port (Some a) = refl

-- the path's text doesn't depend on the port
port_path : (n : Bool) (q : Parts) → key_path n (record q { authority = option_map (λ a. with_port a None) q.authority }) ≡ key_path n q
port_path false q = refl
port_path true q = by_authority q.authority
  where
    by_authority : (o : Option AuthorityParts)
        → path.text (dot_prefixed (option_map (λ a. with_port a None) o) (pnormal q.path (is_none q.scheme))) ≡ path.text (dot_prefixed o (pnormal q.path (is_none q.scheme)))
    by_authority None = refl
    by_authority (Some a) = refl

-- the key of the reference with these components
abbrev with_key : Parts → Option (List ℕ) → List ℕ → List ℕ
with_key q a h = key_of (option_map scheme.canonical_text q.scheme) a h (option_map canonical q.query) (option_map canonical q.fragment)

abbrev without_port : Parts → Parts
without_port q = record q { authority = option_map (λ a. with_port a None) q.authority }

portless : (d n : Bool) (q : Parts)
    → key_at (key_path n (changed_if d without_default_port q)) (changed_if d without_default_port q)
    ≡ with_key q (with_ports (cond (d && has_default_port q) None (port_of q)) q.authority) (key_path n q)
portless false n q = ap (λ a. with_key q a (key_path n q)) (own_port q)
portless true n q = by_test (has_default_port q)
  where
    by_test : (t : Bool)
        → key_at (key_path n (cond {A = Parts} t (without_port q) q)) (cond {A = Parts} t (without_port q) q) ≡ with_key q (with_ports (cond t None (port_of q)) q.authority) (key_path n q)
    by_test true = ap (λ a. with_key q a (key_path n (without_port q))) (no_port q.authority) ∙ ap (with_key q (with_ports None q.authority)) (port_path n q)
    by_test false = ap (λ a. with_key q a (key_path n q)) (own_port q)

fragmentless_path : (n : Bool) (p : Parts) → key_path n (base p) ≡ key_path n p
fragmentless_path true p = refl
fragmentless_path false p = refl

pub key_in_form : (f : KeyForm) (p : Parts) → Valid p
    → sort_key (in_form f p)
    ≡ key_of (option_map scheme.canonical_text p.scheme) (option_map (λ a. authority_key (with_port a (key_port f p))) p.authority) (key_path f.normalized p)
    (option_map canonical p.query) (key_fragment f.without_fragment p)
key_in_form f p v =
    let q = changed_if f.without_fragment base p in
    key_if f.normalized (changed_if f.without_default_port without_default_port q)
    (valid_if f.without_default_port without_default_port valid_without q (valid_if f.without_fragment base valid_base p v))
    ∙ portless f.without_default_port f.normalized q ∙ by_fragment f.without_fragment
  where
    by_fragment : (w : Bool)
        → with_key (changed_if w base p) (with_ports (cond (f.without_default_port && has_default_port (changed_if w base p)) None (port_of (changed_if w base p))) (changed_if w base p).authority)
        (key_path f.normalized (changed_if w base p))
        ≡ key_of (option_map scheme.canonical_text p.scheme) (with_ports (key_port f p) p.authority) (key_path f.normalized p) (option_map canonical p.query)
        (key_fragment w p)
    by_fragment true = ap (with_key (base p) (with_ports (key_port f p) p.authority)) (fragmentless_path f.normalized p)
    by_fragment false = refl

-- ---- an authority's key, put together from its end

pub authority_text : (o : Option AuthorityParts) (a : AuthorityParts) (username password : Option (List ℕ)) (h : Host) (n : Option ℕ) (t : List ℕ)
    → o ≡ Some a → username ≡ a.username → password ≡ a.password → h ≡ a.host
    → present ∷ (optional ended (option_map canonical username) ++ (optional ended (option_map canonical password) ++ (host_key h ++ (optional (digits 10 5) n ++ t))))
    ≡ optional (λ b. b) (option_map (λ b. authority_key (with_port b n)) o) ++ t
authority_text o a username password h n t e f g i =
    let port = optional (digits 10 5) n in
    let user = optional ended (option_map canonical a.username) in
    let word = optional ended (option_map canonical a.password) in
    ap (λ u. present ∷ (optional ended (option_map canonical u) ++ (optional ended (option_map canonical password) ++ (host_key h ++ (port ++ t))))) f
    ∙ ap (λ u. present ∷ (user ++ (optional ended (option_map canonical u) ++ (host_key h ++ (port ++ t))))) g
    ∙ ap (λ u. present ∷ (user ++ (word ++ (host_key u ++ (port ++ t))))) i
    ∙ ap (λ u. present ∷ (user ++ (word ++ u))) (sym (append_assoc (host_key a.host) port t))
    ∙ ap (λ u. present ∷ (user ++ u)) (sym (append_assoc word (host_key a.host ++ port) t))
    ∙ ap (λ u. present ∷ u) (sym (append_assoc user (word ++ (host_key a.host ++ port)) t))
    ∙ ap (λ x. optional (λ b. b) (option_map (λ b. authority_key (with_port b n)) x) ++ t) (sym e)

-- ---- the whole key, put together from its end

pub put_text : (f : KeyForm) (p : Parts) (s : Option Scheme) (a : Option AuthorityParts) (n : Option ℕ) (q : Option (List ℕ))
    → s ≡ p.scheme → a ≡ p.authority → n ≡ key_port f p → q ≡ p.query → Valid p
    → key_of (option_map scheme.canonical_text s) (option_map (λ b. authority_key (with_port b n)) a) (key_path f.normalized p) (option_map canonical q)
    (key_fragment f.without_fragment p)
    ≡ sort_key (in_form f p)
put_text f p s a n q e g h i v =
    let fragment = key_fragment f.without_fragment p in
    let path_text = key_path f.normalized p in
    ap (λ x. key_of (option_map scheme.canonical_text x) (option_map (λ b. authority_key (with_port b n)) a) path_text (option_map canonical q) fragment) e
    ∙ ap (λ x. key_of (option_map scheme.canonical_text p.scheme) (option_map (λ b. authority_key (with_port b n)) x) path_text (option_map canonical q) fragment) g
    ∙ ap (λ x. key_of (option_map scheme.canonical_text p.scheme) (option_map (λ b. authority_key (with_port b x)) p.authority) path_text (option_map canonical q) fragment) h
    ∙ ap (λ x. key_of (option_map scheme.canonical_text p.scheme) (option_map (λ b. authority_key (with_port b (key_port f p))) p.authority) path_text (option_map canonical x) fragment) i
    ∙ sym (key_in_form f p v)
