-- The laws of place keys.
use Rattle.std.proofs.Common.{◌≡◌, ◌↔◌, ℕ, ◌<◌, true, false, List, [], ◌∷◌, ◌++◌, length, Option, Some, None, refl, sym, ap, subst, ◌∙◌, append_assoc, append-nil, arith}
use Rattle.std.specs.Prelude.{IfSome, nat_lt}
use Rattle.std.specs.Cmp.{unsigned_ties}
use Rattle.std.specs.List.{join_with_byte}
use Rattle.std.specs.Option.{option_and_then, option_cmp, option_map, option_or}
use Rattle.std.specs.Ordering.{is_eq, nat_cmp}
use Rattle.std.specs.declared.cmp.Ordering.TheVariants.{Equal}
use Rattle.std.proofs.lemmas.Bool.{eqb-true}
use Rattle.std.proofs.lemmas.Bool.Decides.{nat_tests}
use Rattle.std.proofs.lemmas.Cmp.{tied_itself}
use Rattle.uriparse_text.specs.declared.internal.class.Class.{Class}
use Rattle.uriparse_text.specs.declared.internal.class.Class.TheVariants as class
use Rattle.uriparse_text.specs.declared.internal.token.Case.TheVariants as case
use Rattle.uriparse_text.specs.Bytes.{is_sub_delim, is_unreserved, slash}
use Rattle.uriparse_text.specs.Canonical.{canonical}
use Rattle.uriparse_text.specs.Faults.{IsIn}
use Rattle.uriparse_text.proofs.lemmas.classes.ClassLemmas.{IsIn-canonical_in}
use Rattle.uriparse_text.proofs.lemmas.readings.CutLemmas.{weaker}
use Rattle.uriparse_scheme.specs.DefaultPort.{default_port}
use Rattle.uriparse_scheme.specs.Scheme as scheme
use Rattle.uriparse_scheme.specs.declared.scheme.Scheme.{Scheme}
use Rattle.uriparse_scheme.proofs.lemmas.schemes.GrammarLemmas.{is_scheme-canonical_lowered}
use Rattle.uriparse_scheme.proofs.lemmas.schemes.SchemeLemmas.{is_scheme-text}
use Rattle.uriparse_authority.specs.Authority as authority
use Rattle.uriparse_authority.specs.Authority.{AuthorityParts, with_port}
use Rattle.uriparse_authority.specs.Host as host
use Rattle.uriparse_authority.specs.Order as order
use Rattle.uriparse_authority.specs.Port as port
use Rattle.uriparse_authority.specs.Within as hosts
use Rattle.uriparse_authority.specs.declared.authority.host.Host.{Host}
use Rattle.uriparse_authority.proofs.lemmas.authorities.OrderLemmas.{rank_key, same_rank}
use Rattle.uriparse_path.specs.Normal.{pnormal}
use Rattle.uriparse_path.specs.Path.{IsListed, PathParts}
use Rattle.uriparse_path.specs.Within.{between_slashes}
use Rattle.uriparse_path.proofs.lemmas.normal.NormalFormLemmas.{listed_pnormal}
use Rattle.uriparse_reference.specs.Reference.{Parts, Valid, host_of}
use Rattle.uriparse_reference.proofs.lemmas.reading.CharacterLemmas.{is_uri_byte, uri_bytes-scheme}
use Rattle.uriparse.specs.PlaceKey.{BeginsWith, IsClearBelow, IsSamePage, base_prefix, directory_prefix, domain_prefix, dot_end, end_of, front_of, host_prefix, place_authority, place_front, place_host, place_key, place_path}
use Rattle.uriparse.specs.SortKey.{digits, ended, optional}
use Rattle.uriparse.specs.Within.{IsSamePlace, IsWithin, with_used_port}
use Rattle.uriparse.proofs.lemmas.PlaceHostLemmas.{begins_if_within, high-in_class, host_split, place_of_rank, within_if_begins}
use Rattle.uriparse.proofs.lemmas.PlaceListLemmas.{AreHigh, carried, ended-before, ended_split, optional_split, same_first, same_rest}
use Rattle.uriparse.proofs.lemmas.PlacePathLemmas.{AreSegments, joined_high, joined_text, led_segments, prefix_within, some_led, within_plain, within_prefix}
use Rattle.uriparse.proofs.lemmas.SortKeyLemmas.{ports_carry}
use Rattle.uriparse.proofs.lemmas.WithinOriginLemmas.{default_in_range}

-- ---- components

text_high : (c : Class) (o : Option (List ℕ)) → IfSome o (IsIn c) → IfSome (option_map canonical o) AreHigh
text_high c None i = tt
text_high c (Some t) i = high-in_class c (canonical t) (IsIn-canonical_in c case.Kept t i)

uri_high : (b : ℕ) → is_uri_byte b ≡ true → nat_lt dot_end b ≡ true
unfolding is_unreserved is_sub_delim
uri_high b h = grind (arith, nat_tests)

scheme_high : (o : Option Scheme) → IfSome o scheme.Valid → IfSome (option_map scheme.canonical_text o) AreHigh
scheme_high None v = tt
scheme_high (Some s) v =
    weaker is_uri_byte (λ b. nat_lt dot_end b) uri_high (scheme.canonical_text s) (uri_bytes-scheme (scheme.canonical_text s) (is_scheme-canonical_lowered (scheme.text s) (is_scheme-text s v)))

same_numbers : (m n : Option ℕ) → option_cmp nat_cmp m n ≡ Equal → m ≡ n
same_numbers None None e = refl
same_numbers None (Some n) e = cc
same_numbers (Some m) None e = cc
same_numbers (Some m) (Some n) e = ap Some (eqb-true m n (unsigned_ties m n ∙ ap is_eq e))

ports_split : (m n : Option ℕ) (r s : List ℕ) → IfSome m port.IsPort → IfSome n port.IsPort → optional (digits 10 5) m ++ r ≡ optional (digits 10 5) n ++ s
    → (m ≡ n) × (r ≡ s)
ports_split m n r s v w e =
    let both = carried _ _ r s (option_cmp nat_cmp m n) (ports_carry m n v w r s) e in (same_numbers m n both.0, both.1)

-- ---- authorities

-- what follows an authority's host
abbrev after_host : AuthorityParts → List ℕ → List ℕ
after_host a r = optional (digits 10 5) a.port ++ (optional ended (option_map canonical a.username) ++ (optional ended (option_map canonical a.password) ++ r))

authority-before : (a : AuthorityParts) (r : List ℕ) → place_authority a ++ r ≡ host_prefix a.host ++ end_of a.host ∷ after_host a r
authority-before a r =
    let place = optional (digits 10 5) a.port in
    let user = optional ended (option_map canonical a.username) in
    let word = optional ended (option_map canonical a.password) in
    append_assoc (place_host a.host) (place ++ (user ++ word)) r
    ∙ append_assoc (host_prefix a.host) (end_of a.host ∷ []) ((place ++ (user ++ word)) ++ r)
    ∙ ap (λ t. host_prefix a.host ++ end_of a.host ∷ t) (append_assoc place (user ++ word) r)
    ∙ ap (λ t. host_prefix a.host ++ end_of a.host ∷ (place ++ t)) (append_assoc user word r)

record IsSameRank (a b : AuthorityParts) : Type 0 where
  username : option_map canonical a.username ≡ option_map canonical b.username
  password : option_map canonical a.password ≡ option_map canonical b.password
  place : order.host_rank a.host ≡ order.host_rank b.host
  number : a.port ≡ b.port

authority_split : (a b : AuthorityParts) (r s : List ℕ) → authority.Valid a → authority.Valid b → place_authority a ++ r ≡ place_authority b ++ s
    → IsSameRank a b × (r ≡ s)
authority_split a b r s v w e =
    let hosts = host_split a.host b.host (after_host a r) (after_host b s) v.is_host w.is_host (sym (authority-before a r) ∙ e ∙ authority-before b s) in
    let ports = ports_split a.port b.port _ _ v.is_port w.is_port hosts.1 in
    let users = optional_split _ _ _ _ (text_high class.Name a.username v.is_username) (text_high class.Name b.username w.is_username) ports.1 in
    let words = optional_split _ _ r s (text_high class.UserInfo a.password v.is_password) (text_high class.UserInfo b.password w.is_password) users.1 in
    (record { username = users.0; password = words.0; place = hosts.0; number = ports.0 }, words.1)

key_of_rank : (a b : AuthorityParts) → IsSameRank a b → authority.key a ≡ authority.key b
key_of_rank a b is = same_rank a b (ap (λ r. order.rank_cmp r (order.rank b)) ranks ∙ tied_itself order.rank_total (order.rank b))
  where
    ranks : order.rank a ≡ order.rank b
    ranks = rw (is.username, is.password, is.place, is.number) refl

place_of_key : (a b : AuthorityParts) → authority.Valid a → authority.Valid b → authority.key a ≡ authority.key b → place_authority a ≡ place_authority b
place_of_key a b v w e =
    let ranks : order.rank a ≡ order.rank b = sym (rank_key a v) ∙ ap order.rank_in e ∙ rank_key b w in
    let places = place_of_rank a.host b.host (ap (λ (r : order.Rank). r.host) ranks) in
    let users = ap (λ (r : order.Rank). r.username) ranks in
    let words = ap (λ (r : order.Rank). r.password) ranks in
    let numbers = ap (λ (r : order.Rank). r.port) ranks in
    ap (λ t. (t ++ end_of a.host ∷ []) ++ later a.port (option_map canonical a.username) (option_map canonical a.password)) places.0
    ∙ ap (λ x. (host_prefix b.host ++ x ∷ []) ++ later a.port (option_map canonical a.username) (option_map canonical a.password)) places.1
    ∙ ap (λ n. place_host b.host ++ later n (option_map canonical a.username) (option_map canonical a.password)) numbers
    ∙ ap (λ u. place_host b.host ++ later b.port u (option_map canonical a.password)) users
    ∙ ap (λ u. place_host b.host ++ later b.port (option_map canonical b.username) u) words
  where
    later : Option ℕ → Option (List ℕ) → Option (List ℕ) → List ℕ
    later n u w = optional (digits 10 5) n ++ (optional ended u ++ optional ended w)

pub used_valid : (s : Option Scheme) (o : Option AuthorityParts) → IfSome o authority.Valid → IfSome (with_used_port s o) authority.Valid
used_valid s None v = tt
used_valid s (Some a) v = record {
  is_username = v.is_username;
  is_password = v.is_password;
  paired = v.paired;
  is_host = v.is_host;
  is_port = by_port a.port v.is_port;
}
  where
    by_port : (n : Option ℕ) → IfSome n port.IsPort → IfSome (option_or n (option_and_then default_port s)) port.IsPort
    by_port None h = default_in_range s
    by_port (Some n) h = h

-- ---- what precedes the path

authorities_split : (o p : Option AuthorityParts) (r s : List ℕ) → IfSome o authority.Valid → IfSome p authority.Valid
    → optional (λ t. t) (option_map place_authority o) ++ r ≡ optional (λ t. t) (option_map place_authority p) ++ s
    → (option_map authority.key o ≡ option_map authority.key p) × (r ≡ s)
authorities_split None None r s v w e = (refl, same_rest 1 1 r s e)
authorities_split None (Some b) r s v w e = let same = same_first 1 2 _ _ e in absurd (omega (arith, same))
authorities_split (Some a) None r s v w e = let same = same_first 2 1 _ _ e in absurd (omega (arith, same))
authorities_split (Some a) (Some b) r s v w e =
    let both = authority_split a b r s v w (same_rest 2 2 _ _ e) in (ap Some (key_of_rank a b both.0), both.1)

pub front-before : (a s : Option (List ℕ)) (r : List ℕ) → front_of a s ++ r ≡ 112 ∷ (optional (λ t. t) a ++ (optional ended s ++ r))
front-before a s r = ap (λ t. 112 ∷ t) (append_assoc (optional (λ t. t) a) (optional ended s) r)

front_split : (p b : Parts) (r s : List ℕ) → Valid p → Valid b → place_front p ++ r ≡ place_front b ++ s
    → IsSamePlace p.scheme b.scheme p.authority b.authority × (r ≡ s)
front_split p b r s v w e =
    let whole = same_rest 112 112 _ _ (sym (front-before _ _ r) ∙ e ∙ front-before _ _ s) in
    let places = authorities_split (with_used_port p.scheme p.authority) (with_used_port b.scheme b.authority) _ _
    (used_valid p.scheme p.authority v.is_authority) (used_valid b.scheme b.authority w.is_authority) whole in
    let schemes = optional_split _ _ r s (scheme_high p.scheme v.is_scheme) (scheme_high b.scheme w.is_scheme) places.1 in
    (record { schemes = schemes.0; authorities = places.0 }, schemes.1)

authorities_same : (o p : Option AuthorityParts) → IfSome o authority.Valid → IfSome p authority.Valid
    → option_map authority.key o ≡ option_map authority.key p → option_map place_authority o ≡ option_map place_authority p
authorities_same None None v w e = refl
authorities_same None (Some b) v w e = absurd (cc)
authorities_same (Some a) None v w e = absurd (cc)
authorities_same (Some a) (Some b) v w e = let same : authority.key a ≡ authority.key b = cc in ap Some (place_of_key a b v w same)

front_same : (p b : Parts) → Valid p → Valid b → IsSamePlace p.scheme b.scheme p.authority b.authority → place_front p ≡ place_front b
front_same p b v w is =
    ap (λ a. front_of a (option_map scheme.canonical_text p.scheme)) (authorities_same (with_used_port p.scheme p.authority) (with_used_port b.scheme b.authority)
    (used_valid p.scheme p.authority v.is_authority) (used_valid b.scheme b.authority w.is_authority) is.authorities)
    ∙ ap (front_of (option_map place_authority (with_used_port b.scheme b.authority))) is.schemes

-- ---- domains

domain_by : (s : Option Scheme) (o : Option AuthorityParts) (t : List ℕ) (d : Host) → IfSome o authority.Valid → host.Valid d
    → BeginsWith (112 ∷ (optional (λ x. x) (option_map place_authority (with_used_port s o)) ++ t)) (domain_prefix d)
    ↔ ((h : Host) × (option_map (λ (a : AuthorityParts). a.host) o ≡ Some h) × hosts.IsWithin h d)
domain_by s None t d v w = (
  λ (rest, e). let same = same_first 1 2 _ _ (same_rest 112 112 _ _ e) in absurd (omega (arith, same)),
  λ (h, none, is). absurd (cc),
)
domain_by s (Some a) t d v w = (
  λ (rest, e). (
    a.host,
    refl,
    within_if_begins a.host d (after_host used t) rest v.is_host w
        (sym (authority-before used t) ∙ same_rest 2 2 _ _ (same_rest 112 112 _ _ e)),
  ),
  λ (h, e, is).
      let same : a.host ≡ h = cc in
      let begins = begins_if_within a.host d v.is_host w (subst (λ x. hosts.IsWithin x d) (sym same) is) in (
        begins.0 ++ end_of a.host ∷ after_host used t,
        ap (λ l. 112 ∷ 2 ∷ l)
            (authority-before used t
            ∙ ap (λ l. l ++ end_of a.host ∷ after_host used t) begins.1
            ∙ append_assoc (host_prefix d) begins.0 (end_of a.host ∷ after_host used t)),
      ),
)
  where
    used : AuthorityParts
    used = with_port a (option_or a.port (option_and_then default_port s))

-- what follows the front of a key
abbrev pub back_of : Parts → List ℕ
back_of p = ended (place_path p) ++ (optional ended (option_map canonical p.query) ++ optional ended (option_map canonical p.fragment))

pub domain_law : (p : Parts) (d : Host) → Valid p → host.Valid d
    → BeginsWith (place_key p) (domain_prefix d) ↔ ((h : Host) × (host_of p ≡ Some h) × hosts.IsWithin h d)
domain_law p d v w =
    subst (λ t. BeginsWith t (domain_prefix d) ↔ ((h : Host) × (host_of p ≡ Some h) × hosts.IsWithin h d))
    (sym (front-before (option_map place_authority (with_used_port p.scheme p.authority)) (option_map scheme.canonical_text p.scheme) (back_of p)))
    (domain_by p.scheme p.authority (optional ended (option_map scheme.canonical_text p.scheme) ++ back_of p) d v.is_authority w)

-- ---- bases

pub normal_segments : (p : PathParts) → IsListed p.segments → AreSegments (between_slashes (pnormal p false))
normal_segments p is = led_segments (pnormal p false).absolute (pnormal p false).segments (listed_pnormal p false is).each

normal_some : (p : PathParts) → IsListed p.segments → 0 < length (between_slashes (pnormal p false))
normal_some p is = some_led (pnormal p false).absolute (pnormal p false).segments (listed_pnormal p false is).some

pub normal_text : (p : Parts) → Valid p → place_path p ≡ join_with_byte slash (between_slashes (pnormal p.path false))
normal_text p v = joined_text (pnormal p.path false) (listed_pnormal p.path false v.is_path).some

pub base_law : (p b : Parts) → Valid p → Valid b → IsWithin p b ↔ (BeginsWith (place_key p) (base_prefix b) × IsClearBelow p b)
base_law p b v w = (
  λ is.
      let within = within_prefix ps bs tail is.path in (
        (
          within.0,
          ap (λ t. place_front p ++ (ended t ++ tail)) (normal_text p v)
              ∙ ap (λ t. place_front p ++ t) within.1
              ∙ ap (λ t. t ++ (directory_prefix bs ++ within.0)) (front_same p b v w is.place)
              ∙ sym (append_assoc (place_front b) (directory_prefix bs) within.0),
        ),
        record { plain = within_plain ps bs is.path; clear = is.clear },
      ),
  λ ((rest, e), clear).
      let both = front_split p b (back_of p) (directory_prefix bs ++ rest) v w (e ∙ append_assoc (place_front b) (directory_prefix bs) rest) in
      record {
        place = both.0;
        path = prefix_within ps bs tail rest (normal_some p.path v.is_path) (normal_some b.path w.is_path) (normal_segments p.path v.is_path)
            (normal_segments b.path w.is_path) (ap (λ t. ended t ++ tail) (sym (normal_text p v)) ∙ both.1) clear.plain;
        clear = clear.clear;
      },
)
  where
    ps : List (List ℕ)
    ps = between_slashes (pnormal p.path false)

    bs : List (List ℕ)
    bs = between_slashes (pnormal b.path false)

    tail : List ℕ
    tail = optional ended (option_map canonical p.query) ++ optional ended (option_map canonical p.fragment)

-- ---- equal keys

path_high : (p : Parts) → Valid p → AreHigh (place_path p)
path_high p v = subst AreHigh (sym (normal_text p v)) (joined_high _ (normal_segments p.path v.is_path))

pub same_law : (p q : Parts) → Valid p → Valid q → (place_key p ≡ place_key q) ↔ IsSamePage p q
same_law p q v w = (
  λ e.
      let fronts = front_split p q (back_of p) (back_of q) v w e in
      let paths = ended_split (place_path p) (place_path q) _ _ (path_high p v) (path_high q w)
      (sym (ended-before (place_path p) _) ∙ fronts.1 ∙ ended-before (place_path q) _) in
      let queries = optional_split _ _ _ _ (text_high class.Query p.query v.is_query) (text_high class.Query q.query w.is_query) paths.1 in
      let fragments = optional_split _ _ [] [] (text_high class.Query p.fragment v.is_fragment) (text_high class.Query q.fragment w.is_fragment)
      (append-nil _ ∙ queries.1 ∙ sym (append-nil _)) in
      record { place = fronts.0; path = paths.0; query = queries.0; fragment = fragments.0 },
  λ is.
      ap (λ t. t ++ back_of p) (front_same p q v w is.place)
      ∙ ap (λ t. place_front q ++ (ended t ++ (optional ended (option_map canonical p.query) ++ optional ended (option_map canonical p.fragment)))) is.path
      ∙ ap (λ o. place_front q ++ (ended (place_path q) ++ (optional ended o ++ optional ended (option_map canonical p.fragment)))) is.query
      ∙ ap (λ o. place_front q ++ (ended (place_path q) ++ (optional ended (option_map canonical q.query) ++ optional ended o))) is.fragment,
)
