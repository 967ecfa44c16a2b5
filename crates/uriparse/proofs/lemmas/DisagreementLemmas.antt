-- If readers have no reason to disagree on a URI, the URL Standard reads it as RFC 3986 does.
use Rattle.std.proofs.Common.{◌≡◌, ℕ, ◌<◌, Bool, true, false, cond, not, List, [], ◌∷◌, ◌++◌, length, drop, map, flat_map, Option, Some, None, unwrap_or, refl, sym, ap, ◌∙◌, subst, append-nil, arith, inl, inr}
use Rattle.std.specs.Prelude.{◌==◌, ◌&&◌, ◌||◌, IfSome, bytes_eq, codes, is_some}
use Rattle.std.specs.List.{find, list_any, list_all}
use Rattle.std.specs.Option.{option_and_then, option_map, option_or}
use Rattle.std.specs.Str.{str_to_ascii_lowercase}
use Rattle.std.proofs.lemmas.Bool.{and_parts, and_from, not-true, false≢true, eqb-true}
use Rattle.std.proofs.lemmas.Bool.Decides.{nat_tests}
use Rattle.std.proofs.lemmas.Option.{option_and_then_some}
use Rattle.std.proofs.lemmas.Slice.Eq.{bytes_eq-Decides}
use Rattle.uriparse_text.specs.declared.internal.class.Class.TheVariants.{Query}
use Rattle.uriparse_text.specs.declared.internal.token.Case.TheVariants.{Lowered}
use Rattle.uriparse_text.specs.declared.internal.token.Token.{Token}
use Rattle.uriparse_text.specs.declared.internal.token.Token.TheVariants.{Byte, Escape}
use Rattle.uriparse_text.specs.Bytes.{at_sign, colon, is_among, is_hex, left_bracket, number_sign, percent, question_mark, slash}
use Rattle.uriparse_text.specs.Address.{ipv6_reading}
use Rattle.uriparse_text.specs.Canonical.{canonical_lowered}
use Rattle.uriparse_text.specs.Coding.{decoded, escape_of, value_of}
use Rattle.uriparse_text.specs.Cuts.{after, ahead, before, following, from_first, up_to}
use Rattle.uriparse_text.specs.Query.{IsQuery}
use Rattle.uriparse_text.specs.Readings.{IfPresent}
use Rattle.uriparse_text.specs.Tokens.{is_token, is_well_formed, spell, tokens}
use Rattle.uriparse_text.proofs.lemmas.canonical.CanonicalLemmas.{canonical_in-nil}
use Rattle.uriparse_text.proofs.lemmas.classes.ClassLemmas.{well_formed-in_class}
use Rattle.uriparse_text.proofs.lemmas.readings.CutLemmas.{from_first-append, up_to-append}
use Rattle.uriparse_text.proofs.lemmas.tokens.CodingLemmas.{decoded-cons, decoded-nil}
use Rattle.uriparse_text.proofs.lemmas.tokens.TokenLemmas.{spell-tokens, tokens-spell}
use Rattle.uriparse_scheme.specs.DefaultPort.{default_port, registered_port}
use Rattle.uriparse_scheme.specs.SchemeTable.{row_of}
use Rattle.uriparse_scheme.specs.Scheme as scheme
use Rattle.uriparse_scheme.specs.declared.scheme.Scheme.{Scheme}
use Rattle.uriparse_scheme.specs.declared.scheme.Scheme.TheVariants.{Registered}
use Rattle.uriparse_scheme.specs.declared.scheme.registered.RegisteredScheme.{RegisteredScheme}
use Rattle.uriparse_scheme.specs.declared.scheme.registered.RegisteredScheme.TheVariants as names
use Rattle.uriparse_scheme.specs.Registered.{name_of}
use Rattle.uriparse_scheme.proofs.lemmas.schemes.GrammarLemmas.{canonical_low_of_scheme}
use Rattle.uriparse_scheme.proofs.lemmas.schemes.SchemeLemmas.{canonical_spelled, valid_spelled}
use Rattle.uriparse_scheme.proofs.lemmas.table.TableLemmas.{canonical_name}
use Rattle.uriparse_authority.specs.Authority as authority
use Rattle.uriparse_authority.specs.Authority.{AuthorityParts, ends_authority}
use Rattle.uriparse_authority.specs.Host as host
use Rattle.uriparse_authority.specs.Host.{in_brackets}
use Rattle.uriparse_authority.specs.Within.{has_escape, may_be_numeric}
use Rattle.uriparse_authority.specs.declared.authority.host.Host.{Host}
use Rattle.uriparse_authority.specs.declared.authority.host.Host.TheVariants.{IPv4Address, IPv6Address, IPvFuture, RegisteredName}
use Rattle.uriparse_authority.proofs.lemmas.authorities.AuthorityLemmas.{LacksEnds, spelled_lacks}
use Rattle.uriparse_path.specs.Dots.{has_dot_segment, replay, replayed, undot, without_dots}
use Rattle.uriparse_path.specs.Faults.{ends_path}
use Rattle.uriparse_path.specs.Path.{IsPath, PathParts, made_absolute, pieces, spelled, text}
use Rattle.uriparse_path.proofs.lemmas.dots.ReplayLemmas.{once_rooted}
use Rattle.uriparse_path.proofs.lemmas.normal.NormalFormLemmas.{replay_kept, spelled_undot}
use Rattle.uriparse_path.proofs.lemmas.text.PathTextLemmas.{respelled_absolute}
use Rattle.uriparse_reference.specs.Cuts.{after_scheme, scheme_text}
use Rattle.uriparse_reference.specs.Ports.{port_or_default}
use Rattle.uriparse_reference.specs.Reference.{Parts, Spells, after_slashes, host_of, is_abempty, password_of, path_of, username_of}
use Rattle.uriparse_reference.proofs.lemmas.reading.CutLemmas.{ends_there, path_cut, scheme_of, tail, tail_of}
use Rattle.uriparse_reference.proofs.lemmas.reading.ReadingLemmas.{spelled_pieces}
use Rattle.uriparse.specs.Disagreement.{disagreement, disagrees, host_passes, is_future, is_name, is_special, reasons}
use Rattle.uriparse.specs.Web.{Domain, Ipv4, Ipv6, ReadsAlike, WebHost, WebUrl, after_credentials, as_web, credentials, ends_in_number, has_encoded_label, is_forbidden, of_domain, quoted, special_port, to_ascii, url_of, web, web_after, web_authority, web_host, web_host_text, web_ipv4, web_password, web_port, web_port_text, web_username, without_slashes}
use Rattle.uriparse.specs.declared.uri.disagreement.Disagreement.{Disagreement}
use Rattle.uriparse.specs.declared.uri.disagreement.Disagreement.TheVariants as variants
use Rattle.uriparse.proofs.lemmas.OriginLemmas.{same_default}
use Rattle.uriparse.proofs.lemmas.WebCutLemmas.{IsPlain, plain_authority, port_agrees}
use Rattle.uriparse.proofs.lemmas.WebHostLemmas.{IsPlainHost, host_agrees, host_some}

-- ---- no reason holds

none_first : {X : Type 0} (test : X → Bool) (x : X) (xs : List X) → find test (x ∷ xs) ≡ None → (test x ≡ false) × (find test xs ≡ None)
none_first test x xs = by_test (test x)
  where
    by_test : (v : Bool) → cond v (Some x) (find test xs) ≡ None → (v ≡ false) × (find test xs ≡ None)
    by_test true e = absurd (cc)
    by_test false e = (refl, e)

pub record Agrees (p : Parts) : Type 0 where
  pub scheme : disagrees variants.Scheme p ≡ false
  pub no_host : disagrees variants.NoHost p ≡ false
  pub later : disagrees variants.LaterAddress p ≡ false
  pub escaped : disagrees variants.EscapedName p ≡ false
  pub numeric : disagrees variants.NumericName p ≡ false
  pub encoded : disagrees variants.EncodedName p ≡ false
  pub dots : disagrees variants.EscapedDots p ≡ false
  pub user : disagrees variants.UserInformation p ≡ false

pub agrees : (p : Parts) → disagreement p ≡ None → Agrees p
agrees p e =
    let test : Disagreement → Bool = λ d. disagrees d p in
    let a = none_first test variants.Scheme (drop 1 reasons) e in
    let b = none_first test variants.NoHost (drop 2 reasons) a.1 in
    let c = none_first test variants.LaterAddress (drop 3 reasons) b.1 in
    let d = none_first test variants.EscapedName (drop 4 reasons) c.1 in
    let f = none_first test variants.NumericName (drop 5 reasons) d.1 in
    let g = none_first test variants.EncodedName (drop 6 reasons) f.1 in
    let h = none_first test variants.EscapedDots (drop 7 reasons) g.1 in
    let i = none_first test variants.UserInformation (drop 8 reasons) h.1 in
    record { scheme = a.0; no_host = b.0; later = c.0; escaped = d.0; numeric = f.0; encoded = g.0; dots = h.0; user = i.0 }

pub none_holds : (p : Parts) → Agrees p → disagreement p ≡ None
none_holds p a = rw (a.scheme, a.no_host, a.later, a.escaped, a.numeric, a.encoded, a.dots, a.user) refl

-- ---- the scheme

not_not : (v : Bool) → not v ≡ false → v ≡ true
not_not true e = refl
not_not false e = absurd (cc)

-- a special scheme's text, the scheme and its port
pub record IsSpecial (o : Option (List ℕ)) (x : Option Scheme) : Type 0 where
  pub text : List ℕ
  pub value : Scheme
  pub port : ℕ
  pub has_text : o ≡ Some text
  pub has_value : x ≡ Some value
  pub spells : scheme.Spells text value
  pub has_port : special_port (scheme.canonical_text value) ≡ Some port

special_there : (o : Option (List ℕ)) (x : Option Scheme) → IfPresent scheme.Spells o x → is_special x ≡ true → IsSpecial o x
special_there o None s e = absurd (cc)
special_there None (Some x) s e = absurd s
special_there (Some t) (Some x) s e = by_port (special_port (scheme.canonical_text x)) refl e
  where
    by_port : (n : Option ℕ) → special_port (scheme.canonical_text x) ≡ n → is_some n ≡ true → IsSpecial (Some t) (Some x)
    by_port None f e = absurd (cc)
    by_port (Some n) f e = record { text = t; value = x; port = n; has_text = refl; has_value = refl; spells = s; has_port = f }

-- the default ports of the five schemes
named_default : (a : RegisteredScheme) (s : Scheme) (name : List ℕ) → name_of a ≡ name → scheme.Valid s → bytes_eq (scheme.canonical_text s) name ≡ true
    → default_port s ≡ default_port (Registered a)
named_default a s name e v h = same_default s (Registered a) v tt ((bytes_eq-Decides (scheme.canonical_text s) name).0 h ∙ sym e ∙ sym (canonical_name a))

special_default : (s : Scheme) (n : ℕ) → scheme.Valid s → special_port (scheme.canonical_text s) ≡ Some n → default_port s ≡ Some n
unfolding row_of registered_port
special_default s n v = by_tests (bytes_eq c (codes "http")) (bytes_eq c (codes "ws")) (bytes_eq c (codes "https")) (bytes_eq c (codes "wss")) (bytes_eq c (codes "ftp"))
    refl refl refl refl refl
  where
    c : List ℕ
    c = scheme.canonical_text s

    by_tests : (i j k l m : Bool) → bytes_eq c (codes "http") ≡ i → bytes_eq c (codes "ws") ≡ j → bytes_eq c (codes "https") ≡ k
        → bytes_eq c (codes "wss") ≡ l → bytes_eq c (codes "ftp") ≡ m
        → cond (i || j) (Some 80) (cond (k || l) (Some 443) (cond m (Some 21) None)) ≡ Some n → default_port s ≡ Some n
    by_tests true j k l m d e f g h x = named_default names.HTTP s (codes "http") refl v d ∙ x
    by_tests false true k l m d e f g h x = named_default names.WS s (codes "ws") refl v e ∙ x
    by_tests false false true l m d e f g h x = named_default names.HTTPS s (codes "https") refl v f ∙ x
    by_tests false false false true m d e f g h x = named_default names.WSS s (codes "wss") refl v g ∙ x
    by_tests false false false false true d e f g h x = named_default names.FTP s (codes "ftp") refl v h ∙ x
    by_tests false false false false false d e f g h x = absurd (cc)

-- ---- the authority

pub record IsThere (o : Option (List ℕ)) (x : Option AuthorityParts) : Type 0 where
  pub text : List ℕ
  pub value : AuthorityParts
  pub has_text : o ≡ Some text
  pub has_value : x ≡ Some value
  pub spells : authority.Spells text value

authority_there : (o : Option (List ℕ)) (x : Option AuthorityParts) → IfPresent authority.Spells o x
    → host_passes (λ h. not (host.is_empty h)) (option_map (λ (a : AuthorityParts). a.host) x) ≡ true → IsThere o x
authority_there o None s e = absurd (cc)
authority_there None (Some x) s e = absurd s
authority_there (Some t) (Some x) s e = record { text = t; value = x; has_text = refl; has_value = refl; spells = s }

not_true : (v : Bool) → not v ≡ true → v ≡ false
not_true true e = absurd (cc)
not_true false e = refl

-- a host of a reference on which readers agree
plain_host : (p : Parts) (a : AuthorityParts) → Agrees p → p.authority ≡ Some a → IsPlainHost a.host
plain_host p a is e =
    let there : host_of p ≡ Some a.host = ap (option_map (λ (a : AuthorityParts). a.host)) e in
    record {
      some = not_true (host.is_empty a.host) (sym (ap (host_passes (λ h. not (host.is_empty h))) there) ∙ not_not _ is.no_host);
      not_future = sym (ap (host_passes is_future) there) ∙ is.later;
      unescaped = sym (ap (host_passes (is_name has_escape)) there) ∙ is.escaped;
      not_numeric = sym (ap (host_passes may_be_numeric) there) ∙ is.numeric;
      unencoded = sym (ap (host_passes (is_name has_encoded_label)) there) ∙ is.encoded;
    }

no_name : (o : Option (List ℕ)) → is_some o ≡ false → o ≡ None
no_name None e = refl
no_name (Some u) e = absurd (cc)

no_password : (u w : Option (List ℕ)) → authority.IsPaired u w → u ≡ None → w ≡ None
no_password u None pair e = refl
no_password None (Some w) pair e = absurd (cc)
no_password (Some u) (Some w) pair e = absurd (cc)

-- what follows for a reference on which readers agree
pub record IsThereHost (p : Parts) : Type 0 where
  pub special : is_special p.scheme ≡ true
  pub value : AuthorityParts
  pub authority : p.authority ≡ Some value
  pub plain : IsPlainHost value.host
  pub no_username : value.username ≡ None

pub there_host : (p : Parts) → Agrees p → IsThereHost p
there_host p is = by_authority p.authority refl
  where
    by_authority : (o : Option AuthorityParts) → p.authority ≡ o → IsThereHost p
    by_authority None e = absurd (let none : disagrees variants.NoHost p ≡ true = ap (λ o. not (host_passes (λ h. not (host.is_empty h)) (option_map (λ (a : AuthorityParts). a.host) o))) e in let no = is.no_host in cc)
    by_authority (Some a) e = record {
      special = not_not (is_special p.scheme) is.scheme;
      value = a;
      authority = e;
      plain = plain_host p a is e;
      no_username = no_name a.username (sym (ap (λ o. is_some (option_and_then (λ (a : AuthorityParts). a.username) o)) e) ∙ is.user);
    }

-- ---- the path

path_agrees : (h : List ℕ) → IsPath h → (without_dots (made_absolute (spelled h))).segments ≡ replay [] (pieces h)
path_agrees h is = by_dots (has_dot_segment (pieces h)) refl
  where
    q : PathParts
    q = made_absolute (spelled h)

    by_dots : (v : Bool) → has_dot_segment (pieces h) ≡ v → (cond v (spelled (undot (text q))) q).segments ≡ replay [] (pieces h)
    by_dots true e = ap (λ (p : PathParts). p.segments) (spelled_undot q is ∙ respelled_absolute (replayed q) (once_rooted [] (pieces h)))
    by_dots false e = sym (replay_kept [] (pieces h) e)

-- ---- the query

abbrev quoted_token : Token → Token
quoted_token (Byte b) = cond (is_among (codes "'") b) (Escape 50 55) (Byte b)
quoted_token (Escape high low) = Escape high low

not_apostrophe : (b : ℕ) → is_hex b ≡ true → is_among (codes "'") b ≡ false
not_apostrophe b h = grind (arith, nat_tests)

record IsQuoted (t : Token) : Type 0 where
  token : is_token (quoted_token t) ≡ true
  value : value_of (quoted_token t) ≡ value_of t
  text : (rest : List ℕ) → quoted (codes "'") (spell t ++ rest) ≡ spell (quoted_token t) ++ quoted (codes "'") rest

is_quoted : (t : Token) → is_token t ≡ true → IsQuoted t
is_quoted (Byte b) h = by_test (is_among (codes "'") b) refl
  where
    apostrophe : is_among (codes "'") b ≡ true → b ≡ 39
    apostrophe e = grind (arith, nat_tests)

    by_test : (v : Bool) → is_among (codes "'") b ≡ v → IsQuoted (Byte b)
    by_test true e =
        let same = apostrophe e in
        subst (λ b. IsQuoted (Byte b)) (sym same) (record { token = refl; value = refl; text = λ rest. refl })
    by_test false e = record {
      token = ap (λ v. is_token (cond v (Escape 50 55) (Byte b))) e ∙ h;
      value = ap (λ v. value_of (cond v (Escape 50 55) (Byte b))) e;
      text = λ rest. ap (λ v. cond v (spell (escape_of b)) (b ∷ []) ++ quoted (codes "'") rest) e
          ∙ ap (λ v. spell (cond v (Escape 50 55) (Byte b)) ++ quoted (codes "'") rest) (sym e);
    }
is_quoted (Escape high low) h =
    let both = and_parts _ _ h in
    let e = not_apostrophe high both.0 in
    let f = not_apostrophe low both.1 in
    record {
      token = h;
      value = refl;
      text = λ rest. ap (λ v. percent ∷ (cond v (spell (escape_of high)) (high ∷ []) ++ (cond (is_among (codes "'") low) (spell (escape_of low)) (low ∷ [])
          ++ quoted (codes "'") rest))) e
          ∙ ap (λ v. percent ∷ high ∷ (cond v (spell (escape_of low)) (low ∷ []) ++ quoted (codes "'") rest)) f;
    }

decoded_quoted : (ts : List Token) → list_all is_token ts ≡ true → decoded (quoted (codes "'") (flat_map spell ts)) ≡ map value_of ts
decoded_quoted [] h = decoded-nil [] refl
decoded_quoted (t ∷ ts) h =
    let both = and_parts (is_token t) _ h in
    let is = is_quoted t both.0 in
    let rest : List ℕ = quoted (codes "'") (flat_map spell ts) in
    ap decoded (is.text (flat_map spell ts)) ∙ decoded-cons (spell (quoted_token t) ++ rest) rest (quoted_token t) (tokens-spell (quoted_token t) rest is.token)
    ∙ ap (λ v. v ∷ decoded rest) is.value ∙ ap (λ vs. value_of t ∷ vs) (decoded_quoted ts both.1)

query_agrees : (q : Option (List ℕ)) → IfSome q IsQuery → option_map decoded q ≡ option_map decoded (option_map (quoted (codes "'")) q)
unfolding decoded
query_agrees None is = refl
query_agrees (Some q) is =
    let formed = well_formed-in_class Query q is in
    ap Some (sym (decoded_quoted (tokens q) formed) ∙ ap (λ t. decoded (quoted (codes "'") t)) (spell-tokens q))

-- ---- all together

not_slash : (a rest : List ℕ) → 0 < length a → LacksEnds a → without_slashes (slash ∷ slash ∷ (a ++ rest)) ≡ a ++ rest
not_slash [] rest some lacks = absurd (omega (arith, some))
not_slash (b ∷ a) rest some lacks =
    let both = and_parts (not (ends_authority b)) _ lacks in
    ap (λ v. cond v (without_slashes (a ++ rest)) (b ∷ (a ++ rest))) (first (b == slash) refl (not_true (ends_authority b) both.0))
  where
    first : (v : Bool) → (b == slash) ≡ v → ends_authority b ≡ false → v ≡ false
    first true e h = grind (arith, nat_tests)
    first false e h = refl

-- a user name and a password in an authority without user information
same_user : (p : Parts) (a : List ℕ) → username_of p ≡ None → credentials a ≡ [] → decoded (unwrap_or (username_of p) []) ≡ decoded (web_username a)
same_user p a none empty = ap (λ u. decoded (unwrap_or u [])) none ∙ sym (ap (λ c. decoded (quoted (codes ";=") (before colon c))) empty)

same_password : (p : Parts) (a : List ℕ) → password_of p ≡ None → credentials a ≡ []
    → decoded (unwrap_or (password_of p) []) ≡ decoded (web_password a)
same_password p a none empty =
    ap (λ w. decoded (unwrap_or w [])) none ∙ sym (ap (λ c. decoded (quoted (codes ":;=") (unwrap_or (after colon c) []))) empty)

-- an authority with a host is not empty
some_authority : (a : List ℕ) (p : AuthorityParts) (s : authority.Spells a p) → host.is_empty p.host ≡ false → p.username ≡ None → 0 < length a
some_authority a p s some none = by_text a s.host_text s.port_text (whole_without a p s none) (host_some s.host_text p.host s.is_host some)
  where
    whole_without : (a : List ℕ) (p : AuthorityParts) (s : authority.Spells a p) → p.username ≡ None → a ≡ s.host_text ++ following colon s.port_text
    whole_without a p s none =
        s.whole ∙ ap (λ u. ahead at_sign (authority.userinfo u p.password) ++ (s.host_text ++ following colon s.port_text)) none

    by_text : (a g : List ℕ) (n : Option (List ℕ)) → a ≡ g ++ following colon n → 0 < length g → 0 < length a
    by_text a [] n e h = absurd (omega (arith, h))
    by_text a (b ∷ g) n e h = subst (λ t. 0 < length t) (sym e) (omega arith)

module _ (idna : List ℕ → Option (List ℕ)) (t : List ℕ) (p : Parts) (s : Spells t p) (is : Agrees p) where
  there : IsSpecial s.scheme_text p.scheme
  there = special_there s.scheme_text p.scheme s.is_scheme (not_not (is_special p.scheme) is.scheme)

  placed : IsThere s.authority_text p.authority
  placed = authority_there s.authority_text p.authority s.is_authority (not_not _ is.no_host)

  abbrev left : List ℕ
  left = s.path_text ++ tail p.query p.fragment

  no_username : placed.value.username ≡ None
  no_username = no_name placed.value.username (sym (ap (λ o. is_some (option_and_then (λ (a : AuthorityParts). a.username) o)) placed.has_value) ∙ is.user)

  hosted : IsPlainHost placed.value.host
  hosted = plain_host p placed.value is placed.has_value

  plain : IsPlain placed.text placed.spells.host_text placed.spells.port_text
  plain = plain_authority placed.text placed.value placed.spells no_username

  lacks_ends : LacksEnds placed.text
  lacks_ends = spelled_lacks placed.text placed.value placed.spells

  -- the string without its scheme and the slashes
  unslashed : without_slashes (after_scheme t) ≡ placed.text ++ left
  unslashed =
      let are = spelled_pieces t p s in
      let cut = scheme_of s.scheme_text s.authority_text s.path_text p.query p.fragment are.is_scheme are.fit in
      ap (λ t. without_slashes (after_scheme t)) s.whole ∙ ap without_slashes cut.1 ∙ ap (λ a. without_slashes (after_slashes a ++ left)) placed.has_text
      ∙ not_slash placed.text left (some_authority placed.text placed.value placed.spells hosted.some no_username) lacks_ends

  rooted : is_abempty s.path_text ≡ true
  rooted = subst (λ o. IfSome o (λ _. is_abempty s.path_text ≡ true)) placed.has_text s.abempty

  authority_cut : (up_to ends_authority (placed.text ++ left) ≡ placed.text) × (from_first ends_authority (placed.text ++ left) ≡ left)
  authority_cut =
      let ends = ends_there s.path_text p.query p.fragment rooted in (
        up_to-append ends_authority placed.text left lacks_ends ∙ ap (λ u. placed.text ++ u) ends.0 ∙ append-nil placed.text,
        from_first-append ends_authority placed.text left lacks_ends ∙ ends.1,
      )

  scheme_cut : scheme_text t ≡ Some there.text
  scheme_cut =
      let are = spelled_pieces t p s in
      let cut = scheme_of s.scheme_text s.authority_text s.path_text p.query p.fragment are.is_scheme are.fit in
      ap scheme_text s.whole ∙ cut.0 ∙ there.has_text

  abbrev low : List ℕ
  low = str_to_ascii_lowercase there.text

  same_scheme : scheme.canonical_text there.value ≡ low
  same_scheme = canonical_spelled there.text there.value there.spells ∙ canonical_low_of_scheme there.text there.spells.grammar

  low_port : special_port low ≡ Some there.port
  low_port = sym (ap special_port same_scheme) ∙ there.has_port

  read_host : (w : WebHost) × (web_host idna placed.spells.host_text ≡ Some w) × (as_web placed.value.host ≡ Some w)
  read_host = host_agrees idna placed.spells.host_text placed.value.host placed.spells.is_host hosted

  read_port : (m : Option ℕ) × (web_port there.port (unwrap_or placed.spells.port_text []) ≡ Some m)
      × (option_or m (Some there.port) ≡ option_or placed.value.port (Some there.port))
  read_port = port_agrees there.port (unwrap_or placed.spells.port_text []) placed.value.port placed.spells.is_port

  abbrev url : WebUrl
  url = url_of low placed.text left read_host.0 read_port.0

  reads : web idna t ≡ Some url
  reads =
      ap (option_and_then (λ s. web_after idna (str_to_ascii_lowercase s) (without_slashes (after_scheme t)))) scheme_cut
      ∙ ap (web_after idna low) unslashed
      ∙ ap (option_and_then (λ n. web_authority idna low n (up_to ends_authority (placed.text ++ left)) (from_first ends_authority (placed.text ++ left)))) low_port
      ∙ ap (λ a. web_authority idna low there.port a (from_first ends_authority (placed.text ++ left))) authority_cut.0
      ∙ ap (web_authority idna low there.port placed.text) authority_cut.1
      ∙ ap (λ g. option_and_then (λ h. option_map (url_of low placed.text left h) (web_port there.port (web_port_text false (after_credentials placed.text))))
      (web_host idna g)) plain.host
      ∙ ap (option_and_then (λ h. option_map (url_of low placed.text left h) (web_port there.port (web_port_text false (after_credentials placed.text))))) read_host.1
      ∙ ap (λ n. option_map (url_of low placed.text left read_host.0) (web_port there.port n)) plain.port
      ∙ ap (option_map (url_of low placed.text left read_host.0)) read_port.1

  same_port : port_or_default p ≡ option_or url.port (special_port url.scheme)
  same_port =
      let default : option_and_then default_port p.scheme ≡ Some there.port =
      ap (option_and_then default_port) there.has_value
      ∙ special_default there.value there.port (valid_spelled there.text there.value there.spells) there.has_port in
      ap (option_and_then (λ (a : AuthorityParts). option_or a.port (option_and_then default_port p.scheme))) placed.has_value
      ∙ ap (option_or placed.value.port) default ∙ sym read_port.2 ∙ ap (option_or read_port.0) (sym low_port)

  same_path : (without_dots p.path).segments ≡ url.path
  same_path =
      let cut = tail_of s.path_text p.query p.fragment s.is_path s.is_query in
      let path : p.path ≡ made_absolute (spelled s.path_text) = s.path ∙ ap (λ o. path_of (is_some o) s.path_text) placed.has_text in
      ap (λ p. (without_dots p).segments) path ∙ path_agrees s.path_text s.is_path
      ∙ ap (λ h. replay [] (pieces h)) (sym (path_cut left ∙ cut.0))

  pub alike : (u : WebUrl) × (web idna t ≡ Some u) × ReadsAlike p u
  alike =
      let cut = tail_of s.path_text p.query p.fragment s.is_path s.is_query in
      let username : username_of p ≡ None = ap (option_and_then (λ (a : AuthorityParts). a.username)) placed.has_value ∙ no_username in
      let password : password_of p ≡ None = ap (option_and_then (λ (a : AuthorityParts). a.password)) placed.has_value
      ∙ no_password placed.value.username placed.value.password placed.spells.paired no_username in (
        url,
        reads,
        record {
          scheme = ap (option_map scheme.canonical_text) there.has_value ∙ ap Some same_scheme;
          username = same_user p placed.text username plain.credentials;
          password = same_password p placed.text password plain.credentials;
          host = ap (λ o. option_and_then as_web (option_map (λ (a : AuthorityParts). a.host) o)) placed.has_value ∙ read_host.2;
          port = same_port;
          path = same_path;
          query = query_agrees p.query s.is_query ∙ ap (λ q. option_map decoded (option_map (quoted (codes "'")) q)) (sym cut.1);
          fragment = ap (option_map decoded) (sym cut.2);
        },
      )

-- ---- where readings always differ

no_web : (o : Option Host) (w : WebHost) → host_passes is_future o ≡ true → option_and_then as_web o ≡ Some w → ⊥
no_web None w h e = cc
no_web (Some (IPv4Address a)) w h e = cc
no_web (Some (IPv6Address a)) w h e = cc
no_web (Some (IPvFuture f)) w h e = cc
no_web (Some (RegisteredName n)) w h e = cc

pub never_future : (p : Parts) (u : WebUrl) → disagrees variants.LaterAddress p ≡ true → ReadsAlike p u → ⊥
never_future p u h a = no_web (host_of p) u.host h a.host

-- the domain of a host is never empty
some_domain : (d : List ℕ) (w : WebHost) → of_domain d ≡ Some w → w ≡ Domain [] → ⊥
some_domain [] w e f = cc
some_domain (b ∷ d) w e f = by_tests (list_any is_forbidden (b ∷ d)) (ends_in_number (b ∷ d)) (web_ipv4 (b ∷ d)) e
  where
    by_tests : (x y : Bool) (o : Option ℕ) → cond x None (cond y (option_map Ipv4 o) (Some (Domain (b ∷ d)))) ≡ Some w → ⊥
    by_tests true y o e = cc
    by_tests false true None e = cc
    by_tests false true (Some n) e = let same : Ipv4 n ≡ Domain [] = cc in cc
    by_tests false false o e = let same : Domain (b ∷ d) ≡ Domain [] = cc in let texts : b ∷ d ≡ [] = cc in cc

then_domain : (o : Option (List ℕ)) (w : WebHost) → option_and_then of_domain o ≡ Some w → w ≡ Domain [] → ⊥
then_domain None w e f = cc
then_domain (Some d) w e f = some_domain d w e f

some_host : (idna : List ℕ → Option (List ℕ)) (t : List ℕ) (w : WebHost) → web_host idna t ≡ Some w → w ≡ Domain [] → ⊥
some_host idna [] w e f = cc
some_host idna (b ∷ t) w e f = by_bracket (b == left_bracket) (option_and_then ipv6_reading (in_brackets (b ∷ t))) e
  where
    by_bracket : (x : Bool) (o : Option (List ℕ)) → cond x (option_map Ipv6 o) (option_and_then of_domain (to_ascii idna (decoded (b ∷ t)))) ≡ Some w → ⊥
    by_bracket true None e = cc
    by_bracket true (Some a) e = let same : Ipv6 a ≡ Domain [] = cc in cc
    by_bracket false o e = then_domain (to_ascii idna (decoded (b ∷ t))) w e f

-- the host of a URL is one that was read
url_host : (idna : List ℕ → Option (List ℕ)) (t : List ℕ) (u : WebUrl) → web idna t ≡ Some u → u.host ≡ Domain [] → ⊥
url_host idna t u e f =
    option_and_then_some (λ s. web_after idna (str_to_ascii_lowercase s) (without_slashes (after_scheme t))) (scheme_text t) u e
    (λ s _ k. by_port (str_to_ascii_lowercase s) (without_slashes (after_scheme t)) k)
  where
    by_authority : (s a rest : List ℕ) (n : ℕ) → web_authority idna s n a rest ≡ Some u → ⊥
    by_authority s a rest n k =
        option_and_then_some (λ h. option_map (url_of s a rest h) (web_port n (web_port_text false (after_credentials a))))
        (web_host idna (web_host_text false (after_credentials a))) u k
        (λ w e' k'. some_host idna (web_host_text false (after_credentials a)) w e' (same_host w (web_port n (web_port_text false (after_credentials a))) k'))
      where
        same_host : (w : WebHost) (o : Option (Option ℕ)) → option_map (url_of s a rest w) o ≡ Some u → w ≡ Domain []
        same_host w None k = absurd (cc)
        same_host w (Some m) k = let same : url_of s a rest w m ≡ u = cc in ap (λ (u : WebUrl). u.host) same ∙ f

    by_port : (s v : List ℕ) → web_after idna s v ≡ Some u → ⊥
    by_port s v k = option_and_then_some (λ n. web_authority idna s n (up_to ends_authority v) (from_first ends_authority v)) (special_port s) u k
        (λ n _ k'. by_authority s (up_to ends_authority v) (from_first ends_authority v) n k')

empty_domain : (o : Option Host) (w : WebHost) → not (host_passes (λ h. not (host.is_empty h)) o) ≡ true → option_and_then as_web o ≡ Some w → w ≡ Domain []
empty_domain None w h e = absurd (cc)
empty_domain (Some (IPv4Address a)) w h e = absurd (cc)
empty_domain (Some (IPv6Address a)) w h e = absurd (cc)
empty_domain (Some (IPvFuture f)) w h e = absurd (cc)
empty_domain (Some (RegisteredName [])) w h e = let low : canonical_lowered [] ≡ [] = canonical_in-nil Lowered in sym (cc) ∙ ap Domain low
empty_domain (Some (RegisteredName (b ∷ n))) w h e = let some : (length (b ∷ n) == 0) ≡ false = grind (arith, nat_tests) in absurd (cc)

pub never_hostless : (idna : List ℕ → Option (List ℕ)) (t : List ℕ) (p : Parts) (u : WebUrl) → disagrees variants.NoHost p ≡ true → web idna t ≡ Some u
    → ReadsAlike p u → ⊥
never_hostless idna t p u h e a = url_host idna t u e (empty_domain (host_of p) u.host h a.host)
