-- Which references are the same, by their components.
use Rattle.std.proofs.Common.{◌≡◌, ◌↔◌, ℕ, Bool, true, false, ◌&&◌, ◌||◌, List, [], ◌∷◌, ◌++◌, map, Option, Some, None, refl, sym, ap, ◌∙◌, subst, arith}
use Rattle.std.specs.Prelude.{not, ◌==◌, IfSome, IsTrue, bytes_eq, cond, is_some}
use Rattle.std.specs.Option.{option_map}
use Rattle.std.specs.List.{flat_map, list_all}
use Rattle.std.specs.Char.{to_ascii_uppercase}
use Rattle.std.proofs.lemmas.Bool.{and_parts, and_from}
use Rattle.std.proofs.lemmas.Bool.Decides.{nat_tests, same_from_decides}
use Rattle.std.proofs.lemmas.Slice.Eq.{bytes_eq-Decides}
use Rattle.uriparse_text.specs.declared.internal.token.Token.{Token}
use Rattle.uriparse_text.specs.declared.internal.token.Token.TheVariants.{Byte, Escape}
use Rattle.uriparse_text.specs.declared.internal.class.Class.TheVariants.{Query}
use Rattle.uriparse_text.specs.declared.internal.token.Case.TheVariants.{Kept}
use Rattle.uriparse_text.specs.Bytes.{colon, is_hex, is_unreserved}
use Rattle.uriparse_text.specs.Cuts.{lacks, up_to}
use Rattle.uriparse_text.specs.Tokens.{tokens, spell, has_digits}
use Rattle.uriparse_text.specs.Canonical.{SpellsAlike, canonical_token, escaped_byte, canonical}
use Rattle.uriparse_text.specs.Query.{IsQuery}
use Rattle.uriparse_text.proofs.lemmas.readings.OptionLemmas.{same_option}
use Rattle.uriparse_text.proofs.lemmas.tokens.TokenLemmas.{spell-tokens, digits-tokens}
use Rattle.uriparse_text.proofs.lemmas.canonical.CanonicalLemmas.{by_escaped, spell-canonical_token, upper_digit}
use Rattle.uriparse_text.proofs.lemmas.classes.ClassLemmas.{IsIn-canonical_in}
use Rattle.uriparse_path.specs.Path.{PathParts, IsPath, is_slash, is_rooted, has_two_slashes}
use Rattle.uriparse_path.specs.Path as path
use Rattle.uriparse_path.proofs.lemmas.text.CanonicalTextLemmas.{is_path-canonical, is_rooted-canonical, has_two_slashes-canonical}
use Rattle.uriparse_path.proofs.lemmas.text.TextWalkLemmas.{formed_path}
use Rattle.uriparse_authority.specs.Authority as authority
use Rattle.uriparse_authority.specs.Authority.{AuthorityParts}
use Rattle.uriparse_authority.specs.Host as host
use Rattle.uriparse_authority.proofs.lemmas.authorities.AuthorityLemmas as authorities
use Rattle.uriparse_authority.proofs.lemmas.hosts.HostLemmas.{code_kind}
use Rattle.uriparse_authority.proofs.lemmas.authorities.AuthorityLemmas.{LacksEnds}
use Rattle.uriparse_scheme.specs.declared.scheme.Scheme.{Scheme}
use Rattle.uriparse_scheme.specs.Scheme as scheme
use Rattle.uriparse_scheme.proofs.lemmas.schemes.SchemeLemmas as schemes
use Rattle.uriparse_scheme.proofs.lemmas.schemes.GrammarLemmas.{is_scheme-canonical_lowered}
use Rattle.uriparse_reference.specs.Reference.{Parts, is_abempty, is_noscheme, path_refusal, Valid, Same, scheme_part, authority_part, print, canonical_text}
use Rattle.uriparse_reference.specs.Reference.{kind}
use Rattle.uriparse_reference.specs.Cuts.{scheme_text, authority_text, path_text, query_text, fragment_text}
use Rattle.uriparse_reference.specs.Key.{kind_code, key, each_alike}
use Rattle.uriparse_reference.proofs.lemmas.reading.CutLemmas.{IsCutInto, cut_again}
use Rattle.uriparse_reference.proofs.lemmas.reading.SpellingLemmas.{valid_placed, mapped, present}

-- ---- a path's canonical spelling obeys the rules that the path obeys

plain_ends : (b : ℕ) → is_unreserved b ≡ true → (is_slash b ≡ false) × ((b == colon) ≡ false)
unfolding is_unreserved
plain_ends b h = (grind (arith, nat_tests), grind (arith, nat_tests))

digit_ends : (b : ℕ) → is_hex b ≡ true → (is_slash b ≡ false) × ((b == colon) ≡ false)
digit_ends b h = (grind (arith, nat_tests), grind (arith, nat_tests))

-- an escape has neither a colon nor a slash, as it is and in canonical form
past_escape : (high low : ℕ) (rest : List ℕ) → is_hex high ≡ true → is_hex low ≡ true → is_noscheme (spell (Escape high low) ++ rest) ≡ is_noscheme rest
past_escape high low rest h l =
    let x = digit_ends high h in
    let y = digit_ends low l in
    rw (x.0, x.1, y.0, y.1) refl

past_plain : (b : ℕ) (rest : List ℕ) → is_unreserved b ≡ true → is_noscheme (b ∷ rest) ≡ is_noscheme rest
past_plain b rest h = let x = plain_ends b h in rw (x.0, x.1) refl

past_byte : (b : ℕ) (u v : List ℕ) → is_noscheme u ≡ is_noscheme v → is_noscheme (b ∷ u) ≡ is_noscheme (b ∷ v)
past_byte b u v e = elim (is_slash b) as (λ w. lacks colon (cond w [] (b ∷ up_to is_slash u)) ≡ lacks colon (cond w [] (b ∷ up_to is_slash v)))
    [ true ↦ refl | false ↦ ap (λ w. not (b == colon) && w) e ]

noscheme-tokens : (ts : List Token) → list_all has_digits ts ≡ true →
    is_noscheme (flat_map spell (map (canonical_token Kept) ts)) ≡ is_noscheme (flat_map spell ts)
noscheme-tokens [] h = refl
noscheme-tokens (Byte b ∷ ts) h = past_byte b (flat_map spell (map (canonical_token Kept) ts)) (flat_map spell ts) (noscheme-tokens ts h)
noscheme-tokens (Escape high low ∷ ts) h =
    let both = and_parts _ _ h in
    let digits = and_parts _ _ both.0 in
    by_escaped Kept high low (λ t. is_noscheme (spell t ++ flat_map spell (map (canonical_token Kept) ts)) ≡ is_noscheme (flat_map spell (map
    (canonical_token Kept) ts)))
    (λ e. past_plain (escaped_byte high low) (flat_map spell (map (canonical_token Kept) ts)) e)
    (λ e. past_escape (to_ascii_uppercase high) (to_ascii_uppercase low) (flat_map spell (map (canonical_token Kept) ts)) (upper_digit high digits.0)
    (upper_digit low digits.1))
    ∙ noscheme-tokens ts both.1
    ∙ sym (past_escape high low (flat_map spell ts) digits.0 digits.1)

noscheme-canonical : (h : List ℕ) → is_noscheme (canonical h) ≡ is_noscheme h
noscheme-canonical h = ap is_noscheme (sym (spell-canonical_token Kept h)) ∙ noscheme-tokens (tokens h) (digits-tokens h) ∙ ap is_noscheme (spell-tokens h)

abbrev is_empty : List ℕ → Bool
is_empty [] = true
is_empty (b ∷ t) = false

abempty-by : (h : List ℕ) → is_abempty h ≡ (is_empty h || is_rooted h)
abempty-by [] = refl
abempty-by (b ∷ t) = refl

empty-token : (t : Token) (u : List ℕ) → is_empty (spell t ++ u) ≡ false
empty-token (Byte b) u = refl
empty-token (Escape high low) u = refl

empty-tokens : (ts : List Token) → is_empty (flat_map spell (map (canonical_token Kept) ts)) ≡ is_empty (flat_map spell ts)
empty-tokens [] = refl
empty-tokens (t ∷ ts) = empty-token (canonical_token Kept t) (flat_map spell (map (canonical_token Kept) ts)) ∙ sym (empty-token t (flat_map spell ts))

abempty-canonical : (h : List ℕ) → is_abempty (canonical h) ≡ is_abempty h
abempty-canonical h =
    let e : is_empty (canonical h) ≡ is_empty h = ap is_empty (sym (spell-canonical_token Kept h)) ∙ empty-tokens (tokens h) ∙ ap is_empty (spell-tokens h) in
    abempty-by (canonical h) ∙ ap (λ v. v || is_rooted (canonical h)) e ∙ ap (λ v. is_empty h || v) (is_rooted-canonical h) ∙ sym (abempty-by h)

refusal-canonical : (v w : Bool) (h : List ℕ) → path_refusal v w (canonical h) ≡ path_refusal v w h
refusal-canonical v true h = refl
refusal-canonical v false h = rw (has_two_slashes-canonical h, noscheme-canonical h) refl

-- ---- the printed and the canonical text are cut into the texts of the components

scheme_is : (s : Option Scheme) → IfSome s scheme.Valid → IfSome (option_map scheme.text s) (λ t. scheme.is_scheme t ≡ true)
scheme_is None v = tt
scheme_is (Some s) v = schemes.is_scheme-text s v

scheme_canonical : (s : Option Scheme) → IfSome s scheme.Valid → IfSome (option_map scheme.canonical_text s) (λ t. scheme.is_scheme t ≡ true)
scheme_canonical None v = tt
scheme_canonical (Some s) v = is_scheme-canonical_lowered (scheme.text s) (schemes.is_scheme-text s v)

authority_lacks : (a : Option AuthorityParts) → IfSome a authority.Valid → IfSome (option_map authority.print a) LacksEnds
authority_lacks None v = tt
authority_lacks (Some a) v = authorities.print_lacks a v

authority_canonical : (a : Option AuthorityParts) → IfSome a authority.Valid → IfSome (option_map authority.canonical_text a) LacksEnds
authority_canonical None v = tt
authority_canonical (Some a) v = authorities.canonical_lacks a v

query_canonical : (q : Option (List ℕ)) → IfSome q IsQuery → IfSome (option_map canonical q) IsQuery
query_canonical None v = tt
query_canonical (Some q) v = IsIn-canonical_in Query Kept q v

pub print_cut : (p : Parts) → Valid p → IsCutInto (print p) (scheme_part p) (authority_part p) (path.text p.path) p.query p.fragment
print_cut p v = cut_again (print p) (scheme_part p) (authority_part p) (path.text p.path) p.query p.fragment (record {
  is_scheme = scheme_is p.scheme v.is_scheme;
  is_authority = authority_lacks p.authority v.is_authority;
  is_path = (valid_placed p v).is_path;
  abempty = present authority.print p.authority (valid_placed p v).abempty;
  fit = rw (mapped scheme.text p.scheme, mapped authority.print p.authority) v.fit;
  is_query = v.is_query;
}) refl

pub canonical_cut : (p : Parts) → Valid p
    → IsCutInto (canonical_text p) (option_map scheme.canonical_text p.scheme) (option_map authority.canonical_text p.authority) (canonical (path.text p.path))
    (option_map canonical p.query) (option_map canonical p.fragment)
canonical_cut p v = cut_again (canonical_text p) (option_map scheme.canonical_text p.scheme) (option_map authority.canonical_text p.authority)
    (canonical (path.text p.path)) (option_map canonical p.query) (option_map canonical p.fragment) (record {
      is_scheme = scheme_canonical p.scheme v.is_scheme;
      is_authority = authority_canonical p.authority v.is_authority;
      is_path = is_path-canonical (path.text p.path) (valid_placed p v).is_path;
      abempty = present authority.canonical_text p.authority (λ there. abempty-canonical (path.text p.path) ∙ (valid_placed p v).abempty there);
      fit = rw (mapped scheme.canonical_text p.scheme, mapped authority.canonical_text p.authority)
          (refusal-canonical (is_some p.scheme) (is_some p.authority) (path.text p.path) ∙ v.fit);
      is_query = query_canonical p.query v.is_query;
    }) refl

-- ---- references with the same printed text

pub same_scheme : (s r : Option Scheme) → IfSome s scheme.Valid → IfSome r scheme.Valid → option_map scheme.text s ≡ option_map scheme.text r → s ≡ r
same_scheme None None v w e = refl
same_scheme None (Some r) v w e = absurd (cc)
same_scheme (Some s) None v w e = absurd (cc)
same_scheme (Some s) (Some r) v w e =
    let texts : scheme.text s ≡ scheme.text r = cc in
    ap Some (schemes.one_scheme (scheme.text s) s r (schemes.spells_back s v) (subst (λ t. scheme.Spells t r) (sym texts) (schemes.spells_back r w)))

same_authority : (a b : Option AuthorityParts) → IfSome a authority.Valid → IfSome b authority.Valid
    → option_map authority.print a ≡ option_map authority.print b → option_map authority.kind a ≡ option_map authority.kind b
    → option_map authority.canonical_text a ≡ option_map authority.canonical_text b
same_authority None None v w e k = refl
same_authority None (Some b) v w e k = absurd (cc)
same_authority (Some a) None v w e k = absurd (cc)
same_authority (Some a) (Some b) v w e k =
    let texts : authority.print a ≡ authority.print b = cc in
    let kinds : authority.kind a ≡ authority.kind b = cc in
    ap Some (authorities.alike a b v w texts kinds)

pub alike : (p q : Parts) → Valid p → Valid q → print p ≡ print q → kind p ≡ kind q → Same p q
alike p q v w e k =
    let x = print_cut p v in
    let y = print_cut q w in
    let s : scheme_part p ≡ scheme_part q = sym x.scheme ∙ ap scheme_text e ∙ y.scheme in
    let a : authority_part p ≡ authority_part q = sym x.authority ∙ ap authority_text e ∙ y.authority in
    let h : path.text p.path ≡ path.text q.path = sym x.path ∙ ap path_text e ∙ y.path in
    let r : p.query ≡ q.query = sym x.query ∙ ap query_text e ∙ y.query in
    let f : p.fragment ≡ q.fragment = sym x.fragment ∙ ap fragment_text e ∙ y.fragment in
    record {
      spelling = rw (
        same_scheme p.scheme q.scheme v.is_scheme w.is_scheme s,
        same_authority p.authority q.authority v.is_authority w.is_authority a k,
        h,
        r,
        f,
      ) refl;
      kinds = k;
    }

-- ---- the key, and the test of the components one by one

some_code : (k : host.Kind) → 0 ≡ host.kind_code k → ⊥
some_code host.V4 e = cc
some_code host.V6 e = cc
some_code host.Future e = cc
some_code host.Name e = cc

pub same_kind : (k l : Option host.Kind) → kind_code k ≡ kind_code l → k ≡ l
same_kind None None e = refl
same_kind None (Some l) e = absurd (some_code l e)
same_kind (Some k) None e = absurd (some_code k (sym e))
same_kind (Some k) (Some l) e = ap Some (code_kind k l e)

pub same_key : (p q : Parts) → (key p ≡ key q) ↔ Same p q
same_key p q = (
  (λ e. let codes : kind_code (kind p) ≡ kind_code (kind q) = cc in
      let texts : canonical_text p ≡ canonical_text q = cc in
      record { spelling = texts; kinds = same_kind (kind p) (kind q) codes }),
  (λ s. rw (s.spelling, s.kinds) refl),
)

pub authority_keys : (a b : Option AuthorityParts)
    → (option_map authority.key a ≡ option_map authority.key b)
    ↔ ((option_map authority.canonical_text a ≡ option_map authority.canonical_text b)
    × (kind_code (option_map authority.kind a) ≡ kind_code (option_map authority.kind b)))
authority_keys None None = ((λ e. (refl, refl)), (λ e. refl))
authority_keys None (Some b) = ((λ e. absurd (cc)), (λ e. let no = e.0 in absurd (cc)))
authority_keys (Some a) None = ((λ e. absurd (cc)), (λ e. let no = e.0 in absurd (cc)))
authority_keys (Some a) (Some b) = (
  (λ e. let codes : host.kind_code (authority.kind a) ≡ host.kind_code (authority.kind b) = cc in
      let texts : authority.canonical_text a ≡ authority.canonical_text b = cc in
      (ap Some texts, codes)),
  (λ e. let shown = e.0 in let texts : authority.canonical_text a ≡ authority.canonical_text b = cc in rw (texts, e.1) refl),
)

to_key : (p q : Parts) → IsTrue (each_alike p q) → key p ≡ key q
to_key p q e =
    let both = and_parts _ _ e in
    let ends = and_parts _ _ both.0 in
    let texts = and_parts _ _ ends.1 in
    let middle = and_parts _ _ both.1 in
    let s = (same_option scheme.canonical_text p.scheme q.scheme).0 ends.0 in
    let f = (same_option canonical p.fragment q.fragment).0 texts.0 in
    let r = (same_option canonical p.query q.query).0 texts.1 in
    let a = (authority_keys p.authority q.authority).0 ((same_option authority.key p.authority q.authority).0 middle.0) in
    let h = (bytes_eq-Decides (canonical (path.text p.path)) (canonical (path.text q.path))).0 middle.1 in
    rw (a.1, s, a.0, h, r, f) refl

from_key : (p q : Parts) → Valid p → Valid q → key p ≡ key q → IsTrue (each_alike p q)
from_key p q v w e =
    let codes : kind_code (kind p) ≡ kind_code (kind q) = cc in
    let texts : canonical_text p ≡ canonical_text q = cc in
    let x = canonical_cut p v in
    let y = canonical_cut q w in
    let a : option_map authority.canonical_text p.authority ≡ option_map authority.canonical_text q.authority = sym x.authority ∙ ap authority_text texts
    ∙ y.authority in
    let ends = and_from _ _ ((same_option scheme.canonical_text p.scheme q.scheme).1 (sym x.scheme ∙ ap scheme_text texts ∙ y.scheme))
    (and_from _ _ ((same_option canonical p.fragment q.fragment).1 (sym x.fragment ∙ ap fragment_text texts ∙ y.fragment))
    ((same_option canonical p.query q.query).1 (sym x.query ∙ ap query_text texts ∙ y.query))) in
    let middle = and_from _ _ ((same_option authority.key p.authority q.authority).1 ((authority_keys p.authority q.authority).1 (a, codes)))
    ((bytes_eq-Decides (canonical (path.text p.path)) (canonical (path.text q.path))).1 (sym x.path ∙ ap path_text texts ∙ y.path)) in
    and_from _ _ ends middle

pub tested : (p q : Parts) → Valid p → Valid q → each_alike p q ≡ bytes_eq (key p) (key q)
tested p q v w = same_from_decides (each_alike p q) (bytes_eq (key p) (key q)) (to_key p q, from_key p q v w) (bytes_eq-Decides (key p) (key q))

-- ---- a path's text and a path

pub path_compared : (t h : List ℕ) (r : Bool) → IsPath t → IsTrue r ↔ SpellsAlike Kept t h → r ≡ bytes_eq (canonical t) (canonical h)
path_compared t h r is e =
    same_from_decides r (bytes_eq (canonical t) (canonical h)) (
      (λ x. (e.0 x).same),
      (λ x. e.1 (record { formed = formed_path t is; same = x })),
    ) (bytes_eq-Decides (canonical t) (canonical h))

-- references have the same key exactly if they are the same
pub key_compared : (p q : Parts) (r : Bool) → r ≡ bytes_eq (key p) (key q) → IsTrue r ↔ Same p q
key_compared p q r e =
    let same = same_key p q in
    let decides = bytes_eq-Decides (key p) (key q) in (
      (λ x. same.0 (decides.0 (sym e ∙ x))),
      (λ s. e ∙ decides.1 (same.1 s)),
    )

-- the order of the two does not count
pub keys_swapped : (p q : Parts) → bytes_eq (key p) (key q) ≡ bytes_eq (key q) (key p)
keys_swapped p q =
    same_from_decides (bytes_eq (key p) (key q)) (bytes_eq (key q) (key p)) (
      (λ x. sym ((bytes_eq-Decides (key p) (key q)).0 x)),
      (λ e. (bytes_eq-Decides (key p) (key q)).1 (sym e)),
    ) (bytes_eq-Decides (key q) (key p))
