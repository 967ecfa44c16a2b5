-- Each byte of a text that spells a reference, and of the text of a valid one, is unreserved, reserved or a percent sign: RFC 3986, section 2.
use Rattle.std.proofs.Common.{◌≡◌, ℕ, Bool, true, ◌||◌, List, [], ◌∷◌, ◌++◌, Option, Some, None, inl, inr, refl, sym, ap, subst, ◌∙◌, arith}
use Rattle.std.specs.Prelude.{◌==◌, IfSome, codes, unwrap_or}
use Rattle.std.specs.Char.{is_digit}
use Rattle.std.specs.List.{list_all, join_with_byte}
use Rattle.std.specs.Option.{option_map}
use Rattle.std.proofs.lemmas.Bool.{and_from, and_parts}
use Rattle.std.proofs.lemmas.Bool.Decides.{nat_tests}
use Rattle.std.proofs.lemmas.List.Folds.{list_all-append}
use Rattle.uriparse_text.specs.declared.internal.class.Class.{Class}
use Rattle.uriparse_text.specs.declared.internal.class.Class.TheVariants as class
use Rattle.uriparse_text.specs.Bytes.{percent, slash, colon, question_mark, number_sign, at_sign, left_bracket, right_bracket, is_among, is_hex}
use Rattle.uriparse_text.specs.Bytes.{is_unreserved, is_sub_delim}
use Rattle.uriparse_text.specs.Classes.{is_plain}
use Rattle.uriparse_text.specs.Cuts.{following, ahead}
use Rattle.uriparse_text.specs.Faults.{IsIn}
use Rattle.uriparse_text.specs.Readings.{IfPresent}
use Rattle.uriparse_text.specs.Segment.{is_segment}
use Rattle.uriparse_text.proofs.lemmas.classes.ClassLemmas.{bytes-in_class}
use Rattle.uriparse_text.proofs.lemmas.readings.CutLemmas.{weaker}
use Rattle.uriparse_path.specs.Path.{IsPath}
use Rattle.uriparse_path.specs.Path.{text as path_text}
use Rattle.uriparse_path.proofs.lemmas.text.SplitLemmas.{cut, joined-pieces}
use Rattle.uriparse_path.proofs.lemmas.text.TextWalkLemmas.{pieces_of_path}
use Rattle.uriparse_authority.specs.Authority as authority
use Rattle.uriparse_authority.specs.Authority.{AuthorityParts, userinfo}
use Rattle.uriparse_authority.specs.Future.{is_future_byte}
use Rattle.uriparse_authority.specs.Host as host
use Rattle.uriparse_authority.specs.Port as port
use Rattle.uriparse_authority.proofs.lemmas.hosts.HostLemmas.{IsHostText, printed_host, spelled_host}
use Rattle.uriparse_authority.proofs.lemmas.authorities.PortLemmas.{port_printed}
use Rattle.uriparse_scheme.specs.declared.scheme.Scheme.{Scheme}
use Rattle.uriparse_scheme.specs.Grammar.{is_scheme, is_scheme_byte}
use Rattle.uriparse_scheme.specs.Scheme as scheme
use Rattle.uriparse_scheme.proofs.lemmas.schemes.GrammarLemmas.{scheme_bytes}
use Rattle.uriparse_reference.specs.Reference.{Parts, Spells, Valid, authority_part, after_slashes, joined, print, scheme_part}
use Rattle.uriparse_reference.proofs.lemmas.reading.ReadingLemmas.{scheme_back}
use Rattle.uriparse_reference.proofs.lemmas.reading.SpellingLemmas.{valid_placed}

-- ---- bytes

-- gen-delims = ":" / "/" / "?" / "#" / "[" / "]" / "@"
abbrev pub is_gen_delim : ℕ → Bool
is_gen_delim b = is_among (codes ":/?#[]@") b

-- reserved = gen-delims / sub-delims
abbrev pub is_reserved : ℕ → Bool
is_reserved b = is_gen_delim b || is_sub_delim b

-- a byte that a reference may have: a reserved or an unreserved one, or the percent sign of an escape
abbrev pub is_uri_byte : ℕ → Bool
is_uri_byte b = is_reserved b || (is_unreserved b || b == percent)

abbrev pub AreUriBytes : List ℕ → Type 0
AreUriBytes t = list_all is_uri_byte t ≡ true

class_byte : (c : Class) (b : ℕ) → is_plain c b ≡ true → is_uri_byte b ≡ true
unfolding is_plain
class_byte class.Name b h = grind (arith, nat_tests)
class_byte class.UserInfo b h = grind (arith, nat_tests)
class_byte class.Segment b h = grind (arith, nat_tests)
class_byte class.Query b h = grind (arith, nat_tests)

percent_byte : is_uri_byte percent ≡ true
unfolding is_unreserved is_sub_delim
percent_byte = refl

hex_byte : (b : ℕ) → is_hex b ≡ true → is_uri_byte b ≡ true
unfolding is_unreserved is_sub_delim
hex_byte b h = grind (arith, nat_tests)

scheme_byte : (b : ℕ) → is_scheme_byte b ≡ true → is_uri_byte b ≡ true
unfolding is_unreserved is_sub_delim
scheme_byte b h = grind (arith, nat_tests)

future_byte : (b : ℕ) → is_future_byte b ≡ true → is_uri_byte b ≡ true
future_byte b h = grind (arith, nat_tests)

digit_byte : (b : ℕ) → is_digit b 10 ≡ true → is_uri_byte b ≡ true
unfolding is_unreserved is_sub_delim
digit_byte b h = grind (arith, nat_tests)

-- ---- component texts and delimiters

-- a text of a class
pub uri_bytes-in_class : (c : Class) (t : List ℕ) → IsIn c t → AreUriBytes t
uri_bytes-in_class c t h = bytes-in_class c is_uri_byte (class_byte c) percent_byte hex_byte t h

-- the text of a scheme
pub uri_bytes-scheme : (t : List ℕ) → is_scheme t ≡ true → AreUriBytes t
uri_bytes-scheme t h = weaker is_scheme_byte is_uri_byte scheme_byte t (scheme_bytes t h)

one : (b : ℕ) → is_uri_byte b ≡ true → (t : List ℕ) → AreUriBytes t → AreUriBytes (b ∷ t)
one b h t k = and_from _ _ h k

both : (t u : List ℕ) → AreUriBytes t → AreUriBytes u → AreUriBytes (t ++ u)
both t u h k = list_all-append is_uri_byte t u ∙ and_from _ _ h k

some_class : (c : Class) (o : Option (List ℕ)) → IfSome o (IsIn c) → IfSome o AreUriBytes
some_class c None h = tt
some_class c (Some t) h = uri_bytes-in_class c t h

after_mark : (mark : ℕ) → is_uri_byte mark ≡ true → (o : Option (List ℕ)) → IfSome o AreUriBytes → AreUriBytes (following mark o)
after_mark mark h None k = refl
after_mark mark h (Some t) k = one mark h t k

ahead_mark : (mark : ℕ) → is_uri_byte mark ≡ true → (o : Option (List ℕ)) → IfSome o AreUriBytes → AreUriBytes (ahead mark o)
ahead_mark mark h None k = refl
ahead_mark mark h (Some t) k = both t (mark ∷ []) k (one mark h [] refl)

-- ---- components

of_scheme : (o : Option (List ℕ)) (s : Option Scheme) → IfPresent scheme.Spells o s → IfSome o AreUriBytes
of_scheme None None h = tt
of_scheme None (Some s) h = absurd h
of_scheme (Some t) None h = absurd h
of_scheme (Some t) (Some s) h = uri_bytes-scheme t h.grammar

of_host : (g : List ℕ) → IsHostText g → AreUriBytes g
of_host g (inl n) = uri_bytes-in_class class.Name g n
of_host g (inr u) =
    subst AreUriBytes (sym u.1) (one left_bracket refl (u.0 ++ right_bracket ∷ [])
    (both u.0 (right_bracket ∷ []) (weaker is_future_byte is_uri_byte future_byte u.0 u.2) (one right_bracket refl [] refl)))

of_port : (o : Option (List ℕ)) (n : Option ℕ) → port.Spells (unwrap_or o []) n → IfSome o AreUriBytes
of_port None n h = tt
of_port (Some t) n h = weaker (λ b. is_digit b 10) is_uri_byte digit_byte t h.digits

of_userinfo : (u w : Option (List ℕ)) → IfSome u AreUriBytes → IfSome w AreUriBytes → IfSome (userinfo u w) AreUriBytes
of_userinfo None w h k = tt
of_userinfo (Some t) w h k = both t (following colon w) h (after_mark colon refl w k)

of_parts : (u w : Option (List ℕ)) (g : List ℕ) (o : Option (List ℕ)) → IfSome u (IsIn class.Name) → IfSome w (IsIn class.UserInfo) → IsHostText g
    → IfSome o AreUriBytes → AreUriBytes (authority.joined u w g o)
of_parts u w g o h k i j =
    let front = ahead_mark at_sign refl (userinfo u w) (of_userinfo u w (some_class class.Name u h) (some_class class.UserInfo w k)) in
    let back = both g (following colon o) (of_host g i) (after_mark colon refl o j) in
    both (ahead at_sign (userinfo u w)) (g ++ following colon o) front back

of_authority : (a : List ℕ) (p : AuthorityParts) → authority.Spells a p → AreUriBytes a
of_authority a p s =
    subst AreUriBytes (sym s.whole) (of_parts p.username p.password s.host_text s.port_text s.is_username s.is_password
    (spelled_host s.host_text p.host s.is_host) (of_port s.port_text p.port s.is_port))

printed_port : (o : Option ℕ) → IfSome o port.IsPort → IfSome (option_map port.text o) AreUriBytes
printed_port None h = tt
printed_port (Some n) h = of_port (Some (port.text n)) (Some n) (port_printed n h)

printed_slashes : (o : Option AuthorityParts) → IfSome o authority.Valid → AreUriBytes (after_slashes (option_map authority.print o))
printed_slashes None h = refl
printed_slashes (Some p) v =
    one slash refl (slash ∷ authority.print p) (one slash refl (authority.print p)
    (of_parts p.username p.password (host.text p.host) (option_map port.text p.port) v.is_username v.is_password (printed_host p.host v.is_host)
    (printed_port p.port v.is_port)))

of_slashes : (o : Option (List ℕ)) (a : Option AuthorityParts) → IfPresent authority.Spells o a → AreUriBytes (after_slashes o)
of_slashes None None h = refl
of_slashes None (Some a) h = absurd h
of_slashes (Some t) None h = absurd h
of_slashes (Some t) (Some a) h = one slash refl (slash ∷ t) (one slash refl t (of_authority t a h))

of_joined : (s : List ℕ) (ss : List (List ℕ)) → list_all is_segment (s ∷ ss) ≡ true → AreUriBytes (join_with_byte slash (s ∷ ss))
of_joined s [] h = uri_bytes-in_class class.Segment s (and_parts _ _ h).0
of_joined s (r ∷ ss) h =
    let each = and_parts _ _ h in
    both s (slash ∷ join_with_byte slash (r ∷ ss)) (uri_bytes-in_class class.Segment s each.0)
    (one slash refl (join_with_byte slash (r ∷ ss)) (of_joined r ss each.1))

-- the text of a path
pub uri_bytes-path : (t : List ℕ) → IsPath t → AreUriBytes t
uri_bytes-path t is =
    let c = cut t in
    subst AreUriBytes (ap (join_with_byte slash) (sym c.pieces) ∙ joined-pieces t)
    (of_joined c.first c.others (ap (list_all is_segment) (sym c.pieces) ∙ pieces_of_path t is))

-- ---- whole texts

of_whole : (x a : Option (List ℕ)) (h : List ℕ) (q f : Option (List ℕ)) → IfSome x AreUriBytes → AreUriBytes (after_slashes a) → IsPath h
    → IfSome q (IsIn class.Query) → IfSome f (IsIn class.Query) → AreUriBytes (joined x a h q f)
of_whole x a h q f i j k m n =
    let tail = both h (following question_mark q ++ following number_sign f) (uri_bytes-path h k) (both (following question_mark q) (following number_sign f)
    (after_mark question_mark refl q (some_class class.Query q m)) (after_mark number_sign refl f (some_class class.Query f n))) in
    both (ahead colon x) _ (ahead_mark colon refl x i)
    (both (after_slashes a) (h ++ (following question_mark q ++ following number_sign f)) j tail)

pub uri_bytes-spelled : (t : List ℕ) (p : Parts) → Spells t p → AreUriBytes t
uri_bytes-spelled t p s =
    subst AreUriBytes (sym s.whole) (of_whole s.scheme_text s.authority_text s.path_text p.query p.fragment
    (of_scheme s.scheme_text p.scheme s.is_scheme) (of_slashes s.authority_text p.authority s.is_authority) s.is_path s.is_query s.is_fragment)

-- the text of a valid reference, though its host may be a name that reads back as an address
pub uri_bytes-print : (p : Parts) → Valid p → AreUriBytes (print p)
uri_bytes-print p v =
    of_whole (scheme_part p) (authority_part p) (path_text p.path) p.query p.fragment
    (of_scheme (scheme_part p) p.scheme (scheme_back p.scheme v.is_scheme)) (printed_slashes p.authority v.is_authority) (valid_placed p v).is_path
    v.is_query v.is_fragment
