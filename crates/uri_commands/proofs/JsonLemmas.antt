-- The texts of a reference stand in JSON strings as they are, and what is written of its object is the object.
use Rattle.std.proofs.Common.{◌≡◌, ℕ, zero, suc, ◌<◌, ◌+◌, ◌/◌, ◌%◌, Bool, true, false, not, ◌||◌, List, [], ◌∷◌, ◌++◌, map, drop, length, Option, Some, None, Result, Ok, Err, if◌then◌else◌, refl, sym, ap, subst, ◌∙◌, arith, append_assoc, append-nil}
use Rattle.std.specs.Prelude.{OnOk, ◌==◌, bytes_eq, codes, decimal, flat_map, nat_lt, slice_index, take}
use Rattle.std.specs.declared.io.Error.{Error}
use Rattle.std.specs.Char.{digit_char}
use Rattle.std.specs.Fmt.{digits, digits_onto}
use Rattle.std.specs.Io.KnownBytes.{Appends}
use Rattle.std.specs.List.{join_with_byte, list_all}
use Rattle.std.specs.Net.Addr.{octets_of}
use Rattle.std.specs.Net.Text.{groups_text, hex, hex_groups_text, ipv4_text, ipv6_text, leading_zero_digits, longest_zero_run}
use Rattle.std.proofs.KnownBytes.{Appends-nil, Appends-trans}
use Rattle.std.proofs.lemmas.Bool.{and_parts, and_from, false≢true}
use Rattle.std.proofs.lemmas.Bool.Decides.{nat_tests}
use Rattle.std.proofs.lemmas.Grind.{flat_map-append}
use Rattle.std.proofs.lemmas.List.Folds.{list_all-append}
use Rattle.uriparse.specs.Class.{Class}
use Rattle.uriparse.specs.Class.TheVariants as class
use Rattle.uriparse.specs.Bytes.{dot, is_hex, is_sub_delim, is_unreserved, left_bracket, right_bracket}
use Rattle.uriparse.specs.Future.{IsFuture, is_future_byte, is_future_letter, is_some_of}
use Rattle.uriparse.specs.Host.{Valid, bracketed}
use Rattle.uriparse.specs.Host.{kind as kind_of}
use Rattle.uriparse.specs.Host.{text as host_text}
use Rattle.uriparse.specs.HostValue.{Host}
use Rattle.uriparse.specs.HostValue.TheVariants.{IPv4Address, IPv6Address, IPvFuture, RegisteredName}
use Rattle.uriparse.specs.TextFaults.{IsIn}
use Rattle.uriparse.specs.SchemeGrammar.{is_scheme}
use Rattle.uriparse.specs.Path.{IsPath}
use Rattle.uriparse.specs.Reference.{Parts, Spells, host_of, port_of}
use Rattle.uriparse.proofs.lemmas.CharacterLemmas.{AreUriBytes, is_uri_byte, uri_bytes-in_class, uri_bytes-path, uri_bytes-scheme, uri_bytes-spelled}
use Rattle.uri_commands.specs.Json.{Member, back_members, comma, escaped, escaped_byte, followers, scheme_and_userinfo_members, host_members, is_control, needs_no_json_escape, is_special, kind_name, member, member_text, object, object_text, port_members, quote, segment_members, string, string_or_null}
use Rattle.uri_commands.specs.Json.{String}
use Rattle.uri_commands.specs.Lines.{newline}

plain_one : (b : ℕ) (code : List ℕ) (control special : Bool) → not (control || special) ≡ true
    → (if control then code else if special then 92 ∷ b ∷ [] else b ∷ []) ≡ b ∷ []
plain_one b code true special h = absurd (false≢true h)
plain_one b code false true h = absurd (false≢true h)
plain_one b code false false h = refl

pub escaped_plain : (text : List ℕ) → list_all needs_no_json_escape text ≡ true → escaped text ≡ text
escaped_plain [] h = refl
escaped_plain (b ∷ text) h =
    let each = and_parts _ _ h in
    ap (λ l. l ++ escaped text) (plain_one b _ (is_control b) (is_special b) each.0) ∙ ap (λ l. b ∷ l) (escaped_plain text each.1)

-- ---- the texts of a reference

-- a quote, a backslash and a control character are neither unreserved nor reserved
plain_byte : (b : ℕ) → is_uri_byte b ≡ true → needs_no_json_escape b ≡ true
unfolding is_unreserved is_sub_delim
plain_byte b h = grind (arith, nat_tests)

plain_by : (p : ℕ → Bool) → ((b : ℕ) → p b ≡ true → needs_no_json_escape b ≡ true) → (text : List ℕ) → list_all p text ≡ true
    → list_all needs_no_json_escape text ≡ true
plain_by p each [] h = refl
plain_by p each (b ∷ text) h = let both = and_parts _ _ h in and_from _ _ (each b both.0) (plain_by p each text both.1)

uri_bytes : (text : List ℕ) → AreUriBytes text → list_all needs_no_json_escape text ≡ true
uri_bytes text h = plain_by is_uri_byte plain_byte text h

pub plain_in_class : (c : Class) (text : List ℕ) → IsIn c text → list_all needs_no_json_escape text ≡ true
plain_in_class c text h = uri_bytes text (uri_bytes-in_class c text h)

pub plain_scheme : (text : List ℕ) → is_scheme text ≡ true → list_all needs_no_json_escape text ≡ true
plain_scheme text h = uri_bytes text (uri_bytes-scheme text h)

pub plain_path : (text : List ℕ) → IsPath text → list_all needs_no_json_escape text ≡ true
plain_path text h = uri_bytes text (uri_bytes-path text h)

pub plain_spelled : (text : List ℕ) (p : Parts) → Spells text p → list_all needs_no_json_escape text ≡ true
plain_spelled text p h = uri_bytes text (uri_bytes-spelled text p h)

-- ---- the texts of addresses

-- a record, so that a text can be found from the fact
record Plain (text : List ℕ) : Type 0 where
  each : list_all needs_no_json_escape text ≡ true

none : Plain []
none = record { each = refl }

both : {t u : List ℕ} → Plain t → Plain u → Plain (t ++ u)
both {t = t} {u = u} h k = record { each = list_all-append needs_no_json_escape t u ∙ and_from _ _ h.each k.each }

either : (test : Bool) {t u : List ℕ} → Plain t → Plain u → Plain (if test then t else u)
either true h k = h
either false h k = k

one : (b : ℕ) {t : List ℕ} → needs_no_json_escape b ≡ true → Plain t → Plain (b ∷ t)
one b h k = record { each = and_from _ _ h k.each }

glyph : (d : ℕ) → needs_no_json_escape (digit_char d) ≡ true
glyph d = grind (arith, nat_tests)

plain_digits : (k n : ℕ) (t : List ℕ) → Plain t → Plain (digits_onto k 10 false n t)
plain_digits zero n t h = h
plain_digits (suc k) n t h =
    let more = one _ (glyph (n % 10)) h in
    either (n / 10 == 0) more (plain_digits k (n / 10) _ more)

plain_decimal : (n : ℕ) → Plain (decimal n)
unfolding digits
plain_decimal n = plain_digits 64 n [] none

plain_dotted : (o : List ℕ) → Plain (ipv4_text o)
plain_dotted o =
    let dot : Plain (codes ".") = record { each = refl } in
    let number : (k : ℕ) → Plain (decimal (slice_index o k)) = λ k. plain_decimal (slice_index o k) in
    both (both (both (both (both (both (number 0) dot) (number 1)) dot) (number 2)) dot) (number 3)

plain_drop : (k : ℕ) (t : List ℕ) → Plain t → Plain (drop k t)
plain_drop zero t h = h
plain_drop (suc k) [] h = h
plain_drop (suc k) (b ∷ t) h = plain_drop k t (record { each = (and_parts _ _ h.each).1 })

plain_hex : (n : ℕ) → Plain (hex n)
unfolding hex
plain_hex n =
    let last = one _ (glyph (n / 0x10 % 16)) (one _ (glyph (n % 16)) none) in
    plain_drop (leading_zero_digits n) _ (one _ (glyph (n / 0x1000)) (one _ (glyph (n / 0x100 % 16)) last))

plain_more : (groups : List ℕ) → Plain (flat_map (λ t. codes ":" ++ hex t) groups)
plain_more [] = none
plain_more (n ∷ groups) = both (one 58 refl (plain_hex n)) (plain_more groups)

plain_groups : (groups : List ℕ) → Plain (groups_text groups)
plain_groups [] = none
plain_groups (n ∷ groups) = both (plain_hex n) (plain_more groups)

plain_colons : (groups : List ℕ) → Plain (ipv6_text groups)
unfolding ipv6_text hex_groups_text
plain_colons groups =
    let run = longest_zero_run groups in
    let colons : Plain (codes "::") = record { each = refl } in
    let mapped : Plain (codes "::ffff:") = record { each = refl } in
    let shortened = both (both (plain_groups (take run.0 groups)) colons) (plain_groups (drop (run.0 + run.1) groups)) in
    either (bytes_eq (take 6 groups) (0 ∷ 0 ∷ 0 ∷ 0 ∷ 0 ∷ 0xffff ∷ [])) (both mapped (plain_dotted (octets_of (drop 6 groups))))
    (either (nat_lt 1 run.1) shortened (plain_groups groups))

plain_letter : (b : ℕ) → is_future_letter b ≡ true → needs_no_json_escape b ≡ true
plain_letter b h = grind (arith, nat_tests)

plain_hex_digit : (b : ℕ) → is_hex b ≡ true → needs_no_json_escape b ≡ true
plain_hex_digit b h = grind (arith, nat_tests)

plain_future_byte : (b : ℕ) → is_future_byte b ≡ true → needs_no_json_escape b ≡ true
unfolding is_unreserved is_sub_delim
plain_future_byte b h = grind (arith, nat_tests)

plain_some : (p : ℕ → Bool) → ((b : ℕ) → p b ≡ true → needs_no_json_escape b ≡ true) → (text : List ℕ) → is_some_of p text ≡ true
    → Plain text
plain_some p each [] h = absurd (false≢true h)
plain_some p each (b ∷ text) h = record { each = plain_by p each (b ∷ text) h }

plain_future : (text : List ℕ) → IsFuture text → Plain text
plain_future text f =
    let version = one f.letter (plain_letter f.letter f.is_letter) (plain_some is_hex plain_hex_digit f.version f.is_version) in
    let address = plain_some is_future_byte plain_future_byte f.address f.is_address in
    subst Plain (sym f.whole) (both version (one dot refl address))

plain_brackets : {text : List ℕ} → Plain text → Plain (bracketed text)
plain_brackets h = one left_bracket refl (both h (one right_bracket refl none))

pub plain_in_future : (text : List ℕ) → IsFuture text → list_all needs_no_json_escape text ≡ true
plain_in_future text f = (plain_future text f).each

-- ---- texts that are their own escapes

pub escaped_ipv4 : (octets : List ℕ) → escaped (ipv4_text octets) ≡ ipv4_text octets
escaped_ipv4 octets = escaped_plain (ipv4_text octets) (plain_dotted octets).each

pub escaped_ipv6 : (groups : List ℕ) → escaped (bracketed (ipv6_text groups)) ≡ bracketed (ipv6_text groups)
escaped_ipv6 groups = escaped_plain (bracketed (ipv6_text groups)) (plain_brackets (plain_colons groups)).each

pub escaped_brackets : (text : List ℕ) → escaped (bracketed text) ≡ left_bracket ∷ (escaped text ++ right_bracket ∷ [])
escaped_brackets text = ap (λ l. left_bracket ∷ l) (flat_map-append escaped_byte text (right_bracket ∷ []))

pub escaped_host : (h : Host) → Valid h → escaped (host_text h) ≡ host_text h
escaped_host (IPv4Address a) v = escaped_ipv4 a
escaped_host (IPv6Address a) v = escaped_ipv6 a
escaped_host (IPvFuture f) v = escaped_plain (bracketed f) (plain_brackets (plain_future f v)).each
escaped_host (RegisteredName n) v = escaped_plain n (plain_in_class class.Name n v)

pub ipv4_written : (h : Host) (octets : List ℕ) (r : Result (Unit {0}) Error) (a b : Option (List ℕ)) → h ≡ IPv4Address octets
    → OnOk r (Appends a b (ipv4_text octets)) → OnOk r (Appends a b (escaped (host_text h)))
ipv4_written h octets r a b is p =
    subst (λ x. OnOk r (Appends a b (escaped (host_text x)))) (sym is) (subst (λ l. OnOk r (Appends a b l)) (sym (escaped_ipv4 octets)) p)

pub ipv6_written : (h : Host) (groups : List ℕ) (r : Result (Unit {0}) Error) (a b : Option (List ℕ)) → h ≡ IPv6Address groups
    → OnOk r (Appends a b (bracketed (ipv6_text groups))) → OnOk r (Appends a b (escaped (host_text h)))
ipv6_written h groups r a b is p =
    subst (λ x. OnOk r (Appends a b (escaped (host_text x)))) (sym is) (subst (λ l. OnOk r (Appends a b l)) (sym (escaped_ipv6 groups)) p)

pub future_written : (h : Host) (text : List ℕ) (r : Result (Unit {0}) Error) (a b c d : Option (List ℕ)) → h ≡ IPvFuture text
    → Appends a b (codes "[")
    → Appends b c (escaped text) → OnOk r (Appends c d (codes "]")) → OnOk r (Appends a d (escaped (host_text h)))
future_written h text (Err e) a b c d is p q o = tt
future_written h text (Ok v) a b c d is p q o =
    let whole = Appends-trans a b d (codes "[") _ p (Appends-trans b c d (escaped text) (codes "]") q o) in
    subst (λ x. Appends a d (escaped (host_text x))) (sym is) (subst (Appends a d) (sym (escaped_brackets text)) whole)

-- ---- members

joined_followers : (t : List ℕ) (ms : List Member) → join_with_byte comma (t ∷ map member_text ms) ≡ t ++ followers ms
joined_followers t [] = sym (append-nil t)
joined_followers t (m ∷ ms) = ap (λ l. t ++ comma ∷ l) (joined_followers (member_text m) ms)

append_both : (ms ns : List Member) (t : List ℕ) → followers ms ++ (followers ns ++ t) ≡ followers (ms ++ ns) ++ t
append_both ms ns t =
    sym (append_assoc (followers ms) (followers ns) t) ∙ ap (λ l. l ++ t) (sym (flat_map-append (λ m. comma ∷ member_text m) ms ns))

next : (a b c : Option (List ℕ)) (m : Member) (ms : List Member) → Appends a b (followers (m ∷ [])) → Appends b c (followers ms)
    → Appends a c (followers (m ∷ ms))
next a b c m ms p q =
    subst (λ l. Appends a c (comma ∷ l ++ followers ms)) (append-nil (member_text m))
    (Appends-trans a b c (followers (m ∷ [])) (followers ms) p q)

-- of members that are a string or absent, one after another
pub members_written : (l m n : List ℕ) (s t u : Option (List ℕ)) (r : Result (Unit {0}) Error) (a b c d : Option (List ℕ))
    (s' t' u' : Option (List ℕ))
    → Appends a b (followers (member l (string_or_null s') ∷ [])) → s' ≡ s → Appends b c (followers (member m (string_or_null t') ∷ []))
    → t' ≡ t
    → OnOk r (Appends c d (followers (member n (string_or_null u') ∷ []))) → u' ≡ u
    → OnOk r (Appends a d (followers (member l (string_or_null s) ∷ member m (string_or_null t) ∷ member n (string_or_null u) ∷ [])))
members_written l m n s t u (Err e) a b c d s' t' u' p i q j o k = tt
members_written l m n s t u (Ok v) a b c d s' t' u' p i q j o k =
    let one : (l : List ℕ) (s : Option (List ℕ)) → Member = λ l s. member l (string_or_null s) in
    let first = subst (λ x. Appends a b (followers (one l x ∷ []))) i p in
    let second = subst (λ x. Appends b c (followers (one m x ∷ []))) j q in
    let third = subst (λ x. Appends c d (followers (one n x ∷ []))) k o in
    next a b d (one l s) (one m t ∷ one n u ∷ []) first (next b c d (one m t) (one n u ∷ []) second third)

-- of a host
pub no_host_written : (h : Option Host) (r : Result (Unit {0}) Error) (a b : Option (List ℕ)) → h ≡ None
    → OnOk r (Appends a b (codes ",\"host\":null,\"host_kind\":null")) → OnOk r (Appends a b (followers (host_members h)))
no_host_written h r a b is p = subst (λ x. OnOk r (Appends a b (followers (host_members x)))) (sym is) p

whole_host : (text kind : List ℕ) → codes ",\"host\":\"" ++ (escaped text ++ (codes "\",\"host_kind\":\"" ++ (escaped kind ++ codes "\"")))
    ≡ followers (member (codes "host") (String text) ∷ member (codes "host_kind") (String kind) ∷ [])
whole_host text kind =
    let last = codes ",\"host_kind\":\"" ++ (escaped kind ++ codes "\"") in
    ap (λ l. codes ",\"host\":\"" ++ l)
    (sym (append_assoc (escaped text) (quote ∷ []) last) ∙ ap (λ l. (escaped text ++ quote ∷ []) ++ l) (sym (append-nil last)))

pub host_written : (h : Option Host) (g : Host) (kind : List ℕ) (r : Result (Unit {0}) Error) (a b c d e f : Option (List ℕ)) → h ≡ Some g
    → Appends a b (codes ",\"host\":\"") → Appends b c (escaped (host_text g)) → Appends c d (codes "\",\"host_kind\":\"")
    → Appends d e (escaped kind)
    → kind ≡ kind_name (kind_of g) → OnOk r (Appends e f (codes "\"")) → OnOk r (Appends a f (followers (host_members h)))
host_written h g kind (Err x) a b c d e f is p q o k i m = tt
host_written h g kind (Ok v) a b c d e f is p q o k i m =
    let text = escaped (host_text g) in
    let end = Appends-trans d e f (escaped kind) (codes "\"") k m in
    let later = Appends-trans b c f text _ q (Appends-trans c d f (codes "\",\"host_kind\":\"") _ o end) in
    let whole = subst (Appends a f) (whole_host (host_text g) kind) (Appends-trans a b f (codes ",\"host\":\"") _ p later) in
    let named =
    subst (λ x. Appends a f (followers (member (codes "host") (String (host_text g)) ∷ member (codes "host_kind") (String x) ∷ []))) i whole in
    subst (λ x. Appends a f (followers (host_members x))) (sym is) named

whole_object : (m : Member) (a b c d e : List Member)
    → (codes "{" ++ member_text m) ++ (followers a ++ (followers b ++ (followers c ++ (followers d ++ (followers e ++ codes "}\n")))))
    ≡ object_text (m ∷ (a ++ (b ++ (c ++ (d ++ e))))) ++ newline ∷ []
whole_object m a b c d e =
    let end = codes "}\n" in
    let all = a ++ (b ++ (c ++ (d ++ e))) in
    let last = ap (λ l. followers a ++ (followers b ++ (followers c ++ l))) (append_both d e end) in
    let later = ap (λ l. followers a ++ (followers b ++ l)) (append_both c (d ++ e) end) in
    let others = ap (λ l. followers a ++ l) (append_both b (c ++ (d ++ e)) end) ∙ append_both a (b ++ (c ++ (d ++ e))) end in
    let text = member_text m in
    let joined = ap (λ l. l ++ end) (sym (joined_followers text all))
    ∙ sym (append_assoc (join_with_byte comma (map member_text (m ∷ all))) (codes "}") (newline ∷ [])) in
    ap (λ l. 123 ∷ l) (ap (λ l. text ++ l) (last ∙ later ∙ others) ∙ sym (append_assoc text (followers all) end) ∙ joined)

pub object_written : (text : List ℕ) (p : Parts) (r : Result (Unit {0}) Error) (a b c d e f g h : Option (List ℕ)) (text' : List ℕ)
    (own : Option Host)
    (port : Option ℕ) (segments : List (List ℕ))
    → Appends a b (codes "{" ++ member_text (member (codes "text") (String text'))) → text' ≡ text
    → Appends b c (followers (scheme_and_userinfo_members p))
    → Appends c d (followers (host_members own)) → own ≡ host_of p → Appends d e (followers (port_members port)) → port ≡ port_of p
    → Appends e f (followers (back_members p)) → Appends f g (followers (segment_members segments)) → segments ≡ p.path.segments
    → OnOk r (Appends g h (codes "}\n")) → OnOk r (Appends a h (object text p ++ newline ∷ []))
object_written text p (Err x) a b c d e f g h text' own port segments i j k l m n o q s t u = tt
object_written text p (Ok v) a b c d e f g h text' own port segments i j k l m n o q s t u =
    let first = subst (λ x. Appends a b (codes "{" ++ member_text (member (codes "text") (String x)))) j i in
    let third = subst (λ x. Appends c d (followers (host_members x))) m l in
    let fourth = subst (λ x. Appends d e (followers (port_members x))) o n in
    let sixth = subst (λ x. Appends f g (followers (segment_members x))) t s in
    let end = Appends-trans e f h _ _ q (Appends-trans f g h _ _ sixth u) in
    let later = Appends-trans b c h _ _ k (Appends-trans c d h _ _ third (Appends-trans d e h _ _ fourth end)) in
    subst (Appends a h)
    (whole_object (member (codes "text") (String text)) (scheme_and_userinfo_members p) (host_members (host_of p))
    (port_members (port_of p)) (back_members p)
    (segment_members p.path.segments)) (Appends-trans a b h _ _ first later)

-- ---- the array

-- what is still to be written: the separator before each string's text, and at the end a quote and a bracket
pub left_to_write : List ℕ → List (List ℕ) → List ℕ
left_to_write separator [] = codes "\"]"
left_to_write separator (t ∷ ts) = separator ++ (escaped t ++ left_to_write (codes "\",\"") ts)

array : (t : List ℕ) (ts : List (List ℕ))
    → quote ∷ (escaped t ++ left_to_write (codes "\",\"") ts) ≡ join_with_byte comma (map string (t ∷ ts)) ++ codes "]"
unfolding left_to_write
array t [] = ap (λ l. quote ∷ l) (sym (append_assoc (escaped t) (quote ∷ []) (codes "]")))
array t (u ∷ ts) =
    let rest = join_with_byte comma (map string (u ∷ ts)) in
    ap (λ l. quote ∷ (escaped t ++ quote ∷ comma ∷ l)) (array u ts)
    ∙ ap (λ l. quote ∷ l) (sym (append_assoc (escaped t) (quote ∷ []) (comma ∷ (rest ++ codes "]"))))
    ∙ sym (append_assoc (string t) (comma ∷ rest) (codes "]"))

-- of a list that is not empty this is the whole member
segments_left : (segments : List (List ℕ)) → 0 < length segments
    → left_to_write (codes ",\"segments\":[\"") segments ≡ followers (segment_members segments)
unfolding left_to_write
segments_left [] h = absurd (omega (arith, h))
segments_left (t ∷ ts) h = ap (λ l. codes ",\"segments\":[" ++ l) (array t ts) ∙ sym (append-nil _)

-- Of the array's member these bytes are written. The rest is left, for these segments.
pub record Writing (old new : Option (List ℕ)) (separator : List ℕ) (left : List (List ℕ)) (whole : List ℕ) : Type 0 where
  pub done : List ℕ
  pub written : Appends old new done
  pub rest : done ++ left_to_write separator left ≡ whole

pub writing_start : (a : Option (List ℕ)) (segments left : List (List ℕ)) → left ≡ segments → 0 < length segments
    → Writing a a (codes ",\"segments\":[\"") left (followers (segment_members segments))
writing_start a segments left is h =
    subst (λ x. Writing a a (codes ",\"segments\":[\"") x (followers (segment_members segments))) (sym is)
    (record { done = []; written = Appends-nil a; rest = segments_left segments h })

pub writing_next : (a b c d : Option (List ℕ)) (separator whole segment text : List ℕ) (now left : List (List ℕ)) → now ≡ segment ∷ left
    → text ≡ segment
    → Writing a b separator now whole → Appends b c separator → Appends c d (escaped text) → Writing a d (codes "\",\"") left whole
unfolding left_to_write
writing_next a b c d separator whole segment text now left first same w p q =
    let step = separator ++ escaped segment in
    let more = left_to_write (codes "\",\"") left in
    let written = subst (λ x. Appends c d (escaped x)) same q in
    record {
      done = w.done ++ step;
      written = Appends-trans a b d w.done step w.written (Appends-trans b c d separator (escaped segment) p written);
      rest =
          append_assoc w.done step more ∙ ap (λ l. w.done ++ l) (append_assoc separator (escaped segment) more)
          ∙ ap (λ l. w.done ++ left_to_write separator l) (sym first) ∙ w.rest;
    }

pub writing_end : (r : Result (Unit {0}) Error) (a b c : Option (List ℕ)) (separator : List ℕ) (segments left : List (List ℕ)) → left ≡ []
    → Writing a b separator left (followers (segment_members segments)) → OnOk r (Appends b c (codes "\"]"))
    → OnOk r (Appends a c (followers (segment_members segments)))
unfolding left_to_write
writing_end (Err e) a b c separator segments left ended w p = tt
writing_end (Ok v) a b c separator segments left ended w p =
    subst (Appends a c) (ap (λ l. w.done ++ left_to_write separator l) (sym ended) ∙ w.rest)
    (Appends-trans a b c w.done (codes "\"]") w.written p)
