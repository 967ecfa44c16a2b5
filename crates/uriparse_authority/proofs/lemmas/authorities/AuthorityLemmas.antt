-- Reading an authority is exact; what its texts are cut into; and how authorities compare.
use Rattle.std.proofs.Common.{◌≡◌, ◌↔◌, ℕ, Bool, true, false, cond, List, [], ◌∷◌, ◌++◌, Option, Some, None, Ok, Err, refl, sym, ap, ◌∙◌, subst, append-nil}
use Rattle.std.proofs.Common.{fold, length, arith, IsTrue}
use Rattle.std.specs.Prelude.{not, ◌==◌, ◌||◌, IfSome, IsSome, Result, unwrap_or, bytes_eq}
use Rattle.std.specs.Option.{option_map, option_eq}
use Rattle.std.specs.Char.{is_digit}
use Rattle.std.specs.Hash.{HashWrites, option, u16}
use Rattle.std.proofs.lemmas.Bool.{false≢true, eqb-true, and_parts, and_from}
use Rattle.std.proofs.lemmas.Bool.Decides.{same_from_decides}
use Rattle.std.proofs.lemmas.Slice.Eq.{bytes_eq-Decides}
use Rattle.std.proofs.lemmas.Grind.{fold-append}
use Rattle.uriparse_text.specs.Bytes.{slash, colon, question_mark, number_sign, at_sign, right_bracket}
use Rattle.uriparse_text.specs.Canonical.{canonical, fed_text}
use Rattle.uriparse_text.specs.declared.internal.class.Class.TheVariants as class
use Rattle.uriparse_text.specs.Cuts.{lacks, none_pass, following, ahead, before, after, front, rest, up_to, from_first, from_last, up_to_last}
use Rattle.uriparse_text.specs.Readings.{◌>>=◌, of_piece, some_of, if_present, fault_in}
use Rattle.uriparse_text.proofs.lemmas.readings.CutLemmas.{lacks-append, lacks-following, before_after, front_rest, before_of, after_of, front_of, up_to-append, from_first-append}
use Rattle.uriparse_text.proofs.lemmas.readings.CutLemmas.{cut-whole, from_last-of, up_to_last-of, last-whole, none_of_either, none_of_two}
use Rattle.uriparse_text.proofs.lemmas.readings.OptionLemmas.{same_option, fed_option}
use Rattle.uriparse_text.proofs.lemmas.readings.ReadingLemmas.{IsExact, texts_again, texts_found, bind_ok, piece_found, none_or}
use Rattle.uriparse_authority.specs.declared.authority.host.Host.{Host}
use Rattle.uriparse_authority.specs.declared.authority.error.AuthorityError.{AuthorityError}
use Rattle.uriparse_authority.specs.declared.authority.error.AuthorityError.TheVariants as errors
use Rattle.uriparse_authority.specs.declared.authority.error.HostError.{HostError}
use Rattle.uriparse_authority.specs.declared.authority.error.PasswordError.{PasswordError}
use Rattle.uriparse_authority.specs.declared.authority.error.PortError.{PortError}
use Rattle.uriparse_authority.specs.declared.authority.error.UsernameError.{UsernameError}
use Rattle.uriparse_authority.specs.Username as username
use Rattle.uriparse_authority.specs.Password as password
use Rattle.uriparse_authority.specs.Host as host
use Rattle.uriparse_authority.specs.Port as port
use Rattle.uriparse_authority.specs.Authority.{AuthorityParts, userinfo, joined, IsPaired, Spells, Valid, ReadsBack, print, canonical_text, kind, userinfo_text}
use Rattle.uriparse_authority.specs.Authority.{of_parts, userinfo_reading, with_empty}
use Rattle.uriparse_authority.specs.Authority.{host_and_port_text, username_in, password_in, username_text, password_text, ends_host, colon_part, cut_port}
use Rattle.uriparse_authority.specs.Authority.{cut_host, host_text, port_text, reading, ends_authority, rest_error, unless_rest, whole_reading, key, each_alike}
use Rattle.uriparse_authority.specs.Authority.{fed, fed_pieces, fed_key}
use Rattle.uriparse_authority.proofs.lemmas.authorities.UserLemmas.{is_gen_delim, username_lacks, password_lacks, IsUsername-canonical, IsPassword-canonical}
use Rattle.uriparse_authority.proofs.lemmas.authorities.PortLemmas.{port_exact, port_printed, port_lacks, decimal_lacks, decimal_of_one_port}
use Rattle.uriparse_authority.proofs.lemmas.hosts.HostLemmas.{host_exact, host_valid, IsHostText, spelled_host, printed_host, canonical_host, host_text_lacks, no_port}
use Rattle.uriparse_authority.proofs.lemmas.hosts.HostLemmas.{host_alike, code_kind, fed_host}

-- ---- a text that is joined from such pieces is cut into them

pub record ArePieces (u w : Option (List ℕ)) (g : List ℕ) (n : Option (List ℕ)) : Type 0 where
  pub is_username : IfSome u username.IsUsername
  pub is_password : IfSome w password.IsPassword
  pub paired : IsPaired u w
  pub is_host : IsHostText g
  pub is_port : (b : ℕ) → is_digit b 10 ≡ false → IfSome n (λ t. lacks b t ≡ true)

pub record IsCutInto (a : List ℕ) (u w : Option (List ℕ)) (g : List ℕ) (n : Option (List ℕ)) : Type 0 where
  pub username : username_text a ≡ u
  pub password : password_text a ≡ w
  pub host : host_text a ≡ g
  pub port : port_text a ≡ n

some_password : (b : ℕ) → is_gen_delim b ≡ true → (b == colon) ≡ false → (o : Option (List ℕ)) → IfSome o password.IsPassword → IfSome o (λ t. lacks b t ≡ true)
some_password b gen other None is = tt
some_password b gen other (Some t) is = password_lacks b gen other t is

-- user information has no delimiter that is neither its colon nor one of a password's bytes
user_lacks : (b : ℕ) → is_gen_delim b ≡ true → (b == colon) ≡ false → not (colon == b) ≡ true → (u w : Option (List ℕ)) → IfSome u username.IsUsername
    → IfSome w password.IsPassword → IfSome (userinfo u w) (λ t. lacks b t ≡ true)
user_lacks b gen other mark None w is also = tt
user_lacks b gen other mark (Some t) w is also =
    lacks-append b t (following colon w) (username_lacks b gen t is) (lacks-following b colon w mark (some_password b gen other w also))

name_of : (u w : Option (List ℕ)) → IfSome u username.IsUsername → username_in (userinfo u w) ≡ u
name_of None w is = refl
name_of (Some t) w is = ap Some (before_of colon t w refl (username_lacks colon refl t is))

password_of : (u w : Option (List ℕ)) → IfSome u username.IsUsername → IsPaired u w → password_in (userinfo u w) ≡ w
password_of None None is pair = refl
password_of None (Some t) is pair = absurd (cc)
password_of (Some t) w is pair = after_of colon t w refl (username_lacks colon refl t is)

port_of : (g : List ℕ) (n : Option (List ℕ)) → cut_port g ≡ None → IfSome n (λ t. lacks colon t ≡ true) → IfSome n (λ t. lacks right_bracket t ≡ true)
    → (cut_port (g ++ following colon n) ≡ n) × (cut_host (g ++ following colon n) ≡ g)
port_of g None e h k =
    let a : cut_port (g ++ []) ≡ None = ap cut_port (append-nil g) ∙ e in
    (a, ap (λ o. unwrap_or (option_map (λ _. up_to_last ends_host (g ++ [])) o) (g ++ [])) a ∙ append-nil g)
port_of g (Some t) e h k =
    let n = none_of_two colon right_bracket t h k in
    let a : cut_port (g ++ colon ∷ t) ≡ Some t = ap colon_part (from_last-of ends_host g colon t refl n) in
    (a, ap (λ o. unwrap_or (option_map (λ _. up_to_last ends_host (g ++ colon ∷ t)) o) (g ++ colon ∷ t)) a ∙ up_to_last-of ends_host g colon t refl n)

-- what follows an "@", or the whole text if there is none
front_user : (o : Option (List ℕ)) (right : List ℕ) → IfSome o (λ t. lacks at_sign t ≡ true) → lacks at_sign right ≡ true
    → (front at_sign (ahead at_sign o ++ right) ≡ o) × (rest at_sign (ahead at_sign o ++ right) ≡ right)
front_user (Some t) right h k = front_of at_sign t right refl h
front_user None right h k =
    let none : after at_sign right ≡ None = ap (after at_sign) (sym (append-nil right)) ∙ after_of at_sign right None refl k in
    (ap (option_map (λ _. before at_sign right)) none, ap (λ o. unwrap_or o right) none)

pub cut_again : (a : List ℕ) (u w : Option (List ℕ)) (g : List ℕ) (n : Option (List ℕ)) → ArePieces u w g n → a ≡ joined u w g n → IsCutInto a u w g n
cut_again a u w g n are whole =
    let right : List ℕ = g ++ following colon n in
    let right_lacks : lacks at_sign right ≡ true =
    lacks-append at_sign g (following colon n) (host_text_lacks at_sign refl refl refl refl g are.is_host)
    (lacks-following at_sign colon n refl (are.is_port at_sign refl)) in
    let cut = front_user (userinfo u w) right (user_lacks at_sign refl refl refl u w are.is_username are.is_password) right_lacks in
    let f : userinfo_text a ≡ userinfo u w = ap userinfo_text whole ∙ cut.0 in
    let r : host_and_port_text a ≡ right = ap host_and_port_text whole ∙ cut.1 in
    let last = port_of g n (no_port g are.is_host) (are.is_port colon refl) (are.is_port right_bracket refl) in
    record {
      username = ap username_in f ∙ name_of u w are.is_username;
      password = ap password_in f ∙ password_of u w are.is_username are.paired;
      host = ap cut_host r ∙ last.1;
      port = ap cut_port r ∙ last.0;
    }

-- ---- no delimiter that ends an authority stands in one

abbrev pub LacksEnds : List ℕ → Type 0
LacksEnds t = none_pass ends_authority t ≡ true

lacks-ahead : (b : ℕ) (o : Option (List ℕ)) → not (at_sign == b) ≡ true → IfSome o (λ t. lacks b t ≡ true) → lacks b (ahead at_sign o) ≡ true
lacks-ahead b None other h = refl
lacks-ahead b (Some t) other h = lacks-append b t (at_sign ∷ []) h (and_from (not (at_sign == b)) true other refl)

lacks-joined : (b : ℕ) → is_gen_delim b ≡ true → (b == colon) ≡ false → not (colon == b) ≡ true → not (at_sign == b) ≡ true → is_digit b 10 ≡ false
    → ((g : List ℕ) → IsHostText g → lacks b g ≡ true) → (u w : Option (List ℕ)) (g : List ℕ) (n : Option (List ℕ)) → ArePieces u w g n
    → lacks b (joined u w g n) ≡ true
lacks-joined b gen other mark at digit in_host u w g n are =
    lacks-append b (ahead at_sign (userinfo u w)) (g ++ following colon n) (lacks-ahead b (userinfo u w) at
    (user_lacks b gen other mark u w are.is_username are.is_password))
    (lacks-append b g (following colon n) (in_host g are.is_host) (lacks-following b colon n mark (are.is_port b digit)))

joined_lacks : (u w : Option (List ℕ)) (g : List ℕ) (n : Option (List ℕ)) → ArePieces u w g n → LacksEnds (joined u w g n)
joined_lacks u w g n are =
    let a : List ℕ = joined u w g n in
    let x : lacks slash a ≡ true = lacks-joined slash refl refl refl refl refl (λ g h. host_text_lacks slash refl refl refl refl g h) u w g n are in
    let y : lacks question_mark a ≡ true =
    lacks-joined question_mark refl refl refl refl refl (λ g h. host_text_lacks question_mark refl refl refl refl g h) u w g n are in
    let z : lacks number_sign a ≡ true =
    lacks-joined number_sign refl refl refl refl refl (λ g h. host_text_lacks number_sign refl refl refl refl g h) u w g n are in
    none_of_either (λ b. b == slash) (λ b. b == question_mark || b == number_sign) a x (none_of_two question_mark number_sign a y z)

-- ---- the pieces of spelled, printed and canonical texts

some_port : (n : Option (List ℕ)) (p : Option ℕ) → port.Spells (unwrap_or n []) p → (b : ℕ) → is_digit b 10 ≡ false → IfSome n (λ t. lacks b t ≡ true)
some_port None p is b digit = tt
some_port (Some t) p is b digit = port_lacks b digit t p is

printed_port : (p : Option ℕ) → IfSome p port.IsPort → (b : ℕ) → is_digit b 10 ≡ false → IfSome (option_map port.text p) (λ t. lacks b t ≡ true)
printed_port None is b digit = tt
printed_port (Some n) is b digit = decimal_lacks b digit n is

pub spelled_pieces : (a : List ℕ) (p : AuthorityParts) (s : Spells a p) → ArePieces p.username p.password s.host_text s.port_text
spelled_pieces a p s =
    record {
      is_username = s.is_username;
      is_password = s.is_password;
      paired = s.paired;
      is_host = spelled_host s.host_text p.host s.is_host;
      is_port = some_port s.port_text p.port s.is_port;
    }

printed_pieces : (p : AuthorityParts) → Valid p → ArePieces p.username p.password (host.text p.host) (option_map port.text p.port)
printed_pieces p v =
    record {
      is_username = v.is_username;
      is_password = v.is_password;
      paired = v.paired;
      is_host = printed_host p.host v.is_host;
      is_port = printed_port p.port v.is_port;
    }

canonical_username : (u : Option (List ℕ)) → IfSome u username.IsUsername → IfSome (option_map canonical u) username.IsUsername
canonical_username None is = tt
canonical_username (Some t) is = IsUsername-canonical t is

canonical_password : (w : Option (List ℕ)) → IfSome w password.IsPassword → IfSome (option_map canonical w) password.IsPassword
canonical_password None is = tt
canonical_password (Some t) is = IsPassword-canonical t is

canonical_pair : (u w : Option (List ℕ)) → IsPaired u w → IsPaired (option_map canonical u) (option_map canonical w)
canonical_pair u None pair = tt
canonical_pair (Some t) (Some w) pair = refl
canonical_pair None (Some w) pair = absurd (cc)

canonical_pieces : (p : AuthorityParts) → Valid p → ArePieces (option_map canonical p.username) (option_map canonical p.password) (host.canonical_text p.host)
    (option_map port.text p.port)
canonical_pieces p v =
    record {
      is_username = canonical_username p.username v.is_username;
      is_password = canonical_password p.password v.is_password;
      paired = canonical_pair p.username p.password v.paired;
      is_host = canonical_host p.host v.is_host;
      is_port = printed_port p.port v.is_port;
    }

pub spelled_lacks : (a : List ℕ) (p : AuthorityParts) → Spells a p → LacksEnds a
spelled_lacks a p s = subst LacksEnds (sym s.whole) (joined_lacks p.username p.password s.host_text s.port_text (spelled_pieces a p s))

pub print_lacks : (p : AuthorityParts) → Valid p → LacksEnds (print p)
print_lacks p v = joined_lacks p.username p.password (host.text p.host) (option_map port.text p.port) (printed_pieces p v)

pub canonical_lacks : (p : AuthorityParts) → Valid p → LacksEnds (canonical_text p)
canonical_lacks p v =
    joined_lacks (option_map canonical p.username) (option_map canonical p.password) (host.canonical_text p.host) (option_map port.text p.port)
    (canonical_pieces p v)

pub print_cut : (p : AuthorityParts) → Valid p → IsCutInto (print p) p.username p.password (host.text p.host) (option_map port.text p.port)
print_cut p v = cut_again (print p) p.username p.password (host.text p.host) (option_map port.text p.port) (printed_pieces p v) refl

pub canonical_cut : (p : AuthorityParts) → Valid p → IsCutInto (canonical_text p) (option_map canonical p.username) (option_map canonical p.password)
    (host.canonical_text p.host) (option_map port.text p.port)
canonical_cut p v =
    cut_again (canonical_text p) (option_map canonical p.username) (option_map canonical p.password) (host.canonical_text p.host) (option_map port.text p.port)
    (canonical_pieces p v) refl

-- ---- what is spelled so is read so

again : (a : List ℕ) (p : AuthorityParts) → Spells a p → reading a ≡ Ok p
unfolding reading
again a p s =
    let cut = cut_again a p.username p.password s.host_text s.port_text (spelled_pieces a p s) s.whole in
    let x : if_present username.reading (username_text a) ≡ Ok p.username =
    ap (if_present username.reading) cut.username ∙ texts_again class.Name username.error_of p.username s.is_username in
    let y : if_present password.reading (password_text a) ≡ Ok p.password =
    ap (if_present password.reading) cut.password ∙ texts_again class.UserInfo password.error_of p.password s.is_password in
    let z : host.reading (host_text a) ≡ Ok p.host = ap host.reading cut.host ∙ host_exact.again s.host_text p.host s.is_host in
    let v : port.reading (unwrap_or (port_text a) []) ≡ Ok p.port =
    ap (λ o. port.reading (unwrap_or o [])) cut.port ∙ port_exact.again (unwrap_or s.port_text []) p.port s.is_port in
    rw (x, y, z, v) refl

-- ---- a text, put together from its cuts

user_is : (o : Option (List ℕ)) → userinfo (username_in o) (password_in o) ≡ o
user_is None = refl
user_is (Some i) = ap Some (before_after colon i)

paired_is : (o : Option (List ℕ)) → IsPaired (username_in o) (password_in o)
paired_is None = tt
paired_is (Some i) = by_after (after colon i)
  where
    by_after : (w : Option (List ℕ)) → IfSome w (λ _. IsSome (Some (before colon i)))
    by_after None = tt
    by_after (Some t) = refl

pub right_is : (t : List ℕ) → cut_host t ++ following colon (cut_port t) ≡ t
right_is t = by_last (from_last ends_host t) (last-whole ends_host t)
  where
    by_last : (l : List ℕ) → up_to_last ends_host t ++ l ≡ t → unwrap_or (option_map (λ _. up_to_last ends_host t) (colon_part l)) t ++ following colon
        (colon_part l) ≡ t
    by_last [] h = append-nil t
    by_last (b ∷ r) h = at_byte (b == colon) refl
      where
        at_byte : (v : Bool) → (b == colon) ≡ v → unwrap_or (option_map (λ _. up_to_last ends_host t) (cond v (Some r) None)) t ++ following colon
            (cond v (Some r) None) ≡ t
        at_byte true e = ap (λ x. up_to_last ends_host t ++ x ∷ r) (sym (eqb-true b colon e)) ∙ h
        at_byte false e = append-nil t

pub whole_is : (a : List ℕ) → a ≡ joined (username_text a) (password_text a) (host_text a) (port_text a)
whole_is a =
    sym (front_rest at_sign a)
    ∙ ap (λ o. ahead at_sign o ++ host_and_port_text a) (sym (user_is (userinfo_text a)))
    ∙ ap (λ u. ahead at_sign (userinfo (username_text a) (password_text a)) ++ u) (sym (right_is (host_and_port_text a)))

spells_cuts : (a : List ℕ) (u w : Option (List ℕ)) (h : Host) (n : Option ℕ) → if_present username.reading (username_text a) ≡ Ok u
    → if_present password.reading (password_text a) ≡ Ok w → host.reading (host_text a) ≡ Ok h → port.reading (unwrap_or (port_text a) []) ≡ Ok n
    → Spells a (record { username = u; password = w; host = h; port = n })
spells_cuts a u w h n x y z v =
    let d = texts_found class.Name username.error_of (username_text a) u x in
    let e = texts_found class.UserInfo password.error_of (password_text a) w y in
    record {
      host_text = host_text a;
      port_text = port_text a;
      whole = rw (d.0, e.0) (whole_is a);
      is_username = d.1;
      is_password = e.1;
      paired = rw (d.0, e.0) (paired_is (userinfo_text a));
      is_host = host_exact.found (host_text a) h z;
      is_port = port_exact.found (unwrap_or (port_text a) []) n v;
    }

pub found : (a : List ℕ) (p : AuthorityParts) → reading a ≡ Ok p → Spells a p
unfolding reading
found a p k =
    let x = bind_ok (of_piece errors.Username (if_present username.reading (username_text a))) _ p k in
    let y = bind_ok (of_piece errors.Password (if_present password.reading (password_text a))) _ p x.2 in
    let z = bind_ok (of_piece errors.Host (host.reading (host_text a))) _ p y.2 in
    let v = bind_ok (of_piece errors.Port (port.reading (unwrap_or (port_text a) []))) _ p z.2 in
    let e : record { username = x.0; password = y.0; host = z.0; port = v.0 } ≡ p = cc (v.2) in
    subst (λ q. Spells a q) e (spells_cuts a x.0 y.0 z.0 v.0 (piece_found errors.Username _ x.0 x.1) (piece_found errors.Password _ y.0 y.1)
    (piece_found errors.Host _ z.0 z.1) (piece_found errors.Port _ v.0 v.1))

-- where the first pieces are read, the fault is that of the next
host_fault : (a : List ℕ) (u w : Option (List ℕ)) (e : HostError) → if_present username.reading (username_text a) ≡ Ok u
    → if_present password.reading (password_text a) ≡ Ok w → host.reading (host_text a) ≡ Err e → reading a ≡ Err (errors.Host e)
unfolding reading
host_fault a u w e x y z = rw x (rw y (rw z refl))

port_fault : (a : List ℕ) (u w : Option (List ℕ)) (h : Host) (e : PortError) → if_present username.reading (username_text a) ≡ Ok u
    → if_present password.reading (password_text a) ≡ Ok w → host.reading (host_text a) ≡ Ok h → port.reading (unwrap_or (port_text a) []) ≡ Err e
    → reading a ≡ Err (errors.Port e)
unfolding reading
port_fault a u w h e x y z v = rw x (rw y (rw z (rw v refl)))

-- the user information is read first
abbrev pair : Option (List ℕ) → Option (List ℕ) → Option (List ℕ) × Option (List ℕ)
pair v z = (v, z)

ok_is : {A : Type 0} (x y : A) → ◌≡◌ {A = Result A AuthorityError} (Ok x) (Ok y) → x ≡ y
ok_is x y h = cc

userinfo_read : (i u w : Option (List ℕ)) → userinfo_reading i ≡ Ok (u, w)
    → (if_present username.reading (username_in i) ≡ Ok u) × (if_present password.reading (password_in i) ≡ Ok w)
userinfo_read i u w = by_results (if_present username.reading (username_in i)) (if_present password.reading (password_in i))
  where
    by_results : (x : Result (Option (List ℕ)) UsernameError) (y : Result (Option (List ℕ)) PasswordError)
        → (of_piece errors.Username x >>= λ v. of_piece errors.Password y >>= λ z. Ok (pair v z)) ≡ Ok (pair u w) → (x ≡ Ok u) × (y ≡ Ok w)
    by_results (Ok v) (Ok z) h = let same = ok_is (pair v z) (pair u w) h in (ap Ok (ap (λ m. m.0) same), ap Ok (ap (λ m. m.1) same))
    by_results (Ok v) (Err e) h = cc
    by_results (Err e) y h = cc

userinfo_fault : (a : List ℕ) (e : AuthorityError) → userinfo_reading (userinfo_text a) ≡ Err e → reading a ≡ Err e
unfolding reading
userinfo_fault a e h = by_results (if_present username.reading (username_text a)) refl (if_present password.reading (password_text a)) refl h
  where
    by_results : (x : Result (Option (List ℕ)) UsernameError) → if_present username.reading (username_text a) ≡ x
        → (y : Result (Option (List ℕ)) PasswordError) → if_present password.reading (password_text a) ≡ y
        → (of_piece errors.Username x >>= λ v. of_piece errors.Password y >>= λ z. Ok (pair v z)) ≡ Err e → reading a ≡ Err e
    by_results (Ok v) i (Ok z) j k = cc
    by_results (Ok v) i (Err f) j k = let same : errors.Password f ≡ e = cc in rw (i, j) (ap Err same)
    by_results (Err f) i y j k = let same : errors.Username f ≡ e = cc in rw i (ap Err same)

-- a password that is read stands with a user name
pub paired : (i u w : Option (List ℕ)) → if_present username.reading (username_in i) ≡ Ok u → if_present password.reading (password_in i) ≡ Ok w
    → u ≡ with_empty u w
paired i (Some u) w x y = refl
paired i None None x y = refl
paired None None (Some w) x y = cc
paired (Some t) None (Some w) x y = by_reading (username.reading (before colon t)) x
  where
    by_reading : (r : Result (List ℕ) UsernameError) → some_of r ≡ Ok None → None ≡ with_empty None (Some w)
    by_reading (Ok z) k = cc
    by_reading (Err e) k = cc

parts_read : (a : List ℕ) (u w : Option (List ℕ)) (h : Host) (n : Option ℕ) → if_present username.reading (username_text a) ≡ Ok u
    → if_present password.reading (password_text a) ≡ Ok w → host.reading (host_text a) ≡ Ok h → port.reading (unwrap_or (port_text a) []) ≡ Ok n
    → reading a ≡ Ok (of_parts u w h n)
unfolding reading
parts_read a u w h n x y z v =
    rw x (rw y (rw z (rw v (ap (λ o. Ok (record { username = o; password = w; host = h; port = n })) (paired (userinfo_text a) u w x y)))))

-- ---- what reading returns, by the pieces that the text was cut into

module _ (a : List ℕ) (i : Option (List ℕ)) (is_userinfo : i ≡ userinfo_text a) where
  pub refused_userinfo : (e : AuthorityError) → userinfo_reading i ≡ Err e → reading a ≡ Err e
  refused_userinfo e x = userinfo_fault a e (ap userinfo_reading (sym is_userinfo) ∙ x)

  module _ (u w : Option (List ℕ)) (x : userinfo_reading i ≡ Ok (u, w)) (t : List ℕ) (is_host : t ≡ host_text a) where
    pub both_read : (if_present username.reading (username_text a) ≡ Ok u) × (if_present password.reading (password_text a) ≡ Ok w)
    both_read = userinfo_read (userinfo_text a) u w (ap userinfo_reading (sym is_userinfo) ∙ x)

    pub refused_host : (e : HostError) → host.reading t ≡ Err e → reading a ≡ Err (errors.Host e)
    refused_host e y = host_fault a u w e both_read.0 both_read.1 (ap host.reading (sym is_host) ∙ y)

    module _ (h : Host) (y : host.reading t ≡ Ok h) where
      host_read : host.reading (host_text a) ≡ Ok h
      host_read = ap host.reading (sym is_host) ∙ y

      pub refused_port : (e : PortError) → port.reading (unwrap_or (port_text a) []) ≡ Err e → reading a ≡ Err (errors.Port e)
      refused_port e z = port_fault a u w h e both_read.0 both_read.1 host_read z

      pub accepted : (n : Option ℕ) → port.reading (unwrap_or (port_text a) []) ≡ Ok n → reading a ≡ Ok (of_parts u w h n)
      accepted n z = parts_read a u w h n both_read.0 both_read.1 host_read z

-- a text that spells a host is an authority of that alone
pub host_alone : (a : List ℕ) (h : Host) → host.Spells a h → reading a ≡ Ok (of_parts None None h None)
host_alone a h s =
    again a (of_parts None None h None) (record {
      host_text = a;
      port_text = None;
      whole = sym (append-nil a);
      is_username = tt;
      is_password = tt;
      paired = tt;
      is_host = s;
      is_port = record { digits = refl; in_range = search arith; value = refl };
    })

pub exact : IsExact Spells reading
exact = record { again = again; found = found }

-- ---- a text by itself, which may go on after an authority

-- an authority is cut off where what follows it begins with a byte that ends one
pub cut_there : (a rest : List ℕ) (p : AuthorityParts) → Spells a p → up_to ends_authority rest ≡ [] → from_first ends_authority rest ≡ rest
    → (up_to ends_authority (a ++ rest) ≡ a) × (from_first ends_authority (a ++ rest) ≡ rest)
cut_there a rest p s h k =
    let plain = spelled_lacks a p s in (
      up_to-append ends_authority a rest plain ∙ ap (λ u. a ++ u) h ∙ append-nil a,
      from_first-append ends_authority a rest plain ∙ k,
    )

ends_at : (a rest : List ℕ) (p : AuthorityParts) → Spells a p → up_to ends_authority rest ≡ [] → from_first ends_authority rest ≡ rest
    → whole_reading (a ++ rest) ≡ unless_rest rest p
ends_at a rest p s h k =
    let cut = cut_there a rest p s h k in
    ap (λ u. reading u >>= unless_rest (from_first ends_authority (a ++ rest))) cut.0
    ∙ ap (λ r. r >>= unless_rest (from_first ends_authority (a ++ rest))) (again a p s)
    ∙ ap (λ u. unless_rest u p) cut.1

whole_again : (t : List ℕ) (p : AuthorityParts) → Spells t p → whole_reading t ≡ Ok p
whole_again t p s = ap whole_reading (sym (append-nil t)) ∙ ends_at t [] p s refl refl

-- after a faultless authority the rest decides
pub rest_answers : (a : List ℕ) (b : ℕ) (u : List ℕ) (p : AuthorityParts) → Spells a p → ends_authority b ≡ true
    → whole_reading (a ++ b ∷ u) ≡ Err (rest_error p.port (kind p))
rest_answers a b u p s h = ends_at a (b ∷ u) p s (ap (λ v. cond v [] (b ∷ up_to ends_authority u)) h) (ap (λ v. cond v (b ∷ u) (from_first ends_authority u)) h)

-- the same, by the two parts that the text was cut into
pub rest_told : (t a r : List ℕ) (p : AuthorityParts) (e : AuthorityError) → a ≡ up_to ends_authority t → r ≡ from_first ends_authority t → Ok p ≡ reading a
    → (length r == 0) ≡ false → e ≡ rest_error p.port (kind p) → Err e ≡ whole_reading t
rest_told t a r p e i j k there m =
    ap Err m
    ∙ by_rest r there
    ∙ ap (λ x. x >>= unless_rest r) k
    ∙ ap (λ x. reading x >>= unless_rest r) i
    ∙ ap (λ x. reading (up_to ends_authority t) >>= unless_rest x) j
  where
    by_rest : (u : List ℕ) → (length u == 0) ≡ false → Err (rest_error p.port (kind p)) ≡ unless_rest u p
    by_rest [] h = absurd (false≢true (sym h))
    by_rest (b ∷ u) h = refl

no_rest : (rest : List ℕ) (q p : AuthorityParts) → unless_rest rest q ≡ Ok p → (rest ≡ []) × (q ≡ p)
no_rest [] q p h = let e : q ≡ p = cc in (refl, e)
no_rest (b ∷ t) q p h = absurd (cc)

whole_found : (t : List ℕ) (p : AuthorityParts) → whole_reading t ≡ Ok p → Spells t p
whole_found t p h =
    let x = bind_ok (reading (up_to ends_authority t)) (unless_rest (from_first ends_authority t)) p h in
    let y = no_rest (from_first ends_authority t) x.0 p x.2 in
    let front : up_to ends_authority t ≡ t =
    sym (append-nil (up_to ends_authority t)) ∙ ap (λ u. up_to ends_authority t ++ u) (sym y.0) ∙ cut-whole ends_authority t in
    subst (λ u. Spells u p) front (found (up_to ends_authority t) p (x.1 ∙ ap Ok y.1))

pub whole_exact : IsExact Spells whole_reading
whole_exact = record { again = whole_again; found = whole_found }

-- ---- what is spelled and what is printed

port_valid : (t : List ℕ) (p : Option ℕ) → port.Spells t p → IfSome p port.IsPort
port_valid [] p s = subst (λ o. IfSome o port.IsPort) (sym s.value) tt
port_valid (d ∷ ds) p s = subst (λ o. IfSome o port.IsPort) (sym s.value) s.in_range

pub valid : (a : List ℕ) (p : AuthorityParts) → Spells a p → Valid p
valid a p s =
    record {
      is_username = s.is_username;
      is_password = s.is_password;
      paired = s.paired;
      is_host = host_valid s.host_text p.host s.is_host;
      is_port = port_valid (unwrap_or s.port_text []) p.port s.is_port;
    }

no_digits : port.Spells [] None
no_digits = record { digits = refl; in_range = omega arith; value = refl }

pub port_back : (n : Option ℕ) → IfSome n port.IsPort → port.Spells (unwrap_or (option_map port.text n) []) n
port_back None h = no_digits
port_back (Some n) h = port_printed n h

pub back : (p : AuthorityParts) → Valid p → ReadsBack p → Spells (print p) p
back p v r =
    record {
      host_text = host.text p.host;
      port_text = option_map port.text p.port;
      whole = refl;
      is_username = v.is_username;
      is_password = v.is_password;
      paired = v.paired;
      is_host = r;
      is_port = port_back p.port v.is_port;
    }

-- ---- authorities with one printed text

pub one_port : (m n : Option ℕ) → IfSome m port.IsPort → IfSome n port.IsPort → option_map port.text m ≡ option_map port.text n → m ≡ n
one_port None None v w e = refl
one_port None (Some n) v w e = absurd (cc)
one_port (Some m) None v w e = absurd (cc)
one_port (Some m) (Some n) v w e = let texts : port.text m ≡ port.text n = cc in ap Some (decimal_of_one_port m n v w texts)

pub alike : (p q : AuthorityParts) → Valid p → Valid q → print p ≡ print q → kind p ≡ kind q → canonical_text p ≡ canonical_text q
alike p q v w e k =
    let x = print_cut p v in
    let y = print_cut q w in
    let u : p.username ≡ q.username = sym x.username ∙ ap username_text e ∙ y.username in
    let s : p.password ≡ q.password = sym x.password ∙ ap password_text e ∙ y.password in
    let g : host.text p.host ≡ host.text q.host = sym x.host ∙ ap host_text e ∙ y.host in
    let n : option_map port.text p.port ≡ option_map port.text q.port = sym x.port ∙ ap port_text e ∙ y.port in
    rw (u, s, host_alike p.host q.host v.is_host w.is_host g k, n) refl

-- ---- comparing

same_port : (m n : Option ℕ) → IsTrue (option_eq ◌==◌ m n) ↔ (m ≡ n)
same_port None None = ((λ e. refl), (λ e. refl))
same_port None (Some n) = ((λ e. absurd (cc)), (λ e. absurd (cc)))
same_port (Some m) None = ((λ e. absurd (cc)), (λ e. absurd (cc)))
same_port (Some m) (Some n) = ((λ e. ap Some (eqb-true m n e)), (λ e. let same : m ≡ n = cc in rw same (eqb-same n)))
  where
    eqb-same : (n : ℕ) → (n == n) ≡ true
    eqb-same n = grind arith

to_key : (p q : AuthorityParts) → IsTrue (each_alike p q) → key p ≡ key q
to_key p q e =
    let x = and_parts _ _ e in
    let y = and_parts _ _ x.1 in
    let z = and_parts _ _ y.1 in
    let u = (same_option canonical p.username q.username).0 x.0 in
    let w = (same_option canonical p.password q.password).0 y.0 in
    let keys = (bytes_eq-Decides (host.key p.host) (host.key q.host)).0 z.0 in
    let codes : host.kind_code (kind p) ≡ host.kind_code (kind q) = cc in
    let g : host.canonical_text p.host ≡ host.canonical_text q.host = cc in
    let n = (same_port p.port q.port).0 z.1 in
    rw (codes, u, w, g, n) refl

from_key : (p q : AuthorityParts) → Valid p → Valid q → key p ≡ key q → IsTrue (each_alike p q)
from_key p q v w e =
    let codes : host.kind_code (kind p) ≡ host.kind_code (kind q) = cc in
    let texts : canonical_text p ≡ canonical_text q = cc in
    let x = canonical_cut p v in
    let y = canonical_cut q w in
    let g : host.canonical_text p.host ≡ host.canonical_text q.host = sym x.host ∙ ap host_text texts ∙ y.host in
    and_from _ _ ((same_option canonical p.username q.username).1 (sym x.username ∙ ap username_text texts ∙ y.username))
    (and_from _ _ ((same_option canonical p.password q.password).1 (sym x.password ∙ ap password_text texts ∙ y.password))
    (and_from _ _ ((bytes_eq-Decides (host.key p.host) (host.key q.host)).1 (rw (codes, g) refl))
    ((same_port p.port q.port).1 (one_port p.port q.port v.is_port w.is_port (sym x.port ∙ ap port_text texts ∙ y.port)))))

pub tested : (p q : AuthorityParts) → Valid p → Valid q → each_alike p q ≡ bytes_eq (key p) (key q)
tested p q v w = same_from_decides (each_alike p q) (bytes_eq (key p) (key q)) (to_key p q, from_key p q v w) (bytes_eq-Decides (key p) (key q))

-- ---- what a hasher is fed, part by part

pub port_value : (n : Option ℕ) → IfSome n port.IsPort → port.value_of (unwrap_or (option_map port.text n) []) ≡ n
port_value n v = sym (port_back n v).value

fed_cut : (code : ℕ) (t : List ℕ) (u w : Option (List ℕ)) (g : List ℕ) (n : Option (List ℕ)) → IsCutInto t u w g n
    → fed_key (code ∷ t) ≡ fed_pieces code u w g n
fed_cut code t u w g n cut =
    ap (λ x. fed_pieces code x (password_text t) (host_text t) (port_text t)) cut.username
    ∙ ap (λ x. fed_pieces code u x (host_text t) (port_text t)) cut.password
    ∙ ap (λ x. fed_pieces code u w x (port_text t)) cut.host
    ∙ ap (λ x. fed_pieces code u w g x) cut.port

-- the key alone determines it
pub fed_parts : (p : AuthorityParts) → Valid p → fed_key (key p) ≡ fed p
fed_parts p v =
    fed_cut (host.kind_code (kind p)) (canonical_text p) (option_map canonical p.username) (option_map canonical p.password) (host.canonical_text p.host)
    (option_map port.text p.port) (canonical_cut p v)
    ∙ rw (fed_option canonical fed_text p.username, fed_option canonical fed_text p.password, fed_host p.host v.is_host, port_value p.port v.is_port) refl

pub feeds_key : {S : Type 0} (write : S → List ℕ → S) (s t : S) (p : AuthorityParts) → Valid p → t ≡ fold write s (fed p)
    → t ≡ fold write s (fed_key (key p))
feeds_key write s t p v e = e ∙ sym (ap (fold write s) (fed_parts p v))

-- the parts are fed one after another
pub fed_by_turns : {S : Type 0} (write : S → List ℕ → S) (s₀ s₁ s₂ s₃ s₄ : S) (p : AuthorityParts)
    → s₁ ≡ fold write s₀ (option (λ t. fed_text (canonical t)) p.username)
    → s₂ ≡ fold write s₁ (option (λ t. fed_text (canonical t)) p.password)
    → s₃ ≡ fold write s₂ (host.fed p.host)
    → s₄ ≡ fold write s₃ (option u16 p.port)
    → s₄ ≡ fold write s₀ (fed p)
fed_by_turns write s₀ s₁ s₂ s₃ s₄ p a b c d =
    let u : HashWrites = option (λ t. fed_text (canonical t)) p.username in
    let w : HashWrites = option (λ t. fed_text (canonical t)) p.password in
    let g : HashWrites = host.fed p.host in
    let n : HashWrites = option u16 p.port in
    let all : fold write s₀ (u ++ (w ++ (g ++ n))) ≡ fold write (fold write (fold write (fold write s₀ u) w) g) n =
    fold-append write s₀ u (w ++ (g ++ n)) ∙ fold-append write (fold write s₀ u) w (g ++ n) ∙ fold-append write (fold write (fold write s₀ u) w) g n in
    rw (d, c, b, a) (sym all)

-- ---- laws of the definitions

pub one_reading : (a : List ℕ) (p q : AuthorityParts) → Spells a p → Spells a q → p ≡ q
one_reading a p q h k = let e = again a p h in let f = again a q k in cc

pub none_exactly : (a : List ℕ) → (fault_in (reading a) ≡ None) ↔ ((p : AuthorityParts) × Spells a p)
none_exactly a = (
  (λ h. let r = none_or (reading a) h in (r.0, found a r.0 r.1)),
  (λ w. ap fault_in (again a w.0 w.1)),
)

pub same_key : (p q : AuthorityParts) → (key p ≡ key q) ↔ ((canonical_text p ≡ canonical_text q) × (kind p ≡ kind q))
same_key p q = (
  (λ e. let codes : host.kind_code (kind p) ≡ host.kind_code (kind q) = cc in let texts : canonical_text p ≡ canonical_text q = cc in
      (texts, code_kind (kind p) (kind q) codes)),
  (λ s. rw (s.0, s.1) refl),
)
