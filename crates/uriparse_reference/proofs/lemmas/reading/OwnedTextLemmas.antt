-- Where the components of a text lie in it, and that they are found there again.
use Rattle.std.proofs.Common.{◌≡◌, Result, ◌+◌, ◌-◌, ◌≤◌, ℕ, Bool, true, false, cond, List, [], ◌∷◌, ◌++◌, Option, Some, None, Ok, Err, length, take, drop, refl, sym, ap, subst, ◌∙◌, append-nil, append_assoc, arith}
use Rattle.std.specs.Prelude.{◌==◌, IfSome, unwrap_or}
use Rattle.std.proofs.Math.Seq.{drop-append_seam, take-append_seam}
use Rattle.std.proofs.lemmas.Bool.{false≢true}
use Rattle.std.proofs.lemmas.List.{length-append}
use Rattle.uriparse_text.specs.Bytes.{colon, percent, question_mark, number_sign}
use Rattle.uriparse_text.specs.Cuts.{ahead, following, lacks, none_pass, up_to}
use Rattle.uriparse_text.specs.Readings.{IfPresent, fault_in}
use Rattle.uriparse_text.specs.Scanned.{AreWords, if_there}
use Rattle.uriparse_text.specs.Spelling.{IsValidText}
use Rattle.uriparse_text.specs.declared.internal.class.Class.{Class}
use Rattle.uriparse_text.specs.declared.internal.class.Class.TheVariants as class
use Rattle.uriparse_text.specs.declared.internal.token.Case.{Case}
use Rattle.uriparse_text.specs.declared.internal.token.Case.TheVariants as case
use Rattle.uriparse_text.proofs.lemmas.readings.CutLemmas.{up_to-append}
use Rattle.uriparse_authority.specs.Authority as authority
use Rattle.uriparse_authority.specs.Authority.{AuthorityParts, ends_authority}
use Rattle.uriparse_authority.specs.declared.authority.error.AuthorityError.{AuthorityError}
use Rattle.uriparse_authority.proofs.lemmas.authorities.AuthorityLemmas as authorities
use Rattle.uriparse_scheme.specs.declared.scheme.registered.RegisteredScheme.{RegisteredScheme}
use Rattle.uriparse_scheme.specs.Cuts.{if_some}
use Rattle.uriparse_scheme.specs.Registered.{name_of}
use Rattle.uriparse_path.specs.Path.{IsPath, pieces}
use Rattle.uriparse_reference.specs.declared.uri_reference.error.URIReferenceError.{URIReferenceError}
use Rattle.uriparse_reference.specs.declared.uri_reference.view.offsets.Offsets.{Offsets}
use Rattle.uriparse_reference.specs.OwnedText.{AreOffsets, IsAuthorityOf, IsReference, front_at, gap, parts_in, parts_read, path_at, query_at, tail_at, viewed_in}
use Rattle.uriparse_reference.specs.Reading.{fault, parts_of}
use Rattle.uriparse_reference.specs.Reference.{Parts, Spells, after_slashes, joined}
use Rattle.uriparse_reference.specs.View.{AreFound}
use Rattle.uriparse_reference.proofs.lemmas.reading.CutLemmas.{cut_again}
use Rattle.uriparse_reference.proofs.lemmas.reading.ReadingLemmas.{again, found, spelled_pieces}
use Rattle.uriparse_reference.proofs.lemmas.reading.ViewLemmas.{not_empty}

-- ---- an authority that is read again

up_to-all : (p : ℕ → Bool) (t : List ℕ) → none_pass p t ≡ true → up_to p t ≡ t
up_to-all p t h = ap (up_to p) (sym (append-nil t)) ∙ up_to-append p t [] h ∙ append-nil t

-- the text of an authority has no byte that ends one
ends_nowhere : (t : List ℕ) (a : AuthorityParts) → authority.reading t ≡ Ok a → up_to ends_authority t ≡ t
ends_nowhere t a h = up_to-all ends_authority t (authorities.spelled_lacks t a (authorities.found t a h))

pub read_again : (kind name : ℕ) (port : Option ℕ) (t : List ℕ) (a : Option AuthorityParts) → (kind == 0) ≡ false → IsAuthorityOf kind name port t a
    → (b : AuthorityParts) → authority.reading (up_to ends_authority t) ≡ Ok b → Some b ≡ a
read_again kind name port t None there is b h = absurd (false≢true (sym there ∙ is))
read_again kind name port t (Some a) there is b h =
    let same : ◌≡◌ {A = Result AuthorityParts AuthorityError} (Ok b) (Ok a) = sym h ∙ ap authority.reading (ends_nowhere t a is.1) ∙ is.1 in
    cc

pub never_fails : {A : Type 0} (kind name : ℕ) (port : Option ℕ) (t : List ℕ) (a : Option AuthorityParts) → (kind == 0) ≡ false → IsAuthorityOf kind name port t a
    → (e : AuthorityError) → authority.reading (up_to ends_authority t) ≡ Err e → A
never_fails kind name port t None there is e h = absurd (false≢true (sym there ∙ is))
never_fails kind name port t (Some a) there is e h =
    let same : ◌≡◌ {A = Result AuthorityParts AuthorityError} (Err e) (Ok a) = sym h ∙ ap authority.reading (ends_nowhere t a is.1) ∙ is.1 in
    absurd (cc)

-- ---- lists

taken : (x y : List ℕ) (n : ℕ) → n ≡ length x → take n (x ++ y) ≡ x
taken x y n e = ap (λ k. take k (x ++ y)) e ∙ take-append_seam x y

dropped : (x y : List ℕ) (n : ℕ) → n ≡ length x → drop n (x ++ y) ≡ y
dropped x y n e = ap (λ k. drop k (x ++ y)) e ∙ drop-append_seam x y

-- what follows its delimiter, if it is present
unmarked : (mark : ℕ) (o : Option (List ℕ)) → drop 1 (following mark o) ≡ unwrap_or o []
unmarked mark None = refl
unmarked mark (Some t) = refl

-- where a text with its delimiter begins before an end
none_there : (present : ℕ) → ◌≡◌ {A = Option (List ℕ)} (if_there present []) None → (present == 0) ≡ true
none_there present = by_test (present == 0)
  where
    by_test : (v : Bool) → ◌≡◌ {A = Option (List ℕ)} (cond v None (Some [])) None → v ≡ true
    by_test true h = refl
    by_test false h = absurd (cc)

some_there : (present : ℕ) (t : List ℕ) → if_there present t ≡ Some t → (present == 0) ≡ false
some_there present t = by_test (present == 0)
  where
    by_test : (v : Bool) → cond v None (Some t) ≡ Some t → v ≡ false
    by_test true h = absurd (cc)
    by_test false h = refl

pub start_is : (c : Class) (k : Case) (present len : ℕ) (o : Option (List ℕ)) → AreWords c k present len o → (mark : ℕ) (x : List ℕ) (n : ℕ)
    → n ≡ length (x ++ following mark o) → cond (present == 0) n (n - len - 1) ≡ length x
start_is c k present len None are mark x n e = rw (none_there present are.is_there) (e ∙ ap length (append-nil x))
start_is c k present len (Some t) are mark x n e =
    let sum : length (x ++ mark ∷ t) ≡ length x + length (mark ∷ t) = length-append x (mark ∷ t) in
    let long : length t ≡ len = are.is_long in
    let less : n - len - 1 ≡ length x = omega (arith, e, sum, long) in
    rw (some_there present t are.is_there) less

-- ---- the front of a text

scheme_whole : (b : ℕ) (s : List ℕ) (a : List ℕ) → ahead colon (if_some (b ∷ s)) ++ a ≡ (b ∷ s) ++ colon ∷ a
scheme_whole b s a = append_assoc (b ∷ s) (colon ∷ []) a

scheme_first : (s : List ℕ) (a : List ℕ) → take (length s) (ahead colon (if_some s) ++ a) ≡ s
scheme_first [] a = refl
scheme_first (b ∷ s) a = ap (take (length (b ∷ s))) (scheme_whole b s a) ∙ taken (b ∷ s) (colon ∷ a) (length (b ∷ s)) refl

slashes_skipped : (a : Option (List ℕ)) → drop 2 (after_slashes a) ≡ unwrap_or a []
slashes_skipped None = refl
slashes_skipped (Some t) = refl

colon_skipped : (a : Option (List ℕ)) → drop 3 (colon ∷ after_slashes a) ≡ unwrap_or a []
colon_skipped None = refl
colon_skipped (Some t) = refl

authority_last : (s : List ℕ) (a : Option (List ℕ)) → drop (gap (length s)) (drop (length s) (ahead colon (if_some s) ++ after_slashes a)) ≡ unwrap_or a []
authority_last [] a = slashes_skipped a
authority_last (b ∷ s) a =
    let skipped : drop (length (b ∷ s)) (ahead colon (if_some (b ∷ s)) ++ after_slashes a) ≡ colon ∷ after_slashes a =
    ap (drop (length (b ∷ s))) (scheme_whole b s (after_slashes a)) ∙ dropped (b ∷ s) (colon ∷ after_slashes a) (length (b ∷ s)) refl in
    ap (λ v. drop (cond v 2 3) (drop (length (b ∷ s)) (ahead colon (if_some (b ∷ s)) ++ after_slashes a))) (not_empty b s)
    ∙ ap (drop 3) skipped ∙ colon_skipped a

scheme_within : (s : List ℕ) (a : List ℕ) → length s ≤ length (ahead colon (if_some s) ++ a)
scheme_within [] a = omega arith
scheme_within (b ∷ s) a = let sum = ap length (scheme_whole b s a) ∙ length-append (b ∷ s) (colon ∷ a) in omega (arith, sum)

-- the text of the authority that was read spells it
authority_read : (o : Option (List ℕ)) (a : Option AuthorityParts) → IfPresent authority.Spells o a → IfSome a (λ p. authority.reading (unwrap_or o []) ≡ Ok p)
authority_read None None h = tt
authority_read None (Some p) h = absurd h
authority_read (Some t) None h = tt
authority_read (Some t) (Some p) h = authorities.exact.again t p h

-- ---- the components of a text lie where these numbers say

joined_left : (x y h q f : List ℕ) → x ++ (y ++ (h ++ (q ++ f))) ≡ (((x ++ y) ++ h) ++ q) ++ f
joined_left x y h q f =
    sym (append_assoc x y (h ++ (q ++ f))) ∙ sym (append_assoc (x ++ y) h (q ++ f)) ∙ sym (append_assoc ((x ++ y) ++ h) q f)

record IsLaidOut (t front h q f : List ℕ) (path query fragment : ℕ) : Type 0 where
  pub before_fragment : take fragment t ≡ (front ++ h) ++ q
  pub from_fragment : drop fragment t ≡ f
  pub before_query : take query (take fragment t) ≡ front ++ h
  pub from_query : drop query (take fragment t) ≡ q
  pub before_path : take path (take query (take fragment t)) ≡ front
  pub from_path : drop path (take query (take fragment t)) ≡ h

laid_out : (t front h q f : List ℕ) (path query fragment : ℕ) → t ≡ ((front ++ h) ++ q) ++ f → fragment ≡ length ((front ++ h) ++ q)
    → query ≡ length (front ++ h) → path ≡ length front → IsLaidOut t front h q f path query fragment
laid_out t front h q f path query fragment whole x y z =
    let b : take fragment t ≡ (front ++ h) ++ q = ap (take fragment) whole ∙ taken ((front ++ h) ++ q) f fragment x in
    let c : take query (take fragment t) ≡ front ++ h = ap (take query) b ∙ taken (front ++ h) q query y in
    record {
      before_fragment = b;
      from_fragment = ap (drop fragment) whole ∙ dropped ((front ++ h) ++ q) f fragment x;
      before_query = c;
      from_query = ap (drop query) b ∙ dropped (front ++ h) q query y;
      before_path = ap (take path) c ∙ taken front h path z;
      from_path = ap (drop path) c ∙ dropped front h path z;
    }

pub offsets_are : (t s : List ℕ) (k : Option RegisteredScheme) (a : Option AuthorityParts) (h : List ℕ) (m e : ℕ) (q f : Option (List ℕ))
    → AreFound t s k a h m e q f
    → (has_query query_len : ℕ) → AreWords class.Query case.Kept has_query query_len q
    → (has_fragment fragment_len : ℕ) → AreWords class.Query case.Kept has_fragment fragment_len f
    → (kind name : ℕ) (port : Option ℕ) → ((x : List ℕ) → IfSome a (λ p. authority.reading x ≡ Ok p) → IsAuthorityOf kind name port x a)
    → (c : Offsets) → c.fragment ≡ cond (has_fragment == 0) (length t) (length t - fragment_len - 1)
    → c.query ≡ cond (has_query == 0) c.fragment (c.fragment - query_len - 1) → c.path ≡ c.query - length h → c.scheme ≡ length s → c.count ≡ m
    → c.name ≡ name → c.port ≡ port → c.known ≡ k → c.authority_kind ≡ kind → c.has_query ≡ has_query → c.has_fragment ≡ has_fragment
    → (c.escaped ≡ 0 → e ≡ 0) → AreOffsets t c
offsets_are t s k a h m e q f are has_query query_len query_words has_fragment fragment_len fragment_words kind name port at_authority c fragment_is query_is
    path_is scheme_is count_is name_is port_is known_is kind_is has_query_is has_fragment_is escaped_is =
    let p = parts_of t a h q f in
    let spelled : Spells t p = found t p are.is_read in
    let cut = cut_again t spelled.scheme_text spelled.authority_text spelled.path_text q f (spelled_pieces t p spelled) spelled.whole in
    let own : Option (List ℕ) = spelled.authority_text in
    let same_scheme : spelled.scheme_text ≡ if_some s = sym cut.scheme ∙ sym are.is_scheme in
    let same_path : spelled.path_text ≡ h = sym cut.path ∙ sym are.is_cut in
    let x : List ℕ = ahead colon (if_some s) ++ after_slashes own in
    let mark_query : List ℕ = following question_mark q in
    let mark_fragment : List ℕ = following number_sign f in
    let whole : t ≡ ((x ++ h) ++ mark_query) ++ mark_fragment =
    spelled.whole ∙ ap (λ o. joined o own spelled.path_text q f) same_scheme ∙ ap (λ u. joined (if_some s) own u q f) same_path
    ∙ joined_left (ahead colon (if_some s)) (after_slashes own) h mark_query mark_fragment in
    let fragment_at : c.fragment ≡ length ((x ++ h) ++ mark_query) =
    fragment_is ∙ start_is class.Query case.Kept has_fragment fragment_len f fragment_words number_sign ((x ++ h) ++ mark_query) (length t) (ap length whole) in
    let query_starts : c.query ≡ length (x ++ h) =
    query_is ∙ start_is class.Query case.Kept has_query query_len q query_words question_mark (x ++ h) c.fragment fragment_at in
    let sum : length (x ++ h) ≡ length x + length h = length-append x h in
    let path_starts : c.path ≡ length x = omega (arith, path_is, query_starts, sum) in
    let out = laid_out t x h mark_query mark_fragment c.path c.query c.fragment whole fragment_at query_starts path_starts in
    let scheme_again : take c.scheme (front_at c t) ≡ s =
    ap (λ n. take n (front_at c t)) scheme_is ∙ ap (take (length s)) out.before_path ∙ scheme_first s (after_slashes own) in
    let authority_again : drop (gap c.scheme) (drop c.scheme (front_at c t)) ≡ unwrap_or own [] =
    ap (λ n. drop (gap n) (drop n (front_at c t))) scheme_is ∙ ap (λ u. drop (gap (length s)) (drop (length s) u)) out.before_path ∙ authority_last s own in
    let query_bytes : drop 1 (query_at c t) ≡ unwrap_or q [] = ap (drop 1) out.from_query ∙ unmarked question_mark q in
    let fragment_bytes : drop 1 (tail_at c t) ≡ unwrap_or f [] = ap (drop 1) out.from_fragment ∙ unmarked number_sign f in
    let query_again : if_there c.has_query (drop 1 (query_at c t)) ≡ q =
    ap (λ n. if_there n (drop 1 (query_at c t))) has_query_is ∙ ap (if_there has_query) query_bytes ∙ query_words.is_there in
    let fragment_again : if_there c.has_fragment (drop 1 (tail_at c t)) ≡ f =
    ap (λ n. if_there n (drop 1 (tail_at c t))) has_fragment_is ∙ ap (if_there has_fragment) fragment_bytes ∙ fragment_words.is_there in
    let long : length t ≡ length ((x ++ h) ++ mark_query) + length mark_fragment = ap length whole ∙ length-append ((x ++ h) ++ mark_query) mark_fragment in
    let longer : length ((x ++ h) ++ mark_query) ≡ length (x ++ h) + length mark_query = length-append (x ++ h) mark_query in
    let scheme_fits : length s ≤ length x = scheme_within s (after_slashes own) in
    let path_again : path_at c t ≡ h = out.from_path in
    let kept_query : IsValidText class.Query case.Kept (c.has_query == 2) (drop 1 (query_at c t)) =
    subst (λ u. IsValidText class.Query case.Kept (c.has_query == 2) u) (sym query_bytes)
    (subst (λ n. IsValidText class.Query case.Kept (n == 2) (unwrap_or q [])) (sym has_query_is) query_words.is_valid_text) in
    let kept_fragment : IsValidText class.Query case.Kept (c.has_fragment == 2) (drop 1 (tail_at c t)) =
    subst (λ u. IsValidText class.Query case.Kept (c.has_fragment == 2) u) (sym fragment_bytes)
    (subst (λ n. IsValidText class.Query case.Kept (n == 2) (unwrap_or f [])) (sym has_fragment_is) fragment_words.is_valid_text) in
    let kept_authority : IsAuthorityOf c.authority_kind c.name c.port (drop (gap c.scheme) (drop c.scheme (front_at c t))) a =
    subst (λ n. IsAuthorityOf n c.name c.port (drop (gap c.scheme) (drop c.scheme (front_at c t))) a) (sym kind_is)
    (subst (λ n. IsAuthorityOf kind n c.port (drop (gap c.scheme) (drop c.scheme (front_at c t))) a) (sym name_is)
    (subst (λ o. IsAuthorityOf kind name o (drop (gap c.scheme) (drop c.scheme (front_at c t))) a) (sym port_is)
    (subst (λ u. IsAuthorityOf kind name port u a) (sym authority_again) (at_authority (unwrap_or own []) (authority_read own a spelled.is_authority))))) in
    record {
      authority = a;
      is_found =
          record {
            is_scheme = ap if_some scheme_again ∙ are.is_scheme;
            is_known = subst (λ o. IfSome o (λ r. take c.scheme (front_at c t) ≡ name_of r)) (sym known_is)
                (subst (λ u. IfSome k (λ r. u ≡ name_of r)) (sym scheme_again) are.is_known);
            is_path = subst IsPath (sym path_again) are.is_path;
            is_cut = path_again ∙ are.is_cut;
            is_counted = count_is ∙ are.is_counted ∙ ap (λ u. length (pieces u)) (sym path_again);
            has_no_escape = λ z. ap (lacks percent) path_again ∙ are.has_no_escape (escaped_is z);
            is_read = are.is_read ∙ ap Ok (ap (λ u. parts_of t a u q f) (sym path_again) ∙ ap (λ o. parts_of t a (path_at c t) o f) (sym query_again)
                ∙ ap (λ o. parts_of t a (path_at c t) (if_there c.has_query (drop 1 (query_at c t))) o) (sym fragment_again));
          };
      is_authority = kept_authority;
      is_query = kept_query;
      is_fragment = kept_fragment;
      fragment_within = omega (arith, fragment_at, long);
      query_within = omega (arith, query_starts, fragment_at, longer);
      path_within = omega (arith, path_starts, query_starts, sum);
      scheme_within = omega (arith, scheme_is, path_starts, scheme_fits);
    }

-- ---- a text that spells a reference

-- its components are those that it spells
pub stands : (t : List ℕ) (p : Parts) → Spells t p → IsReference t × (parts_in t ≡ p)
stands t p s = let e = again t p s in let same = ap parts_read e in (e ∙ ap Ok (sym same), same)

pub viewed_stands : (t : List ℕ) (p : Parts) → Spells t p → viewed_in t ≡ record { text = t; parts = p }
viewed_stands t p s = ap (λ q. record { text = t; parts = q }) (stands t p s).1

pub spelled_in : (t : List ℕ) → IsReference t → Spells t (parts_in t)
spelled_in t is = found t (parts_in t) is

-- it has no fault
pub faultless : {A : Type 0} (t : List ℕ) (p : Parts) → Spells t p → (e : URIReferenceError) → fault t ≡ Some e → A
faultless t p s e is = let none : fault t ≡ None = ap fault_in (again t p s) in absurd (cc)
