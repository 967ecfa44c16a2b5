-- Which bytes user names and passwords do not have, and their canonical spellings.
use Rattle.std.proofs.Common.{◌≡◌, ℕ, Bool, true, false, List, arith}
use Rattle.std.specs.Prelude.{◌==◌, codes}
use Rattle.std.proofs.lemmas.Bool.Decides.{nat_tests}
use Rattle.uriparse_text.specs.declared.internal.class.Class.TheVariants as class
use Rattle.uriparse_text.specs.declared.internal.token.Case.TheVariants.{Kept}
use Rattle.uriparse_text.specs.Bytes.{colon, percent, is_among, is_hex, is_unreserved, is_sub_delim}
use Rattle.uriparse_text.specs.Classes.{is_plain}
use Rattle.uriparse_text.specs.Canonical.{canonical}
use Rattle.uriparse_text.specs.Cuts.{lacks}
use Rattle.uriparse_text.proofs.lemmas.classes.ClassLemmas.{IsIn-canonical_in}
use Rattle.uriparse_text.proofs.lemmas.readings.CutLemmas.{lacks-in_class}
use Rattle.uriparse_authority.specs.Username as username
use Rattle.uriparse_authority.specs.Password as password
use Rattle.uriparse_authority.specs.Future.{is_future_byte}

-- ---- the bytes that they do not have

-- gen-delims = ":" / "/" / "?" / "#" / "[" / "]" / "@"
abbrev pub is_gen_delim : ℕ → Bool
is_gen_delim b = is_among (codes ":/?#[]@") b

gen_delim_not_percent : (b : ℕ) → is_gen_delim b ≡ true → (percent == b) ≡ false
gen_delim_not_percent b h = grind (arith, nat_tests)

gen_delim_not_hex : (b : ℕ) → is_gen_delim b ≡ true → is_hex b ≡ false
gen_delim_not_hex b h = grind (arith, nat_tests)

gen_delim_not_name : (b : ℕ) → is_gen_delim b ≡ true → is_plain class.Name b ≡ false
unfolding is_plain is_unreserved is_sub_delim
gen_delim_not_name b h = grind (arith, nat_tests)

gen_delim_not_user_info : (b : ℕ) → is_gen_delim b ≡ true → (b == colon) ≡ false → is_plain class.UserInfo b ≡ false
unfolding is_plain is_unreserved is_sub_delim
gen_delim_not_user_info b h other = grind (arith, nat_tests)

-- nor has an address of a later version any but the colon
pub gen_delim_not_future : (b : ℕ) → is_gen_delim b ≡ true → (b == colon) ≡ false → is_future_byte b ≡ false
unfolding is_unreserved is_sub_delim
gen_delim_not_future b h other = grind (arith, nat_tests)

-- a user name has none of the standard's general delimiters
pub username_lacks : (b : ℕ) → is_gen_delim b ≡ true → (t : List ℕ) → username.IsUsername t → lacks b t ≡ true
username_lacks b h t is =
    lacks-in_class class.Name b (gen_delim_not_name b h) (gen_delim_not_percent b h) (gen_delim_not_hex b h) t is

-- and a password none but the colon
pub password_lacks : (b : ℕ) → is_gen_delim b ≡ true → (b == colon) ≡ false → (t : List ℕ) → password.IsPassword t → lacks b t ≡ true
password_lacks b h other t is =
    lacks-in_class class.UserInfo b (gen_delim_not_user_info b h other) (gen_delim_not_percent b h) (gen_delim_not_hex b h) t is

-- ---- canonical spellings

pub IsUsername-canonical : (t : List ℕ) → username.IsUsername t → username.IsUsername (canonical t)
IsUsername-canonical t is = IsIn-canonical_in class.Name Kept t is

pub IsPassword-canonical : (t : List ℕ) → password.IsPassword t → password.IsPassword (canonical t)
IsPassword-canonical t is = IsIn-canonical_in class.UserInfo Kept t is
