-- Which bytes stand for themselves in each part, where escapes may stand too: RFC 3986, sections 3.2.1 to 3.5.
use Rattle.std.specs.Prelude.{ℕ, Bool, ◌||◌, ◌==◌}
use Rattle.uriparse_text.specs.declared.internal.class.Class.{Class}
use Rattle.uriparse_text.specs.declared.internal.class.Class.TheVariants.{Name, UserInfo, Segment, Query}
use Rattle.uriparse_text.specs.Bytes.{is_unreserved, is_sub_delim, colon, at_sign, slash, question_mark}

-- the class without its `pct-encoded`
unfoldable pub is_plain : Class → ℕ → Bool
-- reg-name = *( unreserved / pct-encoded / sub-delims ), and a user name
is_plain Name b = is_unreserved b || is_sub_delim b
-- userinfo = *( unreserved / pct-encoded / sub-delims / ":" ), and a password
is_plain UserInfo b = is_unreserved b || is_sub_delim b || b == colon
-- segment = *pchar, where pchar = unreserved / pct-encoded / sub-delims / ":" / "@"
is_plain Segment b = is_unreserved b || is_sub_delim b || b == colon || b == at_sign
-- query = fragment = *( pchar / "/" / "?" )
is_plain Query b = is_unreserved b || is_sub_delim b || b == colon || b == at_sign || b == slash || b == question_mark
