use Rattle.std.proofs.Common.{◌≡◌, ℕ, ◌<◌, Bool, nat_eq, bit_and, get_or, refl, arith}
use Rattle.std.specs.Prelude.{not}
use Rattle.std.proofs.lemmas.Bool.{agree_below_at}
use Rattle.uriparse_text.specs.declared.internal.class.Class.TheVariants.{Name, UserInfo, Segment, Query}
use Rattle.uriparse_text.specs.declared.internal.class.TheConstants.{FLAGS}
use Rattle.uriparse_text.specs.Bytes.{is_unreserved, is_sub_delim}
use Rattle.uriparse_text.specs.Classes.{is_plain}
use Rattle.uriparse_text.proofs.internal.class.Class.has.Goals as goal
use Rattle.uriparse_text.proofs.internal.class.Class.has.Goals.{in-Name, in-UserInfo, in-Segment, in-Query}

has_flag : ℕ → ℕ → Bool
has_flag flag b = not (nat_eq (bit_and (get_or FLAGS b 0) flag) 0)

name_flag : (b : ℕ) → b < 256 → has_flag 1 b ≡ is_plain Name b
unfolding has_flag is_plain is_unreserved is_sub_delim
name_flag b small = agree_below_at (has_flag 1) (is_plain Name) 256 b refl small

user_info_flag : (b : ℕ) → b < 256 → has_flag 2 b ≡ is_plain UserInfo b
unfolding has_flag is_plain is_unreserved is_sub_delim
user_info_flag b small = agree_below_at (has_flag 2) (is_plain UserInfo) 256 b refl small

segment_flag : (b : ℕ) → b < 256 → has_flag 4 b ≡ is_plain Segment b
unfolding has_flag is_plain is_unreserved is_sub_delim
segment_flag b small = agree_below_at (has_flag 4) (is_plain Segment) 256 b refl small

query_flag : (b : ℕ) → b < 256 → has_flag 8 b ≡ is_plain Query b
unfolding has_flag is_plain is_unreserved is_sub_delim
query_flag b small = agree_below_at (has_flag 8) (is_plain Query) 256 b refl small

pub returns : goal.returns
unfolding has_flag
returns c = elim c.match-self.branch [
  | in-Name w ↦ rw (w.flag-is, w.in-Name.is) (name_flag c.args.b (omega arith))
  | in-UserInfo w ↦ rw (w.flag-is, w.in-UserInfo.is) (user_info_flag c.args.b (omega arith))
  | in-Segment w ↦ rw (w.flag-is, w.in-Segment.is) (segment_flag c.args.b (omega arith))
  | in-Query w ↦ rw (w.flag-is, w.in-Query.is) (query_flag c.args.b (omega arith))
]
