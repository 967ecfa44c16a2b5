use Rattle.std.proofs.Common.{get_or, sym, ◌∙◌}
use Rattle.uriparse_text.proofs.lemmas.addresses.ByteLemmas.{never_begins, no_ipv4_byte}
use Rattle.uriparse_text.proofs.address.ipv4.begins_as_name.Goals as goal

pub returns-then-not-is_ascii_digit : goal.returns-then-not-is_ascii_digit
returns-then-not-is_ascii_digit c = λ other.
    never_begins c.args.bytes.now c.in-len1-up.len_at_least
    (no_ipv4_byte (get_or c.args.bytes.now 0 0) (sym c.is_ascii_digit.ensures.value ∙ c.if-not-is_ascii_digit.true) other)
