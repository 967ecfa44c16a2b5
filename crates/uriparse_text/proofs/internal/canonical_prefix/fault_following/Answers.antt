use Rattle.std.proofs.Common.{◌≡◌, get_or, false, arith, rules}
use Rattle.std.proofs.lemmas.Bool.{ne_eqb}
use Rattle.uriparse_text.specs.Classes.{is_plain}
use Rattle.uriparse_text.proofs.lemmas.canonical.CanonicalPrefixLemmas.{fault_offset_end, fault_offset_here, canonical_fine}
use Rattle.uriparse_text.proofs.internal.canonical_prefix.fault_following.Goals as goal

pub returns-then-len-text : goal.returns-then-len-text
returns-then-len-text c = fault_offset_end c.args.class c.args.case c.args.text.now c.args.len c.requires.offset c.if-len-text.true

pub returns-then-not-has : goal.returns-then-not-has
returns-then-not-has c =
    let outside : is_plain c.args.class (get_or c.args.text.now c.args.len 0) ≡ false = search rules in
    fault_offset_here c.args.class c.args.case c.args.text.now c.args.len c.requires.offset (omega arith) (ne_eqb _ _ c.if-text-len-ne37.true) outside

pub fault_after-requires-clause-fine : goal.fault_after-requires-clause-fine
fault_after-requires-clause-fine c = canonical_fine c.args.class c.args.case c.args.text.now c.args.len c.requires.offset c.requires.within
