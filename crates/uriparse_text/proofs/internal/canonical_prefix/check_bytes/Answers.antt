use Rattle.std.proofs.Common.{sym, true, arith}
use Rattle.std.proofs.lemmas.Bool.{false≢true}
use Rattle.uriparse_text.proofs.lemmas.classes.FaultLemmas.{no_fault}
use Rattle.uriparse_text.proofs.lemmas.classes.FaultByByteLemmas.{fault_found, fault_absent}
use Rattle.uriparse_text.proofs.lemmas.canonical.CanonicalPrefixLemmas.{all_canonical}
use Rattle.uriparse_text.proofs.internal.canonical_prefix.check_bytes.Goals as goal

pub returns-then-len-text : goal.returns-then-len-text
returns-then-len-text c =
    let kept = all_canonical c.args.class c.args.case c.args.text.now c.canonical_prefix_len-len.result c.canonical_prefix_len-len.ensures.offset c.if-len-text.true in
    ((no_fault c.args.class c.args.text.now).1 (kept true).inside, kept true)

pub returns-then-offset-text : goal.returns-then-offset-text
returns-then-offset-text c = sym (fault_found c.args.class c.args.text.now c.fault_following-offset.result c.fault_following-offset.ensures c.if-offset-text.true)

pub returns : goal.returns
returns c =
    let none = sym (fault_absent c.args.class c.args.text.now c.fault_following-offset.result c.fault_following-offset.ensures (omega arith)) in
    (none, record { inside = (no_fault c.args.class c.args.text.now).0 none; canonical = λ h. absurd (false≢true h) })
