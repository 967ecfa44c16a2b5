use Rattle.std.proofs.Common.{subst}
use Rattle.std.proofs.lemmas.List.{take_rest}
use Rattle.uriparse_text.specs.Faults.{IsFaultOffset}
use Rattle.uriparse_text.proofs.lemmas.canonical.CanonicalPrefixLemmas.{fault_offset_after}
use Rattle.uriparse_text.proofs.internal.canonical_prefix.fault_after.Goals as goal

pub returns : goal.returns
returns c =
    fault_offset_after c.args.class c.args.text.now c.args.len c.fault_offset.result c.requires.within c.requires.fine
    (subst (λ u. IsFaultOffset c.args.class u c.fault_offset.result) (take_rest c.args.text.now c.args.len) c.fault_offset.ensures)
