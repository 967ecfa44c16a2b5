use Rattle.std.proofs.Common.{◌-◌}
use Rattle.uriparse_text.proofs.lemmas.scans.BitLemmas.{joined-low, joined-high}
use Rattle.uriparse_text.proofs.internal.bits.joined_ends.Goals as goal

pub returns-clause-low : goal.returns-clause-low
returns-clause-low c k h = joined-low c.args.m (24 - c.args.len) 8 k h

pub returns-clause-high : goal.returns-clause-high
returns-clause-high c k h = joined-high c.args.m (24 - c.args.len) 8 k h
