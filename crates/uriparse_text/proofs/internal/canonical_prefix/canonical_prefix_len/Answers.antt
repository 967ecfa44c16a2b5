use Rattle.std.specs.Prelude.{not}
use Rattle.uriparse_text.specs.Spelling.{is_canonical_byte}
use Rattle.uriparse_text.proofs.lemmas.scans.ScanLemmas.{offset_within}
use Rattle.uriparse_text.proofs.internal.canonical_prefix.canonical_prefix_len.Goals as goal

pub returns-then-text-lt8-clause-within : goal.returns-then-text-lt8-clause-within
returns-then-text-lt8-clause-within c =
    offset_within (λ b. not (is_canonical_byte c.args.class c.args.case b)) c.args.text.now c.first_by_one.result c.first_by_one.ensures

pub returns-else-text-lt8-clause-within : goal.returns-else-text-lt8-clause-within
returns-else-text-lt8-clause-within c =
    offset_within (λ b. not (is_canonical_byte c.args.class c.args.case b)) c.args.text.now c.canonical_prefix_by_lanes.result c.canonical_prefix_by_lanes.ensures
