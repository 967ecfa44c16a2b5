use Rattle.uriparse_text.proofs.lemmas.canonical.RunLemmas.{spelling_keeps}
use Rattle.uriparse_text.proofs.internal.canonical.canonical_bytes.Goals as goal

pub push_rewritten-requires : goal.push_rewritten-requires
push_rewritten-requires c = spelling_keeps c.args.case
