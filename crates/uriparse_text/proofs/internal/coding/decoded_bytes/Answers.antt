use Rattle.uriparse_text.proofs.lemmas.tokens.PieceLemmas.{decoding_keeps}
use Rattle.uriparse_text.proofs.internal.coding.decoded_bytes.Goals as goal

pub push_rewritten-requires : goal.push_rewritten-requires
push_rewritten-requires c = decoding_keeps
