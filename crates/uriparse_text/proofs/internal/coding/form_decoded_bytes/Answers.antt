use Rattle.uriparse_text.proofs.lemmas.tokens.PieceLemmas.{form_decoding_keeps}
use Rattle.uriparse_text.proofs.internal.coding.form_decoded_bytes.Goals as goal

pub push_rewritten-requires : goal.push_rewritten-requires
push_rewritten-requires c = form_decoding_keeps
