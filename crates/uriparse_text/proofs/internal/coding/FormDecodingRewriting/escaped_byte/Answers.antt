use Rattle.uriparse_text.proofs.lemmas.tokens.PieceLemmas.{form_decoded_escape}
use Rattle.uriparse_text.proofs.internal.coding.FormDecodingRewriting.escaped_byte.Goals as goal

pub returns : goal.returns
returns c = form_decoded_escape c.args.b c.args.high c.args.low c.byte_of_escape.result c.byte_of_escape.ensures
