use Rattle.uriparse_text.proofs.lemmas.tokens.CodingLemmas.{decoded_alike}
use Rattle.uriparse_text.proofs.internal.text.Text.decode.Goals as goal

pub returns-clause-alike : goal.returns-clause-alike
returns-clause-alike g c = λ other is same. decoded_alike g.K.TextKind.class other c.args.self.now is c.as_bytes.ensures.class same
