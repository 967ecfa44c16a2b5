use Rattle.std.proofs.Common.{refl}
use Rattle.uriparse_text.specs.declared.internal.token.Case.TheVariants.{Kept}
use Rattle.uriparse_text.proofs.lemmas.tokens.CodingLemmas.{IsIn-encoded, canonical-encoded, decoded-encoded, decoded-written}
use Rattle.uriparse_text.proofs.laws.one_encoding.Goals as goal

pub returns : goal.returns
returns c = record { class = IsIn-encoded; back = decoded-encoded; written = decoded-written; canonical = λ class bytes h. canonical-encoded Kept class bytes refl h }
