use Rattle.uri_commands.proofs.JsonLemmas.{escaped_plain, plain_in_class, plain_spelled}
use Rattle.uri_commands.proofs.json.laws.one_string.Goals as goal

pub returns-clause-reference : goal.returns-clause-reference
returns-clause-reference c = λ t p s. escaped_plain t (plain_spelled t p s)

pub returns-clause-class : goal.returns-clause-class
returns-clause-class c = λ k t is. escaped_plain t (plain_in_class k t is)
