use Rattle.std.proofs.Common.{◌∙◌, subst}
use Rattle.uriparse_text.specs.Ends.{EndsWith}
use Rattle.uriparse_reference.proofs.lemmas.writing.EndLemmas.{scheme_text}
use Rattle.uriparse_reference.proofs.uri_reference.view.write.prepend_scheme.Goals as goal

pub returns-in-Some-clause-puts : goal.returns-in-Some-clause-puts
returns-in-Some-clause-puts c = λ t h.
    subst (EndsWith c.prepend_formed.new.out c.prepend_formed.result)
    (scheme_text c.args.form c.args.scheme.now _ c.as_bytes.result.now t c.in-Some.is (c.as_bytes.ensures.value ∙ c.as_str.ensures.value))
    (c.prepend_formed.ensures.puts _ (c.prepend-len.ensures.puts t h))
