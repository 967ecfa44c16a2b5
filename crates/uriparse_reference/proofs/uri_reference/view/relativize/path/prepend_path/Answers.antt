use Rattle.std.proofs.Common.{◌≡◌, true, false, subst, rules}
use Rattle.uriparse_text.specs.Ends.{EndsWith}
use Rattle.uriparse_reference.proofs.lemmas.writing.RelativePathLemmas.{prepend_dotted, put_plain}
use Rattle.uriparse_reference.proofs.uri_reference.view.relativize.path.prepend_path.Goals as goal

pub returns-then-path-clause-puts : goal.returns-then-path-clause-puts
returns-then-path-clause-puts c = λ t h.
    let path = c.args.path.now in
    let flag : path.dotted ≡ true = search rules in
    subst (EndsWith c.prepend.new.out c.prepend.result) (prepend_dotted path.parents path.rest.now t path.dotted flag)
    (c.prepend.ensures.puts _ (c.prepend_parent_steps-len.ensures.puts _ (c.prepend-len.ensures.puts t h)))

pub returns-else-path-clause-puts : goal.returns-else-path-clause-puts
returns-else-path-clause-puts c = λ t h.
    let path = c.args.path.now in
    let flag : path.dotted ≡ false = search rules in
    subst (EndsWith c.prepend_parent_steps-len.new.out c.prepend_parent_steps-len.result) (put_plain path.parents path.rest.now t path.dotted flag)
    (c.prepend_parent_steps-len.ensures.puts _ (c.prepend-len.ensures.puts t h))
