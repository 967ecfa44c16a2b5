use Rattle.std.proofs.Common.{◌≡◌, false, sym, ◌∙◌}
use Rattle.std.specs.Prelude.{IsTrue}
use Rattle.std.proofs.lemmas.Bool.{false≢true}
use Rattle.uriparse.specs.PathError.TheVariants.{OutOfMemory}
use Rattle.uriparse.specs.declared.uri.error.URIError.TheVariants as uris
use Rattle.examples.proofs.LinkLemmas.{unreached}
use Rattle.examples.proofs.links.find_target.Goals as goal

pub returns-in-Err-2-clause-kept : goal.returns-in-Err-2-clause-kept
returns-in-Err-2-clause-kept c = λ e u r.
    let memory : c.in-Err.error ≡ uris.Path OutOfMemory = unreached c.in-Err.error u (c.in-Err.ensures.only u r) in
    let is : IsTrue c.is_out_of_memory.result = c.is_out_of_memory.ensures.1 memory in
    let not_so : c.is_out_of_memory.result ≡ false = c.if-is_out_of_memory.false in
    absurd (false≢true (sym not_so ∙ is))
