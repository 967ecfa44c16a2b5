use Rattle.std.proofs.Common.{length}
use Rattle.uriparse_text.specs.Coding.{form_decoded}
use Rattle.uriparse_text.proofs.lemmas.tokens.StartLemmas.{Writing}
use Rattle.uriparse_ffi.proofs.forms.FormAppending.append_to.Given as goal

abbrev pub invariant-loop-b : goal.invariant-loop-b
invariant-loop-b l = Writing (form_decoded l.initial.rest) (form_decoded l.rest) l.initial.out l.initial.total l.out l.total

abbrev pub decreases-loop-b : goal.decreases-loop-b
decreases-loop-b l = length l.rest
