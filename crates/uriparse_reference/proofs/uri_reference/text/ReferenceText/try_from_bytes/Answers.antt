use Rattle.std.proofs.Common.{rules}
use Rattle.uriparse_reference.proofs.uri_reference.text.ReferenceText.try_from_bytes.Goals as goal

pub returns-in_err-view-clause-only : goal.returns-in_err-view-clause-only
returns-in_err-view-clause-only c = λ p s. let read = c.try_from_bytes.ensures.only p s in search rules

pub returns-clause-only : goal.returns-clause-only
returns-clause-only c = λ p s. let read = c.try_from_bytes.ensures.only p s in search rules
