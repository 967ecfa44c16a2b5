use Rattle.std.proofs.Common.{subst}
use Rattle.uriparse_text.specs.Starts.{Writes}
use Rattle.uriparse_ffi.proofs.lemmas.TextLemmas.{put_fits, put_short}
use Rattle.uriparse_ffi.proofs.put.answer_room.Goals as goal

pub returns-in-Ok : goal.returns-in-Ok
returns-in-Ok c = λ t old new room w. put_fits t old new c.in-Ok.len room (subst (λ r. Writes t r old new) c.in-Ok.is w)

pub returns-in-Err : goal.returns-in-Err
returns-in-Err c = λ t old new room w. put_short t old new c.in-Err.field-0 (subst (λ r. Writes t r old new) c.in-Err.is w)
