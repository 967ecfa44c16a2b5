use Rattle.std.proofs.Common.{◌≡◌, Err, Ok, string_bytes}
use Rattle.uriparse_reference.proofs.lemmas.edits.ChangeLemmas.{text_made, text_viewed}
use Rattle.uriparse_reference.proofs.uri_reference.view.ReferenceView.change_to_text.Goals as goal

pub checked_text-requires : goal.checked_text-requires
checked_text-requires c =
    text_made c.args.changes.now c.args.self.now.text (string_bytes c.in-Ok.text) (λ e. Ok c.in-Ok.text ≡ Err e) (λ e h. cc) c.in-Ok.ensures

pub returns-in-Ok : goal.returns-in-Ok
returns-in-Ok c =
    text_viewed c.args.changes.now c.args.self.now.text (string_bytes c.in-Ok.text) c.checked_text.result (λ e. Ok c.in-Ok.text ≡ Err e)
    (λ e. Ok c.checked_text.result ≡ Err e) c.checked_text.ensures (λ e h. cc) c.in-Ok.ensures
