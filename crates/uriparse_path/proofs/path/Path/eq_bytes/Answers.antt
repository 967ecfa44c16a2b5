use Rattle.std.proofs.Common.{refl}
use Rattle.std.proofs.lemmas.Bool.{false≢true}
use Rattle.uriparse_path.specs.Path.{text}
use Rattle.uriparse_path.proofs.lemmas.text.SpelledAlikeLemmas.{alike_front}
use Rattle.uriparse_path.proofs.path.Path.eq_bytes.Goals as goal

pub returns-in-Some : goal.returns-in-Some
returns-in-Some c =
    let split = c.split_front.ensures in
    let cut = alike_front c.args.bytes.now (text c.args.self.now) c.split_front.result.0.now c.split_front.result.1.now split.text split.front in
    let piece = rw c.as_bytes.ensures.value at c.in-Some.ensures.alike in
    let rest = rw c.in-Some.ensures.rest at c.spells_after_slashes.ensures in
    (λ h. cut.0 (piece.0 refl, rest.0 h), λ s. rest.1 (cut.1 s).1)

pub returns-in-None : goal.returns-in-None
returns-in-None c =
    let split = c.split_front.ensures in
    let cut = alike_front c.args.bytes.now (text c.args.self.now) c.split_front.result.0.now c.split_front.result.1.now split.text split.front in
    let piece = rw c.as_bytes.ensures.value at c.in-None.ensures.alike in
    (λ h. absurd (false≢true h), λ s. absurd (false≢true (piece.1 (cut.1 s).0)))
