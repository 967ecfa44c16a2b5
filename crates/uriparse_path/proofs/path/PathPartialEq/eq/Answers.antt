use Rattle.std.proofs.Common.{sym, ◌∙◌}
use Rattle.std.proofs.lemmas.Bool.{false≢true}
use Rattle.uriparse_text.specs.declared.internal.class.Class.TheVariants.{Segment}
use Rattle.uriparse_text.proofs.lemmas.classes.ClassLemmas.{well_formed-in_class}
use Rattle.uriparse_path.specs.Path.{text}
use Rattle.uriparse_path.proofs.lemmas.text.SpelledAlikeLemmas.{same_paths, other_fronts}
use Rattle.uriparse_path.proofs.path.PathPartialEq.eq.Goals as goal

pub same_spelling-requires : goal.same_spelling-requires
same_spelling-requires c = rw c.as_bytes-2.ensures.value (well_formed-in_class Segment c.split_front-2.result.0.now c.split_front-2.ensures.front)

pub returns-then-same_spelling : goal.returns-then-same_spelling
returns-then-same_spelling c =
    let left = c.split_front in
    let right = c.split_front-2 in
    let fronts = rw (c.as_bytes.ensures.value, c.as_bytes-2.ensures.value) at c.same_spelling.ensures in
    same_paths (text c.args.self.now) (text c.args.other.now) left.result.0.now right.result.0.now left.result.1.now right.result.1.now c.eq.result
    left.ensures.text right.ensures.text left.ensures.front right.ensures.front left.ensures.following right.ensures.following
    (fronts.0 c.if-same_spelling.true) c.eq.ensures

pub returns-else-same_spelling : goal.returns-else-same_spelling
returns-else-same_spelling c =
    let left = c.split_front in
    let right = c.split_front-2 in
    let fronts = rw (c.as_bytes.ensures.value, c.as_bytes-2.ensures.value) at c.same_spelling.ensures in
    other_fronts (text c.args.self.now) (text c.args.other.now) left.result.0.now right.result.0.now left.result.1.now right.result.1.now c.same_spelling.result
    left.ensures.text right.ensures.text left.ensures.front right.ensures.front left.ensures.following right.ensures.following
    (λ s. false≢true (sym c.if-same_spelling.false ∙ fronts.1 s)) c.if-same_spelling.false
