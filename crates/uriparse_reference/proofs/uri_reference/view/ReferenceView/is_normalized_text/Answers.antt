use Rattle.uriparse_reference.proofs.lemmas.writing.SameTextLemmas.{other_front, same_front}
use Rattle.uriparse_reference.proofs.uri_reference.view.ReferenceView.is_normalized_text.Goals as goal

pub returns-then-has_own_texts : goal.returns-then-has_own_texts
returns-then-has_own_texts c =
    same_front c.args.self.now.text c.args.self.now.parts
    c.assert_valid.ensures.spelled
    c.has_own_texts.result c.is_normal_outside.result c.has_own_texts.ensures c.if-has_own_texts.true c.is_normal_outside.ensures

pub returns-else-has_own_texts : goal.returns-else-has_own_texts
returns-else-has_own_texts c =
    other_front c.args.self.now.text c.args.self.now.parts
    c.assert_valid.ensures.spelled
    c.has_own_texts.result c.has_own_texts.ensures c.if-has_own_texts.false
