use Rattle.uriparse_reference.proofs.lemmas.writing.TargetLemmas.{IsUtf8-target, some_target}
use Rattle.uriparse_reference.proofs.uri_reference.view.target.TargetTextPutText.put.Goals as goal

pub returns-clause-utf8 : goal.returns-clause-utf8
returns-clause-utf8 c =
    let b = c.args.self.now.base.now.parts in
    let r = c.args.self.now.reference.now.parts in
    IsUtf8-target b r c.assert_valid.ensures.valid
    c.assert_valid-2.ensures.valid c.requires.0
    (some_target b r c.requires.1)
