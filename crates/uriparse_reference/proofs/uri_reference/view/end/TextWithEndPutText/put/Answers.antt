use Rattle.std.proofs.Common.{subst}
use Rattle.uriparse_text.specs.Ends.{EndsWith}
use Rattle.uriparse_reference.proofs.lemmas.reading.AsciiLemmas.{IsUtf8-spelled}
use Rattle.uriparse_reference.proofs.lemmas.reading.TextEditLemmas.{end_set, put_whole}
use Rattle.uriparse_reference.proofs.uri_reference.view.end.TextWithEndPutText.put.Goals as goal

pub returns-clause-ends : goal.returns-clause-ends
returns-clause-ends c =
    let a = c.args.self.now in
    subst (EndsWith c.prepend.new.out c.prepend.result)
    (put_whole a.view.now.text c.without_end.result.now a.query.now a.fragment.now c.without_end.ensures)
    (c.prepend.ensures.puts _ c.prepend_query_and_fragment-len.ensures.ends)

pub returns-clause-utf8 : goal.returns-clause-utf8
returns-clause-utf8 c =
    let a = c.args.self.now in
    let spells = c.assert_valid.ensures.spelled in
    IsUtf8-spelled _ _ (end_set a.view.now.text a.view.now.parts spells a.query.now a.fragment.now c.requires.0 c.requires.1)
