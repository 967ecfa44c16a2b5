use Rattle.std.proofs.Common.{◌∙◌, subst}
use Rattle.uriparse_text.specs.Ends.{EndsWith}
use Rattle.uriparse_reference.proofs.lemmas.reading.SpellingLemmas.{valid}
use Rattle.uriparse.proofs.lemmas.KeyFormLemmas.{put_text, valid_in_form}
use Rattle.uriparse.proofs.lemmas.SortKeyLemmas.{IsUtf8-key}
use Rattle.uriparse.proofs.sort_key.KeyTextPutText.put.Goals as goal

pub returns-clause-ends : goal.returns-clause-ends
returns-clause-ends c =
    let p = c.args.self.now.view.now.parts in
    subst (EndsWith c.prepend.new.out c.prepend.result)
    (put_text c.args.self.now.form p _ _ _ _ c.scheme.ensures c.authority.ensures c.port.ensures (c.as_ref.ensures.value ∙ c.query.ensures)
    (valid _ p c.as_str-text.ensures.spelled))
    (c.prepend.ensures.puts _ (c.prepend_scheme-len.ensures.puts _ (c.prepend_authority-len.ensures.puts _ (c.prepend_path-len.ensures.puts _
    (c.prepend_optional-len.ensures.puts _ c.prepend_fragment-len.ensures.ends)))))

pub returns-clause-utf8 : goal.returns-clause-utf8
returns-clause-utf8 c =
    let p = c.args.self.now.view.now.parts in
    IsUtf8-key _ (valid_in_form c.args.self.now.form p (valid _ p c.as_str-text.ensures.spelled))
