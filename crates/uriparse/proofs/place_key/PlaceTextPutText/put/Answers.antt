use Rattle.std.proofs.Common.{[], ◌∙◌, subst}
use Rattle.uriparse_text.specs.Ends.{EndsWith}
use Rattle.uriparse_reference.proofs.lemmas.reading.SpellingLemmas.{valid}
use Rattle.uriparse_reference.proofs.lemmas.writing.EndLemmas.{ends_none}
use Rattle.uriparse.proofs.lemmas.PlaceByteLemmas.{key_bytes}
use Rattle.uriparse.proofs.lemmas.PlacePutLemmas.{key_put}
use Rattle.uriparse.proofs.lemmas.SortKeyLemmas.{IsUtf8-bytes}
use Rattle.uriparse.proofs.place_key.PlaceTextPutText.put.Goals as goal

pub returns-clause-ends : goal.returns-clause-ends
returns-clause-ends c =
    let p = c.args.self.now.view.now.parts in
    subst (EndsWith c.prepend_front.new.out c.prepend_front.result)
    (key_put p _ _ _ (valid _ p c.as_str-text.ensures.spelled) (c.as_bytes.ensures.value ∙ c.path.ensures.text) (c.as_ref-2.ensures.value ∙ c.query.ensures)
    (c.as_ref.ensures.value ∙ c.fragment.ensures))
    (c.prepend_front.ensures.puts _ (c.prepend_normal_path-len.ensures.puts _ (c.prepend-len.ensures.puts _ (c.prepend_optional-len-2.ensures.puts _
    (c.prepend_optional-len.ensures.puts [] (ends_none c.args.out.now))))))

pub returns-clause-utf8 : goal.returns-clause-utf8
returns-clause-utf8 c = let p = c.args.self.now.view.now.parts in IsUtf8-bytes _ (key_bytes p (valid _ p c.as_str-text.ensures.spelled))
