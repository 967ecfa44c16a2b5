use Rattle.std.proofs.Common.{◌∙◌, subst}
use Rattle.uriparse_text.specs.Ends.{EndsWith}
use Rattle.uriparse_reference.proofs.lemmas.reading.SpellingLemmas.{valid}
use Rattle.uriparse.proofs.lemmas.PlaceByteLemmas.{base_bytes}
use Rattle.uriparse.proofs.lemmas.PlacePutLemmas.{base_put}
use Rattle.uriparse.proofs.lemmas.SortKeyLemmas.{IsUtf8-bytes}
use Rattle.uriparse.proofs.place_key.BaseTextPutText.put.Goals as goal

pub returns-clause-ends : goal.returns-clause-ends
returns-clause-ends c =
    let p = c.args.self.now.view.now.parts in
    subst (EndsWith c.prepend_front.new.out c.prepend_front.result)
    (base_put p _ (valid _ p c.as_str-text.ensures.spelled) (c.as_bytes.ensures.value ∙ c.path.ensures.text))
    (c.prepend_front.ensures.puts _ c.prepend_directory-len.ensures.ends)

pub returns-clause-utf8 : goal.returns-clause-utf8
returns-clause-utf8 c = let p = c.args.self.now.view.now.parts in IsUtf8-bytes _ (base_bytes p (valid _ p c.as_str-text.ensures.spelled))
