use Rattle.std.proofs.Common.{◌∙◌, ap, append-nil, subst, sym}
use Rattle.std.specs.Option.{option_map}
use Rattle.uriparse_text.specs.Canonical.{canonical}
use Rattle.uriparse_text.specs.Ends.{EndsWith}
use Rattle.uriparse_reference.proofs.lemmas.writing.EndLemmas.{ends_none}
use Rattle.uriparse.specs.SortKey.{ended, key_fragment, optional}
use Rattle.uriparse.proofs.sort_key.KeyText.prepend_fragment.Goals as goal

pub returns-then-self-clause-ends : goal.returns-then-self-clause-ends
returns-then-self-clause-ends c =
    subst (EndsWith c.prepend.new.out c.prepend.result) (ap (λ w. optional ended (key_fragment w c.args.self.now.view.now.parts)) (sym c.if-self.true))
    (c.prepend.ensures.puts _ (ends_none c.args.out.now))

pub returns-else-self-clause-ends : goal.returns-else-self-clause-ends
returns-else-self-clause-ends c =
    subst (EndsWith c.prepend_optional.new.out c.prepend_optional.result)
    (append-nil _ ∙ ap (λ o. optional ended (option_map canonical o)) (c.as_ref.ensures.value ∙ c.fragment.ensures)
    ∙ ap (λ w. optional ended (key_fragment w c.args.self.now.view.now.parts)) (sym c.if-self.false))
    (c.prepend_optional.ensures.puts _ (ends_none c.args.out.now))
