use Rattle.std.proofs.Common.{[], ◌∷◌, ◌++◌, ◌∙◌, ap, append_assoc, subst, sym}
use Rattle.uriparse_text.specs.Canonical.{canonical}
use Rattle.uriparse_text.specs.Ends.{EndsWith}
use Rattle.uriparse_path.specs.declared.path.normal.PathContext.{PathContext}
use Rattle.uriparse_path.specs.Normal.{normal_at}
use Rattle.uriparse_path.specs.Path as path
use Rattle.uriparse_path.specs.Path.{spelled}
use Rattle.uriparse_reference.specs.Normal.{normal}
use Rattle.uriparse_reference.proofs.lemmas.writing.EndLemmas.{normal_path}
use Rattle.uriparse_reference.proofs.lemmas.reading.SpellingLemmas.{valid}
use Rattle.uriparse.specs.SortKey.{end, ended, key_path}
use Rattle.uriparse.proofs.sort_key.KeyText.prepend_path.Goals as goal

pub returns-then-self-clause-puts : goal.returns-then-self-clause-puts
returns-then-self-clause-puts c = λ t h.
    let p = c.args.self.now.view.now.parts in
    let context : PathContext = record { has_scheme = c.has_scheme.result; has_authority = c.has_authority.result } in
    subst (EndsWith c.prepend_normal_path.new.out c.prepend_normal_path.result)
    (ap (λ u. path.text (normal_at context (spelled u)) ++ (end ∷ t)) (c.as_bytes-path.ensures.value ∙ c.path.ensures.text)
    ∙ ap (λ u. u ++ (end ∷ t)) (normal_path p context (valid _ p c.as_str-text.ensures.spelled) c.has_scheme.ensures c.has_authority.ensures)
    ∙ sym (append_assoc (path.text (normal p).path) (end ∷ []) t)
    ∙ ap (λ n. ended (key_path n p) ++ t) (sym c.if-self.true))
    (c.prepend_normal_path.ensures.puts _ (c.prepend-len.ensures.puts t h))

pub returns-else-self-clause-puts : goal.returns-else-self-clause-puts
returns-else-self-clause-puts c = λ t h.
    let p = c.args.self.now.view.now.parts in
    subst (EndsWith c.prepend_formed.new.out c.prepend_formed.result)
    (ap (λ u. canonical u ++ (end ∷ t)) (c.as_bytes-path.ensures.value ∙ c.path.ensures.text)
    ∙ sym (append_assoc (canonical (path.text p.path)) (end ∷ []) t)
    ∙ ap (λ n. ended (key_path n p) ++ t) (sym c.if-self.false))
    (c.prepend_formed.ensures.puts _ (c.prepend-len.ensures.puts t h))
