use Rattle.std.proofs.Common.{◌≡◌, ◌++◌, ◌&&◌, not, false, ◌∙◌, sym, ap, subst, rules}
use Rattle.uriparse_text.specs.Ends.{EndsWith}
use Rattle.uriparse_path.proofs.lemmas.left.NormalTextLemmas.{normal_stays, normal_moves}
use Rattle.uriparse_path.proofs.path.text.write.prepend_normal_path.Goals as goal

pub returns-then-rooted-clause-puts : goal.returns-then-rooted-clause-puts
returns-then-rooted-clause-puts c = λ t h.
    let moves : (not c.args.context.has_scheme && not c.split_root-rooted.result.0) ≡ false = search rules in
    subst (λ x. EndsWith c.prepend_undotted.new.out c.prepend_undotted.result (x ++ t))
    (sym (normal_moves c.args.context c.args.text.now c.requires (ap (λ v. not c.args.context.has_scheme && not v) (sym c.split_root-rooted.ensures.root) ∙ moves)))
    (c.prepend_undotted.ensures.puts t h)

pub returns-else-rooted-clause-puts : goal.returns-else-rooted-clause-puts
returns-else-rooted-clause-puts c = λ t h.
    let scheme : c.args.context.has_scheme ≡ false = search rules in
    let rooted : c.split_root-rooted.result.0 ≡ false = search rules in
    subst (λ x. EndsWith c.prepend_relative.new.out c.prepend_relative.result (x ++ t))
    (sym (normal_stays c.args.context c.args.text.now c.requires scheme (sym c.split_root-rooted.ensures.root ∙ rooted)))
    (c.prepend_relative.ensures.puts t h)
