use Rattle.std.proofs.Common.{◌≡◌, ◌++◌, ◌||◌, ◌&&◌, not, true, false, ◌∙◌, List, ℕ, Bool, sym, ap, subst, rules}
use Rattle.uriparse_text.specs.declared.internal.backward_buffer.Form.{Form}
use Rattle.uriparse_path.specs.Path.{root}
use Rattle.uriparse_path.specs.Remaining.{Remaining, IsBackwardState, IsPlaced, remaining_text}
use Rattle.uriparse_path.proofs.lemmas.left.UndottedLemmas.{front_dotted, front_plain}
use Rattle.uriparse_path.proofs.path.text.write.prepend_root_prefix.Goals.{After-prepend_root-text}
use Rattle.uriparse_path.proofs.path.text.write.prepend_root_prefix.Goals as goal

placed : (c : After-prepend_root-text) (form : Form) (ended : Bool) (l : Remaining) (t : List ℕ) → IsBackwardState form ended l c.args.state c.args.out.now t
    → IsPlaced c.prepend_root-text.result c.prepend_root-text.new.out (root (c.args.rooted || l.removed) ++ remaining_text form ended l.kept) t
placed c form ended l t is =
    let text = remaining_text form ended l.kept in
    let flag : c.if-rooted.prepend_root ≡ (c.args.rooted || c.args.state.removed) = search rules in
    subst (λ v. IsPlaced c.prepend_root-text.result c.prepend_root-text.new.out (root v ++ text) t) (flag ∙ ap (λ v. c.args.rooted || v) is.removed)
    (c.prepend_root-text.ensures.placed text t is.placed)

pub returns-then-needs_dot_prefix-clause-puts : goal.returns-then-needs_dot_prefix-clause-puts
returns-then-needs_dot_prefix-clause-puts c = λ form ended l t is.
    let there = placed (goal.at.returns-then-needs_dot_prefix-clause-puts c).After-prepend_root-text form ended l t is in
    let x = root (c.args.rooted || l.removed) ++ remaining_text form ended l.kept in
    let two : (not c.args.has_authority && c.prepend_root-text.result.twice) ≡ true = search rules in
    front_dotted c.args.has_authority x t c.prepend.new.out c.prepend.result (ap (λ v. not c.args.has_authority && v) (sym there.twice) ∙ two)
    (c.prepend.ensures.puts (x ++ t) there.ends)

pub returns-clause-puts : goal.returns-clause-puts
returns-clause-puts c = λ form ended l t is.
    let there = placed (goal.at.returns-clause-puts c).After-prepend_root-text form ended l t is in
    let x = root (c.args.rooted || l.removed) ++ remaining_text form ended l.kept in
    let two : (not c.args.has_authority && c.prepend_root-text.result.twice) ≡ false = search rules in
    front_plain c.args.has_authority x t c.prepend_root-text.new.out c.prepend_root-text.result.len (ap (λ v. not c.args.has_authority && v) (sym there.twice) ∙ two)
    there.ends
