use Rattle.std.proofs.Common.{◌∙◌, refl, sym, subst}
use Rattle.std.specs.Prelude.{is_some}
use Rattle.uriparse_text.specs.Ends.{EndsWith}
use Rattle.uriparse_path.specs.Path.{is_rooted, text}
use Rattle.uriparse_reference.specs.Target.{is_empty}
use Rattle.uriparse_reference.proofs.lemmas.resolving.ValidTargetLemmas.{merged_now}
use Rattle.uriparse_reference.proofs.lemmas.writing.TargetLemmas.{merged_target, rooted_target, same_target}
use Rattle.uriparse_reference.proofs.uri_reference.view.ReferenceView.prepend_inherited_tail.Goals as goal

pub returns-then-has_empty_path-clause-ends : goal.returns-then-has_empty_path-clause-ends
returns-then-has_empty_path-clause-ends c =
    subst (EndsWith c.prepend_same_tail.new.out c.prepend_same_tail.result)
    (same_target c.args.self.now.parts c.args.reference.now.parts c.prepend_same_tail.ensures.valid c.requires.scheme c.requires.authority
    (sym c.has_empty_path.ensures ∙ c.if-has_empty_path.true))
    c.prepend_same_tail.ensures.ends

pub returns-then-has_rooted_path-clause-ends : goal.returns-then-has_rooted_path-clause-ends
returns-then-has_rooted_path-clause-ends c =
    subst (EndsWith c.prepend_own_tail.new.out c.prepend_own_tail.result)
    (rooted_target c.args.self.now.parts c.args.reference.now.parts c.has_authority.result c.has_authority.ensures c.requires.scheme c.requires.authority
    (sym c.has_empty_path.ensures ∙ c.if-has_empty_path.false) (sym c.has_rooted_path.ensures ∙ c.if-has_rooted_path.true))
    c.prepend_own_tail.ensures.ends

pub returns-clause-ends : goal.returns-clause-ends
returns-clause-ends c =
    let r = c.args.reference.now.parts in
    let filled = sym c.has_empty_path.ensures ∙ c.if-has_empty_path.false in
    let unrooted = sym c.has_rooted_path.ensures ∙ c.if-has_rooted_path.false in
    subst (EndsWith c.prepend_merged_tail.new.out c.prepend_merged_tail.result)
    (merged_target c.args.self.now.parts r (is_some c.args.self.now.parts.authority) refl c.requires.scheme c.requires.authority filled unrooted
    (c.requires.short (merged_now (is_some r.scheme) (is_some r.authority) (is_empty (text r.path)) (is_rooted (text r.path)) c.requires.scheme
    c.requires.authority filled unrooted)))
    c.prepend_merged_tail.ensures.ends
