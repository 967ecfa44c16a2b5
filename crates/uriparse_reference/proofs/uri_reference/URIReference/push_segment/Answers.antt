use Rattle.std.proofs.Common.{inl, ap, sym, subst, ◌∙◌}
use Rattle.uriparse_path.specs.Edits.{popped}
use Rattle.uriparse_text.specs.declared.segment.error.PathError.TheVariants.{OutOfMemory}
use Rattle.uriparse_reference.specs.declared.uri_reference.error.URIReferenceError.TheVariants as errors
use Rattle.uriparse_reference.specs.Reference.{Parts, Valid}
use Rattle.uriparse_reference.specs.Edits.{segment_pushed}
use Rattle.uriparse_reference.proofs.lemmas.edits.EditLemmas.{build, tested_path}
use Rattle.uriparse_reference.proofs.lemmas.edits.SegmentLemmas.{popped_pushed, pushed_path, is_pushed, refused_segment}
use Rattle.uriparse_reference.proofs.uri_reference.URIReference.push_segment.Goals as goal

pub invariant_of-self-in-Some : goal.invariant_of-self-in-Some
invariant_of-self-in-Some c =
    let old = c.self.inside in
    let read = pushed_path old.path c.push.new.path c.args.segment (errors.Path OutOfMemory) c.in_ok-push.ensures in
    let back = c.pop.ensures ∙ ap popped (is_pushed old.path c.push.new.path c.args.segment read)
    ∙ popped_pushed old.path c.args.segment c.self.invariant.is_path.some in
    subst (λ h. Valid (build old.scheme old.authority h old.query old.fragment)) (sym back) c.self.invariant

pub invariant_of-self-in-None : goal.invariant_of-self-in-None
invariant_of-self-in-None c =
    let old = c.self.inside in
    tested_path (build old.scheme old.authority old.path old.query old.fragment) c.push.new.path c.fit_path.new.path c.is_some.result
    c.is_some-has_authority.result c.path_conflict.result c.self.invariant c.path_conflict.ensures.listed c.is_some.ensures
    c.is_some-has_authority.ensures c.path_conflict.ensures.refusal c.in-None.is c.fit_path.ensures

pub returns-in-Some : goal.returns-in-Some
returns-in-Some c =
    let old = c.self.inside in
    let parts : Parts = build old.scheme old.authority old.path old.query old.fragment in
    let read = pushed_path old.path c.push.new.path c.args.segment (errors.Path OutOfMemory) c.in_ok-push.ensures in
    let back = c.pop.ensures ∙ ap popped (is_pushed old.path c.push.new.path c.args.segment read)
    ∙ popped_pushed old.path c.args.segment c.self.invariant.is_path.some in
    let refused = refused_segment parts c.args.segment c.push.new.path c.is_some.result c.is_some-has_authority.result c.path_conflict.result c.in-Some.error
    read c.is_some.ensures c.is_some-has_authority.ensures c.path_conflict.ensures.refusal c.in-Some.is in
    inl (
      ap (λ p. segment_pushed p c.args.segment) (sym c.self.view_is) ∙ refused,
      ap (λ h. build old.scheme old.authority h old.query old.fragment) back ∙ c.self.view_is,
    )
