use Rattle.std.proofs.Common.{◌∙◌, refl, sym, subst}
use Rattle.uriparse_text.specs.Ends.{EndsWith}
use Rattle.uriparse_reference.proofs.lemmas.writing.TargetLemmas.{authority_target, inherited_target, scheme_target}
use Rattle.uriparse_reference.proofs.uri_reference.view.ReferenceView.prepend_target.Goals as goal

pub returns-then-has_scheme-clause-ends : goal.returns-then-has_scheme-clause-ends
returns-then-has_scheme-clause-ends c =
    let r = c.args.reference.now.parts in
    subst (EndsWith c.prepend_own_scheme_and_authority.new.out c.prepend_own_scheme_and_authority.result)
    (scheme_target c.args.self.now.parts r c.has_authority.result r.scheme r.authority (sym c.has_scheme.ensures ∙ c.if-has_scheme.true)
    c.has_authority.ensures refl refl)
    (c.prepend_own_scheme_and_authority.ensures.puts _ c.prepend_own_tail-len.ensures.ends)

pub returns-then-has_authority-clause-ends : goal.returns-then-has_authority-clause-ends
returns-then-has_authority-clause-ends c =
    let p = c.args.self.now.parts in
    let r = c.args.reference.now.parts in
    subst (EndsWith c.prepend_scheme_with_authority_of.new.out c.prepend_scheme_with_authority_of.result)
    (authority_target p r p.scheme r.authority (sym c.has_scheme.ensures ∙ c.if-has_scheme.false)
    (sym c.has_authority-2.ensures ∙ c.if-has_authority.true) refl refl)
    (c.prepend_scheme_with_authority_of.ensures.puts _ c.prepend_own_tail-len-then-has_authority.ensures.ends)

pub returns-clause-ends : goal.returns-clause-ends
returns-clause-ends c =
    let p = c.args.self.now.parts in
    subst (EndsWith c.prepend_own_scheme_and_authority-2.new.out c.prepend_own_scheme_and_authority-2.result)
    (inherited_target p c.args.reference.now.parts p.scheme p.authority (sym c.has_scheme.ensures ∙ c.if-has_scheme.false)
    (sym c.has_authority-2.ensures ∙ c.if-has_authority.false) refl refl c.requires)
    (c.prepend_own_scheme_and_authority-2.ensures.puts _ c.prepend_inherited_tail-len.ensures.ends)
