use Rattle.std.proofs.Common.{◌≡◌, Err, inr, sym, ap, subst, ◌∙◌, rules}
use Rattle.std.specs.Prelude.{IfErr}
use Rattle.uriparse.specs.Escaped.{escaped}
use Rattle.uriparse.specs.Link.{link}
use Rattle.uriparse.specs.Reference.{Spells}
use Rattle.uriparse.specs.Uri.{map_error}
use Rattle.examples.proofs.LinkLemmas.{only, reached, rejected, rejected_text, unread_link}
use Rattle.examples.specs.Links.{IsRejected}
use Rattle.examples.proofs.links.read_link.Goals as goal

pub returns-clause-reached : goal.returns-clause-reached
returns-clause-reached c =
    let reads : c.as_str.result.now ≡ escaped (link c.args.link.now) =
    c.as_str.ensures.value ∙ c.in_ok-text.ensures.text ∙ ap escaped c.trim_link.ensures.link in
    let r = c.in_ok-reference.reference in
    reached c.args.base.now r c.args.link.now c.target_of.result c.target_of.ensures
    (subst (λ t. Spells t r) reads c.in_ok-reference.ensures.found)

pub returns-clause-only : goal.returns-clause-only
returns-clause-only c =
    let reads : c.as_str.result.now ≡ escaped (link c.args.link.now) =
    c.as_str.ensures.value ∙ c.in_ok-text.ensures.text ∙ ap escaped c.trim_link.ensures.link in
    only c.args.base.now c.in_ok-reference.reference c.args.link.now c.target_of.result c.target_of.ensures
    (λ p s. c.in_ok-reference.ensures.only p (subst (λ t. Spells t p) (sym reads) s))

pub returns-clause-refused : goal.returns-clause-refused
returns-clause-refused c =
    let reads : c.as_str.result.now ≡ escaped (link c.args.link.now) =
    c.as_str.ensures.value ∙ c.in_ok-text.ensures.text ∙ ap escaped c.trim_link.ensures.link in
    let r = c.in_ok-reference.reference in
    rejected c.args.base.now r c.args.link.now c.target_of.result c.target_of.ensures
    (subst (λ t. Spells t r) reads c.in_ok-reference.ensures.found)

pub returns-in_err-reference-clause-only : goal.returns-in_err-reference-clause-only
returns-in_err-reference-clause-only c u g =
    let reads : c.as_str.result.now ≡ escaped (link c.args.link.now) =
    c.as_str.ensures.value ∙ c.in_ok-text.ensures.text ∙ ap escaped c.trim_link.ensures.link in
    let e = c.in_err-reference.field-0.0 in
    let is : c.from_residual-in_err-reference.result ≡ Err (map_error e) = search rules in
    inr (is ∙ unread_link e g.0 (c.in_err-reference.ensures.only g.0 (subst (λ t. Spells t g.0) (sym reads) g.1)))

pub returns-in_err-reference-clause-refused : goal.returns-in_err-reference-clause-refused
returns-in_err-reference-clause-refused c =
    let reads : c.as_str.result.now ≡ escaped (link c.args.link.now) =
    c.as_str.ensures.value ∙ c.in_ok-text.ensures.text ∙ ap escaped c.trim_link.ensures.link in
    let e = c.in_err-reference.field-0.0 in
    let is : c.from_residual-in_err-reference.result ≡ Err (map_error e) = search rules in
    subst (λ r. IfErr r (λ x. IsRejected c.args.base.now c.args.link.now x)) (sym is)
    (rejected_text c.args.base.now c.args.link.now c.as_str.result.now e reads c.in_err-reference.ensures.fault)
