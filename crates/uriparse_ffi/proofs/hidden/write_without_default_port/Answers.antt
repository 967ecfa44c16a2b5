use Rattle.std.proofs.Common.{◌≡◌, true, false, cond, sym, ap, subst, ◌∙◌, rules}
use Rattle.uriparse_reference.specs.Ports.{has_default_port}
use Rattle.uriparse_reference.specs.Change.{changing}
use Rattle.uriparse_reference.specs.View.{Viewed}
use Rattle.uriparse_ffi.specs.Code as spec
use Rattle.uriparse_ffi.specs.Hidden.{portless, with_strings}
use Rattle.uriparse_ffi.specs.Put.{IsPut}
use Rattle.uriparse_ffi.proofs.lemmas.ChangeLemmas.{changed_as}
use Rattle.uriparse_ffi.proofs.lemmas.HiddenLemmas.{no_port, port_authority, port_removed}
use Rattle.uriparse_ffi.proofs.lemmas.TextLemmas.{no_error, no_ok, ok_is}
use Rattle.uriparse_ffi.proofs.hidden.write_without_default_port.Goals as goal

pub returns-then-has_default_port-clause-written : goal.returns-then-has_default_port-clause-written
returns-then-has_default_port-clause-written c p s =
    let t = c.args.text.now in
    let same = ok_is c.in-Ok.view _ (c.in-Ok.ensures.found p s) in
    let passed : has_default_port c.in-Ok.view.parts ≡ true = search rules in
    let has : has_default_port p ≡ true = sym (ap (λ (v : Viewed). has_default_port v.parts) same) ∙ passed in
    let made = ap (λ w. changing w c.in-Ok.view.text) c.without_port.ensures ∙ ap (λ (v : Viewed). changing no_port v.text) same
    ∙ port_removed t p s (port_authority p has) in
    let put = changed_as (changing c.without_port.result c.in-Ok.view.text) _ c.args.out.now c.write_with.new.out c.write_with.new.needed c.write_with.result
    c.write_with.ensures made in
    subst (λ u. IsPut u c.args.out.now c.write_with.new.out c.write_with.new.needed c.write_with.result)
    (sym (ap (λ v. cond v (with_strings portless t) t) has)) put

pub returns-then-has_default_port-clause-refused : goal.returns-then-has_default_port-clause-refused
returns-then-has_default_port-clause-refused c e h = absurd (no_error c.in-Ok.view (spec.code_of e) (c.in-Ok.ensures.fault e h))

pub returns-else-has_default_port-clause-written : goal.returns-else-has_default_port-clause-written
returns-else-has_default_port-clause-written c p s =
    let t = c.args.text.now in
    let same = ok_is c.in-Ok.view _ (c.in-Ok.ensures.found p s) in
    let passed : has_default_port c.in-Ok.view.parts ≡ false = search rules in
    let has : has_default_port p ≡ false = sym (ap (λ (v : Viewed). has_default_port v.parts) same) ∙ passed in
    subst (λ u. IsPut u c.args.out.now c.write_plain.new.out c.write_plain.new.needed c.write_plain.result)
    (sym (ap (λ v. cond v (with_strings portless t) t) has)) c.write_plain.ensures

pub returns-else-has_default_port-clause-refused : goal.returns-else-has_default_port-clause-refused
returns-else-has_default_port-clause-refused c e h = absurd (no_error c.in-Ok.view (spec.code_of e) (c.in-Ok.ensures.fault e h))

pub returns-in-Err-clause-written : goal.returns-in-Err-clause-written
returns-in-Err-clause-written c p s = absurd (no_ok c.in-Err.code _ (c.in-Err.ensures.found p s))
