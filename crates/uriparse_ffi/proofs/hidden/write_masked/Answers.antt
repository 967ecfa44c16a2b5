use Rattle.std.proofs.Common.{◌≡◌, true, false, cond, sym, ap, subst, ◌∙◌, rules}
use Rattle.std.specs.Prelude.{is_some}
use Rattle.uriparse_reference.specs.Change.{changing}
use Rattle.uriparse_reference.specs.Reference.{password_of}
use Rattle.uriparse_reference.specs.View.{Viewed}
use Rattle.uriparse_ffi.specs.Code as spec
use Rattle.uriparse_ffi.specs.Hidden.{starred, with_strings}
use Rattle.uriparse_ffi.specs.Put.{IsPut}
use Rattle.uriparse_ffi.proofs.lemmas.ChangeLemmas.{changed_as}
use Rattle.uriparse_ffi.proofs.lemmas.HiddenLemmas.{hidden_password, password_authority, password_hidden}
use Rattle.uriparse_ffi.proofs.lemmas.TextLemmas.{no_error, no_ok, ok_is}
use Rattle.uriparse_ffi.proofs.hidden.write_masked.Goals as goal

pub returns-then-has_password-clause-written : goal.returns-then-has_password-clause-written
returns-then-has_password-clause-written c p s =
    let t = c.args.text.now in
    let same = ok_is c.in-Ok.view _ (c.in-Ok.ensures.found p s) in
    let passed : is_some (password_of c.in-Ok.view.parts) ≡ true = search rules in
    let has : is_some (password_of p) ≡ true = sym (ap (λ (v : Viewed). is_some (password_of v.parts)) same) ∙ passed in
    let made = ap (λ w. changing w c.in-Ok.view.text) c.with_stars.ensures ∙ ap (λ (v : Viewed). changing hidden_password v.text) same
    ∙ password_hidden t p s (password_authority p has) in
    let put = changed_as (changing c.with_stars.result c.in-Ok.view.text) _ c.args.out.now c.write_with.new.out c.write_with.new.needed c.write_with.result
    c.write_with.ensures made in
    subst (λ u. IsPut u c.args.out.now c.write_with.new.out c.write_with.new.needed c.write_with.result)
    (sym (ap (λ v. cond v (with_strings starred t) t) has)) put

pub returns-then-has_password-clause-refused : goal.returns-then-has_password-clause-refused
returns-then-has_password-clause-refused c e h = absurd (no_error c.in-Ok.view (spec.code_of e) (c.in-Ok.ensures.fault e h))

pub returns-else-has_password-clause-written : goal.returns-else-has_password-clause-written
returns-else-has_password-clause-written c p s =
    let t = c.args.text.now in
    let same = ok_is c.in-Ok.view _ (c.in-Ok.ensures.found p s) in
    let passed : is_some (password_of c.in-Ok.view.parts) ≡ false = search rules in
    let has : is_some (password_of p) ≡ false = sym (ap (λ (v : Viewed). is_some (password_of v.parts)) same) ∙ passed in
    subst (λ u. IsPut u c.args.out.now c.write_plain.new.out c.write_plain.new.needed c.write_plain.result)
    (sym (ap (λ v. cond v (with_strings starred t) t) has)) c.write_plain.ensures

pub returns-else-has_password-clause-refused : goal.returns-else-has_password-clause-refused
returns-else-has_password-clause-refused c e h = absurd (no_error c.in-Ok.view (spec.code_of e) (c.in-Ok.ensures.fault e h))

pub returns-in-Err-clause-written : goal.returns-in-Err-clause-written
returns-in-Err-clause-written c p s = absurd (no_ok c.in-Err.code _ (c.in-Err.ensures.found p s))
