use Rattle.std.proofs.Common.{◌≡◌, ◌↔◌, ◌<◌, ◌∷◌, not, cond, length, Some, None, Err, sym, ap, subst, ◌∙◌, rules}
use Rattle.std.specs.Prelude.{IsTrue, MatchResult}
use Rattle.std.specs.Option.{option_copied}
use Rattle.uriparse_text.specs.Cuts.{part}
use Rattle.uriparse_ffi.specs.Domains.{IsWithinOne, domains, domains_left, first_error}
use Rattle.uriparse_ffi.proofs.lemmas.DomainLemmas.{IsFoundSo, domains_cut, error_found, fewer_left, filled, hollow, one_more, split_left}
use Rattle.uriparse_ffi.proofs.domains.is_within_one.Goals as goal

pub domains-smaller-then-not-is_empty : goal.domains-smaller-then-not-is_empty
domains-smaller-then-not-is_empty c =
    let following = c.without_delimiter-left.ensures ∙ ap part c.split_at_delimiter.ensures.rest in
    subst (λ o. length (split_left (option_copied c.without_delimiter-left.result)) < length (split_left (option_copied o))) (sym c.in-Some.is)
    (fewer_left c.in-Some.text.now (option_copied c.without_delimiter-left.result) following)

pub domains-smaller : goal.domains-smaller
domains-smaller c =
    let following = c.without_delimiter-left.ensures ∙ ap part c.split_at_delimiter.ensures.rest in
    subst (λ o. length (split_left (option_copied c.without_delimiter-left.result)) < length (split_left (option_copied o))) (sym c.in-Some.is)
    (fewer_left c.in-Some.text.now (option_copied c.without_delimiter-left.result) following)

pub domains-preserved : goal.domains-preserved
domains-preserved c =
    let p = c.args.view.now.parts in
    let all = domains c.args.domains.now in
    let d = c.split_at_delimiter.result.0.now in
    let following = c.without_delimiter-left.ensures ∙ ap part c.split_at_delimiter.ensures.rest in
    let none : length d ≡ 0 = search rules in
    let left : domains_left (option_copied c.domains.left) ≡ domains_left (option_copied c.without_delimiter-left.result) =
    ap (λ o. domains_left (option_copied o)) c.in-Some.is
    ∙ domains_cut c.in-Some.text.now d (option_copied c.without_delimiter-left.result) c.split_at_delimiter.ensures.front following
    ∙ ap (λ v. cond (not v) (d ∷ domains_left (option_copied c.without_delimiter-left.result)) (domains_left (option_copied c.without_delimiter-left.result))) (hollow d none) in
    subst (λ ds. IsFoundSo p all ds c.domains.is_within) left c.domains.invariant

pub domains-preserved-then-not-is_empty : goal.domains-preserved-then-not-is_empty
domains-preserved-then-not-is_empty c =
    let p = c.args.view.now.parts in
    let all = domains c.args.domains.now in
    let d = c.split_at_delimiter.result.0.now in
    let following = c.without_delimiter-left.ensures ∙ ap part c.split_at_delimiter.ensures.rest in
    let some : 0 < length d = search rules in
    let left : domains_left (option_copied c.domains.left) ≡ d ∷ domains_left (option_copied c.without_delimiter-left.result) =
    ap (λ o. domains_left (option_copied o)) c.in-Some.is
    ∙ domains_cut c.in-Some.text.now d (option_copied c.without_delimiter-left.result) c.split_at_delimiter.ensures.front following
    ∙ ap (λ v. cond (not v) (d ∷ domains_left (option_copied c.without_delimiter-left.result)) (domains_left (option_copied c.without_delimiter-left.result))) (filled d some) in
    one_more p all (domains_left (option_copied c.without_delimiter-left.result)) d c.domains.is_within c.in_ok-is_within.field-0
    c.in_ok-is_within.ensures.0 c.in_ok-is_within.ensures.1 (subst (λ ds. IsFoundSo p all ds c.domains.is_within) left c.domains.invariant)

pub returns-in_err-is_within : goal.returns-in_err-is_within
returns-in_err-is_within c =
    let p = c.args.view.now.parts in
    let all = domains c.args.domains.now in
    let d = c.split_at_delimiter.result.0.now in
    let e = c.in_err-is_within.field-0.0 in
    let following = c.without_delimiter-left.ensures ∙ ap part c.split_at_delimiter.ensures.rest in
    let some : 0 < length d = search rules in
    let left : domains_left (option_copied c.domains.left) ≡ d ∷ domains_left (option_copied c.without_delimiter-left.result) =
    ap (λ o. domains_left (option_copied o)) c.in-Some.is
    ∙ domains_cut c.in-Some.text.now d (option_copied c.without_delimiter-left.result) c.split_at_delimiter.ensures.front following
    ∙ ap (λ v. cond (not v) (d ∷ domains_left (option_copied c.without_delimiter-left.result)) (domains_left (option_copied c.without_delimiter-left.result))) (filled d some) in
    let is : c.from_residual.result ≡ Err e = search rules in
    subst (λ r. MatchResult r (λ b. (first_error all ≡ None) × (IsTrue b ↔ IsWithinOne p all)) (λ e. first_error all ≡ Some e)) (sym is)
    (error_found p all (domains_left (option_copied c.without_delimiter-left.result)) d c.domains.is_within e c.in_err-is_within.ensures
    (subst (λ ds. IsFoundSo p all ds c.domains.is_within) left c.domains.invariant))
