use Rattle.std.proofs.Common.{◌≡◌, ℕ, List, Bool, Bor, None, Option, Some, Ok, Err, ap, ◌∙◌, sym, subst, refl, rules, true, false, ◌||◌}
use Rattle.std.proofs.lemmas.Bool.{false≢true}
use Rattle.std.specs.Prelude.{IsOk, is_some, length}
use Rattle.std.specs.Option.{option_copied, option_or}
use Rattle.uriparse_path.specs.Path.{PathParts, text}
use Rattle.uriparse_scheme.specs.declared.scheme.Scheme.{Scheme}
use Rattle.uriparse_authority.specs.Authority.{AuthorityParts}
use Rattle.uriparse_reference.specs.Reference.{Parts, Valid}
use Rattle.uriparse_reference.specs.declared.uri_reference.error.URIReferenceError.TheVariants as errors
use Rattle.uriparse_reference.specs.Target.{is_empty, target}
use Rattle.uriparse_reference.proofs.lemmas.resolving.ResolveLemmas.{IsTarget, scheme_target, authority_target, kept_target, rooted_target, merged_target}
use Rattle.uriparse_reference.proofs.lemmas.resolving.ResolveLemmas.{IsResult, resolved, refused_answer, resolved_valid, resolved_answer}
use Rattle.uriparse_reference.proofs.uri_reference.resolve.resolve.Goals as goal
use Rattle.uriparse_reference.proofs.uri_reference.resolve.resolve.Goals.{After-branch-path}
use Rattle.uriparse_reference.proofs.uri_reference.resolve.resolve.Goals.{then-is_some, else-is_some+then-is_some-2, else-is_some+else-is_some-2+then-is_empty}
use Rattle.uriparse_reference.proofs.uri_reference.resolve.resolve.Goals.{else-is_some+else-is_some-2+else-is_empty+then-is_absolute, else-is_some+else-is_some-2+else-is_empty+else-is_absolute}

-- a test of a component that is lent is one of the component
there : {A : Type 0} (lent : Option (Bor A)) (part : Option A) (w : Bool) → w ≡ is_some lent → option_copied lent ≡ part → w ≡ is_some part
there None part w tested same = tested ∙ ap is_some same
there (Some x) part w tested same = tested ∙ ap is_some same

-- a test of a path that is lent is one of the path
emptiness : (lent path : PathParts) (w v : Bool) → lent ≡ path → w ≡ is_empty (text lent) → w ≡ v → is_empty (text path) ≡ v
emptiness lent path w v same tested told = ap (λ p. is_empty (text p)) (sym same) ∙ (sym tested ∙ told)

-- the first of two components that are lent, if it is present, else the second
either : {A : Type 0} (x y z : Option (Bor A)) (u v : Option A) → z ≡ option_or x y → option_copied x ≡ u → option_copied y ≡ v → option_copied z ≡ option_or u v
either None y z u v e f g = ap option_copied e ∙ g ∙ ap (λ w. option_or w v) f
either (Some x) y z u v e f g = ap option_copied e ∙ ap (λ w. option_or w v) f

-- the components that were copied are those that were lent
same_parts : (scheme : Option (Bor Scheme)) (authority : Option (Bor AuthorityParts)) (path : PathParts) (query : Option (Bor (List ℕ)))
    (s : Option Scheme) (a : Option AuthorityParts) (q f g : Option (List ℕ))
    → s ≡ option_copied scheme → a ≡ option_copied authority → q ≡ option_copied query → f ≡ g
    → ◌≡◌ {A = Parts} (record { scheme = s; authority = a; path = path; query = q; fragment = f })
    (record { scheme = option_copied scheme; authority = option_copied authority; path = path; query = option_copied query; fragment = g })
same_parts scheme authority path query s a q f g e h k l =
    let u = option_copied scheme in
    let d = option_copied authority in
    let v = option_copied query in
    ap {B = Parts} (λ x. record { scheme = x; authority = a; path = path; query = q; fragment = f }) e
    ∙ ap {B = Parts} (λ x. record { scheme = u; authority = x; path = path; query = q; fragment = f }) h
    ∙ ap {B = Parts} (λ x. record { scheme = u; authority = d; path = path; query = x; fragment = f }) k
    ∙ ap {B = Parts} (λ x. record { scheme = u; authority = d; path = path; query = v; fragment = x }) l

-- the target has the components that were chosen
found : (c : After-branch-path)
    → IsTarget (target c.args.base.now c.args.reference.now) (option_copied c.if-is_some.path.0) (option_copied c.if-is_some.path.1)
    (option_copied c.if-is_some.path.3) c.args.reference.now.fragment c.if-is_some.path.2
found c =
    let b = c.args.base.now in
    let r = c.args.reference.now in
    let own = c.path-own.result.now in
    let inherited = c.path-inherited.result.now in
    let valid = c.path-own.ensures.valid in
    let has_scheme : c.is_some.result ≡ is_some r.scheme = there c.scheme.result r.scheme c.is_some.result c.is_some.ensures c.scheme.ensures in
    elim c.if-is_some.branch [
      | then-is_some w ↦
          subst (λ p. IsTarget (target b r) (option_copied p.0) (option_copied p.1) (option_copied p.3) r.fragment p.2) (sym w.path-is)
          (scheme_target b r (option_copied w.scheme-then-is_some.result) (option_copied w.authority-authority.result) (option_copied c.query-query.result)
          w.path_without_dots-path.result w.is_some-then-is_some.result own c.path-own.ensures.path valid w.path_without_dots-path.ensures.answer
          (sym has_scheme ∙ w.if-is_some.true)
          (there w.authority-authority.result r.authority w.is_some-then-is_some.result w.is_some-then-is_some.ensures w.authority-authority.ensures)
          w.scheme-then-is_some.ensures w.authority-authority.ensures c.query-query.ensures)
      | else-is_some+then-is_some-2 w ↦
          subst (λ p. IsTarget (target b r) (option_copied p.0) (option_copied p.1) (option_copied p.3) r.fragment p.2) (sym w.path-is)
          (authority_target b r (option_copied w.scheme-then-is_some-2.result) (option_copied w.authority-then-is_some-2.result)
          (option_copied c.query-query.result) w.path_without_dots-path-then-is_some-2.result true own c.path-own.ensures.path valid
          w.path_without_dots-path-then-is_some-2.ensures.answer (sym has_scheme ∙ w.if-is_some.false)
          (sym (there w.authority.result r.authority w.is_some-else-is_some.result w.is_some-else-is_some.ensures w.authority.ensures) ∙ w.if-is_some-2.true)
          refl w.scheme-then-is_some-2.ensures w.authority-then-is_some-2.ensures c.query-query.ensures)
      | else-is_some+else-is_some-2+then-is_empty w ↦
          subst (λ p. IsTarget (target b r) (option_copied p.0) (option_copied p.1) (option_copied p.3) r.fragment p.2) (sym w.path-is)
          (kept_target b r (option_copied w.scheme-then-is_empty.result) (option_copied w.authority-then-is_empty.result) (option_copied w.or-query.result)
          w.same_path-path.result inherited c.path-inherited.ensures.path c.path-inherited.ensures.valid
          (ap (λ v. v || is_some r.authority) (sym has_scheme ∙ w.if-is_some.false)
          ∙ sym (there w.authority.result r.authority w.is_some-else-is_some.result w.is_some-else-is_some.ensures w.authority.ensures) ∙ w.if-is_some-2.false)
          (emptiness own r.path w.is_empty.result true c.path-own.ensures.path w.is_empty.ensures w.if-is_empty.true)
          w.same_path-path.ensures.answer w.scheme-then-is_empty.ensures w.authority-then-is_empty.ensures
          (either c.query-query.result w.query.result w.or-query.result r.query b.query w.or-query.ensures c.query-query.ensures w.query.ensures))
      | else-is_some+else-is_some-2+else-is_empty+then-is_absolute w ↦
          subst (λ p. IsTarget (target b r) (option_copied p.0) (option_copied p.1) (option_copied p.3) r.fragment p.2) (sym w.path-is)
          (rooted_target b r (option_copied w.scheme-then-is_absolute.result) (option_copied w.authority-then-is_absolute-2.result)
          (option_copied c.query-query.result) w.path_without_dots-path-then-is_absolute.result w.is_some-then-is_absolute.result own
          c.path-own.ensures.path valid w.path_without_dots-path-then-is_absolute.ensures.answer
          (ap (λ v. v || is_some r.authority) (sym has_scheme ∙ w.if-is_some.false)
          ∙ sym (there w.authority.result r.authority w.is_some-else-is_some.result w.is_some-else-is_some.ensures w.authority.ensures) ∙ w.if-is_some-2.false)
          (emptiness own r.path w.is_empty.result false c.path-own.ensures.path w.is_empty.ensures w.if-is_empty.false)
          (sym w.is_absolute.ensures ∙ w.if-is_absolute.true)
          (there w.authority-then-is_absolute.result b.authority w.is_some-then-is_absolute.result w.is_some-then-is_absolute.ensures
          w.authority-then-is_absolute.ensures)
          w.scheme-then-is_absolute.ensures w.authority-then-is_absolute-2.ensures c.query-query.ensures)
      | else-is_some+else-is_some-2+else-is_empty+else-is_absolute w ↦
          subst (λ p. IsTarget (target b r) (option_copied p.0) (option_copied p.1) (option_copied p.3) r.fragment p.2) (sym w.path-is)
          (merged_target b r inherited own c.path-inherited.ensures.path c.path-own.ensures.path c.path-inherited.ensures.valid valid
          (ap (λ v. v || is_some r.authority) (sym has_scheme ∙ w.if-is_some.false)
          ∙ sym (there w.authority.result r.authority w.is_some-else-is_some.result w.is_some-else-is_some.ensures w.authority.ensures) ∙ w.if-is_some-2.false)
          (emptiness own r.path w.is_empty.result false c.path-own.ensures.path w.is_empty.ensures w.if-is_empty.false)
          (sym w.is_absolute.ensures ∙ w.if-is_absolute.false)
          (option_copied w.scheme-else-is_absolute.result) (option_copied w.authority-else-is_absolute-2.result) (option_copied c.query-query.result)
          w.merged_without_dots-path.result w.is_some-else-is_absolute.result w.merged_without_dots-path.ensures.answer
          (there w.authority-else-is_absolute.result b.authority w.is_some-else-is_absolute.result w.is_some-else-is_absolute.ensures
          w.authority-else-is_absolute.ensures)
          w.scheme-else-is_absolute.ensures w.authority-else-is_absolute-2.ensures c.query-query.ensures)
    ]

-- the path takes no memory if both paths are one segment
made : (c : After-branch-path) → length c.args.base.now.path.segments ≡ 1 → length c.args.reference.now.path.segments ≡ 1
    → IsOk c.if-is_some.path.2
made c base own =
    let alone : length c.path-own.result.now.segments ≡ 1 = ap (λ p. length p.segments) c.path-own.ensures.path ∙ own in
    let first : length c.path-inherited.result.now.segments ≡ 1 = ap (λ p. length p.segments) c.path-inherited.ensures.path ∙ base in
    elim c.if-is_some.branch [
      | then-is_some w ↦ subst (λ p. IsOk p.2) (sym w.path-is) (w.path_without_dots-path.ensures.takes_no_memory alone)
      | else-is_some+then-is_some-2 w ↦
          subst (λ p. IsOk p.2) (sym w.path-is) (w.path_without_dots-path-then-is_some-2.ensures.takes_no_memory alone)
      | else-is_some+else-is_some-2+then-is_empty w ↦ subst (λ p. IsOk p.2) (sym w.path-is) (w.same_path-path.ensures.takes_no_memory first)
      | else-is_some+else-is_some-2+else-is_empty+then-is_absolute w ↦
          subst (λ p. IsOk p.2) (sym w.path-is) (w.path_without_dots-path-then-is_absolute.ensures.takes_no_memory alone)
      | else-is_some+else-is_some-2+else-is_empty+else-is_absolute w ↦
          subst (λ p. IsOk p.2) (sym w.path-is) (w.merged_without_dots-path.ensures.takes_no_memory first alone)
    ]

pub returns-in_err-path-clause-takes_no_memory : goal.returns-in_err-path-clause-takes_no_memory
returns-in_err-path-clause-takes_no_memory c base own =
    absurd (false≢true (subst IsOk c.in_err-path.was (made c.before.before base own)))

pub returns-in_err-path-clause-answer : goal.returns-in_err-path-clause-answer
returns-in_err-path-clause-answer c =
    let answered : c.from_residual.result ≡ Err (errors.Path c.in_err-path.field-0.0) = search rules in
    refused_answer c.args.base.now c.args.reference.now (option_copied c.if-is_some.path.0) (option_copied c.if-is_some.path.1)
    (option_copied c.if-is_some.path.3) c.if-is_some.path.2 (found c.before.before) c.in_err-path.field-0.0 c.from_residual.result c.in_err-path.was answered

pub invariant_of-result : goal.invariant_of-result
invariant_of-result c =
    subst Valid (sym (same_parts c.if-is_some.path.0 c.if-is_some.path.1 c.in_ok-path.field-0 c.if-is_some.path.3 c.borrowed_scheme.result
    c.borrowed_authority.result c.borrowed_text.result c.borrowed_text-2.result c.args.reference.now.fragment c.borrowed_scheme.ensures
    c.borrowed_authority.ensures c.borrowed_text.ensures (c.borrowed_text-2.ensures ∙ c.fragment.ensures)))
    (resolved_valid c.args.base.now c.args.reference.now (option_copied c.if-is_some.path.0) (option_copied c.if-is_some.path.1)
    (option_copied c.if-is_some.path.3) c.if-is_some.path.2 (found c.before.before.before.before.before.before) c.in_ok-path.field-0 c.in_ok-path.was
    c.path-inherited.ensures.valid c.path-own.ensures.valid c.requires)

pub returns-clause-answer : goal.returns-clause-answer
returns-clause-answer c =
    subst (λ t. IsResult (target c.args.base.now c.args.reference.now) (Ok t))
    (sym (same_parts c.if-is_some.path.0 c.if-is_some.path.1 c.in_ok-path.field-0 c.if-is_some.path.3 c.borrowed_scheme.result
    c.borrowed_authority.result c.borrowed_text.result c.borrowed_text-2.result c.args.reference.now.fragment c.borrowed_scheme.ensures
    c.borrowed_authority.ensures c.borrowed_text.ensures (c.borrowed_text-2.ensures ∙ c.fragment.ensures)))
    (resolved_answer c.args.base.now c.args.reference.now (option_copied c.if-is_some.path.0) (option_copied c.if-is_some.path.1)
    (option_copied c.if-is_some.path.3) c.if-is_some.path.2 (found c.before.before.before.before.before.before) c.in_ok-path.field-0 c.in_ok-path.was)

pub returns-clause-found : goal.returns-clause-found
returns-clause-found c =
    subst (λ t. target c.args.base.now c.args.reference.now ≡ Some t)
    (sym (same_parts c.if-is_some.path.0 c.if-is_some.path.1 c.in_ok-path.field-0 c.if-is_some.path.3 c.borrowed_scheme.result
    c.borrowed_authority.result c.borrowed_text.result c.borrowed_text-2.result c.args.reference.now.fragment c.borrowed_scheme.ensures
    c.borrowed_authority.ensures c.borrowed_text.ensures (c.borrowed_text-2.ensures ∙ c.fragment.ensures)))
    (resolved c.args.base.now c.args.reference.now (option_copied c.if-is_some.path.0) (option_copied c.if-is_some.path.1)
    (option_copied c.if-is_some.path.3) c.if-is_some.path.2 (found c.before.before.before.before.before.before) c.in_ok-path.field-0 c.in_ok-path.was)
