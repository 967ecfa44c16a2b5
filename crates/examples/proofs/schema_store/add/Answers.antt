use Rattle.std.proofs.Common.{rules, ◌≡◌, cond, [], None, Some, IsSome, sym, ap, ◌∙◌, inr}
use Rattle.uriparse.specs.Uri.{base as without_fragment}
use Rattle.examples.specs.Equal.{is_equal}
use Rattle.examples.specs.SchemaStore.{known}
use Rattle.examples.proofs.SchemaStoreLemmas.{is_none, not_both, one_target, untargeted}
use Rattle.examples.proofs.schema_store.add.Goals as goal

pub returns-in_err-uri-clause-taken : goal.returns-in_err-uri-clause-taken
returns-in_err-uri-clause-taken c t is some =
    let why = untargeted c.args.base.now.parts c.args.id.now.parts t _ c.in_err-uri.ensures.err is in
    inr (search (rules, why))

pub returns-in_err-insert-clause-taken : goal.returns-in_err-insert-clause-taken
returns-in_err-insert-clause-taken c t is some =
    let found = c.in_ok-uri.ensures.ok in
    let none : known c.args.schemas.now c.in_ok-uri.uri.parts ≡ None = is_none _ (sym c.contains_key.ensures ∙ c.if-contains_key.false) in
    let same : c.in_ok-uri.uri.parts ≡ without_fragment t =
    found.2 ∙ ap without_fragment (one_target c.args.base.now.parts c.args.id.now.parts found.0 t found.1 is) in
    absurd (not_both c.args.schemas.now c.in_ok-uri.uri.parts (without_fragment t) same none some)

pub returns-clause-taken : goal.returns-clause-taken
returns-clause-taken c t is some =
    let found = c.in_ok-uri.ensures.ok in
    let none : known c.args.schemas.now c.in_ok-uri.uri.parts ≡ None = is_none _ (sym c.contains_key.ensures ∙ c.if-contains_key.false) in
    let same : c.in_ok-uri.uri.parts ≡ without_fragment t =
    found.2 ∙ ap without_fragment (one_target c.args.base.now.parts c.args.id.now.parts found.0 t found.1 is) in
    absurd (not_both c.args.schemas.now c.in_ok-uri.uri.parts (without_fragment t) same none some)

pub returns-clause-added : goal.returns-clause-added
returns-clause-added c =
    let found = c.in_ok-uri.ensures.ok in
    let none : known c.args.schemas.now c.in_ok-uri.uri.parts ≡ None = is_none _ (sym c.contains_key.ensures ∙ c.if-contains_key.false) in (
      found.0,
      found.1,
      sym (ap (known c.args.schemas.now) found.2) ∙ none,
      λ p. c.in_ok-insert.ensures.updates.0 (record { text = []; parts = p })
          ∙ ap (λ u. cond (is_equal u p) (Some c.args.index) (known c.args.schemas.now p)) found.2,
    )

pub returns-in_err-uri-clause-free : goal.returns-in_err-uri-clause-free
returns-in_err-uri-clause-free c t is none =
    let why = untargeted c.args.base.now.parts c.args.id.now.parts t _ c.in_err-uri.ensures.err is in
    inr (inr (search (rules, why)))

pub returns-then-contains_key-clause-free : goal.returns-then-contains_key-clause-free
returns-then-contains_key-clause-free c t is none =
    let found = c.in_ok-uri.ensures.ok in
    let some : IsSome (known c.args.schemas.now c.in_ok-uri.uri.parts) = sym c.contains_key.ensures ∙ c.if-contains_key.true in
    let same : without_fragment t ≡ c.in_ok-uri.uri.parts =
    sym (found.2 ∙ ap without_fragment (one_target c.args.base.now.parts c.args.id.now.parts found.0 t found.1 is)) in
    absurd (not_both c.args.schemas.now (without_fragment t) c.in_ok-uri.uri.parts same none some)
