use Rattle.std.proofs.Common.{◌≡◌, None, Some, ap, rules, sym, ◌∙◌}
use Rattle.uriparse_reference.specs.Relate.{IsInPlace, inner, as_network_path, relative}
use Rattle.uriparse_reference.proofs.lemmas.resolving.RelativizeLemmas.{ok_more, placed_there}
use Rattle.uriparse_reference.proofs.lemmas.resolving.RelativeLemmas.{query_is, relative_in_place, relative_inner, relative_network, relative_none, relative_other}
use Rattle.uriparse_reference.proofs.uri_reference.relate.relativize.Goals as goal

pub returns-then-not-has_same_scheme-clause-exact : goal.returns-then-not-has_same_scheme-clause-exact
returns-then-not-has_same_scheme-clause-exact c =
    let b = c.args.base.now in
    let t = c.args.target.now in
    let differ : b.scheme ≡ t.scheme → ⊥ = search rules in
    ok_more (λ r. r ≡ t) (λ r. r ≡ relative b t) c.to_borrowed.result
    (λ r e. e ∙ sym (relative_other b t c.path-base_path.ensures.valid c.path-target_path.ensures.valid differ)) c.to_borrowed.ensures.copy

pub returns-then-not-has_same_authority-clause-exact : goal.returns-then-not-has_same_authority-clause-exact
returns-then-not-has_same_authority-clause-exact c =
    let b = c.args.base.now in
    let t = c.args.target.now in
    let schemes : b.scheme ≡ t.scheme = search rules in
    let differ : b.authority ≡ t.authority → ⊥ = search rules in
    ok_more (λ r. r ≡ as_network_path t) (λ r. r ≡ relative b t) c.as_network_path.result
    (λ r e. e ∙ sym (relative_network b t c.path-base_path.ensures.valid c.path-target_path.ensures.valid schemes differ)) c.as_network_path.ensures

pub returns-then-is_in_place-clause-exact : goal.returns-then-is_in_place-clause-exact
returns-then-is_in_place-clause-exact c =
    let b = c.args.base.now in
    let t = c.args.target.now in
    let schemes : b.scheme ≡ t.scheme = search rules in
    let authorities : b.authority ≡ t.authority = search rules in
    let same : IsInPlace b t = search rules in
    c.in_place.ensures.left ∙ ap (placed_there t) (query_is b t c.in_place.result.query c.in_place.ensures.query)
    ∙ sym (relative_in_place b t c.path-base_path.ensures.valid c.path-target_path.ensures.valid schemes authorities same)

pub returns-in-Some-clause-exact : goal.returns-in-Some-clause-exact
returns-in-Some-clause-exact c =
    let b = c.args.base.now in
    let t = c.args.target.now in
    let schemes : b.scheme ≡ t.scheme = search rules in
    let authorities : b.authority ≡ t.authority = search rules in
    let no_place : IsInPlace b t → ⊥ = search rules in
    let leads : inner b.path t.path ≡ Some c.in-Some.path = search rules in
    c.following_path.ensures
    ∙ sym (relative_inner b t c.path-base_path.ensures.valid c.path-target_path.ensures.valid c.in-Some.path schemes authorities no_place leads)

pub returns-in-None-clause-exact : goal.returns-in-None-clause-exact
returns-in-None-clause-exact c =
    let b = c.args.base.now in
    let t = c.args.target.now in
    let schemes : b.scheme ≡ t.scheme = search rules in
    let authorities : b.authority ≡ t.authority = search rules in
    let no_place : IsInPlace b t → ⊥ = search rules in
    let none : inner b.path t.path ≡ None = search rules in
    ok_more (λ r. r ≡ as_network_path t) (λ r. r ≡ relative b t) c.as_network_path-in-None.result
    (λ r e. e ∙ sym (relative_none b t c.path-base_path.ensures.valid c.path-target_path.ensures.valid schemes authorities no_place none)) c.as_network_path-in-None.ensures
