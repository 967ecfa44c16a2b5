use Rattle.std.proofs.Common.{◌≡◌, Some, None, ap, subst, sym, ◌∙◌, rules}
use Rattle.uriparse_reference.specs.Relate.{IsInPlace, following_path, inner, as_network_path}
use Rattle.uriparse_reference.proofs.lemmas.resolving.RelativizeLemmas.{placed_there}
use Rattle.uriparse_reference.proofs.lemmas.resolving.RelativeLemmas.{query_is, relative_in_place, relative_inner, relative_network, relative_none, relative_other, valid_relative}
use Rattle.uriparse_reference.specs.RelativeText.{IsOf}
use Rattle.uriparse_reference.proofs.lemmas.writing.RelativeTextLemmas.{inner_of}
use Rattle.uriparse_reference.proofs.uri_reference.view.relativize.relative.Goals as goal

pub returns-then-not-has_same_scheme-clause-of : goal.returns-then-not-has_same_scheme-clause-of
returns-then-not-has_same_scheme-clause-of c =
    let b = c.args.base.now.parts in
    let t = c.args.target.now.parts in
    let differ : b.scheme ≡ t.scheme → ⊥ = search rules in
    subst (IsOf c.whole.result) (sym (relative_other b t c.path_bytes-base_path.ensures.valid c.path_bytes-target_path.ensures.valid differ)) c.whole.ensures

pub returns-then-not-has_same_authority-clause-of : goal.returns-then-not-has_same_authority-clause-of
returns-then-not-has_same_authority-clause-of c =
    let b = c.args.base.now.parts in
    let t = c.args.target.now.parts in
    let schemes : b.scheme ≡ t.scheme = search rules in
    let differ : b.authority ≡ t.authority → ⊥ = search rules in
    subst (IsOf c.as_network_path.result) (sym (relative_network b t c.path_bytes-base_path.ensures.valid c.path_bytes-target_path.ensures.valid schemes differ)) c.as_network_path.ensures

pub returns-then-is_in_place-clause-of : goal.returns-then-is_in_place-clause-of
returns-then-is_in_place-clause-of c =
    let b = c.args.base.now.parts in
    let t = c.args.target.now.parts in
    let schemes : b.scheme ≡ t.scheme = search rules in
    let authorities : b.authority ≡ t.authority = search rules in
    let same : IsInPlace b t = search rules in
    subst (IsOf c.in_place.result)
    (ap (placed_there t) (query_is b t c.in_place.result.query c.in_place.ensures.query)
    ∙ sym (relative_in_place b t c.path_bytes-base_path.ensures.valid c.path_bytes-target_path.ensures.valid schemes authorities same)) c.in_place.ensures.left

pub returns-in-Some-clause-of : goal.returns-in-Some-clause-of
returns-in-Some-clause-of c =
    let b = c.args.base.now.parts in
    let t = c.args.target.now.parts in
    let schemes : b.scheme ≡ t.scheme = search rules in
    let authorities : b.authority ≡ t.authority = search rules in
    let no_place : IsInPlace b t → ⊥ = search rules in
    let p = c.in-Some.ensures.0 in
    let leads : inner b.path t.path ≡ Some p =
    inner_of b t _ _ (Some p) c.path_bytes-base_path.ensures.valid c.path_bytes-target_path.ensures.valid c.path_bytes-base_path.ensures.text c.path_bytes-target_path.ensures.text c.in-Some.ensures.1 in
    subst (IsOf c.following.result) (sym (relative_inner b t c.path_bytes-base_path.ensures.valid c.path_bytes-target_path.ensures.valid p schemes authorities no_place leads))
    (c.following.ensures p c.in-Some.ensures.2)

pub returns-in-None-clause-of : goal.returns-in-None-clause-of
returns-in-None-clause-of c =
    let b = c.args.base.now.parts in
    let t = c.args.target.now.parts in
    let schemes : b.scheme ≡ t.scheme = search rules in
    let authorities : b.authority ≡ t.authority = search rules in
    let no_place : IsInPlace b t → ⊥ = search rules in
    let none : inner b.path t.path ≡ None =
    inner_of b t _ _ None c.path_bytes-base_path.ensures.valid c.path_bytes-target_path.ensures.valid c.path_bytes-base_path.ensures.text c.path_bytes-target_path.ensures.text c.in-None.ensures in
    subst (IsOf c.as_network_path-in-None.result)
    (sym (relative_none b t c.path_bytes-base_path.ensures.valid c.path_bytes-target_path.ensures.valid schemes authorities no_place none)) c.as_network_path-in-None.ensures

pub returns-then-not-has_same_scheme-clause-valid : goal.returns-then-not-has_same_scheme-clause-valid
returns-then-not-has_same_scheme-clause-valid c = valid_relative c.args.base.now.parts c.args.target.now.parts c.path_bytes-base_path.ensures.valid c.path_bytes-target_path.ensures.valid

pub returns-then-not-has_same_authority-clause-valid : goal.returns-then-not-has_same_authority-clause-valid
returns-then-not-has_same_authority-clause-valid c = valid_relative c.args.base.now.parts c.args.target.now.parts c.path_bytes-base_path.ensures.valid c.path_bytes-target_path.ensures.valid

pub returns-then-is_in_place-clause-valid : goal.returns-then-is_in_place-clause-valid
returns-then-is_in_place-clause-valid c = valid_relative c.args.base.now.parts c.args.target.now.parts c.path_bytes-base_path.ensures.valid c.path_bytes-target_path.ensures.valid

pub returns-in-Some-clause-valid : goal.returns-in-Some-clause-valid
returns-in-Some-clause-valid c = valid_relative c.args.base.now.parts c.args.target.now.parts c.path_bytes-base_path.ensures.valid c.path_bytes-target_path.ensures.valid

pub returns-in-None-clause-valid : goal.returns-in-None-clause-valid
returns-in-None-clause-valid c = valid_relative c.args.base.now.parts c.args.target.now.parts c.path_bytes-base_path.ensures.valid c.path_bytes-target_path.ensures.valid
