use Rattle.std.proofs.Common.{◌∷◌, [], None, Some}
use Rattle.std.proofs.lemmas.Slice.Eq.{strip_suffix_is}
use Rattle.uriparse_authority.proofs.lemmas.hosts.EndDotLemmas.{before-lower, before-plain, before-upper, formed-before, no_end_dot, same_bytes, spelled-before}
use Rattle.uriparse.proofs.lemmas.PlaceNameLemmas.{ends-before, ends-kept}
use Rattle.uriparse.proofs.place_key.names.split_end_dot.Goals as goal

pub returns-in-Some-clause-spelled : goal.returns-in-Some-clause-spelled
returns-in-Some-clause-spelled c =
    spelled-before _ _ (before-plain _ _ (strip_suffix_is same_bytes c.args.text.now (46 ∷ []) (Some c.in-Some.front) c.in-Some.ensures.cases))

pub returns-in-Some-clause-formed : goal.returns-in-Some-clause-formed
returns-in-Some-clause-formed c =
    formed-before _ _ (before-plain _ _ (strip_suffix_is same_bytes c.args.text.now (46 ∷ []) (Some c.in-Some.front) c.in-Some.ensures.cases)) c.requires

pub returns-in-Some-strip_suffix-clause-spelled : goal.returns-in-Some-strip_suffix-clause-spelled
returns-in-Some-strip_suffix-clause-spelled c =
    spelled-before _ _ (before-upper _ _
    (strip_suffix_is same_bytes c.args.text.now (37 ∷ 50 ∷ 69 ∷ []) (Some c.in-Some-strip_suffix.front) c.in-Some-strip_suffix.ensures.cases))

pub returns-in-Some-strip_suffix-clause-formed : goal.returns-in-Some-strip_suffix-clause-formed
returns-in-Some-strip_suffix-clause-formed c =
    formed-before _ _ (before-upper _ _
    (strip_suffix_is same_bytes c.args.text.now (37 ∷ 50 ∷ 69 ∷ []) (Some c.in-Some-strip_suffix.front) c.in-Some-strip_suffix.ensures.cases)) c.requires

pub returns-in-Some-strip_suffix-2-clause-spelled : goal.returns-in-Some-strip_suffix-2-clause-spelled
returns-in-Some-strip_suffix-2-clause-spelled c =
    spelled-before _ _ (before-lower _ _
    (strip_suffix_is same_bytes c.args.text.now (37 ∷ 50 ∷ 101 ∷ []) (Some c.in-Some-strip_suffix-2.front) c.in-Some-strip_suffix-2.ensures.cases))

pub returns-in-Some-strip_suffix-2-clause-formed : goal.returns-in-Some-strip_suffix-2-clause-formed
returns-in-Some-strip_suffix-2-clause-formed c =
    formed-before _ _ (before-lower _ _
    (strip_suffix_is same_bytes c.args.text.now (37 ∷ 50 ∷ 101 ∷ []) (Some c.in-Some-strip_suffix-2.front) c.in-Some-strip_suffix-2.ensures.cases)) c.requires

pub returns-in-None-clause-spelled : goal.returns-in-None-clause-spelled
returns-in-None-clause-spelled c =
    no_end_dot c.args.text.now (strip_suffix_is same_bytes c.args.text.now (46 ∷ []) None c.in_default.ensures.cases)
    (strip_suffix_is same_bytes c.args.text.now (37 ∷ 50 ∷ 69 ∷ []) None c.in_default-strip_suffix.ensures.cases)
    (strip_suffix_is same_bytes c.args.text.now (37 ∷ 50 ∷ 101 ∷ []) None c.in-None.ensures.cases)

pub returns-in-Some-clause-dot : goal.returns-in-Some-clause-dot
returns-in-Some-clause-dot c =
    ends-before _ _ (before-plain _ _ (strip_suffix_is same_bytes c.args.text.now (46 ∷ []) (Some c.in-Some.front) c.in-Some.ensures.cases))

pub returns-in-Some-strip_suffix-clause-dot : goal.returns-in-Some-strip_suffix-clause-dot
returns-in-Some-strip_suffix-clause-dot c =
    ends-before _ _ (before-upper _ _
    (strip_suffix_is same_bytes c.args.text.now (37 ∷ 50 ∷ 69 ∷ []) (Some c.in-Some-strip_suffix.front) c.in-Some-strip_suffix.ensures.cases))

pub returns-in-Some-strip_suffix-2-clause-dot : goal.returns-in-Some-strip_suffix-2-clause-dot
returns-in-Some-strip_suffix-2-clause-dot c =
    ends-before _ _ (before-lower _ _
    (strip_suffix_is same_bytes c.args.text.now (37 ∷ 50 ∷ 101 ∷ []) (Some c.in-Some-strip_suffix-2.front) c.in-Some-strip_suffix-2.ensures.cases))

pub returns-in-None-clause-dot : goal.returns-in-None-clause-dot
returns-in-None-clause-dot c =
    ends-kept _ (no_end_dot c.args.text.now (strip_suffix_is same_bytes c.args.text.now (46 ∷ []) None c.in_default.ensures.cases)
    (strip_suffix_is same_bytes c.args.text.now (37 ∷ 50 ∷ 69 ∷ []) None c.in_default-strip_suffix.ensures.cases)
    (strip_suffix_is same_bytes c.args.text.now (37 ∷ 50 ∷ 101 ∷ []) None c.in-None.ensures.cases))
