use Rattle.std.proofs.Common.{◌≡◌, true, false, ◌∷◌, length, rules}
use Rattle.std.proofs.lemmas.Bool.{eq-eqb, ne_eqb}
use Rattle.uriparse_text.specs.declared.internal.class.Class.TheVariants.{Segment}
use Rattle.uriparse_text.specs.Faults.{begins_fine}
use Rattle.uriparse_path.proofs.lemmas.reading.OffsetLemmas.{walk_passes, walk_passes_slash, walk_stops, walk_stops_full, walk_ends}
use Rattle.uriparse_path.proofs.path.offset.offset_by_one.Goals as goal
use Rattle.uriparse_path.proofs.path.offset.offset_by_one.Goals.{then-b-ne47-via-then-b-ne47, then-b-ne47-via-else-b-ne47+then-left-eq0}

pub returns-then-b-ne47-clause-offset : goal.returns-then-b-ne47-clause-offset
returns-then-b-ne47-clause-offset c =
    let first : c.bytes.rest.now ≡ c.in-Some.b.now ∷ c.in-Some.after.now = search rules in
    let faulty : begins_fine Segment c.bytes.rest.now ≡ false = search rules in
    elim c.then-b-ne47.branch [
      | then-b-ne47-via-then-b-ne47 w ↦
          walk_stops c.args.slashes c.args.text.now c.bytes.left c.bytes.rest.now c.in-Some.b.now c.in-Some.after.now c.bytes.invariant first faulty
          (ne_eqb _ _ w.if-b-ne47.true)
      | then-b-ne47-via-else-b-ne47+then-left-eq0 w ↦
          walk_stops_full c.args.slashes c.args.text.now c.bytes.left c.bytes.rest.now c.in-Some.b.now c.in-Some.after.now c.bytes.invariant first faulty
          w.if-left-eq0.true
    ]

pub bytes-preserved-else-left-eq0 : goal.bytes-preserved-else-left-eq0
bytes-preserved-else-left-eq0 c =
    let first : c.bytes.rest.now ≡ c.in-Some.b.now ∷ c.in-Some.after.now = search rules in
    let faulty : begins_fine Segment c.bytes.rest.now ≡ false = search rules in
    walk_passes_slash c.args.slashes c.args.text.now c.bytes.left c.bytes.rest.now c.in-Some.b.now c.in-Some.after.now c.bytes.invariant first faulty
    (eq-eqb _ _ c.if-b-ne47.false) c.if-left-eq0.false

pub bytes-preserved : goal.bytes-preserved
bytes-preserved c =
    let first : c.bytes.rest.now ≡ c.in-Some.b.now ∷ c.in-Some.after.now = search rules in
    let fine : begins_fine Segment c.bytes.rest.now ≡ true = search rules in
    walk_passes c.args.slashes c.args.text.now c.bytes.left c.bytes.rest.now c.in-Some.b.now c.in-Some.after.now c.bytes.invariant first fine

pub returns-clause-offset : goal.returns-clause-offset
returns-clause-offset c =
    let end : length c.bytes.rest.now ≡ 0 = search rules in
    walk_ends c.args.slashes c.args.text.now c.bytes.left c.bytes.rest.now c.bytes.invariant end
