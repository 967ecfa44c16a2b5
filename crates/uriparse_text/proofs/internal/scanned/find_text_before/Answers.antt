use Rattle.std.proofs.Common.{take, take_all, drop, Some, refl, sym, ap, ◌∙◌, arith}
use Rattle.std.specs.Option.{option_map}
use Rattle.std.proofs.lemmas.Bool.{eq-eqb, ne_eqb}
use Rattle.std.proofs.lemmas.List.{take_rest, drop-drop}
use Rattle.uriparse_text.specs.Cuts.{before}
use Rattle.uriparse_text.specs.Readings.{unless_fault, some_of}
use Rattle.uriparse_text.proofs.lemmas.classes.FaultBeforeMarkLemmas.{whole_text, text_before, fault_before, reading-in}
use Rattle.uriparse_text.proofs.lemmas.canonical.CanonicalPrefixLemmas.{kept_by}
use Rattle.uriparse_text.proofs.internal.scanned.find_text_before.Goals as goal

pub scanned_text-requires : goal.scanned_text-requires
scanned_text-requires g c =
    let text = c.args.bytes.now in
    let whole = whole_text g.K.TextKind.class c.args.delimiter c.requires _ c.class-class.ensures text _ c.fault_following-offset.ensures c.if-offset-bytes.true in
    kept_by g.K.TextKind.class _ g.K.TextKind.case _ c.class-class.ensures c.case-case.ensures text c.canonical_prefix_len-canonical_len.result c.fault_following-offset.result text
    c.canonical_prefix_len-canonical_len.ensures.offset (sym (take_all c.fault_following-offset.result text (omega arith))) whole.1

pub returns-then-offset-bytes : goal.returns-then-offset-bytes
returns-then-offset-bytes g c =
    let text = c.args.bytes.now in
    let whole = whole_text g.K.TextKind.class c.args.delimiter c.requires _ c.class-class.ensures text _ c.fault_following-offset.ensures c.if-offset-bytes.true in
    (rw c.scanned_text.ensures (ap some_of (reading-in g.K.TextKind.class g.K.TextKind.error_of (before c.args.delimiter text) text whole.0 whole.1)), whole.2)

pub scanned_text-requires-then-bytes-offset : goal.scanned_text-requires-then-bytes-offset
scanned_text-requires-then-bytes-offset g c =
    let text = c.args.bytes.now in
    let offset = c.fault_following-offset.result in
    let cut = text_before g.K.TextKind.class c.args.delimiter c.requires _ c.class-class.ensures text _ c.fault_following-offset.ensures (omega arith)
    (eq-eqb _ _ c.if-bytes-offset.true) in
    rw c.split_at.ensures.front
    (kept_by g.K.TextKind.class _ g.K.TextKind.case _ c.class-class.ensures c.case-case.ensures text c.canonical_prefix_len-canonical_len.result offset (take offset text)
    c.canonical_prefix_len-canonical_len.ensures.offset refl cut.1)

pub returns-then-bytes-offset : goal.returns-then-bytes-offset
returns-then-bytes-offset g c =
    let text = c.args.bytes.now in
    let offset = c.fault_following-offset.result in
    let cut = text_before g.K.TextKind.class c.args.delimiter c.requires _ c.class-class.ensures text offset c.fault_following-offset.ensures (omega arith)
    (eq-eqb _ _ c.if-bytes-offset.true) in (
      rw (c.scanned_text-then-bytes-offset.ensures, c.split_at.ensures.front)
          (ap some_of (reading-in g.K.TextKind.class g.K.TextKind.error_of (before c.args.delimiter text) (take offset text) cut.0 cut.1)),
      ap Some (take_rest c.split_at.result.1.now 1 ∙ ap (drop 1) c.split_at.ensures.back ∙ drop-drop 1 offset text) ∙ cut.2,
    )

pub returns-else-bytes-offset : goal.returns-else-bytes-offset
returns-else-bytes-offset g c =
    let text = c.args.bytes.now in
    rw c.error_of.ensures
    (ap (λ f. some_of (unless_fault (option_map g.K.TextKind.error_of f) (before c.args.delimiter text)))
    (fault_before g.K.TextKind.class c.args.delimiter c.requires _ c.class-class.ensures text _ c.fault_following-offset.ensures (omega arith)
    (ne_eqb _ _ c.if-bytes-offset.false)))
