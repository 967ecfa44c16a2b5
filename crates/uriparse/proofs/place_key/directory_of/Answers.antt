use Rattle.std.proofs.Common.{◌-◌, ◌∙◌, ap, arith, length, sym, take}
use Rattle.uriparse_path.specs.Path.{spelled}
use Rattle.uriparse.proofs.lemmas.PlaceDirectoryLemmas.{directory_cut, directory_path, directory_whole, last_fits}
use Rattle.uriparse.proofs.place_key.directory_of.Goals as goal

pub returns-then-is_dot_segment-clause-is : goal.returns-then-is_dot_segment-clause-is
returns-then-is_dot_segment-clause-is c =
    directory_whole c.args.path.now c.in-Some.last c.in-Some.field-0-0 (sym c.segments_of.ensures ∙ c.in-Some.ensures)
    (sym c.is_dot_segment.ensures ∙ c.if-is_dot_segment.true)

pub slice_bounds-result-count : goal.slice_bounds-result-count
slice_bounds-result-count c =
    let e = ap length c.as_bytes.ensures.value in
    let fits = last_fits c.args.path.now c.in-Some.last c.in-Some.field-0-0 (sym c.segments_of.ensures ∙ c.in-Some.ensures) in omega (arith, e, fits)

pub returns-in-Some-clause-is : goal.returns-in-Some-clause-is
returns-in-Some-clause-is c =
    ap (λ s. spelled (take (length c.args.path.now - length s) c.args.path.now)) c.as_bytes.ensures.value
    ∙ directory_cut c.args.path.now c.in-Some.last c.in-Some.field-0-0 c.requires.path c.requires.shown (sym c.segments_of.ensures ∙ c.in-Some.ensures)
    (sym c.is_dot_segment.ensures ∙ c.if-is_dot_segment.false)

pub returns-in-Some-clause-path : goal.returns-in-Some-clause-path
returns-in-Some-clause-path c =
    directory_path c.args.path.now (take (length c.args.path.now - length c.as_bytes.result.now) c.args.path.now) c.requires.path
    (ap (λ s. spelled (take (length c.args.path.now - length s) c.args.path.now)) c.as_bytes.ensures.value
    ∙ directory_cut c.args.path.now c.in-Some.last c.in-Some.field-0-0 c.requires.path c.requires.shown (sym c.segments_of.ensures ∙ c.in-Some.ensures)
    (sym c.is_dot_segment.ensures ∙ c.if-is_dot_segment.false))
