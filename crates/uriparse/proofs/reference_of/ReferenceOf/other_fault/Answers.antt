use Rattle.std.proofs.Common.{◌≡◌, Err, Ok, sym, ap, rules}
use Rattle.std.specs.Option.{option_map}
use Rattle.uriparse_text.specs.Readings.{unless_fault}
use Rattle.uriparse.specs.Kinds.{fault_of}
use Rattle.uriparse.proofs.lemmas.KindLemmas.{checked_fault, checked_none}
use Rattle.uriparse.proofs.reference_of.ReferenceOf.other_fault.Goals as goal

pub returns-in-Ok : goal.returns-in-Ok
returns-in-Ok g c =
    let map_error : unless_fault (fault_of g.K.ReferenceKind.has_scheme g.K.ReferenceKind.map_error g.K.ReferenceKind.other c.args.bytes.now) (tt {0}) ≡ Ok (tt {0}) = search rules in
    sym (ap (option_map (λ e. (0, e))) (checked_none (fault_of g.K.ReferenceKind.has_scheme g.K.ReferenceKind.map_error g.K.ReferenceKind.other c.args.bytes.now) (tt {0}) map_error))

pub returns-in-Err : goal.returns-in-Err
returns-in-Err g c =
    let map_error : unless_fault (fault_of g.K.ReferenceKind.has_scheme g.K.ReferenceKind.map_error g.K.ReferenceKind.other c.args.bytes.now) (tt {0}) ≡ Err c.in-Err.error = search rules in
    sym (ap (option_map (λ e. (0, e))) (checked_fault (fault_of g.K.ReferenceKind.has_scheme g.K.ReferenceKind.map_error g.K.ReferenceKind.other c.args.bytes.now) (tt {0}) c.in-Err.error map_error))
