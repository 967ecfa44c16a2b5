use Rattle.std.proofs.Common.{◌≡◌, ◌<◌, Some, None, [], length, inl, refl, sym, ap, subst, ◌∙◌, rules}
use Rattle.std.specs.Prelude.{◌⊎◌, IfSome}
use Rattle.std.specs.Option.{option_map}
use Rattle.uriparse_reference.specs.Offset.{first_fault}
use Rattle.uriparse.specs.Kinds.{fault_of, first_fault_of}
use Rattle.uriparse.proofs.lemmas.KindLemmas.{faulty_offset, other_offset, told_fault, zero_within}
use Rattle.uriparse.proofs.reference_of.ReferenceOf.first_fault.Goals as goal

pub returns-in-Some : goal.returns-in-Some
returns-in-Some g c =
    let t = c.args.bytes.now in
    let n = c.in-Some.offset in
    let e = c.in-Some.error in
    let found : first_fault t ≡ Some (n, e) = search rules in
    let within : n < length t = search rules in
    let fault : Some (n, c.map_error.result) ≡ first_fault_of g.K.ReferenceKind.has_scheme g.K.ReferenceKind.map_error g.K.ReferenceKind.other t = ap (λ x. Some (n, x)) c.map_error.ensures ∙ sym (faulty_offset g.K.ReferenceKind.has_scheme g.K.ReferenceKind.map_error g.K.ReferenceKind.other t n e found) in
    record {
      fault = fault;
      error = ap (option_map (λ f. f.1)) fault ∙ told_fault g.K.ReferenceKind.has_scheme g.K.ReferenceKind.map_error g.K.ReferenceKind.other t;
      within = inl within;
    }

pub returns-in-None : goal.returns-in-None
returns-in-None g c =
    let t = c.args.bytes.now in
    let none : first_fault t ≡ None = search rules in
    let fault : c.other_fault.result ≡ first_fault_of g.K.ReferenceKind.has_scheme g.K.ReferenceKind.map_error g.K.ReferenceKind.other t =
    c.other_fault.ensures ∙ sym (other_offset g.K.ReferenceKind.has_scheme g.K.ReferenceKind.map_error g.K.ReferenceKind.other t (fault_of g.K.ReferenceKind.has_scheme g.K.ReferenceKind.map_error g.K.ReferenceKind.other t) none refl) in
    record {
      fault = fault;
      error = ap (option_map (λ f. f.1)) fault ∙ told_fault g.K.ReferenceKind.has_scheme g.K.ReferenceKind.map_error g.K.ReferenceKind.other t;
      within = subst (λ o. IfSome o (λ f. (f.0 < length t) ⊎ (t ≡ []))) (sym c.other_fault.ensures) (zero_within t (fault_of g.K.ReferenceKind.has_scheme g.K.ReferenceKind.map_error g.K.ReferenceKind.other t));
    }
