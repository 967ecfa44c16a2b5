use Rattle.std.proofs.Common.{rules, ◌≡◌, Err, Some, refl, ap, subst}
use Rattle.std.specs.Option.{option_map}
use Rattle.uriparse_authority.specs.Authority.{print}
use Rattle.uriparse_authority.specs.Normal.{canonical_authority}
use Rattle.uriparse_reference.proofs.uri_reference.normal.authority_copies.Goals as goal

pub returns-in-None : goal.returns-in-None
returns-in-None c = record { copies = rw c.in-None.is tt; takes_no_memory = λ _. refl }

pub returns-in_ok-canonical_copies-in-Some : goal.returns-in_ok-canonical_copies-in-Some
returns-in_ok-canonical_copies-in-Some c =
    record { copies = rw c.in-Some.is c.in_ok-canonical_copies-in-Some.ensures.copies; takes_no_memory = λ _. refl }

pub returns-in_err-canonical_copies-in-Some : goal.returns-in_err-canonical_copies-in-Some
returns-in_err-canonical_copies-in-Some c =
    let answered : c.from_residual.result ≡ Err c.in_err-canonical_copies-in-Some.field-0.0 = search rules in
    rw answered (record {
      copies = tt;
      takes_no_memory = λ h.
          let a = c.in-Some.authority in
          let same : Some (canonical_authority a) ≡ Some a = subst (λ o. option_map canonical_authority o ≡ o) c.in-Some.is h in
          let kept : canonical_authority a ≡ a = cc in
          c.in_err-canonical_copies-in-Some.ensures.takes_no_memory (ap print kept);
    })
