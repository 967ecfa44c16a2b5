use Rattle.std.proofs.Common.{◌≡◌, Some, true, subst, sym}
use Rattle.std.specs.Prelude.{IfOk, is_some}
use Rattle.uriparse_reference.specs.Reference.{Parts, Valid}
use Rattle.uriparse_reference.specs.Relate.{AreInOne, IsInPlace, LeavesOut, Relates, relative}
use Rattle.uriparse_reference.specs.Target.{target}
use Rattle.uriparse_reference.proofs.lemmas.resolving.RelativizeLemmas.{ok_more}
use Rattle.uriparse_reference.proofs.lemmas.resolving.RelativeLemmas.{relates, relative_back}
use Rattle.uriparse.proofs.uri.relate.URI.relativize.Goals as goal

pub returns : goal.returns
returns c =
    let base : Parts = c.args.self.now in
    let uri : Parts = c.args.uri.now in
    let r = c.relativize.result in
    let scheme : is_some uri.scheme ≡ true = subst (λ p. is_some p.scheme ≡ true) c.uri.view_is c.uri.invariant in
    let valid_base : Valid base = subst Valid c.self.view_is c.relativize.ensures.valid.0 in
    let valid : Valid uri = subst Valid c.uri.view_is c.relativize.ensures.valid.1 in
    let exact : IfOk r (λ p. p ≡ relative base uri) =
    subst (λ q. IfOk r (λ p. p ≡ relative base q)) c.uri.view_is
    (subst (λ q. IfOk r (λ p. p ≡ relative q c.uri.inside.reference)) c.self.view_is c.relativize.ensures.exact) in
    let same : Relates base uri (relative base uri) = relates base uri valid_base valid scheme in
    record {
      exact = exact;
      law = ok_more (λ p. p ≡ relative base uri) (λ p. target base p ≡ target base uri) r (λ p e. subst (λ q. target base q ≡ target base uri) (sym e) same.0) exact;
      back = λ no_dots. ok_more (λ p. p ≡ relative base uri) (λ p. target base p ≡ Some uri) r
          (λ p e. subst (λ q. target base q ≡ Some uri) (sym e) (relative_back base uri valid_base valid scheme no_dots)) exact;
      short = ok_more (λ p. p ≡ relative base uri) (LeavesOut base uri) r (λ p e. subst (LeavesOut base uri) (sym e) same.1) exact;
      takes_no_memory = λ one place. c.relativize.ensures.takes_no_memory
          (subst (λ q. AreInOne q c.uri.inside.reference) (sym c.self.view_is) (subst (AreInOne base) (sym c.uri.view_is) one))
          (subst (λ q. IsInPlace q c.uri.inside.reference) (sym c.self.view_is) (subst (IsInPlace base) (sym c.uri.view_is) place));
    }
