use Rattle.std.proofs.Common.{◌≡◌, ℕ, List, sym, ap, subst, ◌∙◌}
use Rattle.uriparse_text.specs.declared.internal.class.Class.{Class}
use Rattle.uriparse_text.specs.declared.internal.token.Case.{Case}
use Rattle.uriparse_text.specs.Faults.{IsIn}
use Rattle.uriparse_text.specs.Canonical.{canonical_in}
use Rattle.uriparse_text.specs.Spelling.{spelled}
use Rattle.uriparse_text.proofs.lemmas.canonical.CanonicalLemmas.{canonical_in-canonical_in}
use Rattle.uriparse_text.proofs.lemmas.classes.ClassLemmas.{IsUtf8-in_class, IsIn-canonical_in}
use Rattle.uriparse_text.proofs.internal.text.normalized_text.Goals as goal

spelled_in : (class : Class) (case : Case) (text bytes spelled : List ℕ) → bytes ≡ text → IsIn class text → spelled ≡ canonical_in case bytes →
    IsIn class spelled
spelled_in class case text bytes spelled e is f = subst (λ u. IsIn class u) (sym (f ∙ ap (canonical_in case) e)) (IsIn-canonical_in class case text is)

pub from_utf8_unchecked-requires : goal.from_utf8_unchecked-requires
from_utf8_unchecked-requires g c =
    IsUtf8-in_class g.K.TextKind.class c.in_ok-bytes.bytes.items
    (spelled_in g.K.TextKind.class c.case.result c.args.text.now c.as_bytes.result.now c.in_ok-bytes.bytes.items c.as_bytes.ensures.value
    c.as_bytes.ensures.class c.in_ok-bytes.ensures)

pub invariant_of-result : goal.invariant_of-result
invariant_of-result g c =
    let case = g.K.TextKind.case in
    let text = c.args.text.now in
    let same : spelled c.owned.result ≡ c.in_ok-bytes.bytes.items =
    c.owned.ensures.text ∙ ap (λ v. v.items) c.from_utf8_unchecked.ensures.value in
    let is : c.in_ok-bytes.bytes.items ≡ canonical_in case text =
    c.in_ok-bytes.ensures ∙ ap (canonical_in c.case.result) c.as_bytes.ensures.value ∙ ap (λ k. canonical_in k text) c.case.ensures in
    record {
      inside = subst (IsIn g.K.TextKind.class) (sym (same ∙ is)) (IsIn-canonical_in g.K.TextKind.class case text c.as_bytes.ensures.class);
      canonical = λ _. subst (λ u. canonical_in case u ≡ u) (sym (same ∙ is)) (canonical_in-canonical_in case text c.as_bytes.ensures.formed);
    }
