use Rattle.std.proofs.Common.{◌≡◌, ℕ, List, sym, ap, subst, ◌∙◌}
use Rattle.uriparse_text.specs.declared.internal.class.Class.{Class}
use Rattle.uriparse_text.specs.Faults.{IsIn}
use Rattle.uriparse_text.specs.Canonical.{canonical_in}
use Rattle.uriparse_text.specs.Coding.{decoded, encoded}
use Rattle.uriparse_text.specs.Spelling.{spelled}
use Rattle.uriparse_text.proofs.lemmas.classes.ClassLemmas.{IsUtf8-in_class}
use Rattle.uriparse_text.proofs.lemmas.tokens.CodingLemmas.{IsIn-encoded, decoded-encoded, canonical-encoded}
use Rattle.uriparse_text.proofs.internal.text.Text.encode.Goals as goal

-- what was written is what is written in the kind's class
as_written : (class other : Class) (bytes items : List ℕ) → other ≡ class → items ≡ encoded other bytes → items ≡ encoded class bytes
as_written class other bytes items same is = is ∙ ap (λ c. encoded c bytes) same

pub from_utf8_unchecked-requires : goal.from_utf8_unchecked-requires
from_utf8_unchecked-requires g c =
    IsUtf8-in_class g.K.TextKind.class c.in_ok-text.text.items
    (subst (λ t. IsIn g.K.TextKind.class t)
    (sym (as_written g.K.TextKind.class c.class.result c.args.bytes.now c.in_ok-text.text.items c.class.ensures c.in_ok-text.ensures.text))
    (IsIn-encoded g.K.TextKind.class c.args.bytes.now c.in_ok-text.ensures.bytes))

pub invariant_of-result : goal.invariant_of-result
invariant_of-result g c =
    let is : spelled c.owned.result ≡ encoded g.K.TextKind.class c.args.bytes.now =
    c.owned.ensures.text ∙ ap (λ v. v.items) c.from_utf8_unchecked.ensures.value
    ∙ as_written g.K.TextKind.class c.class.result c.args.bytes.now c.in_ok-text.text.items c.class.ensures c.in_ok-text.ensures.text in
    record {
      inside = subst (IsIn g.K.TextKind.class) (sym is) (IsIn-encoded g.K.TextKind.class c.args.bytes.now c.in_ok-text.ensures.bytes);
      canonical = λ _. subst (λ u. canonical_in g.K.TextKind.case u ≡ u) (sym is)
          (canonical-encoded g.K.TextKind.case g.K.TextKind.class c.args.bytes.now c.requires c.in_ok-text.ensures.bytes);
    }

pub returns-clause-text : goal.returns-clause-text
returns-clause-text g c =
    c.owned.ensures.text ∙ ap (λ v. v.items) c.from_utf8_unchecked.ensures.value
    ∙ as_written g.K.TextKind.class c.class.result c.args.bytes.now c.in_ok-text.text.items c.class.ensures c.in_ok-text.ensures.text

pub returns-clause-back : goal.returns-clause-back
returns-clause-back g c =
    ap decoded (c.owned.ensures.text ∙ ap (λ v. v.items) c.from_utf8_unchecked.ensures.value
    ∙ as_written g.K.TextKind.class c.class.result c.args.bytes.now c.in_ok-text.text.items c.class.ensures c.in_ok-text.ensures.text)
    ∙ decoded-encoded g.K.TextKind.class c.args.bytes.now c.in_ok-text.ensures.bytes

pub returns-clause-canonical : goal.returns-clause-canonical
returns-clause-canonical g c =
    subst (λ u. canonical_in g.K.TextKind.case u ≡ u) (sym (c.owned.ensures.text ∙ ap (λ v. v.items) c.from_utf8_unchecked.ensures.value
    ∙ as_written g.K.TextKind.class c.class.result c.args.bytes.now c.in_ok-text.text.items c.class.ensures c.in_ok-text.ensures.text))
    (canonical-encoded g.K.TextKind.case g.K.TextKind.class c.args.bytes.now c.requires c.in_ok-text.ensures.bytes)
