use Rattle.std.proofs.Common.{arith}
use Rattle.std.proofs.lemmas.Bool.{false≢true}
use Rattle.uriparse_text.specs.Canonical.{canonical_lowered}
use Rattle.uriparse_authority.proofs.lemmas.hosts.NameWithinLemmas.{ends_by, too_many}
use Rattle.uriparse_authority.proofs.authority.within.ends_with_labels.Goals as goal

pub returns-in-Some : goal.returns-in-Some
returns-in-Some c =
    let by = ends_by (canonical_lowered c.args.name.now) (canonical_lowered c.args.domain.now) (canonical_lowered c.skip_labels.result.now) c.in-Some.more
    (omega (arith, c.dot_count.ensures, c.dot_count-2.ensures, c.in-Some.ensures)) c.skip_labels.ensures.left in (
      λ h. by.0 (c.same_spelling.ensures.0 h).same,
      λ h. c.same_spelling.ensures.1 (record { formed = c.skip_labels.ensures.formed; same = by.1 h }),
    )

pub returns-in-None : goal.returns-in-None
returns-in-None c = (
  λ h. absurd (false≢true h),
  λ (front, cut). absurd (too_many (canonical_lowered c.args.name.now) (canonical_lowered c.args.domain.now)
      (omega (arith, c.dot_count.ensures, c.dot_count-2.ensures, c.in-None.ensures)) front cut),
)
