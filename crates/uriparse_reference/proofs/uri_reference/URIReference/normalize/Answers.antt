use Rattle.std.proofs.Common.{sym, ◌∙◌}
use Rattle.std.proofs.lemmas.Bool.{false≢true}
use Rattle.std.proofs.lemmas.Result.{on_ok_weaker}
use Rattle.uriparse_reference.proofs.lemmas.normalizing.NormalizingLemmas.{kept_whole, normal_exactly}
use Rattle.uriparse_reference.proofs.lemmas.resolving.EqualTargetLemmas.{one_normal}
use Rattle.uriparse_reference.proofs.uri_reference.URIReference.normalize.Goals as goal

pub returns-then-is_normal-clause-ok : goal.returns-then-is_normal-clause-ok
returns-then-is_normal-clause-ok c =
    let is = c.is_normal.ensures in
    sym (kept_whole c.args.self.now is.valid (sym is.test ∙ c.if-is_normal.true))

pub returns-then-is_normal-clause-equal : goal.returns-then-is_normal-clause-equal
returns-then-is_normal-clause-equal c q v same =
    let is = c.is_normal.ensures in
    sym (kept_whole c.args.self.now is.valid (sym is.test ∙ c.if-is_normal.true)) ∙ one_normal c.args.self.now q is.valid v same

pub returns-clause-ok : goal.returns-clause-ok
returns-clause-ok c = c.put_normal.ensures.ok

pub returns-clause-takes_no_memory : goal.returns-clause-takes_no_memory
returns-clause-takes_no_memory c h =
    let is = c.is_normal.ensures in
    absurd (false≢true (sym c.if-is_normal.false ∙ is.test ∙ (normal_exactly c.args.self.now is.valid).1 h))

pub returns-clause-equal : goal.returns-clause-equal
returns-clause-equal c =
    on_ok_weaker c.put_normal.result (λ e q v same. e ∙ one_normal c.args.self.now q c.is_normal.ensures.valid v same) c.put_normal.ensures.ok

pub returns-clause-canonical_takes_no_memory : goal.returns-clause-canonical_takes_no_memory
returns-clause-canonical_takes_no_memory c = c.put_normal.ensures.takes_no_memory
