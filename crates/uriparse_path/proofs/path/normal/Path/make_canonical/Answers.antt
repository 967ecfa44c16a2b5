use Rattle.std.proofs.Common.{◌≡◌, true, sym, ap, ◌∙◌}
use Rattle.std.specs.List.{list_all}
use Rattle.uriparse_path.specs.Normal.{is_canonical}
use Rattle.uriparse_path.proofs.lemmas.normal.RelativeFormLemmas.{all_canonical_same, all_canonical-canonical}
use Rattle.uriparse_path.proofs.path.normal.Path.make_canonical.Goals as goal

pub returns-then-is_known_canonical-clause-ok : goal.returns-then-is_known_canonical-clause-ok
returns-then-is_known_canonical-clause-ok c =
    let all : list_all is_canonical c.args.self.now.segments ≡ true = c.is_known_canonical.ensures c.if-is_known_canonical.true in
    ap (λ l. record { absolute = c.args.self.now.absolute; segments = l }) (sym (all_canonical_same c.args.self.now.segments all))

pub count_canonical-requires : goal.count_canonical-requires
count_canonical-requires c =
    let listed = c.segments-segments.ensures.listed in
    ap (λ q. list_all is_canonical q.segments) c.put_canonical.ensures ∙ all_canonical-canonical c.args.self.now.segments listed.each
