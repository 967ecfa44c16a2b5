use Rattle.std.proofs.Common.{◌≡◌, true, length, bytes_eq, get_or, [], ap, sym, ◌∙◌, arith, rules}
use Rattle.std.proofs.lemmas.List.{get_or_read}
use Rattle.uriparse_path.proofs.lemmas.merge.LeadingPathLemmas.{same_more}
use Rattle.uriparse_path.proofs.path.relate.are_same.Goals as goal

pub segments-preserved : goal.segments-preserved
segments-preserved c =
    let long : length c.args.left.now ≡ length c.args.right.now = omega arith in
    let at = c.segments.at in
    let one : c.index-left-at.result ≡ get_or c.args.left.now at [] = get_or_read c.args.left.now _ _ (omega arith) c.index-left-at.is [] in
    let other : c.index-right-at.result ≡ get_or c.args.right.now at [] = get_or_read c.args.right.now _ _ (omega arith) c.index-right-at.is [] in
    let tested : bytes_eq c.index-left-at.result c.index-right-at.result ≡ true = search rules in
    let same : bytes_eq (get_or c.args.left.now at []) (get_or c.args.right.now at []) ≡ true =
    sym (ap (λ s. bytes_eq s c.index-right-at.result) one ∙ ap (bytes_eq (get_or c.args.left.now at [])) other) ∙ tested in
    (same_more c.args.left.now c.args.right.now c.segments.at long (omega arith) c.segments.invariant.0 same, omega arith)
