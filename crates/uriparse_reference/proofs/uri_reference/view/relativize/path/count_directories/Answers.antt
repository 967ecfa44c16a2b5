use Rattle.std.proofs.Common.{length, ap, arith, rules}
use Rattle.uriparse_reference.proofs.lemmas.writing.RelativePathLemmas.{directories_more, directories_within}
use Rattle.uriparse_reference.proofs.uri_reference.view.relativize.path.count_directories.Goals as goal

pub overflow_add-count : goal.overflow_add-count
overflow_add-count c =
    let more = ap length (directories_more c.directories.left.now c.in-Some.field-0-0.now c.in-Some.following.now (search rules)) in
    let all = c.directories.invariant in
    let within = directories_within c.args.text.now in
    omega (arith, more, all, within)

pub directories-smaller : goal.directories-smaller
directories-smaller c =
    let more = ap length (directories_more c.directories.left.now c.in-Some.field-0-0.now c.in-Some.following.now (search rules)) in
    omega (arith, more)

pub directories-preserved : goal.directories-preserved
directories-preserved c =
    let more = ap length (directories_more c.directories.left.now c.in-Some.field-0-0.now c.in-Some.following.now (search rules)) in
    let all = c.directories.invariant in
    omega (arith, more, all)
