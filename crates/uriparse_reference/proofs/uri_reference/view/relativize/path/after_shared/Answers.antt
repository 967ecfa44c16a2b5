use Rattle.std.proofs.Common.{◌≡◌, true, length, ap, ◌∙◌, arith, rules}
use Rattle.std.specs.Prelude.{bytes_eq}
use Rattle.uriparse_reference.proofs.lemmas.writing.RelativePathLemmas.{below_both, directories_more, in_shared}
use Rattle.uriparse_reference.proofs.uri_reference.view.relativize.path.after_shared.Goals as goal

pub returns-then-eq-clause-apart : goal.returns-then-eq-clause-apart
returns-then-eq-clause-apart c =
    let same : bytes_eq c.in_ok-directory.directory.now c.in_ok-own.own.now ≡ true = search rules in
    in_shared c.args.base.now c.args.target.now c.in_ok-directory.directory.now c.in_ok-own.own.now c.in_ok-directory.left.now c.in_ok-own.rest.now
    (search rules) (search rules) same

pub returns-then-eq-clause-fewer : goal.returns-then-eq-clause-fewer
returns-then-eq-clause-fewer c =
    let more = ap length (directories_more c.args.base.now c.in_ok-directory.directory.now c.in_ok-directory.left.now (search rules)) in
    omega (arith, more)

pub returns-then-eq-clause-below : goal.returns-then-eq-clause-below
returns-then-eq-clause-below c some =
    let same : bytes_eq c.in_ok-directory.directory.now c.in_ok-own.own.now ≡ true = search rules in
    below_both c.args.base.now c.args.target.now c.in_ok-directory.directory.now c.in_ok-own.own.now c.in_ok-directory.left.now c.in_ok-own.rest.now
    (search rules) (search rules) ∙ same
