use Rattle.std.proofs.Common.{◌≡◌, true, Some, None, cond, inl, ap, rules}
use Rattle.std.specs.List.{list_any}
use Rattle.uriparse_text.specs.Coding.{decoded}
use Rattle.uriparse_path.specs.Path.{is_slash}
use Rattle.uriparse.specs.declared.file.error.FileError.TheVariants as errors
use Rattle.uriparse.specs.File.{is_nul}
use Rattle.uriparse.proofs.file.push_name.Goals as goal

pub returns-then-contains-clause-fault : goal.returns-then-contains-clause-fault
returns-then-contains-clause-fault c =
    let name = decoded c.args.segment.now in
    let has : list_any is_slash name ≡ true = search rules in
    inl (ap (λ v. cond v (Some errors.EscapedSlash) (cond (list_any is_nul name) (Some errors.ContainsNul) None)) has)
