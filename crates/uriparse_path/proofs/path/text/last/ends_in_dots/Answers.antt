use Rattle.std.proofs.Common.{◌≡◌, sym, ap, subst, ◌∙◌, drop, length, nat_eq}
use Rattle.std.specs.List.{slice_split}
use Rattle.std.proofs.lemmas.List.{take_rest}
use Rattle.uriparse_text.specs.Cuts.{from_first}
use Rattle.uriparse_path.specs.Path.{is_slash}
use Rattle.uriparse_path.specs.Last.{IsLast, IsLastDots}
use Rattle.uriparse_path.proofs.lemmas.text.LastLemmas.{ends_at, last_undotted}
use Rattle.uriparse_path.proofs.path.text.last.ends_in_dots.Goals as goal

pub returns-in-Some : goal.returns-in-Some
returns-in-Some c =
    let t = c.args.text.now in
    let at = c.in-Some.at in
    let is : IsLastDots at t = subst (λ o. IsLast o t) c.in-Some.is c.requires in
    let following : c.split_at_delimiter.result.1.now ≡ from_first is_slash (drop at t) =
    c.split_at_delimiter.ensures.rest ∙ ap (from_first is_slash) (take_rest t at) in
    c.is_empty.ensures ∙ ap (λ u. nat_eq (length u) 0) following ∙ ends_at t at is

pub returns-in-None : goal.returns-in-None
returns-in-None c = sym (last_undotted (slice_split is_slash c.args.text.now) (subst (λ o. IsLast o c.args.text.now) c.in-None.is c.requires))
