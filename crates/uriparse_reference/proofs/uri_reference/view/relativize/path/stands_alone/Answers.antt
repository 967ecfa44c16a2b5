use Rattle.std.proofs.Common.{◌≡◌, true, not, ◌&&◌, sym, ap, ◌∙◌, rules}
use Rattle.uriparse_path.specs.Path.{is_rooted, unrooted}
use Rattle.uriparse_reference.proofs.lemmas.writing.RelativePathLemmas.{alone_is}
use Rattle.uriparse_reference.proofs.uri_reference.view.relativize.path.stands_alone.Goals as goal

pub returns-then-rooted : goal.returns-then-rooted
returns-then-rooted c =
    let rooted : is_rooted c.args.path.now ≡ true = search rules in
    ap not (c.split_root-twice.ensures.root ∙ ap is_rooted c.split_root-rooted.ensures.rest)
    ∙ sym (ap (λ v. v && not (is_rooted (unrooted c.args.path.now))) rooted)
    ∙ alone_is c.args.path.now
