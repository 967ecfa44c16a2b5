use Rattle.std.proofs.Common.{◌≡◌, Ok, refl, sym, subst, ◌∙◌}
use Rattle.std.specs.Prelude.{IsOk}
use Rattle.uriparse.specs.File as spec
use Rattle.uriparse.specs.File.{no_host}
use Rattle.uriparse.proofs.lemmas.FileLemmas.{empty_authority, local_built}
use Rattle.uriparse.proofs.file.local_uri.Goals as goal

pub unwrap-authority-requires : goal.unwrap-authority-requires
unwrap-authority-requires c = subst IsOk (sym (c.try_from_bytes.ensures ∙ empty_authority)) refl

pub returns : goal.returns
returns c =
    let read : Ok c.unwrap-authority.result ≡ Ok no_host = sym c.unwrap-authority.ensures ∙ c.try_from_bytes.ensures ∙ empty_authority in
    let none : c.unwrap-authority.result ≡ no_host = cc in
    let built : Ok c.unwrap.result ≡ Ok (spec.local_uri c.args.path.segments) =
    sym c.unwrap.ensures ∙ c.from_parts.ensures ∙ local_built c.unwrap-authority.result c.args.path none in
    cc
