use Rattle.std.proofs.Common.{◌≡◌, true, rules}
use Rattle.std.specs.Prelude.{is_none}
use Rattle.uriparse_authority.proofs.lemmas.authorities.NamedLemmas.{named_if}
use Rattle.uriparse_authority.proofs.authority.scanned.ScannedAuthority.name_words.Goals as goal

pub returns-then-is_none : goal.returns-then-is_none
returns-then-is_none c =
    let none : is_none c.args.self.now.username ≡ true = search rules in
    named_if c.args.self.now c.name_words.result none (search rules)
