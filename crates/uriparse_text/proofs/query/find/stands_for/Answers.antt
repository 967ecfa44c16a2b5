use Rattle.std.proofs.Common.{◌≡◌, false, rules}
use Rattle.uriparse_text.proofs.lemmas.readings.NamedLemmas.{plain_stands}
use Rattle.uriparse_text.proofs.query.find.stands_for.Goals as goal

pub returns-else-ends_with : goal.returns-else-ends_with
returns-else-ends_with c =
    let no : c.ends_with.result ≡ false = search rules in
    plain_stands c.args.pattern.now c.args.name.now _ _ _ c.ends_with.ensures.value no c.compare_represented.ensures c.is_eq.ensures
