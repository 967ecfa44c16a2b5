use Rattle.std.proofs.Common.{◌≡◌, sym, subst, rules}
use Rattle.std.specs.Prelude.{string_bytes}
use Rattle.uriparse_reference.specs.Reference.{Spells, print}
use Rattle.uriparse_reference.proofs.lemmas.reading.SpellingLemmas.{back}
use Rattle.uriparse_reference.proofs.uri_reference.URIReference.to_string.Goals as goal

pub returns-clause-back : goal.returns-clause-back
returns-clause-back c r =
    let p = c.args.self.now in
    let printed : string_bytes c.write.new.self ≡ print p = search rules in
    subst (λ t. Spells t p) (sym printed) (back p c.path-path.ensures.valid r)
