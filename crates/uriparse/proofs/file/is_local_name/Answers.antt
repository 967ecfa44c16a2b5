use Rattle.std.proofs.Common.{◌≡◌, [], true, false, sym, ap, ◌∙◌}
use Rattle.std.specs.Prelude.{◌||◌, bytes_eq, codes}
use Rattle.uriparse_text.specs.Canonical.{canonical_lowered}
use Rattle.uriparse.proofs.lemmas.FileLemmas.{empty_formed, localhost_formed, name_means}
use Rattle.uriparse.proofs.file.is_local_name.Goals as goal

pub returns-then-eq_str : goal.returns-then-eq_str
returns-then-eq_str c =
    let name = canonical_lowered c.args.name.now in
    let empty : bytes_eq name [] ≡ true = sym (name_means [] c.args.name.now c.eq_str.result empty_formed.0 empty_formed.1 c.eq_str.ensures) ∙ c.if-eq_str.true in
    c.if-eq_str.true ∙ ap (λ b. b || bytes_eq name (codes "localhost")) (sym empty)

pub returns-else-eq_str : goal.returns-else-eq_str
returns-else-eq_str c =
    let name = canonical_lowered c.args.name.now in
    let empty : bytes_eq name [] ≡ false = sym (name_means [] c.args.name.now c.eq_str.result empty_formed.0 empty_formed.1 c.eq_str.ensures) ∙ c.if-eq_str.false in
    name_means (codes "localhost") c.args.name.now c.eq_str-else-eq_str.result localhost_formed.0 localhost_formed.1 c.eq_str-else-eq_str.ensures
    ∙ ap (λ b. b || bytes_eq name (codes "localhost")) (sym empty)
