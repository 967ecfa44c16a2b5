use Rattle.std.proofs.Common.{◌≡◌, List, ℕ, sym, ap, ◌∙◌}
use Rattle.std.specs.Prelude.{bytes_eq}
use Rattle.std.specs.Str.{str_to_ascii_lowercase}
use Rattle.std.proofs.lemmas.Bool.Decides.{same_from_decides}
use Rattle.std.proofs.lemmas.Slice.Eq.{bytes_eq-Decides}
use Rattle.uriparse_scheme.specs.Scheme as schemes
use Rattle.uriparse_scheme.proofs.lemmas.schemes.GrammarLemmas.{canonical_low_of_scheme}
use Rattle.uriparse.proofs.uri.disagreement.is_named.Goals as goal

pub returns : goal.returns
returns c =
    let name : List ℕ = c.args.name.now in
    let own : List ℕ = schemes.canonical_text c.args.scheme.now in
    let low : str_to_ascii_lowercase c.as_bytes.result.now ≡ own =
    ap str_to_ascii_lowercase c.as_bytes.ensures.value ∙ sym (canonical_low_of_scheme (schemes.text c.args.scheme.now) c.as_bytes.ensures.grammar) in
    let test = c.eq_ignore_ascii_case.ensures.test in
    same_from_decides c.eq_ignore_ascii_case.result (bytes_eq own name)
    (λ h. sym low ∙ test.0 h ∙ c.requires, λ e. test.1 (low ∙ e ∙ sym c.requires)) (bytes_eq-Decides own name)
