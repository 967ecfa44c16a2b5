use Rattle.std.proofs.Common.{◌≡◌, Bor, ℕ, List, [], ◌∷◌, Option, Some, None, length, ap, subst, sym, rules}
use Rattle.std.specs.Prelude.{MatchOption}
use Rattle.std.specs.List.{slice_split}
use Rattle.std.specs.Option.{option_copied}
use Rattle.uriparse_path.specs.Path.{is_slash}
use Rattle.uriparse_path.specs.Text.{pieces_left}
use Rattle.uriparse_path.proofs.lemmas.text.SplitLemmas.{one_piece}
use Rattle.uriparse_reference.proofs.lemmas.writing.RelativePathLemmas.{first_cut}
use Rattle.uriparse_reference.proofs.uri_reference.view.relativize.path.split_directory.Goals as goal

pub returns-in_err-without_delimiter : goal.returns-in_err-without_delimiter
returns-in_err-without_delimiter c =
    let t = c.args.text.now in
    let d = c.split_at_delimiter.result.0.now in
    let none : c.without_delimiter.result ≡ None = search rules in
    let given : c.from_residual.result ≡ None = search rules in
    let only = subst (λ (o : Option (Bor (List ℕ))). slice_split is_slash t ≡ d ∷ pieces_left (option_copied o)) none
    (first_cut t d _ _ c.split_at_delimiter.ensures.front c.split_at_delimiter.ensures.rest c.without_delimiter.ensures) in
    subst (λ (o : Option (Bor (List ℕ) × Bor (List ℕ))). MatchOption o (slice_split is_slash t ≡ t ∷ []) (λ r. slice_split is_slash t ≡ r.0.now ∷ slice_split is_slash r.1.now)) (sym given)
    (one_piece t (ap length only))

pub returns : goal.returns
returns c =
    let t = c.args.text.now in
    let d = c.split_at_delimiter.result.0.now in
    let some : c.without_delimiter.result ≡ Some c.in_ok-without_delimiter.field-0 = search rules in
    subst (λ (o : Option (Bor (List ℕ))). slice_split is_slash t ≡ d ∷ pieces_left (option_copied o)) some
    (first_cut t d _ _ c.split_at_delimiter.ensures.front c.split_at_delimiter.ensures.rest c.without_delimiter.ensures)
