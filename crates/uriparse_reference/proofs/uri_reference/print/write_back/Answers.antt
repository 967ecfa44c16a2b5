use Rattle.std.proofs.Common.{◌≡◌, ◌++◌, refl, ap, ◌∙◌, rules}
use Rattle.std.specs.Option.{option_copied}
use Rattle.std.proofs.Output.{has_written_styled_append, has_written_styled_of_eq}
use Rattle.uriparse_text.specs.Bytes.{question_mark, number_sign}
use Rattle.uriparse_text.specs.Cuts.{following}
use Rattle.uriparse_path.specs.Path.{text}
use Rattle.uriparse_reference.proofs.uri_reference.print.write_back.Goals as goal

pub returns-clause-styled : goal.returns-clause-styled
returns-clause-styled g c flush ok =
    let first = c.in_ok-fmt.ensures.styled flush refl in
    let second = c.in_ok-write_after.ensures.styled first.flush refl in
    let third = c.write_after-2.ensures.styled second.flush ok in
    let query : option_copied c.map.result ≡ c.args.query.now = search rules in
    let fragment : option_copied c.map-2.result ≡ c.args.fragment.now = search rules in
    has_written_styled_of_eq _ _ _ _ _
    (ap (λ q. text c.args.path.now ++ (following question_mark q ++ following number_sign (option_copied c.map-2.result))) query
    ∙ ap (λ f. text c.args.path.now ++ (following question_mark c.args.query.now ++ following number_sign f)) fragment)
    (has_written_styled_append _ _ _ _ _ _ first (has_written_styled_append _ _ _ _ _ _ second third))
