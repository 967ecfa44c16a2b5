use Rattle.std.proofs.Common.{◌≡◌, ◌++◌, ◌∙◌, length, sym, ap, subst, arith}
use Rattle.std.specs.List.{slice_split}
use Rattle.uriparse_text.specs.Ends.{EndsWith}
use Rattle.uriparse_text.specs.declared.internal.backward_buffer.Form.TheVariants.{Canonical}
use Rattle.uriparse_path.specs.Path.{is_slash, max_segments, pieces}
use Rattle.uriparse_path.specs.Relative.{has_colon, is_first}
use Rattle.uriparse_path.specs.Remaining.{remaining_of, nothing, relative_text}
use Rattle.uriparse_path.proofs.lemmas.text.TextWalkLemmas.{pieces_of_path}
use Rattle.uriparse_path.proofs.lemmas.normal.TextNormalLemmas.{first_colon-pieces}
use Rattle.uriparse_path.proofs.lemmas.left.UndottedLemmas.{pieces_relative}
use Rattle.uriparse_path.proofs.lemmas.left.RelativeRemainingLemmas.{relative_left}
use Rattle.uriparse_path.proofs.path.text.write.prepend_relative.Goals as goal

pub process-state-requires-clause-few : goal.process-state-requires-clause-few
unfolding max_segments
process-state-requires-clause-few c =
    let short = c.requires.path.short in
    let here : length (pieces c.args.text.now) ≡ length (slice_split is_slash c.args.text.now) =
    ap length (pieces_relative c.args.text.now c.requires.relative) in
    let none = c.none.ensures.double_dots in
    omega arith

pub returns-clause-puts : goal.returns-clause-puts
returns-clause-puts c = λ t h.
    let ss = slice_split is_slash c.args.text.now in
    let ended = c.ends_in_dots-ended.result in
    let end = c.prepend_relative_prefix.ensures.puts ended (remaining_of ss) t (c.process-state.ensures.is nothing t (c.none.ensures.is Canonical ended c.args.out.now t h)) in
    let colon : c.has_colon.result ≡ is_first has_colon ss =
    c.has_colon.ensures ∙ ap has_colon c.split_at_delimiter.ensures.front ∙ sym (first_colon-pieces c.args.text.now) in
    subst (λ x. EndsWith c.prepend_relative_prefix.new.out c.prepend_relative_prefix.result (x ++ t))
    (ap (λ v. relative_text v ended (remaining_of ss)) colon
    ∙ ap (λ v. relative_text (is_first has_colon ss) v (remaining_of ss)) c.ends_in_dots-ended.ensures
    ∙ relative_left ss (pieces_of_path c.args.text.now c.requires.path))
    end
