use Rattle.std.proofs.Common.{◌≡◌, ◌<◌, fold, length, sym, ap, subst, ◌∙◌}
use Rattle.std.specs.List.{slice_split}
use Rattle.std.specs.Option.{option_copied}
use Rattle.uriparse_text.specs.Cuts.{part}
use Rattle.uriparse_path.specs.Path.{is_slash}
use Rattle.uriparse_path.specs.Text.{pieces_left}
use Rattle.uriparse_path.proofs.lemmas.text.TextWalkLemmas.{fed_each, fed_more, fed_whole, fewer_left}
use Rattle.uriparse_path.proofs.path.text.feed_path_text.Goals as goal

pub pieces-smaller : goal.pieces-smaller
pieces-smaller g c =
    let following = c.without_delimiter-left.ensures ∙ ap part c.split_at_delimiter.ensures.rest in
    subst (λ o. length (pieces_left (option_copied c.without_delimiter-left.result)) < length (pieces_left (option_copied o))) (sym c.in-Some.is)
    (fewer_left c.in-Some.rest.now (option_copied c.without_delimiter-left.result) following)

pub pieces-preserved : goal.pieces-preserved
pieces-preserved g c =
    let following = c.without_delimiter-left.ensures ∙ ap part c.split_at_delimiter.ensures.rest in
    fed_more g.H.Hasher.write c.pieces.state c.feed_piece.new.state c.in-Some.rest.now c.split_at_delimiter.result.0.now
    (option_copied c.without_delimiter-left.result) c.split_at_delimiter.ensures.front following c.feed_piece.ensures
    ∙ ap (λ o. fold g.H.Hasher.write c.pieces.state (fed_each (pieces_left (option_copied o)))) (sym c.in-Some.is)
    ∙ c.pieces.invariant

pub returns : goal.returns
returns g c =
    let all : c.pieces.state ≡ fold g.H.Hasher.write c.args.state.now (fed_each (slice_split is_slash c.args.text.now)) =
    ap (λ o. fold g.H.Hasher.write c.pieces.state (fed_each (pieces_left (option_copied o)))) (sym c.in_default.is) ∙ c.pieces.invariant in
    rw c.write_u8.ensures (fed_whole g.H.Hasher.write c.args.state.now c.pieces.state c.args.text.now c.requires all)
