use Rattle.std.proofs.Common.{◌≡◌, fold, length}
use Rattle.std.specs.List.{slice_split}
use Rattle.std.specs.Option.{option_copied}
use Rattle.uriparse_path.specs.Path.{is_slash}
use Rattle.uriparse_path.specs.Text.{pieces_left}
use Rattle.uriparse_path.proofs.lemmas.text.TextWalkLemmas.{fed_each}
use Rattle.uriparse_path.proofs.path.text.feed_path_text.Given as goal

abbrev pub invariant-pieces : goal.invariant-pieces
invariant-pieces g l =
    fold g.H.Hasher.write l.state (fed_each (pieces_left (option_copied l.left)))
    ≡ fold g.H.Hasher.write l.initial.state (fed_each (slice_split is_slash l.text))

abbrev pub decreases-pieces : goal.decreases-pieces
decreases-pieces g l = length (pieces_left (option_copied l.left))
