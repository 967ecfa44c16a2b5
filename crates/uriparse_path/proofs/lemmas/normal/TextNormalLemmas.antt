-- What the first piece of a path's text is.
use Rattle.std.proofs.Common.{◌≡◌, ℕ, List, ap}
use Rattle.std.specs.List.{slice_split}
use Rattle.uriparse_text.specs.Cuts.{up_to}
use Rattle.uriparse_path.specs.Path.{is_slash}
use Rattle.uriparse_path.specs.Relative.{has_colon, is_first}
use Rattle.uriparse_path.proofs.lemmas.text.TextWalkLemmas.{pieces_cut}

pub first_colon-pieces : (t : List ℕ) → is_first has_colon (slice_split is_slash t) ≡ has_colon (up_to is_slash t)
first_colon-pieces t = ap (is_first has_colon) (pieces_cut t)
