use Rattle.std.proofs.Common.{◌≡◌}
use Rattle.std.specs.Prelude.{bytes_eq}
use Rattle.std.proofs.lemmas.Bool.Decides.{same_from_decides}
use Rattle.std.proofs.lemmas.Slice.Eq.{bytes_eq-Decides}
use Rattle.uriparse_text.specs.Canonical.{canonical}
use Rattle.uriparse_path.proofs.lemmas.text.TextWalkLemmas.{formed_path}
use Rattle.uriparse_path.proofs.path.text.are_path_texts_alike.Goals as goal

pub same_spelling-requires : goal.same_spelling-requires
same_spelling-requires c = formed_path c.args.right.now c.requires.right

pub returns : goal.returns
returns c =
    let left = c.args.left.now in
    let right = c.args.right.now in
    let told = c.same_spelling.ensures in
    same_from_decides {P = canonical left ≡ canonical right} c.same_spelling.result (bytes_eq (canonical left) (canonical right))
    ((λ h. (told.0 h).same), λ e. told.1 (record { formed = formed_path left c.requires.left; same = e }))
    (bytes_eq-Decides (canonical left) (canonical right))
