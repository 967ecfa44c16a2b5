-- An upper bound for the length of a reference's text.
use Rattle.std.proofs.Common.{ℕ, ◌+◌, ◌≤◌, List, [], ◌∷◌, length, Option, Some, None, arith}
use Rattle.std.proofs.lemmas.List.{length-append}
use Rattle.std.specs.Prelude.{◌++◌, unwrap_or}
use Rattle.uriparse_text.specs.Bytes.{colon, number_sign, question_mark}
use Rattle.uriparse_text.specs.Cuts.{ahead, following}
use Rattle.uriparse_path.specs.Path.{text}
use Rattle.uriparse_reference.specs.Reference.{Parts, authority_part, after_slashes, print, scheme_part}

length-ahead : (mark : ℕ) (o : Option (List ℕ)) → length (ahead mark o) ≤ 1 + length (unwrap_or o [])
length-ahead mark None = omega arith
length-ahead mark (Some t) = let whole = length-append t (mark ∷ []) in omega arith

length-following : (mark : ℕ) (o : Option (List ℕ)) → length (following mark o) ≤ 1 + length (unwrap_or o [])
length-following mark None = omega arith
length-following mark (Some t) = omega arith

length-slashes : (o : Option (List ℕ)) → length (after_slashes o) ≤ 2 + length (unwrap_or o [])
length-slashes None = omega arith
length-slashes (Some t) = omega arith

pub length-print : (p : Parts)
    → length (print p)
    ≤ 5 + length (unwrap_or (scheme_part p) []) + length (unwrap_or p.query []) + length (unwrap_or p.fragment [])
    + length (unwrap_or (authority_part p) [])
    + length (text p.path)
length-print p =
    let front = ahead colon (scheme_part p) in
    let slashes = after_slashes (authority_part p) in
    let query = following question_mark p.query in
    let fragment = following number_sign p.fragment in
    omega (
      arith,
      length-append front (slashes ++ (text p.path ++ (query ++ fragment))),
      length-append slashes (text p.path ++ (query ++ fragment)),
      length-append (text p.path) (query ++ fragment),
      length-append query fragment,
      length-ahead colon (scheme_part p),
      length-slashes (authority_part p),
      length-following question_mark p.query,
      length-following number_sign p.fragment,
    )
