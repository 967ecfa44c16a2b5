use Rattle.std.proofs.Common.{ℕ, ◌+◌, ◌≤◌, [], length, inl, subst, arith}
use Rattle.std.specs.Prelude.{unwrap_or}
use Rattle.uriparse_text.proofs.lemmas.readings.SaturatingLemmas.{most_both, most_more, most_of}
use Rattle.uriparse_path.specs.Path.{text}
use Rattle.uriparse_reference.specs.Reference.{Parts, authority_part, print}
use Rattle.uriparse_reference.proofs.lemmas.reading.LengthLemmas.{length-print}
use Rattle.uriparse_reference.proofs.uri_reference.URIReference.most_bytes.Goals as goal

pub returns : goal.returns
returns c =
    let m : ℕ = 18446744073709551615 in
    let p : Parts = record {
      scheme = c.self.inside.scheme;
      authority = c.self.inside.authority;
      path = c.self.inside.path;
      query = c.self.inside.query;
      fragment = c.self.inside.fragment;
    } in
    let given = 5 + c.len_of_scheme.result + c.len_of.result + c.len_of-2.result in
    let authority : ℕ = length (unwrap_or (authority_part p) []) in
    let path : ℕ = length (text p.path) in
    let first = most_more m 5 5 c.len_of_scheme.result c.saturating_add.result (inl (omega arith)) c.saturating_add.ensures in
    let second = most_more m _ _ c.len_of.result c.saturating_add-2.result first c.saturating_add-2.ensures in
    let third = most_more m _ _ c.len_of-2.result c.saturating_add-3.result second c.saturating_add-3.ensures in
    let fourth =
    most_both m given _ authority c.most_of_authority.result c.saturating_add-4.result third c.most_of_authority.ensures c.saturating_add-4.ensures in
    let fifth =
    most_both m (given + authority) _ path c.most_path_bytes.result c.saturating_add-5.result fourth c.most_path_bytes.ensures c.saturating_add-5.ensures in
    let printed : length (print c.args.self.now) ≤ given + authority + path =
    subst (λ r. length (print r) ≤ given + authority + path) c.self.view_is
    (omega (arith, length-print p, c.len_of_scheme.ensures, c.len_of.ensures, c.len_of-2.ensures)) in
    most_of m (length (print c.args.self.now)) (given + authority + path) c.saturating_add-5.result printed fifth
