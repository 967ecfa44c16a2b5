use Rattle.std.proofs.Common.{◌≡◌, ◌+◌, ◌-◌, [], length, ap, subst, ◌∙◌, arith, rules}
use Rattle.std.specs.Option.{option_copied}
use Rattle.std.specs.Prelude.{unwrap_or}
use Rattle.uriparse_text.specs.Bytes.{colon, question_mark}
use Rattle.uriparse_text.specs.Cuts.{ahead, following}
use Rattle.uriparse_reference.specs.Reference.{after_slashes}
use Rattle.uriparse_reference.specs.Cuts.{scheme_text, authority_text, path_text, query_text}
use Rattle.uriparse_ffi.specs.Spans.{span}
use Rattle.uriparse_ffi.specs.Places.{AreInAuthority}
use Rattle.uriparse_ffi.proofs.lemmas.PlaceLemmas.{between, sizes_of, slashes_size, span_is}
use Rattle.uriparse_ffi.proofs.places.spans.Goals as goal

pub overflow_sub-path_end : goal.overflow_sub-path_end
overflow_sub-path_end c =
    let sizes = sizes_of c.args.text.now c.args.path.now _ _ _ _ _ _ c.requires.scheme c.requires.path c.requires.query c.requires.fragment
    c.delimited_len-begin.ensures c.delimited_len-query_len.ensures c.delimited_len.ensures in
    let whole = sizes.whole in
    omega arith

pub overflow_sub-path_end-2 : goal.overflow_sub-path_end-2
overflow_sub-path_end-2 c =
    let sizes = sizes_of c.args.text.now c.args.path.now _ _ _ _ _ _ c.requires.scheme c.requires.path c.requires.query c.requires.fragment
    c.delimited_len-begin.ensures c.delimited_len-query_len.ensures c.delimited_len.ensures in
    let whole = sizes.whole in
    omega arith

pub overflow_sub-path_begin : goal.overflow_sub-path_begin
overflow_sub-path_begin c =
    let sizes = sizes_of c.args.text.now c.args.path.now _ _ _ _ _ _ c.requires.scheme c.requires.path c.requires.query c.requires.fragment
    c.delimited_len-begin.ensures c.delimited_len-query_len.ensures c.delimited_len.ensures in
    let whole = sizes.whole in
    omega arith

pub slice_bounds-authority_in-count : goal.slice_bounds-authority_in-count
slice_bounds-authority_in-count c =
    let sizes = sizes_of c.args.text.now c.args.path.now _ _ _ _ _ _ c.requires.scheme c.requires.path c.requires.query c.requires.fragment
    c.delimited_len-begin.ensures c.delimited_len-query_len.ensures c.delimited_len.ensures in
    let whole = sizes.whole in
    omega arith

pub slice_bounds-authority_in-start : goal.slice_bounds-authority_in-start
slice_bounds-authority_in-start c =
    let sizes = sizes_of c.args.text.now c.args.path.now _ _ _ _ _ _ c.requires.scheme c.requires.path c.requires.query c.requires.fragment
    c.delimited_len-begin.ensures c.delimited_len-query_len.ensures c.delimited_len.ensures in
    let whole = sizes.whole in
    omega arith

pub places_in-inner-requires : goal.places_in-inner-requires
places_in-inner-requires c =
    let t = c.args.text.now in
    let sizes = sizes_of c.args.text.now c.args.path.now _ _ _ _ _ _ c.requires.scheme c.requires.path c.requires.query c.requires.fragment
    c.delimited_len-begin.ensures c.delimited_len-query_len.ensures c.delimited_len.ensures in
    let whole = sizes.whole in
    let authority = c.authority_in-authority.ensures (authority_text t) (between t _ _ _ _ sizes) in
    let same = ap (λ o. length (unwrap_or o [])) authority in
    let size = slashes_size (authority_text t) in
    let room = c.delimited_len.ensures in
    search rules

pub place-requires-2 : goal.place-requires-2
place-requires-2 c =
    let t = c.args.text.now in
    let sizes = sizes_of c.args.text.now c.args.path.now _ _ _ _ _ _ c.requires.scheme c.requires.path c.requires.query c.requires.fragment
    c.delimited_len-begin.ensures c.delimited_len-query_len.ensures c.delimited_len.ensures in
    let whole = sizes.whole in
    let authority = c.authority_in-authority.ensures (authority_text t) (between t _ _ _ _ sizes) in
    let same = ap (λ o. length (unwrap_or o [])) authority in
    let size = slashes_size (authority_text t) in
    let room = c.delimited_len.ensures in
    search rules

pub offset_after-requires-2 : goal.offset_after-requires-2
offset_after-requires-2 c =
    let sizes = sizes_of c.args.text.now c.args.path.now _ _ _ _ _ _ c.requires.scheme c.requires.path c.requires.query c.requires.fragment
    c.delimited_len-begin.ensures c.delimited_len-query_len.ensures c.delimited_len.ensures in
    let whole = sizes.whole in
    let room = c.delimited_len.ensures in
    search rules

pub returns : goal.returns
returns c =
    let t = c.args.text.now in
    let sizes = sizes_of c.args.text.now c.args.path.now _ _ _ _ _ _ c.requires.scheme c.requires.path c.requires.query c.requires.fragment
    c.delimited_len-begin.ensures c.delimited_len-query_len.ensures c.delimited_len.ensures in
    let whole = sizes.whole in
    let path = sizes.path in
    let begin = sizes.scheme in
    let s = length (ahead colon (scheme_text t)) in
    let end = length t - c.delimited_len.result - c.delimited_len-query_len.result in
    let at = end - length c.args.path.now in
    let authority = c.authority_in-authority.ensures (authority_text t) (between t _ _ _ _ sizes) in
    let path_end : end ≡ s + length (after_slashes (authority_text t)) + length (path_text t) = omega arith in
    let path_at : at ≡ s + length (after_slashes (authority_text t)) = omega arith in
    record {
      scheme = c.place.ensures ∙ ap (span 0) c.requires.scheme;
      authority = c.place-2.ensures ∙ ap (λ n. span (n + 2) (option_copied c.authority_in-authority.result)) begin ∙ ap (span (s + 2)) authority;
      path = span_is at (s + length (after_slashes (authority_text t))) end (path_text t) path_at path_end;
      query = c.offset_after.ensures ∙ ap (span (end + 1)) c.requires.query;
      fragment = c.offset_after-2.ensures ∙ ap (λ n. span (end + n + 1) (option_copied c.args.fragment)) sizes.query
          ∙ ap (span (end + length (following question_mark (query_text t)) + 1)) c.requires.fragment;
      inner = subst (λ o. AreInAuthority (s + 2) o c.places_in-inner.result) authority
          (subst (λ n. AreInAuthority (n + 2) (option_copied c.authority_in-authority.result) c.places_in-inner.result) begin c.places_in-inner.ensures);
    }
