use Rattle.std.proofs.Common.{Bor, Option, ℕ, List, [], length, ap, ◌∙◌, arith}
use Rattle.std.specs.Prelude.{unwrap_or}
use Rattle.std.specs.Option.{option_copied}
use Rattle.uriparse_text.specs.Bytes.{colon}
use Rattle.uriparse_text.specs.Cuts.{following, part}
use Rattle.uriparse_ffi.specs.declared.span.UriSpan.{UriSpan}
use Rattle.uriparse_ffi.proofs.lemmas.PlaceLemmas.{user_size}
use Rattle.uriparse_ffi.proofs.places.user_places.Goals as goal

pub place-username-requires : goal.place-username-requires
place-username-requires c =
    let room = c.requires in
    let there = ap (λ (o : Option (Bor (List ℕ))). length (unwrap_or (option_copied o) [])) c.in-Some.is in
    let user = ap length c.split_at_delimiter.ensures.front in
    let whole = user_size c.in-Some.text.now in
    omega arith

pub offset_after-requires : goal.offset_after-requires
offset_after-requires c =
    let room = c.requires in
    let there = ap (λ (o : Option (Bor (List ℕ))). length (unwrap_or (option_copied o) [])) c.in-Some.is in
    let end = ap (λ (s : UriSpan). s.end) c.place-username.ensures in
    let user = ap length c.split_at_delimiter.ensures.front in
    let password = ap (λ o. length (following colon o)) (c.without_delimiter.ensures ∙ ap part c.split_at_delimiter.ensures.rest) in
    let whole = user_size c.in-Some.text.now in
    omega arith
