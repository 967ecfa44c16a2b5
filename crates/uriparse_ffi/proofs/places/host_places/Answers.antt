use Rattle.std.proofs.Common.{length, ap, arith}
use Rattle.uriparse_text.specs.Bytes.{colon}
use Rattle.uriparse_text.specs.Cuts.{following}
use Rattle.uriparse_ffi.specs.declared.span.UriSpan.{UriSpan}
use Rattle.uriparse_ffi.proofs.lemmas.PlaceLemmas.{host_port_size}
use Rattle.uriparse_ffi.proofs.places.host_places.Goals as goal

pub place-host-requires : goal.place-host-requires
place-host-requires c =
    let room = c.requires in
    let host = ap length c.split_port.ensures.host in
    let whole = host_port_size c.args.text.now in
    omega arith

pub offset_after-requires : goal.offset_after-requires
offset_after-requires c =
    let room = c.requires in
    let end = ap (λ (s : UriSpan). s.end) c.place-host.ensures in
    let host = ap length c.split_port.ensures.host in
    let port = ap (λ o. length (following colon o)) c.split_port.ensures.port in
    let whole = host_port_size c.args.text.now in
    omega arith
