use Rattle.std.proofs.Common.{◌≡◌, ◌<◌, ◌++◌, fold, length, take}
use Rattle.uriparse_text.specs.Canonical.{canonical_in, fed_bytes}
use Rattle.uriparse_text.proofs.internal.canonical.feed_tokens.Given as goal

abbrev pub invariant-tokens : goal.invariant-tokens
invariant-tokens g l =
    (l.len < 64)
    × (fold g.H.Hasher.write l.state (fed_bytes (take l.len l.block ++ canonical_in l.case l.rest))
    ≡ fold g.H.Hasher.write l.initial.state (fed_bytes (canonical_in l.case l.text)))

abbrev pub decreases-tokens : goal.decreases-tokens
decreases-tokens g l = length l.rest
