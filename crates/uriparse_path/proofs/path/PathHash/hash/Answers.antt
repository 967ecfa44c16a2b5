use Rattle.std.proofs.Common.{sym}
use Rattle.uriparse_path.specs.Path.{text}
use Rattle.uriparse_path.proofs.lemmas.text.HashLemmas.{feeds_path}
use Rattle.uriparse_path.proofs.path.PathHash.hash.Goals as goal

pub returns : goal.returns
returns g c =
    let t = text c.args.self.now in
    let front = c.split_front.result.0.now in
    let following = c.split_front.result.1.now in
    let split = c.split_front.ensures in
    rw (c.write_u8.ensures, c.feed_pieces.ensures, c.feed_piece.ensures, c.as_bytes.ensures.value)
    (sym (feeds_path g.H.Hasher.write c.args.state.now t front following split.text split.front split.following))
