use Rattle.std.proofs.Common.{take}
use Rattle.examples.specs.Links.{AreLinks}
use Rattle.examples.proofs.links.make_relative.Given as goal

abbrev pub invariant-loop-uri : goal.invariant-loop-uri
invariant-loop-uri l = AreLinks l.base (take l.uri-index l.uris) l.links.items
