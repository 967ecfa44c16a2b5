use Rattle.std.proofs.Common.{◌≡◌, rules}
use Rattle.uriparse_reference.proofs.uri_reference.read.Pieces.to_reference.Goals.{After-to_text-2, in-Some, in-None}
use Rattle.uriparse_reference.proofs.uri_reference.read.Pieces.to_reference.Goals as goal

-- the authority that is put in is the one that was found
kept : (c : After-to_text-2) → c.match-self.result ≡ c.args.self.now.authority
kept c = elim c.match-self.branch [
  | in-Some w ↦ search rules
  | in-None w ↦ search rules
]

pub invariant_of-result : goal.invariant_of-result
invariant_of-result c =
    rw (c.scheme_if.ensures, kept c, c.to_text.ensures, c.to_text-2.ensures) c.requires.valid
