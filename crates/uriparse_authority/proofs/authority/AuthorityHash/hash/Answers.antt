use Rattle.std.proofs.Common.{◌≡◌, subst, fold}
use Rattle.uriparse_authority.specs.Authority.{key, fed, fed_key}
use Rattle.uriparse_authority.proofs.lemmas.authorities.AuthorityLemmas.{fed_by_turns, feeds_key}
use Rattle.uriparse_authority.proofs.authority.AuthorityHash.hash.Goals as goal

pub returns-clause-fed : goal.returns-clause-fed
returns-clause-fed g c =
    let write = g.H.Hasher.write in
    let state = c.args.state.now in
    let inside = c.self.inside in
    subst (λ p. c.hash-4.new.state ≡ fold write state (fed p)) c.self.view_is
    (fed_by_turns write state c.hash.new.state c.hash-2.new.state c.hash-3.new.state c.hash-4.new.state
    (record { username = inside.username; password = inside.password; host = inside.host; port = inside.port })
    c.hash.ensures c.hash-2.ensures c.hash-3.ensures.fed c.hash-4.ensures)

pub returns-clause-key : goal.returns-clause-key
returns-clause-key g c =
    let write = g.H.Hasher.write in
    let state = c.args.state.now in
    let inside = c.self.inside in
    subst (λ p. c.hash-4.new.state ≡ fold write state (fed_key (key p))) c.self.view_is
    (feeds_key write state c.hash-4.new.state
    (record { username = inside.username; password = inside.password; host = inside.host; port = inside.port }) c.self.invariant
    (fed_by_turns write state c.hash.new.state c.hash-2.new.state c.hash-3.new.state c.hash-4.new.state
    (record { username = inside.username; password = inside.password; host = inside.host; port = inside.port })
    c.hash.ensures c.hash-2.ensures c.hash-3.ensures.fed c.hash-4.ensures))
