use Rattle.std.proofs.Common.{◌≡◌, subst, fold}
use Rattle.uriparse_reference.specs.Key.{key, fed, fed_key}
use Rattle.uriparse_reference.proofs.lemmas.equality.HashLemmas.{fed_by_turns, feeds_key}
use Rattle.uriparse_reference.proofs.uri_reference.URIReferenceHash.hash.Goals as goal

pub returns-clause-fed : goal.returns-clause-fed
returns-clause-fed g c =
    let write = g.H.Hasher.write in
    let state = c.args.state.now in
    let inside = c.self.inside in
    subst (λ p. c.hash-5.new.state ≡ fold write state (fed p)) c.self.view_is
    (fed_by_turns write state c.hash.new.state c.hash-2.new.state c.hash-3.new.state c.hash-4.new.state c.hash-5.new.state
    (record { scheme = inside.scheme; authority = inside.authority; path = inside.path; query = inside.query; fragment = inside.fragment })
    c.self.invariant c.hash.ensures c.hash-2.ensures c.hash-3.ensures c.hash-4.ensures c.hash-5.ensures)

pub returns-clause-key : goal.returns-clause-key
returns-clause-key g c =
    let write = g.H.Hasher.write in
    let state = c.args.state.now in
    let inside = c.self.inside in
    subst (λ p. c.hash-5.new.state ≡ fold write state (fed_key (key p))) c.self.view_is
    (feeds_key write state c.hash-5.new.state
    (record { scheme = inside.scheme; authority = inside.authority; path = inside.path; query = inside.query; fragment = inside.fragment })
    c.self.invariant
    (fed_by_turns write state c.hash.new.state c.hash-2.new.state c.hash-3.new.state c.hash-4.new.state c.hash-5.new.state
    (record { scheme = inside.scheme; authority = inside.authority; path = inside.path; query = inside.query; fragment = inside.fragment })
    c.self.invariant c.hash.ensures c.hash-2.ensures c.hash-3.ensures c.hash-4.ensures c.hash-5.ensures))
