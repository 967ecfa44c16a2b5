use Rattle.std.proofs.Common.{fold, ap, ◌∙◌}
use Rattle.uriparse_text.specs.Canonical.{canonical}
use Rattle.uriparse_path.specs.Path as path
use Rattle.uriparse_reference.proofs.lemmas.equality.HashLemmas.{fed_by_turns, feeds_key}
use Rattle.uriparse_reference.proofs.uri_reference.view.compare.ReferenceViewHash.hash.Goals as goal

pub returns-clause-fed : goal.returns-clause-fed
returns-clause-fed g c =
    let write = g.H.Hasher.write in
    fed_by_turns write c.args.state.now c.hash.new.state c.hash-2.new.state c.feed_path_text.new.state c.hash-3.new.state c.hash-4.new.state
    c.args.self.now.parts c.path_bytes.ensures.valid
    (rw c.scheme.ensures at c.hash.ensures)
    (rw c.authority.ensures at c.hash-2.ensures)
    (c.feed_path_text.ensures ∙ ap (λ t. fold write c.hash-2.new.state (path.fed (canonical t))) c.path_bytes.ensures.text)
    (rw c.query.ensures at c.hash-3.ensures)
    (rw c.fragment.ensures at c.hash-4.ensures)

pub returns-clause-key : goal.returns-clause-key
returns-clause-key g c =
    let write = g.H.Hasher.write in
    feeds_key write c.args.state.now c.hash-4.new.state c.args.self.now.parts c.path_bytes.ensures.valid
    (fed_by_turns write c.args.state.now c.hash.new.state c.hash-2.new.state c.feed_path_text.new.state c.hash-3.new.state c.hash-4.new.state
    c.args.self.now.parts c.path_bytes.ensures.valid
    (rw c.scheme.ensures at c.hash.ensures)
    (rw c.authority.ensures at c.hash-2.ensures)
    (c.feed_path_text.ensures ∙ ap (λ t. fold write c.hash-2.new.state (path.fed (canonical t))) c.path_bytes.ensures.text)
    (rw c.query.ensures at c.hash-3.ensures)
    (rw c.fragment.ensures at c.hash-4.ensures))
