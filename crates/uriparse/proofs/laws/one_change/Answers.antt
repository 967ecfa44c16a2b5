use Rattle.std.proofs.Common.{ap, ◌∙◌}
use Rattle.uriparse_reference.specs.Change.{changed}
use Rattle.uriparse_reference.proofs.lemmas.edits.ChangeLemmas.{changing_spells}
use Rattle.uriparse.proofs.lemmas.ChangeLawLemmas.{fragment_made, made_cut, query_made, scheme_made}
use Rattle.uriparse.proofs.lemmas.UnchangedLemmas.{nothing_changed}
use Rattle.uriparse.proofs.lemmas.ChangedPartLemmas.{components_made, host_made, made_again, password_made, port_made, username_made}
use Rattle.uriparse.proofs.lemmas.CommutingLemmas.{commuting}
use Rattle.uriparse.proofs.lemmas.ReplacedLemmas.{last_change, own_changed}
use Rattle.uriparse.proofs.laws.one_change.Goals as goal

pub returns : goal.returns
returns c = record {
  unchanged = nothing_changed;
  spelled = changing_spells;
  scheme = scheme_made;
  query = query_made;
  fragment = fragment_made;
  authority = λ d t v h. let m = made_cut d t v h in (m.0, m.1, m.2.authority, m.2.path);
  components = components_made;
  host = host_made;
  port = port_made;
  username = username_made;
  password = password_made;
  again = made_again;
  commuting = commuting;
  twice = λ d e t v w h k. query_made e v.text w k ∙ ap (changed e.query) (query_made d t v h);
  own = own_changed;
  last = last_change;
}
