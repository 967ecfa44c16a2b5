use Rattle.uriparse.proofs.lemmas.EditLawLemmas.{fragment_edit, host_edit, password_edit, port_edit, query_edit, scheme_edit, username_edit}
use Rattle.uriparse.proofs.laws.changes_and_edits.Goals as goal

pub returns : goal.returns
returns c = record {
  scheme = scheme_edit;
  query = query_edit;
  fragment = fragment_edit;
  host = host_edit;
  username = username_edit;
  password = password_edit;
  port = port_edit;
}
