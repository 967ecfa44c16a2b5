use Rattle.uriparse_authority.proofs.lemmas.authorities.AuthorityLemmas.{whole_is}
use Rattle.uriparse_authority.proofs.lemmas.authorities.PieceLemmas.{username_lacks_at, username_lacks_colon, password_lacks_at, no_user_lacks_at}
use Rattle.uriparse_authority.proofs.lemmas.authorities.PieceLemmas.{port_lacks_colon, port_lacks_bracket, no_port_bracket}
use Rattle.uriparse_authority.proofs.laws.one_cut.Goals as goal

pub returns : goal.returns
returns c = record {
  whole = whole_is;
  username_at = username_lacks_at;
  username_colon = username_lacks_colon;
  password_at = password_lacks_at;
  no_username = no_user_lacks_at;
  port_colon = port_lacks_colon;
  port_bracket = port_lacks_bracket;
  no_port = no_port_bracket;
}
