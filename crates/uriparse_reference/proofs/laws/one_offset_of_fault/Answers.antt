use Rattle.uriparse_reference.proofs.lemmas.reading.OffsetLemmas.{before_end}
use Rattle.uriparse_reference.proofs.lemmas.reading.OffsetByteLemmas.{byte_there, fragment_escape, password_escape, path_escape, query_escape, username_escape}
use Rattle.uriparse_reference.proofs.laws.one_offset_of_fault.Goals as goal

pub returns : goal.returns
returns c = record {
  byte = byte_there;
  username_escape = username_escape;
  password_escape = password_escape;
  path_escape = path_escape;
  query_escape = query_escape;
  fragment_escape = fragment_escape;
  within = before_end;
}
