use Rattle.uriparse_authority.proofs.lemmas.authorities.OffsetLemmas.{before_end}
use Rattle.uriparse_authority.proofs.lemmas.authorities.OffsetByteLemmas.{byte_there, password_escape, username_escape}
use Rattle.uriparse_authority.proofs.laws.one_offset_of_fault.Goals as goal

pub returns : goal.returns
returns c = record { byte = byte_there; username_escape = username_escape; password_escape = password_escape; within = before_end }
