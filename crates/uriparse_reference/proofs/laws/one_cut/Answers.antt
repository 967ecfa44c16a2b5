use Rattle.uriparse_reference.proofs.lemmas.reading.ReadingLemmas.{whole_is}
use Rattle.uriparse_reference.proofs.lemmas.reading.ComponentByteLemmas.{scheme_is, authority_lacks, path_lacks_question_mark, path_lacks_number_sign, query_lacks_number_sign}
use Rattle.uriparse_reference.proofs.laws.one_cut.Goals as goal

pub returns : goal.returns
returns c = record {
  whole = whole_is;
  scheme = scheme_is;
  authority = authority_lacks;
  path = λ t. (path_lacks_question_mark t, path_lacks_number_sign t);
  query = query_lacks_number_sign;
}
