use Rattle.uriparse_text.specs.Pairs.{is_among_names}
use Rattle.uriparse_text.proofs.lemmas.readings.NamedLemmas.{left_twice, named_data, none_pass_left, one_name}
use Rattle.uriparse_text.proofs.laws.no_pair_of_several_names.Goals as goal

pub returns : goal.returns
returns c = record {
  none = λ names ps. none_pass_left (is_among_names names) ps;
  twice = λ names ps. left_twice (is_among_names names) ps;
  one = one_name;
  encoded = named_data;
}
