use Rattle.uriparse.proofs.lemmas.FileLemmas.{named_again, named_by_own, named_bytes, path_has_uri}
use Rattle.uriparse.proofs.laws.one_file_path.Goals as goal

pub returns : goal.returns
returns c = record {
  back = λ path u bytes is. named_again path u bytes is;
  forth = λ u path valid is. path_has_uri u path valid.is_path is;
  again = λ u path valid is. named_by_own u path valid.is_path is;
  bytes = λ u path valid is. named_bytes u path valid.is_path is;
}
