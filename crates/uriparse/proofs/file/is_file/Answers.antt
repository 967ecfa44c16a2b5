use Rattle.uriparse_scheme.specs.Scheme.{text}
use Rattle.uriparse.proofs.lemmas.FileLemmas.{file_means}
use Rattle.uriparse.proofs.file.is_file.Goals as goal

pub returns : goal.returns
returns c = file_means (text c.args.scheme.now) c.eq_str.result c.eq_str.ensures
