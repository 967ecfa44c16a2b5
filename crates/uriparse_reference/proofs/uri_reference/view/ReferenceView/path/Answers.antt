use Rattle.uriparse_reference.proofs.lemmas.reading.AsciiLemmas.{IsUtf8-path}
use Rattle.uriparse_reference.proofs.uri_reference.view.ReferenceView.path.Goals as goal

pub str_of-requires : goal.str_of-requires
str_of-requires c = IsUtf8-path c.path_bytes.result.now c.path_bytes.ensures.path
