use Rattle.std.proofs.Common.{subst, sym}
use Rattle.std.specs.Str.{IsUtf8}
use Rattle.uriparse_text.specs.Ends.{EndsWith}
use Rattle.uriparse_reference.specs.RelativeText.{path_text}
use Rattle.uriparse_reference.proofs.lemmas.reading.AsciiLemmas.{IsUtf8-print}
use Rattle.uriparse_reference.proofs.lemmas.writing.EndLemmas.{joined_text}
use Rattle.uriparse_reference.proofs.lemmas.writing.RelativeTextLemmas.{printed}
use Rattle.uriparse_reference.proofs.uri_reference.view.relativize.RelativePartsPutText.put.Goals as goal

pub returns-clause-ends : goal.returns-clause-ends
returns-clause-ends c =
    let l = c.args.self.now in
    subst (EndsWith c.prepend_scheme_and_authority.new.out c.prepend_scheme_and_authority.result) (joined_text l.scheme l.authority (path_text l.path) l.query l.fragment)
    (c.prepend_scheme_and_authority.ensures.puts _ (c.prepend_path-len.ensures.puts _ c.prepend_query_and_fragment-len.ensures.ends))

pub returns-clause-utf8 : goal.returns-clause-utf8
returns-clause-utf8 c = subst IsUtf8 (sym (printed c.args.self.now c.requires.0 c.requires.1)) (IsUtf8-print c.requires.0 c.requires.2)
