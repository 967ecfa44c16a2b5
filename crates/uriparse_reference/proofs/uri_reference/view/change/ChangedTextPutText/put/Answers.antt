use Rattle.std.proofs.Common.{subst}
use Rattle.std.specs.Prelude.{is_some}
use Rattle.std.specs.Option.{option_copied, option_map}
use Rattle.uriparse_text.specs.Bytes.{colon, number_sign, question_mark}
use Rattle.uriparse_text.specs.Cuts.{ahead, following}
use Rattle.uriparse_text.specs.Ends.{EndsWith}
use Rattle.uriparse_reference.specs.Change.{authority_whole, whole}
use Rattle.uriparse_reference.specs.Reference.{after_slashes}
use Rattle.uriparse_reference.proofs.lemmas.reading.AsciiLemmas.{IsUtf8-spelled}
use Rattle.uriparse_reference.proofs.lemmas.writing.ChangedEndLemmas.{strings_put}
use Rattle.uriparse_reference.proofs.lemmas.writing.EndLemmas.{ends_none}
use Rattle.uriparse_reference.proofs.uri_reference.view.change.ChangedTextPutText.put.Goals as goal

pub returns-clause-ends : goal.returns-clause-ends
returns-clause-ends c =
    let s = c.strings.inside in
    subst (λ x. EndsWith c.prepend_scheme.new.out c.prepend_scheme.result (whole x)) c.strings.view_is
    (subst (EndsWith c.prepend_scheme.new.out c.prepend_scheme.result)
    (strings_put (ahead colon (option_copied s.scheme)) (after_slashes (option_map authority_whole s.authority)) c.is_some.result (is_some s.authority) s.path.now
    (following question_mark (option_copied s.query)) (following number_sign (option_copied s.fragment)) c.is_some.ensures)
    (c.prepend_scheme.ensures.puts _ (c.prepend_authority-len.ensures.puts _ (c.prepend_path-len.ensures.puts _ (c.prepend_following-len-2.ensures.puts _
    (c.prepend_following-len.ensures.puts _ (ends_none c.args.out.now)))))))

pub returns-clause-utf8 : goal.returns-clause-utf8
returns-clause-utf8 c = IsUtf8-spelled _ c.requires.0 c.requires.1
