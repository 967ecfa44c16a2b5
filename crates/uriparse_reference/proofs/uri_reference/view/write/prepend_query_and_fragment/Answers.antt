use Rattle.std.proofs.Common.{◌++◌, ap, append-nil, subst}
use Rattle.std.specs.Option.{option_map}
use Rattle.uriparse_text.specs.declared.internal.token.Case.TheVariants.{Kept}
use Rattle.uriparse_text.specs.Bytes.{number_sign, question_mark}
use Rattle.uriparse_text.specs.Cuts.{following}
use Rattle.uriparse_text.specs.Ends.{EndsWith, formed}
use Rattle.uriparse_reference.proofs.lemmas.writing.EndLemmas.{ends_none}
use Rattle.uriparse_reference.proofs.uri_reference.view.write.prepend_query_and_fragment.Goals as goal

pub returns-clause-ends : goal.returns-clause-ends
returns-clause-ends c =
    let query = following question_mark (option_map (formed c.args.form Kept) c.args.query.now) in
    let fragment = following number_sign (option_map (formed c.args.form Kept) c.args.fragment.now) in
    subst (EndsWith c.prepend_following.new.out c.prepend_following.result) (ap (λ u. query ++ u) (append-nil fragment))
    (c.prepend_following.ensures.puts _ (c.prepend_following-len.ensures.puts _ (ends_none c.args.out.now)))
