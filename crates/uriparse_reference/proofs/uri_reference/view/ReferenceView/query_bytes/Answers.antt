use Rattle.std.proofs.Common.{◌≡◌, ◌∙◌, ap, take, rules}
use Rattle.uriparse_text.specs.Cuts.{part}
use Rattle.uriparse_reference.proofs.lemmas.reading.TextEditLemmas.{query_part}
use Rattle.uriparse_reference.proofs.uri_reference.view.ReferenceView.query_bytes.Goals as goal

pub returns-clause-bytes : goal.returns-clause-bytes
returns-clause-bytes c =
    let v = c.args.self.now in
    let same : c.as_bytes-text.result.now ≡ v.text = search rules in
    c.without_delimiter.ensures ∙ ap part c.skip.ensures
    ∙ query_part v.text c.without_end.result.now (take c.len_before_fragment.result c.as_bytes-text.result.now) v.parts c.as_str.ensures.spelled
    c.without_end.ensures (ap (take c.len_before_fragment.result) same ∙ c.len_before_fragment.ensures.text)
