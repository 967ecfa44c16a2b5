use Rattle.std.proofs.Common.{◌∙◌, ap, subst}
use Rattle.uriparse_text.specs.Ends.{EndsWith}
use Rattle.uriparse_text.specs.declared.internal.backward_buffer.Form.TheVariants.{Canonical}
use Rattle.uriparse_path.specs.Normal.{normal_at}
use Rattle.uriparse_path.specs.Path.{spelled, text}
use Rattle.uriparse_path.specs.declared.path.normal.PathContext.{PathContext}
use Rattle.uriparse_reference.specs.Normal.{normal}
use Rattle.uriparse_reference.proofs.lemmas.normalizing.NormalFormLemmas.{normal_valid}
use Rattle.uriparse_reference.proofs.lemmas.reading.AsciiLemmas.{IsUtf8-print}
use Rattle.uriparse_reference.proofs.lemmas.writing.EndLemmas.{normal_path, normal_text, same_text}
use Rattle.uriparse_reference.proofs.uri_reference.view.write.NormalTextPutText.put.Goals as goal

pub returns-clause-ends : goal.returns-clause-ends
returns-clause-ends c =
    let v = c.args.self.now.0.now.parts in
    let context : PathContext = c.context.result in
    subst (EndsWith c.prepend_scheme_and_authority.new.out c.prepend_scheme_and_authority.result)
    (same_text Canonical v c.scheme.result c.authority.result (text (normal_at context (spelled c.path_bytes.result.now))) _ c.query.result c.fragment.result
    c.scheme.ensures c.authority.ensures
    (ap (λ u. text (normal_at context (spelled u))) c.path_bytes.ensures.text
    ∙ normal_path v context c.path_bytes.ensures.valid (ap (λ (x : PathContext). x.has_scheme) c.context.ensures)
    (ap (λ (x : PathContext). x.has_authority) c.context.ensures))
    c.query.ensures c.fragment.ensures
    ∙ normal_text v)
    (c.prepend_scheme_and_authority.ensures.puts _ (c.prepend_normal_path-len.ensures.puts _ c.prepend_query_and_fragment-len.ensures.ends))

pub returns-clause-utf8 : goal.returns-clause-utf8
returns-clause-utf8 c =
    let v = c.args.self.now.0.now.parts in
    IsUtf8-print (normal v) (normal_valid v c.path_bytes.ensures.valid)
