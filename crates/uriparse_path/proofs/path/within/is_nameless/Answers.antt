use Rattle.std.proofs.Common.{[], ap, sym, ◌∙◌}
use Rattle.std.specs.Prelude.{bytes_eq}
use Rattle.uriparse_text.specs.Ambiguous.{name_of}
use Rattle.uriparse_path.proofs.lemmas.dots.AmbiguousSegmentLemmas.{name_of-canonical}
use Rattle.uriparse_path.proofs.path.within.is_nameless.Goals as goal

pub returns : goal.returns
returns c =
    c.lacks_name.ensures ∙ ap (λ s. bytes_eq (name_of s) []) c.as_bytes.ensures.value
    ∙ ap (λ u. bytes_eq u []) (sym (name_of-canonical c.args.segment.now c.as_bytes.ensures.class))
