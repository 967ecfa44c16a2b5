use Rattle.std.proofs.Common.{◌≡◌, ◌++◌, ◌∷◌, [], Some, ap, ◌∙◌, rules}
use Rattle.std.specs.Option.{option_copied}
use Rattle.uriparse_text.specs.Bytes.{slash}
use Rattle.uriparse_text.specs.Cuts.{part}
use Rattle.uriparse.proofs.lemmas.FileLemmas.{writing_next, writing_smaller}
use Rattle.uriparse.proofs.file.segments_text.Goals as goal

pub loop-rest-smaller : goal.loop-rest-smaller
loop-rest-smaller c =
    let some : option_copied c.loop-rest.rest ≡ Some c.in-Some.left.now = search rules in
    writing_smaller _ c.in-Some.left.now _ some (c.without_delimiter-rest.ensures ∙ ap part c.split_at_delimiter.ensures.rest)

pub loop-rest-preserved : goal.loop-rest-preserved
loop-rest-preserved c =
    let some : option_copied c.loop-rest.rest ≡ Some c.in-Some.left.now = search rules in
    let more : c.extend_from_slice.new.self.items ≡ (c.loop-rest.text.items ++ slash ∷ []) ++ c.in_ok-encode.field-0 = search rules in
    writing_next _ _ c.in-Some.left.now _ c.in_ok-encode.field-0 _ _ _ c.loop-rest.invariant some c.split_at_delimiter.ensures.front
    (c.without_delimiter-rest.ensures ∙ ap part c.split_at_delimiter.ensures.rest) c.in_ok-encode.ensures.text c.in_ok-encode.ensures.back c.as_bytes.ensures.class more
