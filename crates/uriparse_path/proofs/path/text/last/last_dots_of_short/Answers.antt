use Rattle.std.proofs.Common.{◌≡◌, true, length, sym, ap, subst, ◌∙◌, arith}
use Rattle.std.specs.List.{list_all, slice_split}
use Rattle.std.proofs.lemmas.List.{take_rest}
use Rattle.uriparse_text.specs.Segment.{is_segment}
use Rattle.uriparse_path.specs.Path.{is_slash}
use Rattle.uriparse_path.proofs.lemmas.text.DotCandidateLemmas.{begins_after, lacks_last, raised, segments_from}
use Rattle.uriparse_path.proofs.path.text.last.last_dots_of_short.Goals as goal

pub bytes-init : goal.bytes-init
bytes-init c =
    let t = c.args.text.now in
    record { within = omega arith; later = raised t (length t) (omega arith) (lacks_last t) }

pub begins_with_dots-requires : goal.begins_with_dots-requires
begins_with_dots-requires c =
    let t = c.args.text.now in
    let at = c.bytes.at in
    subst (λ u. list_all is_segment (slice_split is_slash u) ≡ true) (sym (take_rest t at))
    (segments_from t at (begins_after t at (omega arith) ∙ ap is_slash c.if-text-at-eq47.true) (omega arith) c.requires).1
