use Rattle.std.proofs.Common.{sym, refl, ◌∙◌}
use Rattle.uriparse_text.specs.declared.internal.class.Class.TheVariants.{Segment}
use Rattle.uriparse_text.proofs.lemmas.classes.ClassLemmas.{well_formed-in_class}
use Rattle.uriparse_path.specs.Dots.{IsRest}
use Rattle.uriparse_path.proofs.lemmas.text.SpelledAlikeLemmas.{is_rest-empty, is_rest-slash, own_piece}
use Rattle.uriparse_path.proofs.path.strip_piece.Goals as goal
use Rattle.uriparse_path.proofs.path.strip_piece.Goals.{then-is_empty-via-then-is_empty, then-is_empty-via-else-is_empty+then-rest-eq47}

pub returns-then-is_empty : goal.returns-then-is_empty
returns-then-is_empty c =
    let rest = c.in-Some.rest.now in
    let ends : IsRest rest = elim c.then-is_empty.branch [
      | then-is_empty-via-then-is_empty w ↦ is_rest-empty rest (sym c.is_empty.ensures ∙ w.if-is_empty.true)
      | then-is_empty-via-else-is_empty+then-rest-eq47 w ↦ is_rest-slash rest w.if-rest-eq47.true
    ] in
    let prefix = c.in-Some.ensures.cases in
    let own = own_piece c.args.text.now c.args.segment.now rest prefix.0 prefix.1 c.requires ends in
    record { alike = (λ h. own.0, λ s. refl); rest = own.1 }

pub same_spelling-requires : goal.same_spelling-requires
same_spelling-requires c = well_formed-in_class Segment c.args.segment.now c.requires
