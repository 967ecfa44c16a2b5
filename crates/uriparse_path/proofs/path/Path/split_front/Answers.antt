use Rattle.std.proofs.Common.{◌≡◌, ◌∷◌, true, sym, ap, ◌∙◌, length, refl, arith}
use Rattle.std.specs.List.{list_all}
use Rattle.std.proofs.lemmas.Bool.{and_parts}
use Rattle.uriparse_text.specs.Segment.{is_segment}
use Rattle.uriparse_path.specs.Path.{text}
use Rattle.uriparse_path.proofs.lemmas.text.PathTextLemmas.{text-absolute, text-cons}
use Rattle.uriparse_text.proofs.lemmas.canonical.DotLemmas.{empty_segment}
use Rattle.uriparse_path.proofs.path.Path.split_front.Goals as goal

pub returns-then-is_absolute : goal.returns-then-is_absolute
returns-then-is_absolute c =
    let listed = c.segments-segments.ensures.listed in
    let flag : c.args.self.now.absolute ≡ true = sym c.is_absolute.ensures ∙ c.if-is_absolute.true in
    rw c.segments-segments.ensures.value (record {
      text = ap (λ a. text (record { absolute = a; segments = c.args.self.now.segments })) flag ∙ text-absolute c.args.self.now.segments listed.some;
      front = empty_segment;
      following = listed.each;
    })

pub returns-in-Some : goal.returns-in-Some
returns-in-Some c =
    let first = c.in-Some.first.now in
    let later = c.in-Some.later.now in
    let cut : c.args.self.now.segments ≡ first ∷ later = sym c.segments-segments.ensures.value ∙ c.in-Some.ensures.cases.0 in
    let each = and_parts (is_segment first) (list_all is_segment later) (ap (list_all is_segment) (sym cut) ∙ c.segments-segments.ensures.listed.each) in
    rw c.as_str.ensures.value (record {
      text = text-cons c.args.self.now.absolute c.args.self.now.segments first later cut
          ∙ rw (sym c.is_absolute.ensures, c.if-is_absolute.false) refl;
      front = each.0;
      following = each.1;
    })

pub returns-in-None : goal.returns-in-None
returns-in-None c =
    absurd (omega (arith, c.in-None.ensures.cases, ap length c.segments-segments.ensures.value, c.segments-segments.ensures.listed.some))
