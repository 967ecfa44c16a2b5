use Rattle.std.proofs.Common.{◌≡◌, ◌<◌, true, false, length, refl, sym, ap, subst, ◌∙◌}
use Rattle.std.specs.Prelude.{◌||◌}
use Rattle.std.specs.List.{list_any, slice_split}
use Rattle.std.specs.Option.{option_copied}
use Rattle.uriparse_text.specs.Cuts.{from_first, part}
use Rattle.uriparse_authority.specs.Within.{is_dot}
use Rattle.uriparse.specs.Web.{has_encoded_label, is_encoded_label}
use Rattle.uriparse.proofs.lemmas.LabelLemmas.{fewer_labels, labels_left, next_label}
use Rattle.uriparse.proofs.uri.disagreement.has_encoded.Goals as goal

pub returns-then-begins_encoded : goal.returns-then-begins_encoded
returns-then-begins_encoded c =
    let rest = c.in-Some.rest.now in
    let whole : list_any is_encoded_label (slice_split is_dot rest) ≡ has_encoded_label c.args.name.now =
    ap (λ o. list_any is_encoded_label (labels_left (option_copied o))) (sym c.in-Some.is) ∙ c.labels.invariant in
    let label = c.split_at_delimiter.result.0.now in
    let is : is_encoded_label label ≡ true = sym c.begins_encoded.ensures ∙ c.if-begins_encoded.true in
    let following = part (from_first is_dot rest) in
    sym (ap (λ v. v || list_any is_encoded_label (labels_left following)) is)
    ∙ sym (next_label is_encoded_label rest label following c.split_at_delimiter.ensures.front refl) ∙ whole

pub labels-smaller : goal.labels-smaller
labels-smaller c =
    let following = c.without_delimiter-left.ensures ∙ ap part c.split_at_delimiter.ensures.rest in
    subst (λ o. length (labels_left (option_copied c.without_delimiter-left.result)) < length (labels_left (option_copied o))) (sym c.in-Some.is)
    (fewer_labels c.in-Some.rest.now (option_copied c.without_delimiter-left.result) following)

pub labels-preserved : goal.labels-preserved
labels-preserved c =
    let rest = c.in-Some.rest.now in
    let whole : list_any is_encoded_label (slice_split is_dot rest) ≡ has_encoded_label c.args.name.now =
    ap (λ o. list_any is_encoded_label (labels_left (option_copied o))) (sym c.in-Some.is) ∙ c.labels.invariant in
    let label = c.split_at_delimiter.result.0.now in
    let is : is_encoded_label label ≡ false = sym c.begins_encoded.ensures ∙ c.if-begins_encoded.false in
    let left = option_copied c.without_delimiter-left.result in
    let following = c.without_delimiter-left.ensures ∙ ap part c.split_at_delimiter.ensures.rest in
    sym (ap (λ v. v || list_any is_encoded_label (labels_left left)) is)
    ∙ sym (next_label is_encoded_label rest label left c.split_at_delimiter.ensures.front following) ∙ whole
