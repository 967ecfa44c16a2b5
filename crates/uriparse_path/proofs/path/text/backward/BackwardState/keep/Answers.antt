use Rattle.std.proofs.Common.{◌≡◌, ◌++◌, ◌||◌, ◌∙◌, refl, sym, ap, subst, rules}
use Rattle.std.specs.List.{slice_split}
use Rattle.uriparse_text.specs.declared.internal.token.Case.TheVariants.{Kept}
use Rattle.uriparse_text.specs.Ends.{formed}
use Rattle.uriparse_path.specs.Path.{is_slash, root}
use Rattle.uriparse_path.specs.Relative.{has_colon, is_first}
use Rattle.uriparse_path.specs.Remaining.{IsPlaced, is_more, remaining_text}
use Rattle.uriparse_path.proofs.lemmas.normal.TextNormalLemmas.{first_colon-pieces}
use Rattle.uriparse_path.proofs.lemmas.left.KeptLemmas.{kept_all}
use Rattle.uriparse_path.proofs.path.text.backward.BackwardState.keep.Goals as goal

pub returns-clause-is : goal.returns-clause-is
returns-clause-is c = λ l t is.
    let form = c.args.form in
    let whole = c.args.text.now in
    let slashed : c.if-self.prepend_root ≡ (c.args.self.kept || c.args.ended) = search rules in
    let more : c.if-self.prepend_root ≡ (is_more l.kept || c.args.ended) = slashed ∙ ap (λ v. v || c.args.ended) is.kept in
    let text = remaining_text form c.args.ended l.kept in
    let colon : c.has_colon.result ≡ is_first has_colon (slice_split is_slash whole) =
    c.has_colon.ensures ∙ ap has_colon c.split_at_delimiter.ensures.front ∙ sym (first_colon-pieces whole) in
    kept_all form c.args.ended whole l _ c.prepend_text.new.out t (sym is.double_dots ∙ c.requires.none) c.requires.segments c.requires.dots refl refl refl colon
    (subst (λ v. IsPlaced c.prepend_text.result c.prepend_text.new.out (formed form Kept whole ++ (root v ++ text)) t) more
    (c.prepend_text.ensures.placed (root c.if-self.prepend_root ++ text) t (c.prepend_root-placed.ensures.placed text t is.placed)))
