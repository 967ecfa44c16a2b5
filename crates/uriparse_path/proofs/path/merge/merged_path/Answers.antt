use Rattle.std.proofs.Common.{◌≡◌, ◌+◌, ◌≤◌, ℕ, List, [], ◌∷◌, length, inl, sym, subst, ap, ◌∙◌, arith, IfErr, Err, refl}
use Rattle.std.proofs.lemmas.Bool.{false≢true}
use Rattle.uriparse_path.specs.Dots.{all_but_last}
use Rattle.uriparse_path.proofs.lemmas.reading.ReadingLemmas.{limit_is}
use Rattle.uriparse_path.proofs.lemmas.merge.MergedPathLemmas.{too_long, short_enough, listed_list}
use Rattle.uriparse_path.proofs.path.merge.merged_path.Goals as goal

-- a single segment is in no directory
no_directory : (l : List (List ℕ)) → length l ≡ 1 → length (all_but_last l) ≡ 0
no_directory [] one = refl
no_directory (s ∷ []) one = refl
no_directory (s ∷ r ∷ l) one = absurd (omega arith)

-- the same of the lists that the calls lend
no_front : (segments inside front : List (List ℕ)) → inside ≡ segments → front ≡ all_but_last inside → length segments ≡ 1 → length front ≡ 0
no_front segments inside front is made one = ap length made ∙ no_directory inside (ap length is ∙ one)

pub returns-then-front-back-gt-MAX_SEGMENTS-clause-takes_no_memory :
    goal.returns-then-front-back-gt-MAX_SEGMENTS-clause-takes_no_memory
returns-then-front-back-gt-MAX_SEGMENTS-clause-takes_no_memory c base own =
    let none = no_front c.args.base.now.segments c.segments.result.now c.directory-front.result.now c.segments.ensures.value c.directory-front.ensures base in
    let one : length c.segments-back.result.now ≡ 1 = ap length c.segments-back.ensures.value ∙ own in
    absurd (omega arith)

pub returns-in_err-segments-clause-takes_no_memory :
    goal.returns-in_err-segments-clause-takes_no_memory
returns-in_err-segments-clause-takes_no_memory c base own =
    let none = no_front c.args.base.now.segments c.segments.result.now c.directory-front.result.now c.segments.ensures.value c.directory-front.ensures base in
    let one : length c.segments-back.result.now ≡ 1 = ap length c.segments-back.ensures.value ∙ own in
    absurd (false≢true (c.in_err-segments.ensures.takes_no_memory none one))

pub returns-then-front-back-gt-MAX_SEGMENTS-clause-answer :
    goal.returns-then-front-back-gt-MAX_SEGMENTS-clause-answer
returns-then-front-back-gt-MAX_SEGMENTS-clause-answer c =
    inl (sym (too_long c.args.base.now c.args.reference.now c.segments.result.now c.directory-front.result.now c.segments-back.result.now
    c.segments.ensures.value c.directory-front.ensures c.segments-back.ensures.value (omega arith)))

pub joined-requires : goal.joined-requires
joined-requires c = subst (λ n. length c.directory-front.result.now + length c.segments-back.result.now ≤ n) limit_is (omega arith)

pub returns-in_err-segments-clause-always : goal.returns-in_err-segments-clause-always
returns-in_err-segments-clause-always c =
    let same = short_enough c.args.base.now c.args.reference.now c.segments.result.now c.directory-front.result.now c.segments-back.result.now
    c.segments.ensures.value c.directory-front.ensures c.segments-back.ensures.value (omega arith) in
    subst (λ r. IfErr r (λ e. c.from_residual.result ≡ Err e)) (sym same) tt

pub of-requires-clause-listed : goal.of-requires-clause-listed
of-requires-clause-listed c =
    listed_list c.args.base.now c.args.reference.now c.segments.result.now c.directory-front.result.now c.segments-back.result.now c.segments.ensures.value
    c.directory-front.ensures c.segments-back.ensures.value c.segments.ensures.listed c.segments-back.ensures.listed (omega arith)
    c.in_ok-segments.segments c.in_ok-segments.ensures.list
