use Rattle.std.proofs.Common.{◌≡◌, ◌∙◌, ap, subst, sym}
use Rattle.std.specs.Prelude.{Ok, string_bytes}
use Rattle.uriparse_reference.specs.Reference.{Parts, Spells}
use Rattle.uriparse_reference.specs.TextEdits.{with_end, with_query}
use Rattle.uriparse_reference.specs.View.{Viewed}
use Rattle.uriparse_reference.proofs.lemmas.reading.ReadingLemmas.{one_reading}
use Rattle.uriparse_reference.proofs.lemmas.reading.TextEditLemmas.{made_stands, own_cut, own_end}
use Rattle.uriparse_reference.proofs.uri_reference.text.ReferenceText.set_query.Goals as goal

pub checked_text-requires : goal.checked_text-requires
checked_text-requires c =
    let p = c.args.self.now.parts in
    (made_stands (string_bytes c.in_ok-with_query.field-0) (with_query c.args.self.now.text c.args.query) (record p { query = c.args.query })
    c.with_query.ensures.spelled c.in_ok-with_query.ensures.text).0

pub returns-clause-parts : goal.returns-clause-parts
returns-clause-parts c =
    let p = c.args.self.now.parts in
    let made =
    made_stands (string_bytes c.in_ok-with_query.field-0) (with_query c.args.self.now.text c.args.query) (record p { query = c.args.query })
    c.with_query.ensures.spelled c.in_ok-with_query.ensures.text in
    ap Ok (sym (ap (λ (v : Viewed). v.parts) (c.checked_text.ensures ∙ made.1)))

pub returns-then-has_query_text-clause-text : goal.returns-then-has_query_text-clause-text
returns-then-has_query_text-clause-text c =
    let t = c.args.self.now.text in
    let p = c.args.self.now.parts in
    let s = c.has_query_text.ensures.spelled in
    let same = c.has_query_text.ensures.same.0 c.if-has_query_text.true in
    sym (own_end t p s) ∙ ap (λ q. with_end t q p.fragment) same ∙ ap (with_end t c.args.query) (sym (own_cut t p s).fragment)

pub returns-in_err-with_query-clause-takes_no_memory : goal.returns-in_err-with_query-clause-takes_no_memory
returns-in_err-with_query-clause-takes_no_memory c same =
    let t = c.args.self.now.text in
    let p = c.args.self.now.parts in
    let q : Parts = record p { query = c.args.query } in
    let again = subst (λ u. Spells u q) same c.with_query.ensures.spelled in
    let queries : p.query ≡ c.args.query = ap (λ (r : Parts). r.query) (one_reading t p q c.has_query_text.ensures.spelled again) in
    let is = c.has_query_text.ensures.same.1 queries in
    let not = c.if-has_query_text.false in
    absurd (cc)
