use Rattle.std.proofs.Common.{◌≡◌, ◌∙◌, None, ap, subst}
use Rattle.std.specs.Prelude.{MatchResult}
use Rattle.uriparse_text.specs.Pairs.{pairs, pairs_left, without_names}
use Rattle.uriparse_reference.specs.PairEdits.{pairs_of}
use Rattle.uriparse_reference.specs.TextEdits.{with_query}
use Rattle.uriparse_reference.specs.View.{Viewed}
use Rattle.uriparse_reference.proofs.lemmas.edits.PairEditLemmas.{parts_made, query_made, without_query}
use Rattle.uriparse_reference.proofs.uri_reference.text.ReferenceText.remove_pairs_named.Goals as goal

pub returns-clause-text : goal.returns-clause-text
returns-clause-text c =
    let v = c.args.self.now in
    let queries = c.query.ensures ∙ ap (λ (v : Viewed). v.parts.query) c.as_view.ensures.view in
    let made : pairs_left (c.in_ok-query.query) ≡ without_names (pairs c.args.names.now) (pairs_of v.parts) = c.in_ok-query.ensures.pairs ∙ ap (λ o. without_names (pairs c.args.names.now) (pairs_left o)) queries in
    subst (λ o. MatchResult c.set_query.result (λ _. c.set_query.new.self.text ≡ with_query v.text o) (λ _. c.set_query.new.self ≡ v))
    (query_made (c.in_ok-query.query) (without_names (pairs c.args.names.now) (pairs_of v.parts)) made) c.set_query.ensures.text

pub returns-clause-parts : goal.returns-clause-parts
returns-clause-parts c =
    let v = c.args.self.now in
    let queries = c.query.ensures ∙ ap (λ (v : Viewed). v.parts.query) c.as_view.ensures.view in
    let made : pairs_left (c.in_ok-query.query) ≡ without_names (pairs c.args.names.now) (pairs_of v.parts) = c.in_ok-query.ensures.pairs ∙ ap (λ o. without_names (pairs c.args.names.now) (pairs_left o)) queries in
    parts_made c.set_query.result v.parts c.set_query.new.self.parts (c.in_ok-query.query) (without_names (pairs c.args.names.now) (pairs_of v.parts)) made c.set_query.ensures.parts

pub returns-clause-takes_no_memory : goal.returns-clause-takes_no_memory
returns-clause-takes_no_memory c none =
    let v = c.args.self.now in
    let queries : c.query.result ≡ None = c.query.ensures ∙ ap (λ (v : Viewed). v.parts.query) c.as_view.ensures.view ∙ none in
    let said = c.in_ok-query.ensures.takes_no_memory queries in
    let left : c.in_ok-query.query ≡ None = cc in
    c.set_query.ensures.takes_no_memory (ap (with_query v.text) left ∙ without_query v.text v.parts c.as_view.ensures.spelled none)
