use Rattle.std.proofs.Common.{◌≡◌, ◌∷◌, ◌-◌, ap, drop, length, sym, subst, take, ◌∙◌, rules}
use Rattle.std.proofs.lemmas.List.{take_rest}
use Rattle.uriparse_text.specs.Tokens.{is_well_formed}
use Rattle.uriparse_authority.specs.Within.{BeginsWithOctet}
use Rattle.uriparse_authority.proofs.lemmas.hosts.WithinLemmas.{formed-escape, formed-plain, octet-escape, octet-plain}
use Rattle.uriparse.specs.PlaceKey.{BeginsWithToken}
use Rattle.uriparse.proofs.lemmas.PlaceNameLemmas.{token-escape, token-plain}
use Rattle.uriparse.proofs.place_key.names.split_octet.Goals as goal

pub returns-then-is_escape-clause-cut : goal.returns-then-is_escape-clause-cut
returns-then-is_escape-clause-cut c =
    let rest = take (length c.in_ok-b.after.now - 2) (drop 2 c.in_ok-b.after.now) in
    let left : drop 2 c.in_ok-b.after.now ≡ rest = sym (take_rest c.in_ok-b.after.now 2) in
    let whole : c.args.text.now ≡ c.in_ok-b.field-0-0.now ∷ c.in_ok-b.after.now = search rules in
    subst (λ t. BeginsWithOctet c.octet_of_escape.result t rest) (sym whole)
    (octet-escape _ c.in_ok-b.after.now rest _ (sym c.is_escape.ensures ∙ c.if-is_escape.true) left c.octet_of_escape.ensures)

pub returns-then-is_escape-clause-formed : goal.returns-then-is_escape-clause-formed
returns-then-is_escape-clause-formed c = λ formed.
    let left : drop 2 c.in_ok-b.after.now ≡ take (length c.in_ok-b.after.now - 2) (drop 2 c.in_ok-b.after.now) = sym (take_rest c.in_ok-b.after.now 2) in
    let whole : c.args.text.now ≡ c.in_ok-b.field-0-0.now ∷ c.in_ok-b.after.now = search rules in
    formed-escape c.in_ok-b.field-0-0.now c.in_ok-b.after.now _ (sym c.is_escape.ensures ∙ c.if-is_escape.true) left (ap is_well_formed (sym whole) ∙ formed)

pub returns-else-is_escape-clause-cut : goal.returns-else-is_escape-clause-cut
returns-else-is_escape-clause-cut c =
    let whole : c.args.text.now ≡ c.in_ok-b.field-0-0.now ∷ c.in_ok-b.after.now = search rules in
    subst (λ t. BeginsWithOctet c.in_ok-b.field-0-0.now t c.in_ok-b.after.now) (sym whole)
    (octet-plain _ _ (sym c.is_escape.ensures ∙ c.if-is_escape.false))

pub returns-else-is_escape-clause-formed : goal.returns-else-is_escape-clause-formed
returns-else-is_escape-clause-formed c = λ formed.
    let whole : c.args.text.now ≡ c.in_ok-b.field-0-0.now ∷ c.in_ok-b.after.now = search rules in
    formed-plain c.in_ok-b.field-0-0.now c.in_ok-b.after.now (sym c.is_escape.ensures ∙ c.if-is_escape.false) (ap is_well_formed (sym whole) ∙ formed)

pub returns-then-is_escape-clause-token : goal.returns-then-is_escape-clause-token
returns-then-is_escape-clause-token c = λ formed.
    let rest = take (length c.in_ok-b.after.now - 2) (drop 2 c.in_ok-b.after.now) in
    let left : drop 2 c.in_ok-b.after.now ≡ rest = sym (take_rest c.in_ok-b.after.now 2) in
    let whole : c.args.text.now ≡ c.in_ok-b.field-0-0.now ∷ c.in_ok-b.after.now = search rules in
    subst (λ t. BeginsWithToken c.octet_of_escape.result t rest) (sym whole)
    (token-escape _ c.in_ok-b.after.now rest _ (sym c.is_escape.ensures ∙ c.if-is_escape.true) left c.octet_of_escape.ensures)

pub returns-else-is_escape-clause-token : goal.returns-else-is_escape-clause-token
returns-else-is_escape-clause-token c = λ formed.
    let whole : c.args.text.now ≡ c.in_ok-b.field-0-0.now ∷ c.in_ok-b.after.now = search rules in
    subst (λ t. BeginsWithToken c.in_ok-b.field-0-0.now t c.in_ok-b.after.now) (sym whole)
    (token-plain _ _ (sym c.is_escape.ensures ∙ c.if-is_escape.false) (ap is_well_formed (sym whole) ∙ formed))
