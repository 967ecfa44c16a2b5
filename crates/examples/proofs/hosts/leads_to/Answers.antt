use Rattle.std.proofs.Common.{◌≡◌, ◌↔◌, ℕ, Bool, List, Option, Some, None, Ok, Err, sym, ap, subst, ◌∙◌}
use Rattle.std.specs.Prelude.{IsTrue, Result, bytes_eq}
use Rattle.std.specs.Option.{IsSomeAnd}
use Rattle.std.proofs.lemmas.Bool.{false≢true}
use Rattle.std.proofs.lemmas.Slice.Eq.{bytes_eq-Decides}
use Rattle.uriparse.specs.Host as host
use Rattle.uriparse.specs.HostValue.{Host}
use Rattle.uriparse.specs.Reference.{Parts, Spells, host_of}
use Rattle.uriparse.specs.View.{Viewed}
use Rattle.examples.specs.Hosts.{LeadsTo}
use Rattle.examples.proofs.hosts.leads_to.Goals as goal

ok_is : {A E : Type 0} (x y : A) → ◌≡◌ {A = Result A E} (Ok x) (Ok y) → x ≡ y
ok_is x y h = cc

no_ok : {A E : Type 0} (e : E) (x : A) → ◌≡◌ {A = Result A E} (Err e) (Ok x) → ⊥
no_ok e x h = absurd (cc)

-- the host of what the text spells
has_host : (t : List ℕ) (h : Host) (v : Parts) (o : Option Host) → ((p : Parts) → Spells t p → v ≡ p) → host_of v ≡ o → LeadsTo t h
    → IsSomeAnd o (λ g. host.key g ≡ host.key h)
has_host t h v o one there w =
    subst (λ u. IsSomeAnd u (λ g. host.key g ≡ host.key h)) (ap host_of (sym (one w.0 w.1)) ∙ there) w.2

leads : (t : List ℕ) (h : Host) (v : Parts) (g : Host) (r : Bool) → Spells t v → ((p : Parts) → Spells t p → v ≡ p) → host_of v ≡ Some g
    → r ≡ bytes_eq (host.key g) (host.key h) → IsTrue r ↔ LeadsTo t h
leads t h v g r s one there e =
    let same = bytes_eq-Decides (host.key g) (host.key h) in (
      (λ k. (v, s, subst (λ o. IsSomeAnd o (λ x. host.key x ≡ host.key h)) (sym there) (same.0 (sym e ∙ k)))),
      (λ w. e ∙ same.1 (has_host t h v (Some g) one there w)),
    )

pub returns-in_default : goal.returns-in_default
returns-in_default c = (
  (λ k. absurd (false≢true k)),
  (λ w. absurd (no_ok c.in_default.field-0 _ (c.in_default.ensures.only w.0 w.1))),
)

pub returns-in-Some : goal.returns-in-Some
returns-in-Some c =
    leads c.args.link.now c.args.host.now c.in-Ok.view.parts c.in-Some.there c.eq.result c.in-Ok.ensures.found
    (λ p s. ap (λ (v : Viewed). v.parts) (ok_is c.in-Ok.view _ (c.in-Ok.ensures.only p s))) (sym c.host.ensures ∙ c.in-Some.is) c.eq.ensures

pub returns-in-None : goal.returns-in-None
returns-in-None c = (
  (λ k. absurd (false≢true k)),
  (λ w. absurd (has_host c.args.link.now c.args.host.now c.in-Ok.view.parts None (λ p s. ap (λ (v : Viewed). v.parts) (ok_is c.in-Ok.view _ (c.in-Ok.ensures.only p s)))
      (sym c.host.ensures ∙ c.in-None.is) w)),
)
