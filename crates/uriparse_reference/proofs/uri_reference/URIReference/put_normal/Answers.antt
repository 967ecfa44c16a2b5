use Rattle.std.proofs.Common.{◌≡◌, ap, sym, subst, ◌∙◌}
use Rattle.std.proofs.lemmas.Bool.{false≢true}
use Rattle.uriparse_path.proofs.lemmas.text.CanonicalTextLemmas.{each_is_canonical}
use Rattle.uriparse_reference.specs.Reference.{Valid}
use Rattle.uriparse_reference.specs.Normal.{canonical_texts, normal}
use Rattle.uriparse_reference.proofs.lemmas.normalizing.NormalFormLemmas.{normal_valid}
use Rattle.uriparse_reference.proofs.lemmas.normalizing.NormalizingLemmas.{made_is}
use Rattle.uriparse_reference.proofs.uri_reference.URIReference.put_normal.Goals.{After-put_authority_copies}
use Rattle.uriparse_reference.proofs.uri_reference.URIReference.put_normal.Goals as goal

pub returns-in_err-scheme-clause-takes_no_memory : goal.returns-in_err-scheme-clause-takes_no_memory
returns-in_err-scheme-clause-takes_no_memory c h =
    let own = subst (λ p. canonical_texts p ≡ p) (sym c.self.view_is) h in
    absurd (false≢true (c.in_err-scheme.ensures.takes_no_memory (ap (λ p. p.scheme) own)))

pub returns-in_err-authority-clause-takes_no_memory : goal.returns-in_err-authority-clause-takes_no_memory
returns-in_err-authority-clause-takes_no_memory c h =
    let own = subst (λ p. canonical_texts p ≡ p) (sym c.self.view_is) h in
    absurd (false≢true (c.in_err-authority.ensures.takes_no_memory (ap (λ p. p.authority) own)))

pub returns-in_err-normalize_tail-clause-takes_no_memory : goal.returns-in_err-normalize_tail-clause-takes_no_memory
returns-in_err-normalize_tail-clause-takes_no_memory c h =
    let own = subst (λ p. canonical_texts p ≡ p) (sym c.self.view_is) h in
    absurd (false≢true (c.in_err-normalize_tail.ensures.takes_no_memory
    (each_is_canonical _ (ap (λ p. p.path.segments) own)) (ap (λ p. p.query) own) (ap (λ p. p.fragment) own)))

-- what is put in place is the normal form
made : (c : After-put_authority_copies) → record {
  scheme = c.put_copy.new.scheme;
  authority = c.put_authority_copies.new.authority;
  path = c.normalize_tail.new.path;
  query = c.normalize_tail.new.query;
  fragment = c.normalize_tail.new.fragment;
}
    ≡ normal (record {
      scheme = c.self.inside.scheme;
      authority = c.self.inside.authority;
      path = c.self.inside.path;
      query = c.self.inside.query;
      fragment = c.self.inside.fragment;
    })
made c =
    made_is (record {
      scheme = c.self.inside.scheme;
      authority = c.self.inside.authority;
      path = c.self.inside.path;
      query = c.self.inside.query;
      fragment = c.self.inside.fragment;
    })
    c.put_copy.new.scheme c.put_authority_copies.new.authority c.normalize_tail.new.path c.normalize_tail.new.query c.normalize_tail.new.fragment
    (c.put_copy.ensures ∙ c.in_ok-scheme.ensures.copy)
    c.put_authority_copies.ensures
    c.in_ok-normalize_tail.ensures.path
    c.in_ok-normalize_tail.ensures.query
    c.in_ok-normalize_tail.ensures.fragment

pub invariant_of-self-2 : goal.invariant_of-self-2
invariant_of-self-2 c = subst Valid (sym (made c)) (normal_valid _ c.self.invariant)
