use Rattle.std.proofs.Common.{[], ◌∷◌, ap, append-nil, subst}
use Rattle.uriparse_text.specs.Ends.{EndsWith}
use Rattle.uriparse_reference.proofs.lemmas.writing.EndLemmas.{ends_none}
use Rattle.uriparse.proofs.lemmas.PlaceByteLemmas.{domain_bytes}
use Rattle.uriparse.proofs.lemmas.SortKeyLemmas.{IsUtf8-bytes}
use Rattle.uriparse.proofs.place_key.DomainTextPutText.put.Goals as goal

pub returns-clause-ends : goal.returns-clause-ends
returns-clause-ends c =
    subst (EndsWith c.prepend.new.out c.prepend.result) (ap (λ t. 112 ∷ 2 ∷ t) (append-nil _))
    (c.prepend.ensures.puts _ (c.prepend-len.ensures.puts _ (c.prepend_host_prefix-len.ensures.puts [] (ends_none c.args.out.now))))

pub returns-clause-utf8 : goal.returns-clause-utf8
returns-clause-utf8 c = IsUtf8-bytes _ (domain_bytes _ c.assert_valid.ensures)
