use Rattle.std.proofs.Common.{◌++◌, [], ap, subst, ◌∙◌, append-nil}
use Rattle.std.specs.Prelude.{IfSome, codes}
use Rattle.std.specs.Option.{option_map}
use Rattle.uriparse_text.specs.Bytes.{colon}
use Rattle.uriparse_text.specs.Canonical.{canonical_lowered}
use Rattle.uriparse_text.specs.Cuts.{following}
use Rattle.uriparse_text.specs.Ends.{EndsWith}
use Rattle.uriparse_authority.specs.Normal.{canonical_host}
use Rattle.uriparse_authority.specs.Host as host
use Rattle.uriparse_authority.specs.Port as port
use Rattle.uriparse_authority.proofs.lemmas.authorities.NormalLemmas.{host_text-canonical}
use Rattle.uriparse_scheme.specs.Scheme as scheme
use Rattle.uriparse_reference.proofs.lemmas.writing.EndLemmas.{ends_none}
use Rattle.uriparse.specs.Origin.{named_port}
use Rattle.uriparse.proofs.lemmas.OriginLemmas.{IsUtf8-text}
use Rattle.uriparse.proofs.uri.origin.OriginPutText.put.Goals as goal

pub returns-clause-ends : goal.returns-clause-ends
returns-clause-ends c =
    let o = c.args.self.now in
    let h = host.text (canonical_host o.host) ++ following colon (option_map port.text c.named_port-port.result) in
    subst (EndsWith c.prepend_formed.new.out c.prepend_formed.result)
    (ap (λ t. canonical_lowered t ++ (codes "://" ++ (h ++ []))) (c.as_bytes-scheme.ensures.value ∙ c.as_str.ensures.value)
    ∙ ap (λ t. scheme.canonical_text o.scheme ++ (codes "://" ++ t)) (append-nil h)
    ∙ ap (λ t. scheme.canonical_text o.scheme ++ (codes "://" ++ (t ++ following colon (option_map port.text c.named_port-port.result)))) (host_text-canonical o.host)
    ∙ ap (λ n. scheme.canonical_text o.scheme ++ (codes "://" ++ (host.canonical_text o.host ++ following colon (option_map port.text n)))) c.named_port-port.ensures)
    (c.prepend_formed.ensures.puts _ (c.prepend-len.ensures.puts _ (c.prepend_host_and_port-len.ensures.puts _ (ends_none c.args.out.now))))

pub returns-clause-utf8 : goal.returns-clause-utf8
returns-clause-utf8 c =
    let o = c.args.self.now in
    IsUtf8-text o c.as_str.ensures.valid c.prepend_host_and_port-len.ensures.valid
    (subst (λ n. IfSome n port.IsPort) c.named_port-port.ensures c.assert_port.ensures)
