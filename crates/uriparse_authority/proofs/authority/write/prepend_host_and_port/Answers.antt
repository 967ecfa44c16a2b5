use Rattle.std.proofs.Common.{sym, subst, append_assoc}
use Rattle.std.specs.Option.{option_map}
use Rattle.uriparse_text.specs.Bytes.{colon}
use Rattle.uriparse_text.specs.Cuts.{following}
use Rattle.uriparse_text.specs.Ends.{EndsWith}
use Rattle.uriparse_authority.specs.Ends.{formed_host}
use Rattle.uriparse_authority.specs.Host as host
use Rattle.uriparse_authority.specs.Port as port
use Rattle.uriparse_authority.proofs.authority.write.prepend_host_and_port.Goals as goal

pub returns-clause-puts : goal.returns-clause-puts
returns-clause-puts c = λ t h.
    subst (EndsWith c.prepend_host.new.out c.prepend_host.result)
    (sym (append_assoc (host.text (formed_host c.args.form c.args.host.now)) (following colon (option_map port.text c.args.port)) t))
    (c.prepend_host.ensures.puts _ (c.prepend_port-len.ensures.puts t h))
