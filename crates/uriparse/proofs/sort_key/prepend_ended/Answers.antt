use Rattle.std.proofs.Common.{[], ◌∷◌, append_assoc, subst, sym}
use Rattle.uriparse_text.specs.Canonical.{canonical_in}
use Rattle.uriparse_text.specs.Ends.{EndsWith}
use Rattle.uriparse.specs.SortKey.{end}
use Rattle.uriparse.proofs.sort_key.prepend_ended.Goals as goal

pub returns-clause-puts : goal.returns-clause-puts
returns-clause-puts c = λ t h.
    subst (EndsWith c.prepend_formed.new.out c.prepend_formed.result) (sym (append_assoc (canonical_in c.args.case c.args.text.now) (end ∷ []) t))
    (c.prepend_formed.ensures.puts _ (c.prepend-len.ensures.puts t h))
