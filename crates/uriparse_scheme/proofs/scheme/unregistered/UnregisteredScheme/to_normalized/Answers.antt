use Rattle.std.proofs.Common.{◌≡◌, IsUtf8, string_bytes, sym, subst, rules}
use Rattle.uriparse_text.specs.Canonical.{canonical_lowered}
use Rattle.uriparse_scheme.specs.Grammar.{IsUnregistered}
use Rattle.uriparse_scheme.proofs.lemmas.schemes.GrammarLemmas.{IsUtf8-scheme}
use Rattle.uriparse_scheme.proofs.lemmas.schemes.NormalLemmas.{unregistered-canonical_lowered}
use Rattle.uriparse_scheme.proofs.scheme.unregistered.UnregisteredScheme.to_normalized.Goals as goal

pub from_utf8_unchecked-requires : goal.from_utf8_unchecked-requires
from_utf8_unchecked-requires c =
    let is = unregistered-canonical_lowered c.args.self.now c.as_bytes.ensures.valid in
    let same : c.in_ok-bytes.bytes.items ≡ canonical_lowered c.args.self.now = search rules in
    subst IsUtf8 (sym same) (IsUtf8-scheme (canonical_lowered c.args.self.now) is.scheme)

pub invariant_of-result : goal.invariant_of-result
invariant_of-result c =
    let same : string_bytes c.from_utf8_unchecked.result ≡ canonical_lowered c.args.self.now = search rules in
    subst IsUnregistered (sym same) (unregistered-canonical_lowered c.args.self.now c.as_bytes.ensures.valid)
