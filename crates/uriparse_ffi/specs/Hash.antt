-- Hashes of references.
use Rattle.std.specs.Prelude.{ℕ, List, fold}
use Rattle.std.specs.Hash.DefaultHasher as sip
use Rattle.uriparse_reference.specs.Key.{fed_key}

-- SipHash-1-3 with both keys 0, of what the key of a reference feeds it
abbrev pub hash_of : List ℕ → ℕ
hash_of key = sip.finish (fold sip.write sip.initial (fed_key key))
