use Rattle.std.proofs.Common.{ap}
use Rattle.std.proofs.lemmas.Slice.Eq.{bytes_eq-Decides}
use Rattle.uriparse_reference.specs.Key.{key}
use Rattle.uriparse_ffi.specs.Hash.{hash_of}
use Rattle.uriparse_ffi.proofs.laws.equal_hashes.Goals as goal

pub returns : goal.returns
returns c p q h = ap hash_of ((bytes_eq-Decides (key p) (key q)).0 h)
