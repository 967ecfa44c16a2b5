use Rattle.uriparse_ffi.proofs.keys.write_key.Goals as goal

pub returns-in-Some-clause-refused : goal.returns-in-Some-clause-refused
returns-in-Some-clause-refused c f e is h = c.write_formed.ensures.refused e h
