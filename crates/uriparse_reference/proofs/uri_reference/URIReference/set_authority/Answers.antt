use Rattle.uriparse_reference.proofs.uri_reference.URIReference.set_authority.Goals as goal

pub returns-in-None : goal.returns-in-None
returns-in-None c = rw c.in-None.is c.remove_authority.ensures
