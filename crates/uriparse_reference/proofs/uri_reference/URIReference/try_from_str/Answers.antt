use Rattle.uriparse_reference.proofs.uri_reference.URIReference.try_from_str.Goals as goal

pub returns-clause-only : goal.returns-clause-only
returns-clause-only c = rw c.as_bytes.ensures.value at c.try_from_bytes.ensures.only
