use Rattle.uriparse_reference.proofs.lemmas.edits.EditLemmas.{settled}
use Rattle.uriparse_reference.proofs.uri_reference.URIReference.apply.Goals as goal

pub returns-in-Scheme : goal.returns-in-Scheme
returns-in-Scheme c = settled c.args.self.now c.set_scheme.new.self _ _ _ c.in-Scheme.is c.set_scheme.ensures

pub returns-in-Authority : goal.returns-in-Authority
returns-in-Authority c = settled c.args.self.now c.set_authority.new.self _ _ _ c.in-Authority.is c.set_authority.ensures

pub returns-in-Path : goal.returns-in-Path
returns-in-Path c = settled c.args.self.now c.set_path.new.self _ _ _ c.in-Path.is c.set_path.ensures

pub returns-in-Query : goal.returns-in-Query
returns-in-Query c = settled c.args.self.now c.set_query.new.self _ _ _ c.in-Query.is c.set_query.ensures

pub returns-in-Fragment : goal.returns-in-Fragment
returns-in-Fragment c = settled c.args.self.now c.set_fragment.new.self _ _ _ c.in-Fragment.is c.set_fragment.ensures
