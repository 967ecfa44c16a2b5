-- An authority whose text is put at the end of a buffer.
use Rattle.uriparse_text.specs.declared.internal.backward_buffer.Form.{Form}
use Rattle.uriparse_text.specs.declared.internal.backward_buffer.Form.TheVariants.{AsIs, Canonical}
use Rattle.uriparse_authority.specs.declared.authority.host.Host.{Host}
use Rattle.uriparse_authority.specs.Authority.{AuthorityParts}
use Rattle.uriparse_authority.specs.Normal.{canonical_host, canonical_authority}

-- the host as it is, or in canonical spelling
abbrev pub formed_host : Form → Host → Host
formed_host AsIs h = h
formed_host Canonical h = canonical_host h

-- the authority as it is, or in canonical spelling
abbrev pub formed_authority : Form → AuthorityParts → AuthorityParts
formed_authority AsIs p = p
formed_authority Canonical p = canonical_authority p
