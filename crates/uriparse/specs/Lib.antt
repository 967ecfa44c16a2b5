-- What contracts and callers cite. The definitions of the crates below are named here too, so that a caller need not list those crates.
pub mod Kinds
pub mod Uri
pub mod RelativeReference
pub mod Origin
pub mod Within
pub mod File
pub mod ChangeOf
pub mod Apart
pub mod SortKey
pub mod PlaceKey
pub mod Web
pub mod Disagreement
-- texts: RFC 3986, section 2
pub use Rattle.uriparse_text.specs.Bytes
pub use Rattle.uriparse_text.specs.Classes
pub use Rattle.uriparse_text.specs.Tokens
pub use Rattle.uriparse_text.specs.Cuts as TextCuts
pub use Rattle.uriparse_text.specs.Faults as TextFaults
pub use Rattle.uriparse_text.specs.Offset as TextOffset
pub use Rattle.uriparse_text.specs.Readings
pub use Rattle.uriparse_text.specs.Canonical
pub use Rattle.uriparse_text.specs.Coding
pub use Rattle.uriparse_text.specs.Starts
pub use Rattle.uriparse_text.specs.Query
pub use Rattle.uriparse_text.specs.Pairs
pub use Rattle.uriparse_text.specs.Link
pub use Rattle.uriparse_text.specs.Ambiguous
pub use Rattle.uriparse_text.specs.Fragment
pub use Rattle.uriparse_text.specs.declared.internal.class.Class
pub use Rattle.uriparse_text.specs.declared.internal.token.Case
pub use Rattle.uriparse_text.specs.declared.internal.forward_buffer.TooSmall
pub use Rattle.uriparse_text.specs.declared.query.QueryError
pub use Rattle.uriparse_text.specs.declared.fragment.FragmentError
-- schemes: section 3.1
pub use Rattle.uriparse_scheme.specs.SchemeTable
pub use Rattle.uriparse_scheme.specs.Registered
pub use Rattle.uriparse_scheme.specs.Grammar as SchemeGrammar
pub use Rattle.uriparse_scheme.specs.Scheme
pub use Rattle.uriparse_scheme.specs.Unregistered
pub use Rattle.uriparse_scheme.specs.Normal as SchemeNormal
pub use Rattle.uriparse_scheme.specs.DefaultPort
pub use Rattle.uriparse_scheme.specs.declared.scheme.Scheme as SchemeValue
pub use Rattle.uriparse_scheme.specs.declared.scheme.registered.RegisteredScheme
pub use Rattle.uriparse_scheme.specs.declared.scheme.microsoft.MicrosoftScheme
pub use Rattle.uriparse_scheme.specs.declared.scheme.status.SchemeStatus
pub use Rattle.uriparse_scheme.specs.declared.scheme.error.SchemeError
pub use Rattle.uriparse_scheme.specs.declared.scheme.error.UnregisteredSchemeError
-- authorities: section 3.2
pub use Rattle.uriparse_text.specs.Address
pub use Rattle.uriparse_text.specs.IpAddr
pub use Rattle.uriparse_text.specs.Reach
pub use Rattle.uriparse_text.specs.declared.address.reach.Reach as ReachValue
pub use Rattle.uriparse_authority.specs.Authority
pub use Rattle.uriparse_authority.specs.Username
pub use Rattle.uriparse_authority.specs.Password
pub use Rattle.uriparse_authority.specs.Host
pub use Rattle.uriparse_authority.specs.Within as HostWithin
pub use Rattle.uriparse_authority.specs.Public as HostPublic
pub use Rattle.uriparse_authority.specs.Name
pub use Rattle.uriparse_authority.specs.Future
pub use Rattle.uriparse_authority.specs.Port
pub use Rattle.uriparse_authority.specs.Offset as AuthorityOffset
pub use Rattle.uriparse_authority.specs.Order as AuthorityOrder
pub use Rattle.uriparse_authority.specs.Normal as AuthorityNormal
pub use Rattle.uriparse_authority.specs.declared.authority.host.Host as HostValue
pub use Rattle.uriparse_authority.specs.declared.authority.error.AuthorityError
pub use Rattle.uriparse_authority.specs.declared.authority.error.UsernameError
pub use Rattle.uriparse_authority.specs.declared.authority.error.PasswordError
pub use Rattle.uriparse_authority.specs.declared.authority.error.HostError
pub use Rattle.uriparse_authority.specs.declared.authority.error.PortError
-- paths: section 3.3
pub use Rattle.uriparse_text.specs.Segment
pub use Rattle.uriparse_path.specs.Path
pub use Rattle.uriparse_path.specs.Faults as PathFaults
pub use Rattle.uriparse_path.specs.Offset as PathOffset
pub use Rattle.uriparse_path.specs.Dots
pub use Rattle.uriparse_path.specs.Relative
pub use Rattle.uriparse_path.specs.Edits as PathEdits
pub use Rattle.uriparse_path.specs.Lends as PathLends
pub use Rattle.uriparse_path.specs.Normal as PathNormal
pub use Rattle.uriparse_path.specs.Merge as PathMerge
pub use Rattle.uriparse_path.specs.Relate as PathRelate
pub use Rattle.uriparse_path.specs.Within as PathWithin
pub use Rattle.uriparse_text.specs.declared.segment.error.PathError
-- references: sections 4 and 5
pub use Rattle.uriparse_reference.specs.Reference
pub use Rattle.uriparse_reference.specs.Kinds as ReferenceKinds
pub use Rattle.uriparse_reference.specs.Cuts
pub use Rattle.uriparse_reference.specs.Reading
pub use Rattle.uriparse_reference.specs.Offset
pub use Rattle.uriparse_reference.specs.Order
pub use Rattle.uriparse_reference.specs.View
pub use Rattle.uriparse_reference.specs.OwnedText
pub use Rattle.uriparse_reference.specs.TextEdits
pub use Rattle.uriparse_reference.specs.Escaped
pub use Rattle.uriparse_reference.specs.Into
pub use Rattle.uriparse_reference.specs.Ports
pub use Rattle.uriparse_reference.specs.Masked
pub use Rattle.uriparse_reference.specs.Beside
pub use Rattle.uriparse_reference.specs.PairEdits
pub use Rattle.uriparse_reference.specs.Edits
pub use Rattle.uriparse_reference.specs.Wanted
pub use Rattle.uriparse_reference.specs.Change
pub use Rattle.uriparse_reference.specs.Builder
pub use Rattle.uriparse_reference.specs.Key
pub use Rattle.uriparse_reference.specs.TextKey
pub use Rattle.uriparse_reference.specs.Normal
pub use Rattle.uriparse_reference.specs.Target
pub use Rattle.uriparse_reference.specs.Relate
pub use Rattle.uriparse_reference.specs.declared.uri_reference.edit.Edit
pub use Rattle.uriparse_reference.specs.declared.uri_reference.change.ChangeError
pub use Rattle.uriparse_reference.specs.declared.uri_reference.text.key.ReferenceKey
pub use Rattle.uriparse_reference.specs.declared.uri_reference.error.URIReferenceError
pub use Rattle.uriparse_reference.specs.declared.uri_reference.error.BufferError
pub use Rattle.uriparse_reference.specs.declared.uri_reference.error.TargetError
