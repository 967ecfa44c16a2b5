-- Normal forms of references: RFC 3986, section 6.2.2.
use Rattle.std.specs.Prelude.{◌≡◌, ℕ, Bool, ◌&&◌, List, Option, Some, None, is_none, is_some, bytes_eq}
use Rattle.std.specs.Option.{option_map, option_eq}
use Rattle.uriparse_text.specs.Canonical.{canonical}
use Rattle.uriparse_path.specs.Edits.{with_dot_prefix}
use Rattle.uriparse_path.specs.Path.{PathParts, text}
use Rattle.uriparse_path.specs.declared.path.normal.PathContext.{PathContext}
use Rattle.uriparse_path.specs.Normal as path
use Rattle.uriparse_authority.specs.Authority as authority
use Rattle.uriparse_authority.specs.Normal.{AreCanonicalCopies, canonical_authority}
use Rattle.uriparse_authority.specs.declared.authority.normal.CanonicalCopies.{CanonicalCopies}
use Rattle.uriparse_scheme.specs.Scheme as scheme
use Rattle.uriparse_scheme.specs.Normal.{canonical_scheme}
use Rattle.uriparse_reference.specs.Cuts.{authority_text, path_text, scheme_text}
use Rattle.uriparse_reference.specs.Reference.{Parts, scheme_part, authority_part}

-- The path after this authority or none. Without an authority, a path that would start with "//" gets a leading "/.".
abbrev pub dot_prefixed : Option authority.AuthorityParts → PathParts → PathParts
dot_prefixed (Some a) p = p
dot_prefixed None p = with_dot_prefix p

-- The normal form: each text in canonical spelling, and the normal form of the path, that of a schemeless reference's path without a scheme.
abbrev pub normal : Parts → Parts
normal p = record {
  scheme = option_map canonical_scheme p.scheme;
  authority = option_map canonical_authority p.authority;
  path = dot_prefixed p.authority (path.pnormal p.path (is_none p.scheme));
  query = option_map canonical p.query;
  fragment = option_map canonical p.fragment;
}

-- the same reference with each text in canonical spelling; dot segments are kept
abbrev pub canonical_texts : Parts → Parts
canonical_texts p = record {
  scheme = option_map canonical_scheme p.scheme;
  authority = option_map canonical_authority p.authority;
  path = path.canonical_path p.path;
  query = option_map canonical p.query;
  fragment = option_map canonical p.fragment;
}

-- ---- references that are unchanged

-- what precedes the path
abbrev pub context : Parts → PathContext
context p = record { has_scheme = is_some p.scheme; has_authority = is_some p.authority }

-- Each component has the text of its normal form.
abbrev pub is_normal : Parts → Bool
is_normal p =
    option_eq bytes_eq (option_map scheme.canonical_text p.scheme) (scheme_part p)
    && (option_eq bytes_eq (option_map authority.canonical_text p.authority) (authority_part p)
    && (path.is_normal_at (context p) p.path
    && (option_eq bytes_eq (option_map canonical p.query) p.query
    && option_eq bytes_eq (option_map canonical p.fragment) p.fragment)))

-- each but the authority: a word of a private function's clause alone
abbrev pub is_normal_outside : Parts → Bool
is_normal_outside p =
    option_eq bytes_eq (option_map scheme.canonical_text p.scheme) (scheme_part p)
    && (path.is_normal_at (context p) p.path
    && (option_eq bytes_eq (option_map canonical p.query) p.query
    && option_eq bytes_eq (option_map canonical p.fragment) p.fragment))

-- The path and the scheme print their texts, and the authority in normal form prints its own: a word of a private
-- function's clause alone.
abbrev pub HasOwnTexts : List ℕ → Parts → Type 0
HasOwnTexts t p =
    (text p.path ≡ path_text t)
    × (scheme_part p ≡ scheme_text t)
    × (authority_part (normal p) ≡ authority_text t)

-- ---- copies that are made before any is put in place: words of the clauses of private functions alone

-- The copies are the authority's, if it is present.
abbrev pub AreCopiesIf : Option CanonicalCopies → Option authority.AuthorityParts → Type 0
AreCopiesIf None None = Unit {0}
AreCopiesIf None (Some a) = ⊥
AreCopiesIf (Some copies) None = ⊥
AreCopiesIf (Some copies) (Some a) = AreCanonicalCopies copies a
