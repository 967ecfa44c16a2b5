-- A reference in a text that is owned, and where its components lie there.
use Rattle.std.specs.Prelude.{◌≡◌, ◌≤◌, ◌==◌, ℕ, true, false, List, [], Option, Some, None, Result, Ok, Err, take, drop, length, if◌then◌else◌}
use Rattle.uriparse_text.specs.Scanned.{if_there}
use Rattle.uriparse_text.specs.Spelling.{IsValidText}
use Rattle.uriparse_text.specs.declared.internal.class.Class.TheVariants as class
use Rattle.uriparse_text.specs.declared.internal.token.Case.TheVariants as case
use Rattle.uriparse_authority.specs.Authority as authority
use Rattle.uriparse_authority.specs.Scanned.{IsNamed}
use Rattle.uriparse_reference.specs.declared.uri_reference.error.URIReferenceError.{URIReferenceError}
use Rattle.uriparse_reference.specs.declared.uri_reference.view.offsets.Offsets.{Offsets}
use Rattle.uriparse_reference.specs.Reading.{reading}
use Rattle.uriparse_reference.specs.Reference.{Parts, path_of}
use Rattle.uriparse_reference.specs.View.{AreFound, Viewed}

-- the components that were read, or none
abbrev pub parts_read : Result Parts URIReferenceError → Parts
parts_read (Ok p) = p
parts_read (Err e) = record { scheme = None; authority = None; path = path_of false []; query = None; fragment = None }

-- the components that the text of a reference spells
abbrev pub parts_in : List ℕ → Parts
parts_in t = parts_read (reading t)

abbrev pub viewed_in : List ℕ → Viewed
viewed_in t = record { text = t; parts = parts_in t }

abbrev pub IsReference : List ℕ → Type 0
IsReference t = reading t ≡ Ok (parts_in t)

-- ---- what an owned text keeps beside its text: words of its invariant alone

-- The authority with this text: 0 says that there is none, 3 that it is to be read; else it is a name of so many bytes, canonical if the word is
-- 2, and at most a port.
abbrev pub IsAuthorityOf : ℕ → ℕ → Option ℕ → List ℕ → Option authority.AuthorityParts → Type 0
IsAuthorityOf kind name port t None = (kind == 0) ≡ true
IsAuthorityOf kind name port t (Some a) =
    ((kind == 0) ≡ false) × (authority.reading t ≡ Ok a) × ((kind == 3) ≡ false → IsNamed name (kind == 2) t a × (port ≡ a.port))

-- how many bytes stand between a scheme and an authority
abbrev pub gap : ℕ → ℕ
gap scheme = if scheme == 0 then 2 else 3

-- the text up to a place, and from it on
abbrev pub tail_at : Offsets → List ℕ → List ℕ
tail_at c t = drop c.fragment t

abbrev pub query_at : Offsets → List ℕ → List ℕ
query_at c t = drop c.query (take c.fragment t)

abbrev pub path_at : Offsets → List ℕ → List ℕ
path_at c t = drop c.path (take c.query (take c.fragment t))

abbrev pub front_at : Offsets → List ℕ → List ℕ
front_at c t = take c.path (take c.query (take c.fragment t))

-- The components of the text lie where these numbers say: what precedes the path ends with it, the path with the query, and the query with the
-- fragment.
pub record AreOffsets (t : List ℕ) (c : Offsets) : Type 0 where
  pub authority : Option authority.AuthorityParts
  pub is_found : AreFound t (take c.scheme (front_at c t)) c.known authority (path_at c t) c.count c.escaped (if_there c.has_query (drop 1 (query_at c t)))
      (if_there c.has_fragment (drop 1 (tail_at c t)))
  pub is_authority : IsAuthorityOf c.authority_kind c.name c.port (drop (gap c.scheme) (drop c.scheme (front_at c t))) authority
  pub is_query : IsValidText class.Query case.Kept (c.has_query == 2) (drop 1 (query_at c t))
  pub is_fragment : IsValidText class.Query case.Kept (c.has_fragment == 2) (drop 1 (tail_at c t))
  pub fragment_within : c.fragment ≤ length t
  pub query_within : c.query ≤ c.fragment
  pub path_within : c.path ≤ c.query
  pub scheme_within : c.scheme ≤ c.path
