-- A reference in its text.
use Rattle.std.specs.Prelude.{◌≡◌, ℕ, Bool, true, length, List, Option, IfSome, Result, Ok}
use Rattle.std.specs.Option.{option_map}
use Rattle.uriparse_text.specs.Bytes.{percent}
use Rattle.uriparse_text.specs.Cuts.{lacks, up_to}
use Rattle.uriparse_text.specs.Readings.{◌>>=◌}
use Rattle.uriparse_path.specs.Faults.{ends_path}
use Rattle.uriparse_path.specs.Path.{IsPath, PathParts, pieces}
use Rattle.uriparse_authority.specs.Authority as authority
use Rattle.uriparse_scheme.specs.declared.scheme.registered.RegisteredScheme.{RegisteredScheme}
use Rattle.uriparse_scheme.specs.Registered.{name_of}
use Rattle.uriparse_scheme.specs.Scheme as scheme
use Rattle.uriparse_reference.specs.declared.uri_reference.error.URIReferenceError.{URIReferenceError}
use Rattle.uriparse_reference.specs.Cuts.{scheme_text, path_text, if_some}
use Rattle.uriparse_reference.specs.Key.{key}
use Rattle.uriparse_reference.specs.Reading.{reading, parts_of, text_tail}
use Rattle.uriparse_reference.specs.Reference.{Parts, path_of, print}

-- the text that was read, and the components that it spells
pub record Viewed : Type 0 where
  pub text : List ℕ
  pub parts : Parts

-- a text with its components, or the first fault
abbrev pub viewed : List ℕ → Result Viewed URIReferenceError
viewed t = do
  parts ← reading t
  Ok (record { text = t; parts = parts })

-- the text that a reference prints, and its components
abbrev pub printed : Parts → Viewed
printed p = record { text = print p; parts = p }

-- Views are equal if their components are.
abbrev pub view_key : Viewed → List ℕ
view_key v = key v.parts

-- ---- what a view keeps of its text: words of its invariant and of private functions' clauses alone

-- the components of a reference whose scheme has this text, or none if it is empty
abbrev pub assembled : List ℕ → Option authority.AuthorityParts → PathParts → Option (List ℕ) → Option (List ℕ) → Parts
assembled s a p q f = record { scheme = option_map scheme.named (if_some s); authority = a; path = p; query = q; fragment = f }

-- These pieces were found in the text t: the texts of the scheme, if it is not empty, and of the path, and the other components. The scheme
-- is known by its name, and the path has no escape, where so said. The path has count segments.
pub record AreFound (t scheme : List ℕ) (known : Option RegisteredScheme) (a : Option authority.AuthorityParts) (path : List ℕ) (count escaped : ℕ)
    (q f : Option (List ℕ)) : Type 0 where
  pub is_scheme : if_some scheme ≡ scheme_text t
  pub is_known : IfSome known (λ s. scheme ≡ name_of s)
  pub is_path : IsPath path
  pub is_cut : path ≡ path_text t
  pub is_counted : count ≡ length (pieces path)
  pub has_no_escape : escaped ≡ 0 → lacks percent path ≡ true
  pub is_read : reading t ≡ Ok (parts_of t a path q f)

-- The same for what follows the authority, with or without a scheme and an authority.
pub record AreFoundInTail (has_scheme has_authority : Bool) (u path : List ℕ) (count escaped : ℕ) (q f : Option (List ℕ)) : Type 0 where
  pub is_path : IsPath path
  pub is_cut : path ≡ up_to ends_path u
  pub is_counted : count ≡ length (pieces path)
  pub has_no_escape : escaped ≡ 0 → lacks percent path ≡ true
  pub is_read : text_tail has_scheme has_authority u ≡ Ok (path_of has_authority path, q, f)
