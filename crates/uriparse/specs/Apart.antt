-- Changes of components that stay, of different components, and of the same ones again.
use Rattle.std.specs.Prelude.{◌≡◌, ◌⊎◌, ℕ, true, List, Option, Some, None, is_some}
use Rattle.std.specs.Option.{option_and_then, option_map}
use Rattle.uriparse_reference.specs.Change.{AuthorityStrings, Strings, changing, is_set}
use Rattle.uriparse_reference.specs.Examples.{if_ok}
use Rattle.uriparse_reference.specs.View.{Viewed}
use Rattle.uriparse_reference.specs.Wanted.{Wanted, Wish}

-- The component is kept, or is to have the string that it has.
abbrev pub IsOwn : Wish → Option (List ℕ) → Type 0
IsOwn c own = (c ≡ None) ⊎ (c ≡ Some own)

-- So is each component.
pub record WantsOwn (c : Wanted) (s : Strings) : Type 0 where
  pub scheme : IsOwn c.scheme s.scheme
  pub username : IsOwn c.username (option_and_then (λ (a : AuthorityStrings). a.username) s.authority)
  pub password : IsOwn c.password (option_and_then (λ (a : AuthorityStrings). a.password) s.authority)
  pub host : IsOwn c.host (option_map (λ (a : AuthorityStrings). a.host) s.authority)
  pub port : IsOwn c.port (option_and_then (λ (a : AuthorityStrings). a.port) s.authority)
  pub path : IsOwn c.path (Some s.path)
  pub query : IsOwn c.query s.query
  pub fragment : IsOwn c.fragment s.fragment

-- ---- two changes, one after the other

-- The first change keeps the component, or the second names it too.
abbrev pub IsReplaced : Wish → Wish → Type 0
IsReplaced c d = (c ≡ None) ⊎ (is_some d ≡ true)

-- The same of two components: the first change's wishes for them, and then the second's.
abbrev pub AreBothReplaced : Wish → Wish → Wish → Wish → Type 0
AreBothReplaced a b e f = ((a ≡ None) × (b ≡ None)) ⊎ ((is_some e ≡ true) × (is_some f ≡ true))

-- The second change names each component that the first one names. If the first names the user name or the password, the second names both, since
-- each takes the other with it. If the first names the host, it sets one, since the user information and the port go with a host, and then the
-- second names the path too, to which an authority gives a slash.
pub record Replaces (d c : Wanted) : Type 0 where
  pub scheme : IsReplaced c.scheme d.scheme
  pub userinfo : AreBothReplaced c.username c.password d.username d.password
  pub host : (c.host ≡ None) ⊎ ((is_set c.host ≡ true) × (is_some d.host ≡ true))
  pub path : ((c.host ≡ None) × (c.path ≡ None)) ⊎ (is_some d.path ≡ true)
  pub port : IsReplaced c.port d.port
  pub query : IsReplaced c.query d.query
  pub fragment : IsReplaced c.fragment d.fragment

-- One of two changes keeps the component.
abbrev pub OneKeeps : Wish → Wish → Type 0
OneKeeps c d = (c ≡ None) ⊎ (d ≡ None)

-- One of two changes keeps both of two components: the first change's wishes for them, and then the second's.
abbrev pub OneKeepsBoth : Wish → Wish → Wish → Wish → Type 0
OneKeepsBoth a b e f = ((a ≡ None) × (b ≡ None)) ⊎ ((e ≡ None) × (f ≡ None))

-- No component is named by both changes. One of them keeps the user name and the password, since a password stands only with a user name, and one
-- keeps the host and the path, since an authority decides whether a path may be empty.
pub record AreApart (c d : Wanted) : Type 0 where
  pub scheme : OneKeeps c.scheme d.scheme
  pub userinfo : OneKeepsBoth c.username c.password d.username d.password
  pub host_and_path : OneKeepsBoth c.host c.path d.host d.path
  pub port : OneKeeps c.port d.port
  pub query : OneKeeps c.query d.query
  pub fragment : OneKeeps c.fragment d.fragment

-- ---- changes of a text: words of examples

-- the text with its components changed, if the change is accepted
abbrev pub changed_text : Wanted → List ℕ → Option (List ℕ)
changed_text c t = option_map (λ (v : Viewed). v.text) (if_ok (changing c t))

-- the text changed twice
abbrev pub changed_twice : Wanted → Wanted → List ℕ → Option (List ℕ)
changed_twice c d t = option_and_then (changed_text d) (changed_text c t)
