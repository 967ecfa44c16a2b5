-- What `uri edit` makes of a reference, in the order of docs/PROGRAM.md.
use Rattle.std.specs.Prelude.{◌≡◌, ◌⊎◌, ℕ, ◌==◌, ◌≤◌, Bool, true, false, List, [], ◌∷◌, ◌++◌, drop, length, map, flat_map, bytes_eq, codes, if◌then◌else◌, Option, Some, None, is_some, Result, Ok, Err}
use Rattle.std.specs.List.{join_with_byte, list_all}
use Rattle.std.specs.Option.{option_and_then, option_map}
use Rattle.std.specs.Result.{result_ok}
use Rattle.uriparse.specs.Authority as authority
use Rattle.uriparse.specs.Beside.{with_host, with_password, with_port, with_username}
use Rattle.uriparse.specs.Bytes.{ampersand, equals_sign}
use Rattle.uriparse.specs.Edit.TheVariants as edits
use Rattle.uriparse.specs.Edits.{edited}
use Rattle.uriparse.specs.Fragment as fragment
use Rattle.uriparse.specs.Host as host
use Rattle.uriparse.specs.Normal.{normal}
use Rattle.uriparse.specs.PairEdits.{pairs_of, with_pairs}
use Rattle.uriparse.specs.Pairs.{encoded_pair, pairs, sorted_pairs, with_appended, with_pair, without_names}
use Rattle.uriparse.specs.Password as password
use Rattle.uriparse.specs.PathError.TheVariants.{OutOfMemory}
use Rattle.uriparse.specs.PathFaults as path
use Rattle.uriparse.specs.Port as port
use Rattle.uriparse.specs.Ports.{without_default_port}
use Rattle.uriparse.specs.Query as query
use Rattle.uriparse.specs.Reference.{Parts}
use Rattle.uriparse.specs.Scheme as scheme
use Rattle.uriparse.specs.URIReferenceError.{URIReferenceError}
use Rattle.uriparse.specs.URIReferenceError.TheVariants as references
use Rattle.uriparse.specs.Username as username
use Rattle.uri_commands.specs.declared.edit.Act.{Act}
use Rattle.uri_commands.specs.declared.edit.Act.TheVariants as acts
use Rattle.uri_commands.specs.declared.edit.Change.{Change}
use Rattle.uri_commands.specs.declared.edit.Change.TheVariants as changes
use Rattle.uri_commands.specs.declared.edit.Component.{Component}
use Rattle.uri_commands.specs.declared.edit.Component.TheVariants as components
use Rattle.uri_commands.specs.declared.edit.Dropped.{Dropped}
use Rattle.uri_commands.specs.declared.edit.Dropped.TheVariants as dropped
use Rattle.uri_commands.specs.declared.edit.Step.{Step}
use Rattle.uri_commands.specs.declared.edit.Value.{Value}
use Rattle.uri_commands.specs.declared.edit.Value.TheVariants as values

-- an edit, with its value, or its name and value, as they are written
pub data Edit : Type 0 where
  Set : Component → List ℕ → Edit
  Remove : Dropped → Edit
  SetPair : List ℕ → List ℕ → Edit
  AppendPair : List ℕ → List ℕ → Edit
  DropPair : List ℕ → Edit
  SortPairs : Edit
  Normalize : Edit

-- ---- which edits words are

-- the component that the edit of this name sets
abbrev pub component_of : List ℕ → Option Component
component_of name =
    if bytes_eq name (codes "scheme") then Some components.Scheme
    else if bytes_eq name (codes "authority") then Some components.Authority
    else if bytes_eq name (codes "username") then Some components.Username
    else if bytes_eq name (codes "password") then Some components.Password
    else if bytes_eq name (codes "host") then Some components.Host
    else if bytes_eq name (codes "port") then Some components.Port
    else if bytes_eq name (codes "path") then Some components.Path
    else if bytes_eq name (codes "query") then Some components.Query
    else if bytes_eq name (codes "fragment") then Some components.Fragment
    else None

-- what the edit of this name removes
abbrev pub dropped_of : List ℕ → Option Dropped
dropped_of name =
    if bytes_eq name (codes "drop-scheme") then Some dropped.Scheme
    else if bytes_eq name (codes "drop-authority") then Some dropped.Authority
    else if bytes_eq name (codes "drop-host") then Some dropped.Authority
    else if bytes_eq name (codes "drop-userinfo") then Some dropped.Userinfo
    else if bytes_eq name (codes "drop-port") then Some dropped.Port
    else if bytes_eq name (codes "drop-default-port") then Some dropped.DefaultPort
    else if bytes_eq name (codes "drop-query") then Some dropped.Query
    else if bytes_eq name (codes "drop-fragment") then Some dropped.Fragment
    else None

-- an edit of one word
abbrev pub plain_edit : List ℕ → Option Edit
plain_edit word =
    if bytes_eq word (codes "sort-pairs") then Some SortPairs
    else if bytes_eq word (codes "normalize") then Some Normalize
    else option_map Remove (dropped_of word)

-- an edit of two words
abbrev pub valued_edit : List ℕ → List ℕ → Option Edit
valued_edit word value =
    if bytes_eq word (codes "drop-pair") then Some (DropPair value)
    else option_map (λ c. Set c value) (component_of word)

-- an edit of three words
abbrev pub pair_edit : List ℕ → List ℕ → List ℕ → Option Edit
pair_edit word name value =
    if bytes_eq word (codes "set-pair") then Some (SetPair name value)
    else if bytes_eq word (codes "append-pair") then Some (AppendPair name value)
    else None

-- this edit and then the others; or else these edits
abbrev pub then_or : Option Edit → Option (List Edit) → Option (List Edit) → Option (List Edit)
then_or (Some e) others or_these = option_map (λ es. e ∷ es) others
then_or None others or_these = or_these

-- the edits that the words are, if they are edits
abbrev pub edits_of : List (List ℕ) → Option (List Edit)
edits_of [] = Some []
edits_of (w ∷ []) = then_or (plain_edit w) (Some []) None
edits_of (w ∷ u ∷ []) = then_or (plain_edit w) (edits_of (u ∷ [])) (then_or (valued_edit w u) (Some []) None)
edits_of (w ∷ u ∷ v ∷ words) =
    then_or (plain_edit w) (edits_of (u ∷ v ∷ words))
    (then_or (valued_edit w u) (edits_of (v ∷ words))
    (then_or (pair_edit w u v) (edits_of words) None))

-- ---- what an edit makes of a reference

-- the value of such a component that the text spells
abbrev pub value_of : Component → List ℕ → Option Value
value_of components.Scheme t = option_map values.Scheme (result_ok (scheme.reading t))
value_of components.Authority t = option_map values.Authority (result_ok (authority.whole_reading t))
value_of components.Username t = option_map values.Username (result_ok (username.reading t))
value_of components.Password t = option_map values.Password (result_ok (password.reading t))
value_of components.Host t = option_map values.Host (result_ok (host.reading t))
value_of components.Port t = option_map values.Port (result_ok (port.reading t))
value_of components.Path t = option_map values.Path (result_ok (path.reading t))
value_of components.Query t = option_map values.Query (result_ok (query.reading t))
value_of components.Fragment t = option_map values.Fragment (result_ok (fragment.reading t))

-- a name as the query's text of one pair: a "&" or a "=" in it becomes an escape
abbrev pub byte_in_name : ℕ → List ℕ
byte_in_name b = if b == ampersand then codes "%26" else if b == equals_sign then codes "%3D" else b ∷ []

abbrev pub name_text : List ℕ → List ℕ
name_text name = flat_map byte_in_name name

-- whether the value of the edit can be read, if it has one
abbrev pub is_readable : Edit → Bool
is_readable (Set c t) = is_some (value_of c t)
is_readable (DropPair name) = is_some (result_ok (query.reading (name_text name)))
is_readable e = true

-- the same of all these edits
abbrev pub are_readable : List Edit → Bool
are_readable es = list_all is_readable es

-- the reference with this component, if it may have it
abbrev pub set_to : Value → Parts → Option Parts
set_to (values.Scheme s) p = result_ok (edited p (edits.Scheme (Some s)))
set_to (values.Authority a) p = result_ok (edited p (edits.Authority (Some a)))
set_to (values.Username u) p = result_ok (with_username p (Some u))
set_to (values.Password w) p = result_ok (with_password p (Some w))
set_to (values.Host h) p = Some (with_host p h)
set_to (values.Port n) p = result_ok (with_port p n)
set_to (values.Path h) p = result_ok (edited p (edits.Path h))
set_to (values.Query q) p = result_ok (edited p (edits.Query (Some q)))
set_to (values.Fragment f) p = result_ok (edited p (edits.Fragment (Some f)))

-- the reference without this, if it may lack it
abbrev pub without : Dropped → Parts → Option Parts
without dropped.Scheme p = result_ok (edited p (edits.Scheme None))
without dropped.Authority p = result_ok (edited p (edits.Authority None))
without dropped.Userinfo p = result_ok (with_username p None)
without dropped.Port p = result_ok (with_port p None)
without dropped.DefaultPort p = Some (without_default_port p)
without dropped.Query p = result_ok (edited p (edits.Query None))
without dropped.Fragment p = result_ok (edited p (edits.Fragment None))

-- the reference without the query's pairs of the names in this text
abbrev pub without_pairs : List ℕ → Parts → Parts
without_pairs names p = with_pairs p (without_names (pairs names) (pairs_of p))

-- the reference after an edit, or nothing if the edit is rejected
abbrev pub made : Edit → Parts → Option Parts
made (Set c t) p = option_and_then (λ v. set_to v p) (value_of c t)
made (Remove d) p = without d p
made (SetPair name value) p = Some (with_pairs p (with_pair name (encoded_pair (name, Some value)) (pairs_of p)))
made (AppendPair name value) p = Some (with_pairs p (with_appended (encoded_pair (name, Some value)) (pairs_of p)))
made (DropPair name) p = option_map (λ names. without_pairs names p) (result_ok (query.reading (name_text name)))
made SortPairs p = Some (with_pairs p (sorted_pairs (pairs_of p)))
made Normalize p = Some (normal p)

-- the reference after all of these edits, from the left
abbrev pub all_made : List Edit → Parts → Option Parts
all_made [] p = Some p
all_made (e ∷ es) p = option_and_then (all_made es) (made e p)

-- ---- edits that are read

-- the reference after an edit whose value is read
abbrev pub act_made : Act → Parts → Option Parts
act_made (acts.Set v) p = set_to v p
act_made (acts.Drop d) p = without d p
act_made (acts.SetPair name value) p = made (SetPair name.now value.now) p
act_made (acts.AppendPair name value) p = made (AppendPair name.now value.now) p
act_made (acts.DropPairs names) p = Some (without_pairs names p)
act_made acts.SortPairs p = made SortPairs p
act_made acts.Normalize p = made Normalize p

abbrev pub steps_made : List Step → Parts → Option Parts
steps_made [] p = Some p
steps_made (s ∷ ss) p = option_and_then (steps_made ss) (act_made s.act p)

-- ---- words of private functions' clauses alone

abbrev pub edit_of : Change → Edit
edit_of (changes.Set c t) = Set c t.now
edit_of (changes.Drop d) = Remove d
edit_of (changes.SetPair name value) = SetPair name.now value.now
edit_of (changes.AppendPair name value) = AppendPair name.now value.now
edit_of (changes.DropPair name) = DropPair name.now
edit_of changes.SortPairs = SortPairs
edit_of changes.Normalize = Normalize

-- This value is read, or there is none, or memory ran out.
abbrev pub ReadsValue : Option Value → Result Value URIReferenceError → Type 0
ReadsValue value (Ok v) = value ≡ Some v
ReadsValue value (Err x) = (x ≡ references.Path OutOfMemory) ⊎ (value ≡ None)

-- This query is read, or the text is none, or memory ran out.
abbrev pub ReadsQuery : List ℕ → Result (List ℕ) URIReferenceError → Type 0
ReadsQuery t (Ok q) = result_ok (query.reading t) ≡ Some q
ReadsQuery t (Err x) = (x ≡ references.Path OutOfMemory) ⊎ (result_ok (query.reading t) ≡ None)

-- The changes are so many edits drop-pair, and then others. The text has this name and theirs.
pub record DropsPairs (name : List ℕ) (changes : List Change) (text : List ℕ) (count : ℕ) : Type 0 where
  pub names : List (List ℕ)
  pub within : count ≤ length changes
  pub begin : map edit_of changes ≡ map DropPair names ++ map edit_of (drop count changes)
  pub text_is : text ≡ join_with_byte ampersand (map name_text (name ∷ names))

-- The edit and so many of the changes are readable, and make this of a reference.
pub record Reads (e : Edit) (changes : List Change) (effect : Parts → Option Parts) (count : ℕ) : Type 0 where
  pub within : count ≤ length changes
  pub readable : are_readable (e ∷ map edit_of changes) ≡ are_readable (map edit_of (drop count changes))
  pub makes : (p : Parts) → all_made (e ∷ map edit_of changes) p ≡ option_and_then (all_made (map edit_of (drop count changes))) (effect p)

-- A value of theirs can't be read, or memory ran out.
abbrev pub ReadsNone : Edit → List Change → URIReferenceError → Type 0
ReadsNone e changes x = (x ≡ references.Path OutOfMemory) ⊎ (are_readable (e ∷ map edit_of changes) ≡ false)

abbrev pub ReadsNames : List ℕ → List Change → Result (List ℕ × ℕ) URIReferenceError → Type 0
ReadsNames name changes (Ok x) = Reads (DropPair name) changes (λ p. Some (without_pairs x.0 p)) x.1
ReadsNames name changes (Err x) = ReadsNone (DropPair name) changes x

abbrev pub ReadsAct : Edit → List Change → Result (Act × ℕ) URIReferenceError → Type 0
ReadsAct e changes (Ok x) = Reads e changes (act_made x.0) x.1
ReadsAct e changes (Err x) = ReadsNone e changes x
