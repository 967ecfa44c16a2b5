-- What each command prints, in the order of docs/PROGRAM.md.
use Rattle.std.specs.Prelude.{◌≡◌, ◌⊎◌, ℕ, ◌<◌, ◌==◌, ◌&&◌, ◌||◌, Bool, true, false, not, List, [], ◌∷◌, ◌++◌, flat_map, length, map, bytes_eq, codes, decimal, if◌then◌else◌, Option, Some, None, is_some, unwrap_or, Result, Ok, Err, MatchOption, MatchResult, Vec}
use Rattle.std.specs.declared.alloc.Global.{Global}
use Rattle.std.specs.Io.KnownBytes.{Appends}
use Rattle.std.specs.List.{join_with_byte, list_any, slice_split}
use Rattle.std.specs.Option.{IsSomeAnd, option_and_then, option_map}
use Rattle.uriparse.specs.Bytes.{equals_sign, number_sign, question_mark}
use Rattle.uriparse.specs.Authority.{AuthorityParts}
use Rattle.uriparse.specs.ChangeError.TheVariants as changes
use Rattle.uriparse.specs.BufferError.{BufferError}
use Rattle.uriparse.specs.BufferError.TheVariants as buffers
use Rattle.uriparse.specs.Class.{Class}
use Rattle.uriparse.specs.Class.TheVariants as class
use Rattle.uriparse.specs.Coding.{decoded, encoded}
use Rattle.uriparse.specs.Escaped.{escaped}
use Rattle.uriparse.specs.File.{path_of_uri, uri_of_path}
use Rattle.uriparse.specs.declared.file.error.FileError.TheVariants as files
use Rattle.uriparse.specs.Fragment as fragment
use Rattle.uriparse.specs.Host as host
use Rattle.uriparse.specs.HostValue.{Host}
use Rattle.uriparse.specs.HostWithin as hosts
use Rattle.uriparse.specs.Key.{key}
use Rattle.uriparse.specs.Kinds.{fault_of}
use Rattle.uriparse.specs.Link.{link}
use Rattle.uriparse.specs.Normal.{normal}
use Rattle.uriparse.specs.Origin as origin
use Rattle.uriparse.specs.PairEdits.{pair_in}
use Rattle.uriparse.specs.Pairs.{Pair, pairs, piece_of}
use Rattle.uriparse.specs.Path as path
use Rattle.uriparse.specs.Path.{PathParts}
use Rattle.uriparse.specs.PathFaults as paths
use Rattle.uriparse.specs.PathError.TheVariants.{ExceededMaximumLength, OutOfMemory}
use Rattle.uriparse.specs.Ports.{without_default_port}
use Rattle.uriparse.specs.Disagreement.{disagreement}
use Rattle.uriparse.specs.declared.uri.disagreement.Disagreement.{Disagreement}
use Rattle.uriparse.specs.declared.uri.disagreement.Disagreement.TheVariants as reasons
use Rattle.uriparse.specs.Query as query
use Rattle.uriparse.specs.Reading.{fault}
use Rattle.uriparse.specs.Reference.{Parts, Spells, authority_part, host_of, password_of, port_of, print, scheme_part, username_of}
use Rattle.uriparse.specs.Relate.{relative}
use Rattle.uriparse.specs.SortKey.{sort_key}
use Rattle.uriparse.specs.Target.{target}
use Rattle.uriparse.specs.TextCuts.{after, before}
use Rattle.uriparse.specs.URIReferenceError.{URIReferenceError}
use Rattle.uriparse.specs.URIReferenceError.TheVariants as references
use Rattle.uriparse.specs.Uri.{map_error}
use Rattle.uriparse.specs.Within.{IsWithin}
use Rattle.uriparse.specs.declared.uri.error.URIError.{URIError}
use Rattle.uriparse.specs.declared.uri.error.URIError.TheVariants as uris
use Rattle.uri_commands.specs.Columns.{tab}
use Rattle.uri_commands.specs.Edits.{Edit, all_made, are_readable, edits_of, steps_made}
use Rattle.uri_commands.specs.Help.{page_on, summary, version}
use Rattle.uri_commands.specs.Json.{kind_name, object}
use Rattle.uri_commands.specs.Lines.{newline}
use Rattle.uri_commands.specs.declared.commands.Task.{Task}
use Rattle.uri_commands.specs.declared.commands.Task.TheVariants as tasks
use Rattle.uri_commands.specs.declared.edit.Step.{Step}
use Rattle.uri_commands.specs.declared.failure.Failure.{Failure}
use Rattle.uri_commands.specs.declared.failure.Failure.TheVariants as failures
use Rattle.uri_commands.specs.declared.failure.EditError.{EditError}
use Rattle.uri_commands.specs.declared.failure.EditError.TheVariants as edits
use Rattle.uri_commands.specs.declared.get.Part.{Part}
use Rattle.uri_commands.specs.declared.get.Part.TheVariants as part
use Rattle.uri_commands.specs.declared.options.Mode.{Mode}
use Rattle.uri_commands.specs.declared.options.Mode.TheVariants as modes
use Rattle.uri_commands.specs.declared.options.Options.{Options}

-- ---- answers

-- what a command answers to its input
pub data Answer : Type 0 where
  Printed : List ℕ → Answer  -- these bytes, and status 0
  Rejected : Answer  -- nothing, and status 1
  Negative : Answer  -- nothing, and status 3: absent, different or not within
  Unknown : Answer  -- nothing, and status 2: no command has these words

-- the bytes, on a line of their own
abbrev pub line : List ℕ → List ℕ
line bytes = bytes ++ newline ∷ []

-- the answer prints a line of these bytes
abbrev pub Prints : List ℕ → Answer → Type 0
Prints bytes a = a ≡ Printed (line bytes)

-- the same of bytes that are present, and else the answer is negative
abbrev pub PrintsIfPresent : Option (List ℕ) → Answer → Type 0
PrintsIfPresent None a = a ≡ Negative
PrintsIfPresent (Some bytes) a = Prints bytes a

-- the one answer if this is so, and else the other
abbrev pub IfSo : Type 0 → Answer → Answer → Answer → Type 0
IfSo Is inside outside a = (Is × (a ≡ inside)) ⊎ ((Is → ⊥) × (a ≡ outside))

-- ---- input

-- the answer to a text that is to be a reference
abbrev pub OfReference : List ℕ → (Parts → Answer → Type 0) → Answer → Type 0
OfReference t Is a = ((p : Parts) × Spells t p × Is p a) ⊎ ((e : URIReferenceError) × (fault t ≡ Some e) × (a ≡ Rejected))

-- what comes of a text that is to be a URI, or else this
abbrev pub OfUriOr : {A : Type 0} → A → List ℕ → (Parts → A → Type 0) → A → Type 0
OfUriOr rejected t Is a =
    ((p : Parts) × Spells t p × (is_some p.scheme ≡ true) × Is p a)
    ⊎ ((e : URIError) × (fault_of true map_error uris.NotURI t ≡ Some e) × (a ≡ rejected))

-- the answer to such a text
abbrev pub OfUri : List ℕ → (Parts → Answer → Type 0) → Answer → Type 0
OfUri t Is a = OfUriOr Rejected t Is a

-- the answer to a line of two texts, with the first tab between them
abbrev pub OfPair : List ℕ → (List ℕ → List ℕ → Answer → Type 0) → Answer → Type 0
OfPair t Is a = MatchOption (after tab t) (a ≡ Rejected) (λ second. Is (before tab t) second a)

-- ---- commands

-- a line NAME=VALUE, if the component is present
abbrev pub component : List ℕ → Option (List ℕ) → List ℕ
component name None = []
component name (Some value) = line (name ++ equals_sign ∷ value)

-- the host, whose name says of which kind it is
abbrev pub host_name : Host → List ℕ
host_name h = codes "host." ++ kind_name (host.kind h)

abbrev pub authority_components : Option AuthorityParts → List ℕ
authority_components None = []
authority_components (Some a) =
    component (codes "username") a.username
    ++ (component (codes "password") a.password
    ++ (component (host_name a.host) (Some (host.text a.host))
    ++ component (codes "port") (option_map decimal a.port)))

-- parse: the reference, then each component
abbrev pub reference_lines : Parts → List ℕ
reference_lines p =
    line (print p)
    ++ (component (codes "scheme") (scheme_part p)
    ++ (authority_components p.authority
    ++ (component (codes "path") (Some (path.text p.path))
    ++ (component (codes "query") p.query
    ++ component (codes "fragment") p.fragment))))

abbrev pub Parses : List ℕ → Answer → Type 0
Parses t = OfReference t (λ p a. a ≡ Printed (reference_lines p))

-- tail: the text, and the path, the query and the fragment that it is made of, a line each
abbrev pub tail_lines : List ℕ → PathParts → Option (List ℕ) → Option (List ℕ) → List ℕ
tail_lines t p q f =
    line t
    ++ (component (codes "path") (Some (path.text p))
    ++ (component (codes "query") q
    ++ component (codes "fragment") f))

-- what is read of a component, if it is present
abbrev pub if_present : {E : Type 0} → (List ℕ → Result (List ℕ) E) → Option (List ℕ) → Result (Option (List ℕ)) E
if_present reading None = Ok None
if_present reading (Some t) = found (reading t)
  where
    found : {E : Type 0} → Result (List ℕ) E → Result (Option (List ℕ)) E
    found (Ok x) = Ok (Some x)
    found (Err e) = Err e

abbrev pub Tails : List ℕ → Answer → Type 0
Tails t a =
    MatchResult (paths.reading (before question_mark (before number_sign t)))
    (λ p. MatchResult (if_present query.reading (after question_mark (before number_sign t)))
    (λ q. MatchResult (if_present fragment.reading (after number_sign t)) (λ f. a ≡ Printed (tail_lines t p q f)) (λ e. a ≡ Rejected))
    (λ e. a ≡ Rejected))
    (λ e. a ≡ Rejected)

-- get: the text of a part, if it is present
abbrev pub part_text : Part → Parts → Option (List ℕ)
part_text part.Scheme p = scheme_part p
part_text part.Authority p = authority_part p
part_text part.Username p = username_of p
part_text part.Password p = password_of p
part_text part.Host p = option_map host.text (host_of p)
part_text part.Port p = option_map decimal (port_of p)
part_text part.Path p = Some (path.text p.path)
part_text part.Query p = p.query
part_text part.Fragment p = p.fragment
part_text part.Origin p = option_map origin.text (origin.origin p)

abbrev pub Gets : Part → List ℕ → Answer → Type 0
Gets part t = OfReference t (λ p. PrintsIfPresent (part_text part p))

-- with --lines an absent part is empty, and so it is among several, which tabs separate
abbrev pub GetsOrEmpty : Part → List ℕ → Answer → Type 0
GetsOrEmpty part t = OfReference t (λ p. Prints (unwrap_or (part_text part p) []))

abbrev pub GetsParts : List Part → List ℕ → Answer → Type 0
GetsParts parts t = OfReference t (λ p. Prints (join_with_byte tab (map (λ part. unwrap_or (part_text part p) []) parts)))

-- the part of this name
abbrev pub part_of : List ℕ → Option Part
part_of name =
    if bytes_eq name (codes "scheme") then Some part.Scheme
    else if bytes_eq name (codes "authority") then Some part.Authority
    else if bytes_eq name (codes "username") then Some part.Username
    else if bytes_eq name (codes "password") then Some part.Password
    else if bytes_eq name (codes "host") then Some part.Host
    else if bytes_eq name (codes "port") then Some part.Port
    else if bytes_eq name (codes "path") then Some part.Path
    else if bytes_eq name (codes "query") then Some part.Query
    else if bytes_eq name (codes "fragment") then Some part.Fragment
    else if bytes_eq name (codes "origin") then Some part.Origin
    else None

-- the parts of these names, if each is a part's
abbrev pub parts_of : List (List ℕ) → Option (List Part)
parts_of [] = Some []
parts_of (name ∷ names) = option_and_then (λ p. option_map (λ ps. p ∷ ps) (parts_of names)) (part_of name)

-- the parts of these names, which commas separate
abbrev pub parts_named : List ℕ → Option (List Part)
parts_named names = parts_of (slice_split (λ b. b == 44) names)

-- get NAMES: one part as above, several with tabs between them
abbrev pub GetsEach : List Part → List ℕ → Answer → Type 0
GetsEach (p ∷ []) t = Gets p t
GetsEach ps t = GetsParts ps t

abbrev pub GetsNames : List ℕ → List ℕ → Answer → Type 0
GetsNames names t a = MatchOption (parts_named names) (a ≡ Unknown) (λ ps. GetsEach ps t a)

-- normalize: the normal form
abbrev pub Normalizes : List ℕ → Answer → Type 0
Normalizes t = OfReference t (λ p. Prints (print (normal p)))

-- key: the sort key
abbrev pub Keys : List ℕ → Answer → Type 0
Keys t = OfReference t (λ p. Prints (sort_key p))

-- audit: the first reason why readers may disagree
abbrev pub reason_word : Option Disagreement → List ℕ
reason_word None = codes "agree"
reason_word (Some reasons.Scheme) = codes "scheme"
reason_word (Some reasons.NoHost) = codes "no-host"
reason_word (Some reasons.LaterAddress) = codes "later-address"
reason_word (Some reasons.EscapedName) = codes "escaped-name"
reason_word (Some reasons.NumericName) = codes "numeric-name"
reason_word (Some reasons.EncodedName) = codes "encoded-name"
reason_word (Some reasons.EscapedDots) = codes "escaped-dots"
reason_word (Some reasons.UserInformation) = codes "user-information"

abbrev pub Audits : List ℕ → Answer → Type 0
Audits t = OfReference t (λ p. Prints (reason_word (disagreement p)))

-- equal: whether two references are equal
abbrev pub equal_or_different : Bool → List ℕ
equal_or_different true = codes "equal"
equal_or_different false = codes "different"

abbrev pub ComparesWith : Parts → List ℕ → Answer → Type 0
ComparesWith p t = OfReference t (λ q. Prints (equal_or_different (bytes_eq (key p) (key q))))

abbrev pub Compares : List ℕ → List ℕ → Answer → Type 0
Compares t u = OfReference t (λ p. ComparesWith p u)

-- resolve: the target against a base, if there is one
abbrev pub ResolvesAgainst : Parts → List ℕ → Answer → Type 0
ResolvesAgainst base t = OfReference t (λ p a. MatchOption (target base p) (a ≡ Rejected) (λ q. Prints (print q) a))

abbrev pub Resolves : List ℕ → List ℕ → Answer → Type 0
Resolves base t = OfUri base (λ b. ResolvesAgainst b t)

-- relativize: the reference that leads from the base to the URI
abbrev pub LeadsTo : Parts → Parts → Answer → Type 0
LeadsTo base p = Prints (print (relative base p))

abbrev pub RelativizesAgainst : Parts → List ℕ → Answer → Type 0
RelativizesAgainst base t = OfUri t (LeadsTo base)

abbrev pub Relativizes : List ℕ → List ℕ → Answer → Type 0
Relativizes base t = OfUri base (λ b. RelativizesAgainst b t)

-- decode: the bytes that a query stands for
abbrev pub Decodes : List ℕ → Answer → Type 0
Decodes t a = MatchResult (query.reading t) (λ q. Prints (decoded q) a) (λ e. a ≡ Rejected)

-- encode: the text as a component of this kind
abbrev pub class_of : List ℕ → Option Class
class_of kind =
    if bytes_eq kind (codes "segment") then Some class.Segment
    else if bytes_eq kind (codes "query") then Some class.Query
    else if bytes_eq kind (codes "fragment") then Some class.Query
    else if bytes_eq kind (codes "username") then Some class.Name
    else if bytes_eq kind (codes "password") then Some class.UserInfo
    else None

abbrev pub Encodes : List ℕ → List ℕ → Answer → Type 0
Encodes kind t a = MatchOption (class_of kind) (a ≡ Unknown) (λ c. Prints (encoded c t) a)

-- escape: the text as a reference
abbrev pub Escapes : List ℕ → Answer → Type 0
Escapes t = Prints (escaped t)

-- pairs: the pieces of the query, each on a line
abbrev pub pair_lines : List Pair → List ℕ
pair_lines ps = flat_map (λ p. line (piece_of p)) ps

abbrev pub PrintsPairs : Option (List ℕ) → Answer → Type 0
PrintsPairs None a = a ≡ Negative
PrintsPairs (Some q) a = a ≡ Printed (pair_lines (pairs q))

abbrev pub Pairs : List ℕ → Answer → Type 0
Pairs t = OfReference t (λ p. PrintsPairs p.query)

-- pair: the bytes that the value of the first pair of a name stands for; with --lines the value as it stands, or an empty line
abbrev pub GetsPair : List ℕ → List ℕ → Answer → Type 0
GetsPair name t = OfReference t (λ p. PrintsIfPresent (option_map decoded (pair_in name p)))

abbrev pub GetsPairOrEmpty : List ℕ → List ℕ → Answer → Type 0
GetsPairOrEmpty name t = OfReference t (λ p. Prints (unwrap_or (pair_in name p) []))

-- within: nothing if the URI is below the base; with --lines the line itself
abbrev pub IsBelow : Parts → List ℕ → Answer → Answer → Answer → Type 0
IsBelow base t inside outside = OfUri t (λ p. IfSo (IsWithin p base) inside outside)

abbrev pub Within : List ℕ → List ℕ → Answer → Type 0
Within base t = OfUri base (λ b. IsBelow b t (Printed []) Negative)

abbrev pub PrintsWithin : Parts → List ℕ → Answer → Type 0
PrintsWithin base t = IsBelow base t (Printed (line t)) (Printed [])

-- host-within: the same of a host and a domain; a reference without a host is under no domain
abbrev pub IsUnder : Host → Parts → Type 0
IsUnder domain p = IsSomeAnd (host_of p) (λ h. hosts.IsWithin h domain)

abbrev pub HasHostUnder : Host → List ℕ → Answer → Answer → Answer → Type 0
HasHostUnder domain t inside outside = OfReference t (λ p. IfSo (IsUnder domain p) inside outside)

abbrev pub HostWithin : List ℕ → List ℕ → Answer → Type 0
HostWithin domain t a = MatchResult (host.reading domain) (λ d. HasHostUnder d t (Printed []) Negative a) (λ e. a ≡ Rejected)

abbrev pub PrintsHostWithin : Host → List ℕ → Answer → Type 0
PrintsHostWithin domain t = HasHostUnder domain t (Printed (line t)) (Printed [])

-- file: the URI of a path
abbrev pub Files : List ℕ → Answer → Type 0
Files t a = MatchResult (uri_of_path t) (λ u. Prints (print u) a) (λ e. a ≡ Rejected)

-- get file: the path that a URI names
abbrev pub GetsFile : List ℕ → Answer → Type 0
GetsFile t = OfUri t (λ p a. MatchResult (path_of_uri p) (λ path. Prints path a) (λ e. a ≡ Rejected))

-- edit with --lines: the reference that the edits make, if none of them is rejected
abbrev pub Edited : Option Parts → Answer → Type 0
Edited made a = MatchOption made (a ≡ Rejected) (λ q. Prints (print q) a)

abbrev pub EditsLine : (Parts → Option Parts) → List ℕ → Answer → Type 0
EditsLine make t = OfReference t (λ p. Edited (make p))

-- edit: the words are checked before the text is read
abbrev pub Edits : List ℕ → List (List ℕ) → Answer → Type 0
Edits t words a = MatchOption (edits_of words) (a ≡ Unknown) (λ es. EditsLine (all_made es) t a)

-- ---- options

-- --json parse: the object
abbrev pub ParsesJson : List ℕ → Answer → Type 0
ParsesJson t = OfReference t (λ p. Prints (object t p))

-- --quiet parse and --quiet equal: nothing
abbrev pub Checks : List ℕ → Answer → Type 0
Checks t a = MatchOption (fault t) (a ≡ Printed []) (λ e. a ≡ Rejected)

abbrev pub nothing_if : Bool → Answer
nothing_if true = Printed []
nothing_if false = Negative

abbrev pub ChecksAgainst : Parts → List ℕ → Answer → Type 0
ChecksAgainst p t = OfReference t (λ q a. a ≡ nothing_if (bytes_eq (key p) (key q)))

abbrev pub ChecksEqual : List ℕ → List ℕ → Answer → Type 0
ChecksEqual t u = OfReference t (λ p. ChecksAgainst p u)

-- --drop-default-port normalize: the normal form without a default port
abbrev pub NormalizesPort : List ℕ → Answer → Type 0
NormalizesPort t = OfReference t (λ p. Prints (print (without_default_port (normal p))))

-- --trim escape: the same without what surrounds a link
abbrev pub EscapesLink : List ℕ → Answer → Type 0
EscapesLink t = Escapes (link t)

-- --lines: the answer to each line
abbrev pub AnswersLine : Task → List ℕ → Answer → Type 0
AnswersLine tasks.Parse t = ParsesJson t
AnswersLine tasks.Check t = Checks t
AnswersLine (tasks.Get part) t = GetsOrEmpty part t
AnswersLine (tasks.GetParts parts) t = GetsParts parts.items t
AnswersLine tasks.Normalize t = Normalizes t
AnswersLine tasks.NormalizePort t = NormalizesPort t
AnswersLine tasks.Key t = Keys t
AnswersLine tasks.Audit t = Audits t
AnswersLine tasks.Equal t = OfPair t Compares
AnswersLine tasks.CheckEqual t = OfPair t ChecksEqual
AnswersLine (tasks.Resolve base) t = ResolvesAgainst base.parts t
AnswersLine (tasks.Relativize base) t = RelativizesAgainst base t
AnswersLine (tasks.Edit steps) t = EditsLine (steps_made steps.items) t
AnswersLine (tasks.Pair name) t = GetsPairOrEmpty name.now t
AnswersLine (tasks.Within base) t = PrintsWithin base.parts t
AnswersLine (tasks.HostWithin domain) t = PrintsHostWithin domain t
AnswersLine tasks.Escape t = Escapes t
AnswersLine tasks.EscapeLink t = EscapesLink t

-- ---- words

-- the one relation if the test is true, and else the other
infix 5 when◌then◌else◌
abbrev pub when◌then◌else◌ : {A : Type 0} → Bool → (A → Type 0) → (A → Type 0) → A → Type 0
(when true then Is else Other) a = Is a
(when false then Is else Other) a = Other a

-- no command has these words
abbrev pub IsUnknown : Answer → Type 0
IsUnknown a = a ≡ Unknown

-- get NAMES, and get file
abbrev pub GetsNamed : List ℕ → List ℕ → Answer → Type 0
GetsNamed names t = when bytes_eq names (codes "file") then GetsFile t else GetsNames names t

-- exactly these bytes
abbrev pub PrintsBytes : List ℕ → Answer → Type 0
PrintsBytes bytes a = a ≡ Printed bytes

-- help: what there is, or the page on a command or an option
abbrev pub HelpsOn : List ℕ → Answer → Type 0
HelpsOn name a = MatchOption (page_on name) (a ≡ Unknown) (λ page. a ≡ Printed page)

abbrev pub Helps : List (List ℕ) → Answer → Type 0
Helps [] = PrintsBytes summary
Helps (name ∷ []) = HelpsOn name
Helps texts = IsUnknown

-- a command without texts, of one or of two
abbrev pub OnNothing : (Answer → Type 0) → List (List ℕ) → Answer → Type 0
OnNothing Is [] = Is
OnNothing Is texts = IsUnknown

abbrev pub OnText : (List ℕ → Answer → Type 0) → List (List ℕ) → Answer → Type 0
OnText Is (t ∷ []) = Is t
OnText Is texts = IsUnknown

abbrev pub OnTexts : (List ℕ → List ℕ → Answer → Type 0) → List (List ℕ) → Answer → Type 0
OnTexts Is (t ∷ u ∷ []) = Is t u
OnTexts Is texts = IsUnknown

-- a command of a text and of edits
abbrev pub OnEdits : List (List ℕ) → Answer → Type 0
OnEdits [] = IsUnknown
OnEdits (t ∷ edits) = Edits t edits

-- the command of this name, of so many texts as it takes
abbrev pub AnswersNamed : List ℕ → List (List ℕ) → Answer → Type 0
AnswersNamed name texts =
    when bytes_eq name (codes "parse") then OnText Parses texts else
    when bytes_eq name (codes "tail") then OnText Tails texts else
    when bytes_eq name (codes "get") then OnTexts GetsNamed texts else
    when bytes_eq name (codes "normalize") then OnText Normalizes texts else
    when bytes_eq name (codes "key") then OnText Keys texts else
    when bytes_eq name (codes "audit") then OnText Audits texts else
    when bytes_eq name (codes "equal") then OnTexts Compares texts else
    when bytes_eq name (codes "resolve") then OnTexts Resolves texts else
    when bytes_eq name (codes "relativize") then OnTexts Relativizes texts else
    when bytes_eq name (codes "decode") then OnText Decodes texts else
    when bytes_eq name (codes "encode") then OnTexts Encodes texts else
    when bytes_eq name (codes "escape") then OnText Escapes texts else
    when bytes_eq name (codes "pairs") then OnText Pairs texts else
    when bytes_eq name (codes "pair") then OnTexts GetsPair texts else
    when bytes_eq name (codes "within") then OnTexts Within texts else
    when bytes_eq name (codes "host-within") then OnTexts HostWithin texts else
    when bytes_eq name (codes "file") then OnText Files texts else
    when bytes_eq name (codes "help") then Helps texts else
    when bytes_eq name (codes "--version") then OnNothing (PrintsBytes version) texts else
    IsUnknown

-- the same with these options
abbrev pub AnswersTo : Mode → List ℕ → List (List ℕ) → Answer → Type 0
AnswersTo modes.Plain name texts = AnswersNamed name texts
AnswersTo modes.Json name texts = when bytes_eq name (codes "parse") then OnText ParsesJson texts else IsUnknown
AnswersTo modes.Quiet name texts =
    when bytes_eq name (codes "parse") then OnText Checks texts else
    when bytes_eq name (codes "equal") then OnTexts ChecksEqual texts else
    IsUnknown
AnswersTo modes.Trim name texts = when bytes_eq name (codes "escape") then OnText EscapesLink texts else IsUnknown
AnswersTo modes.DropDefaultPort name texts = when bytes_eq name (codes "normalize") then OnText NormalizesPort texts else IsUnknown
AnswersTo modes.Mixed name texts = IsUnknown

-- the same of each command
abbrev pub AnswersAny : Mode → List ℕ → List (List ℕ) → Answer → Type 0
AnswersAny modes.Plain name texts = when bytes_eq name (codes "edit") then OnEdits texts else AnswersNamed name texts
AnswersAny mode name texts = AnswersTo mode name texts

-- whether an option is there that only --lines takes
abbrev pub is_for_lines : Options → Bool
is_for_lines options = is_some options.columns || not (options.end == newline)

-- whether --explain may precede the command of this name
abbrev pub explains : Mode → List ℕ → Bool
explains modes.Plain name = bytes_eq name (codes "parse") || bytes_eq name (codes "resolve")
explains modes.Json name = bytes_eq name (codes "parse")
explains mode name = false

abbrev pub may_explain : Options → List (List ℕ) → Bool
may_explain options [] = not options.explains
may_explain options (name ∷ texts) = not options.explains || explains options.mode name

-- the words are a command and its texts
abbrev pub AnswersWords : Mode → List (List ℕ) → Answer → Type 0
AnswersWords mode [] = IsUnknown
AnswersWords mode (name ∷ texts) = AnswersAny mode name texts

-- the answer to these words that follow these options, without --lines
abbrev pub Answers : Options → List (List ℕ) → Answer → Type 0
Answers options words = when is_for_lines options || not (may_explain options words) then IsUnknown else AnswersWords options.mode words

-- the names of the commands that print something
abbrev pub printing : List (List ℕ)
printing =
    codes "parse" ∷ codes "tail" ∷ codes "get" ∷ codes "normalize" ∷ codes "key" ∷ codes "audit" ∷ codes "equal"
    ∷ codes "resolve" ∷ codes "relativize" ∷ codes "decode" ∷ codes "encode" ∷ codes "escape" ∷ codes "pairs" ∷ codes "pair" ∷ codes "file"
    ∷ codes "edit" ∷ codes "help" ∷ codes "--version" ∷ []

-- whether the command of this name prints something
abbrev pub prints : Mode → List ℕ → Bool
prints modes.Plain name = list_any (bytes_eq name) printing
prints modes.Json name = bytes_eq name (codes "parse")
prints modes.Trim name = bytes_eq name (codes "escape")
prints modes.DropDefaultPort name = bytes_eq name (codes "normalize")
prints mode name = false

-- the same of these words that follow these options
abbrev pub may_print : Options → List (List ℕ) → Bool
may_print options [] = false
may_print options (name ∷ texts) = not (is_for_lines options || not (may_explain options (name ∷ texts))) && prints options.mode name

-- ---- what was done

-- memory ran out in an edit
abbrev pub RunsOut : EditError → Type 0
RunsOut (edits.Reference e) = e ≡ references.Path OutOfMemory
RunsOut (edits.Change e) = e ≡ changes.OutOfMemory
RunsOut (edits.Memory e) = Unit {0}

-- Memory ran out, or a read or a write failed. This ends the work on many lines.
abbrev pub EndsWork : Failure → Type 0
EndsWork (failures.Reference e) = e ≡ references.Path OutOfMemory
EndsWork (failures.Uri e) = e ≡ uris.Path OutOfMemory
EndsWork (failures.File e) = e ≡ files.Path OutOfMemory
EndsWork (failures.Edit i e) = RunsOut e
EndsWork (failures.Memory e) = Unit {0}
EndsWork (failures.MemoryAtLine n) = Unit {0}
EndsWork (failures.Input e) = Unit {0}
EndsWork (failures.Output e) = Unit {0}
EndsWork f = ⊥

-- any other failure is an answer
abbrev pub answer_of : Failure → Answer
answer_of failures.Usage = Unknown
answer_of failures.Absent = Negative
answer_of failures.Different = Negative
answer_of failures.Outside = Negative
answer_of f = Rejected

-- The command gave such an answer: it printed these bytes, or it failed so and printed nothing. If its work ended early, nothing is known of
-- what it printed; it prints to memory, and that isn't written then.
abbrev pub Does : (Answer → Type 0) → Option (List ℕ) → Option (List ℕ) → Result (Unit {0}) Failure → Type 0
Does Is old new (Ok _) = (bytes : List ℕ) × Is (Printed bytes) × Appends old new bytes
Does Is old new (Err f) = EndsWork f ⊎ (Is (answer_of f) × (new ≡ old))

-- The same of a command that prints nothing. It allocates nothing, so its work never ends early.
abbrev pub Finds : (Answer → Type 0) → Result (Unit {0}) Failure → Type 0
Finds Is (Ok _) = Is (Printed [])
Finds Is (Err f) = Is (answer_of f)

-- ---- the program

-- the bytes of an answer went out, with this exit status
abbrev pub Gave : Answer → Option (List ℕ) → Option (List ℕ) → ℕ → Type 0
Gave (Printed bytes) old new status = Appends old new bytes × (status ≡ 0)
Gave Rejected old new status = (new ≡ old) × (status ≡ 1)
Gave Negative old new status = (new ≡ old) × (status ≡ 3)
Gave Unknown old new status = (new ≡ old) × (status ≡ 2)

-- the first of the bytes of such an answer went out, but not all of them, or nothing
abbrev pub Starts : (Answer → Type 0) → Option (List ℕ) → Option (List ℕ) → Type 0
Starts Is old new = (new ≡ old) ⊎ ((first rest : List ℕ) × (0 < length rest) × Is (Printed (first ++ rest)) × Appends old new first)

-- the program gave such an answer
abbrev pub Gives : (Answer → Type 0) → Option (List ℕ) → Option (List ℕ) → ℕ → Type 0
Gives Is old new status = (a : Answer) × Is a × Gave a old new status

-- The same, or its work ended early: the status is 1, and what went out is not a whole answer.
abbrev pub Ends : (Answer → Type 0) → Option (List ℕ) → Option (List ℕ) → ℕ → Type 0
Ends Is old new status = Gives Is old new status ⊎ ((status ≡ 1) × Starts Is old new)

-- the status of an answer
abbrev pub exit_status : Answer → ℕ
exit_status (Printed bytes) = 0
exit_status Rejected = 1
exit_status Negative = 3
exit_status Unknown = 2

-- ---- words of private functions' clauses alone

-- the bytes are written, or a write failed
abbrev pub Writes : List ℕ → Option (List ℕ) → Option (List ℕ) → Result (Unit {0}) Failure → Type 0
Writes bytes old new (Ok _) = Appends old new bytes
Writes bytes old new (Err f) = EndsWork f

-- `Does` of a command whose output is written once it is whole
abbrev pub DoesAtOnce : (Answer → Type 0) → Option (List ℕ) → Option (List ℕ) → Result ℕ Failure → Type 0
DoesAtOnce Is old new (Ok status) = (bytes : List ℕ) × Is (Printed bytes) × Appends old new bytes × (status ≡ 0)
DoesAtOnce Is old new (Err f) = (EndsWork f × Starts Is old new) ⊎ (Is (answer_of f) × (new ≡ old))

-- `Finds` of the same, and nothing is written
abbrev pub FindsAtOnce : (Answer → Type 0) → Option (List ℕ) → Option (List ℕ) → Result ℕ Failure → Type 0
FindsAtOnce Is old new (Ok status) = Is (Printed []) × (new ≡ old) × (status ≡ 0)
FindsAtOnce Is old new (Err f) = Is (answer_of f) × (new ≡ old)

-- the work ended
abbrev pub Ended : Result (Unit {0}) Failure → Type 0
Ended (Ok _) = ⊥
Ended (Err f) = EndsWork f

-- the line if it is within
abbrev pub line_if : Bool → List ℕ → List ℕ
line_if true t = line t
line_if false t = []

-- The bytes are written if they are present, and the result is whether they are; or a write failed.
abbrev pub WritesIfPresent : Option (List ℕ) → Option (List ℕ) → Option (List ℕ) → Result Bool Failure → Type 0
WritesIfPresent None old new (Ok is) = (is ≡ false) × (new ≡ old)
WritesIfPresent (Some bytes) old new (Ok is) = (is ≡ true) × Appends old new bytes
WritesIfPresent None old new (Err f) = EndsWork f
WritesIfPresent (Some bytes) old new (Err f) = EndsWork f

-- what was found of a text that is to be a URI, or why it is rejected
abbrev pub IsOfUri : {A : Type 0} → List ℕ → (Parts → A → Type 0) → Result A Failure → Type 0
IsOfUri t Is (Ok x) = (p : Parts) × Spells t p × (is_some p.scheme ≡ true) × Is p x
IsOfUri t Is (Err f) = (e : URIError) × (fault_of true map_error uris.NotURI t ≡ Some e) × (f ≡ failures.Uri e)

-- the same of a reference
abbrev pub IsOfReference : {A : Type 0} → List ℕ → (Parts → A → Type 0) → Result A Failure → Type 0
IsOfReference t Is (Ok x) = (p : Parts) × Spells t p × Is p x
IsOfReference t Is (Err f) = (e : URIReferenceError) × (fault t ≡ Some e) × (f ≡ failures.Reference e)

-- there is no target, or memory ran out
abbrev pub LacksTarget : Parts → Parts → Failure → Type 0
LacksTarget base p f = EndsWork f ⊎ ((target base p ≡ None) × (answer_of f ≡ Rejected))

-- a read or a write failed
abbrev pub IsOfStream : Failure → Type 0
IsOfStream (failures.Input e) = Unit {0}
IsOfStream (failures.Output e) = Unit {0}
IsOfStream f = ⊥

-- the failure that an error of a buffer becomes
abbrev pub IsOfBuffer : BufferError → Failure → Type 0
IsOfBuffer (buffers.TooSmall n) f = EndsWork f
IsOfBuffer buffers.RelativeBase f = f ≡ failures.Uri uris.NotURI
IsOfBuffer buffers.TooManySegments f = f ≡ failures.Uri (uris.Path ExceededMaximumLength)

-- The reference is this one, or the edit is rejected, or memory ran out.
abbrev pub Makes : Option Parts → Parts → Result (Unit {0}) EditError → Type 0
Makes made new (Ok _) = made ≡ Some new
Makes made new (Err e) = RunsOut e ⊎ (made ≡ None)

-- The values of the edits are read, and the steps make what the edits make. Or a value can't be read, or memory ran out.
abbrev pub ReadsChanges : List Edit → Result (Vec Step Global) Failure → Type 0
ReadsChanges es (Ok steps) = (are_readable es ≡ true) × ((p : Parts) → steps_made steps.items p ≡ all_made es p)
ReadsChanges es (Err f) = EndsWork f ⊎ ((answer_of f ≡ Rejected) × (are_readable es ≡ false))

-- The words are no edits, which is a usage error, or memory ran out.
abbrev pub NamesNone : Result (Vec Step Global) Failure → Type 0
NamesNone (Ok steps) = ⊥
NamesNone (Err f) = EndsWork f ⊎ (f ≡ failures.Usage)

-- the same of the edits that the words are, if they are edits
abbrev pub ReadsEdits : List (List ℕ) → Result (Vec Step Global) Failure → Type 0
ReadsEdits words result = MatchOption (edits_of words) (NamesNone result) (λ es. ReadsChanges es result)
