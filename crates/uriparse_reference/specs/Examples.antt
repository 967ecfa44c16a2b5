-- Examples: texts, and the texts of their normal forms and targets.
use Rattle.std.specs.Prelude.{ℕ, Bool, List, [], ◌∷◌, Option, Some, None, Result, Ok, Err, bytes_eq, codes}
use Rattle.std.specs.Option.{option_map, option_and_then, option_eq}
use Rattle.std.specs.List.{list_all}
use Rattle.std.specs.declared.cmp.Ordering.{Ordering}
use Rattle.uriparse_reference.specs.Reference.{Parts, print}
use Rattle.uriparse_reference.specs.Reading.{reading}
use Rattle.uriparse_reference.specs.Key.{key}
use Rattle.uriparse_reference.specs.Order.{reference_cmp}
use Rattle.uriparse_reference.specs.Normal.{normal, is_normal}
use Rattle.uriparse_reference.specs.Target.{target}
use Rattle.uriparse_reference.specs.Relate.{relative}
use Rattle.uriparse_reference.specs.Edits.{segment_pushed}
use Rattle.uriparse_reference.specs.Ports.{port_or_default, without_default_port}
use Rattle.uriparse_reference.specs.Masked.{masked}

-- ---- results for a text

abbrev pub if_ok : {A E : Type 0} → Result A E → Option A
if_ok (Ok x) = Some x
if_ok (Err e) = None

-- the reference that a text spells, if it spells one
abbrev pub read : List ℕ → Option Parts
read t = if_ok (reading t)

abbrev pub on_both : {A : Type 0} → (Parts → Parts → Option A) → List ℕ → List ℕ → Option A
on_both f t u = option_and_then (λ p. option_and_then (λ q. f p q) (read u)) (read t)

-- the printed text of its normal form
abbrev pub normalised : List ℕ → Option (List ℕ)
normalised t = option_map (λ p. print (normal p)) (read t)

-- whether it is in normal form
abbrev pub is_normalised : List ℕ → Option Bool
is_normalised t = option_map is_normal (read t)

-- whether two texts spell equal references
abbrev pub are_equal : List ℕ → List ℕ → Option Bool
are_equal t u = on_both (λ p q. Some (bytes_eq (key p) (key q))) t u

-- the order of the references that two texts spell
abbrev pub compared : List ℕ → List ℕ → Option Ordering
compared t u = on_both (λ p q. Some (reference_cmp p q)) t u

-- the target of the reference against the base
abbrev pub resolved : List ℕ → List ℕ → Option (List ℕ)
resolved base reference = on_both (λ b r. option_map print (target b r)) base reference

-- the reference that leads from the base to the URI
abbrev pub related : List ℕ → List ℕ → Option (List ℕ)
related base uri = on_both (λ b t. Some (print (relative b t))) base uri

-- the normal form of that target
abbrev pub resolved_first : List ℕ → List ℕ → Option (List ℕ)
resolved_first base reference = on_both (λ b r. option_map (λ t. print (normal t)) (target b r)) base reference

-- the normal form of the target of the two normal forms
abbrev pub normalised_first : List ℕ → List ℕ → Option (List ℕ)
normalised_first base reference =
    on_both (λ b r. option_map (λ t. print (normal t)) (target (normal b) (normal r))) base reference

-- ---- rows of a text and its result

pub record Row : Type 0 where
  pub text : List ℕ
  pub answer : List ℕ

abbrev pub row : List ℕ → List ℕ → Row
row text answer = record { text = text; answer = answer }

-- Each text has its result.
abbrev pub hold : (List ℕ → Option (List ℕ)) → List Row → Bool
hold answer rows = list_all (λ r. option_eq bytes_eq (answer r.text) (Some r.answer)) rows

-- the base of section 5.4
abbrev pub rfc_base : List ℕ
rfc_base = codes "http://a/b/c/d;p?q"

-- Section 5.4.1. An empty path after an authority is printed as "/".
abbrev pub normal_rows : List Row
normal_rows =
    row (codes "g:h") (codes "g:h")
    ∷ row (codes "g") (codes "http://a/b/c/g")
    ∷ row (codes "./g") (codes "http://a/b/c/g")
    ∷ row (codes "g/") (codes "http://a/b/c/g/")
    ∷ row (codes "/g") (codes "http://a/g")
    ∷ row (codes "//g") (codes "http://g/")
    ∷ row (codes "?y") (codes "http://a/b/c/d;p?y")
    ∷ row (codes "g?y") (codes "http://a/b/c/g?y")
    ∷ row (codes "#s") (codes "http://a/b/c/d;p?q#s")
    ∷ row (codes "g#s") (codes "http://a/b/c/g#s")
    ∷ row (codes "g?y#s") (codes "http://a/b/c/g?y#s")
    ∷ row (codes ";x") (codes "http://a/b/c/;x")
    ∷ row (codes "g;x") (codes "http://a/b/c/g;x")
    ∷ row (codes "g;x?y#s") (codes "http://a/b/c/g;x?y#s")
    ∷ row (codes "") (codes "http://a/b/c/d;p?q")
    ∷ row (codes ".") (codes "http://a/b/c/")
    ∷ row (codes "./") (codes "http://a/b/c/")
    ∷ row (codes "..") (codes "http://a/b/")
    ∷ row (codes "../") (codes "http://a/b/")
    ∷ row (codes "../g") (codes "http://a/b/g")
    ∷ row (codes "../..") (codes "http://a/")
    ∷ row (codes "../../") (codes "http://a/")
    ∷ row (codes "../../g") (codes "http://a/g")
    ∷ []

-- Section 5.4.2, where "http:g" is read strictly.
abbrev pub abnormal_rows : List Row
abnormal_rows =
    row (codes "../../../g") (codes "http://a/g")
    ∷ row (codes "../../../../g") (codes "http://a/g")
    ∷ row (codes "/./g") (codes "http://a/g")
    ∷ row (codes "/../g") (codes "http://a/g")
    ∷ row (codes "g.") (codes "http://a/b/c/g.")
    ∷ row (codes ".g") (codes "http://a/b/c/.g")
    ∷ row (codes "g..") (codes "http://a/b/c/g..")
    ∷ row (codes "..g") (codes "http://a/b/c/..g")
    ∷ row (codes "./../g") (codes "http://a/b/g")
    ∷ row (codes "./g/.") (codes "http://a/b/c/g/")
    ∷ row (codes "g/./h") (codes "http://a/b/c/g/h")
    ∷ row (codes "g/../h") (codes "http://a/b/c/h")
    ∷ row (codes "g;x=1/./y") (codes "http://a/b/c/g;x=1/y")
    ∷ row (codes "g;x=1/../y") (codes "http://a/b/c/y")
    ∷ row (codes "g?y/./x") (codes "http://a/b/c/g?y/./x")
    ∷ row (codes "g?y/../x") (codes "http://a/b/c/g?y/../x")
    ∷ row (codes "g#s/./x") (codes "http://a/b/c/g#s/./x")
    ∷ row (codes "g#s/../x") (codes "http://a/b/c/g#s/../x")
    ∷ row (codes "http:g") (codes "http:g")
    ∷ []

-- references with a scheme, an authority, a query or a fragment, and their normal forms
abbrev pub normal_form_rows : List Row
normal_form_rows =
    row (codes "HTTP://User:@EXAMPLE.com:0080/%7Ea") (codes "http://User:@example.com:80/~a")
    ∷ row (codes "//%31.2.3.4") (codes "//1.2.3.4/")
    ∷ row (codes "SCHEME:") (codes "scheme:")
    ∷ row (codes "?%7e#%c3%A9") (codes "?~#%C3%A9")
    ∷ row (codes "s:/a/..//b") (codes "s:/.//b")
    ∷ row (codes "s:/.//b") (codes "s:/.//b")
    ∷ row (codes "s:a/../b") (codes "s:/b")
    ∷ row (codes "s:a:b/../c") (codes "s:/c")
    ∷ row (codes "//h/a/..//b") (codes "//h//b")
    ∷ []

-- paths alone, and their normal forms, which get a leading "./" before a first segment that has a colon or is empty
abbrev pub relative_form_rows : List Row
relative_form_rows =
    row (codes "this/is/a/t%65st/path/%ff") (codes "this/is/a/test/path/%FF")
    ∷ row (codes "x/../c:d") (codes "./c:d")
    ∷ row (codes ".//x") (codes ".//x")
    ∷ row (codes "a/b/..") (codes "a/")
    ∷ row (codes "a/../") (codes "")
    ∷ row (codes "../a/../..") (codes "../..")
    ∷ row (codes "./a:b/../c:d") (codes "./c:d")
    ∷ row (codes "%2e/c:d") (codes "./c:d")
    ∷ row (codes ".//.") (codes ".//")
    ∷ row (codes "a//..") (codes "a/")
    ∷ row (codes "x/..//y") (codes ".//y")
    ∷ row (codes "a/../../b") (codes "../b")
    ∷ row (codes "%2E%2e/a") (codes "../a")
    ∷ row (codes "/a/..//b") (codes "/.//b")
    ∷ []

-- ---- changes

-- the printed text without a default port
abbrev pub portless : List ℕ → Option (List ℕ)
portless t = option_map (λ p. print (without_default_port p)) (read t)

-- the port, or the default one
abbrev pub used_port : List ℕ → Option (Option ℕ)
used_port t = option_map port_or_default (read t)

-- the printed text with a hidden password
abbrev pub shown : List ℕ → Option (List ℕ)
shown t = option_map (λ p. print (masked p)) (read t)

-- the printed text with a segment appended
abbrev pub lengthened : List ℕ → List ℕ → Option (List ℕ)
lengthened t s = option_and_then (λ p. option_map print (if_ok (segment_pushed p s))) (read t)
