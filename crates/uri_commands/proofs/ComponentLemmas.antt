-- The components of a reference on a line each.
use Rattle.std.proofs.Common.{◌≡◌, ℕ, List, [], ◌∷◌, ◌++◌, Option, Some, None, Ok, Err, refl, sym, subst, append_assoc}
use Rattle.std.specs.Prelude.{IfSome, MatchOption, codes}
use Rattle.std.specs.Borrow.{Bor}
use Rattle.std.specs.Io.KnownBytes.{Appends}
use Rattle.std.specs.Option.{option_copied, option_map}
use Rattle.std.proofs.KnownBytes.{Appends-nil, Appends-trans}
use Rattle.uriparse.specs.Authority.{AuthorityParts}
use Rattle.uriparse.specs.Host as host
use Rattle.uriparse.specs.HostValue.{Host}
use Rattle.uriparse.specs.Path.{PathParts, text}
use Rattle.uriparse.specs.Reference.{Parts, Spells}
use Rattle.uri_commands.specs.Output.{Does, Parses, Writes, authority_components, component, host_name, line, reference_lines}
use Rattle.uri_commands.specs.Output.{Printed}
use Rattle.uri_commands.proofs.OutputLemmas.{Done, Known, answered, of_reference}

pub named : (o : Option (List ℕ)) (name : List ℕ) (a b c d : Known) (r : Done)
    → Appends a b name → Appends b c (codes "=") → IfSome o (λ t. Writes (line t) c d r)
    → IfSome o (λ t. Writes (component name (Some t)) a d r)
named None name a b c d r first second third = third
named (Some t) name a b c d (Err f) first second third = third
named (Some t) name a b c d (Ok v) first second third =
    subst (Appends a d) (sym (append_assoc name (61 ∷ t) (10 ∷ [])))
    (Appends-trans a b d name (codes "=" ++ line t) first (Appends-trans b c d (codes "=") (line t) second third))

pub nothing : (a : Known) → Appends a a []
nothing a = Appends-nil a

-- what a line of a component is, by what was printed
pub text_line : (name : List ℕ) (o : Option (Bor (List ℕ))) (v : Option (List ℕ)) (a b : Known) (r : Done)
    → MatchOption o (Writes [] a b r) (λ x. Writes (component name (Some x.now)) a b r) → option_copied o ≡ v
    → Writes (component name v) a b r
text_line name None v a b r written is = subst (λ x. Writes (component name x) a b r) is written
text_line name (Some x) v a b r written is = subst (λ y. Writes (component name y) a b r) is written

pub value_line : {T : Type 0} (text : T → List ℕ) (name : List ℕ) (o : Option (Bor T)) (v : Option T) (a b : Known) (r : Done)
    → MatchOption o (Writes [] a b r) (λ x. Writes (component name (Some (text x.now))) a b r) → option_copied o ≡ v
    → Writes (component name (option_map text v)) a b r
value_line text name None v a b r written is = subst (λ x. Writes (component name (option_map text x)) a b r) is written
value_line text name (Some x) v a b r written is = subst (λ y. Writes (component name (option_map text y)) a b r) is written

pub host_line : (name : List ℕ) (g h : Host) (a b : Known)
    → name ≡ host_name g → g ≡ h → Appends a b (component name (Some (host.text g)))
    → Appends a b (component (host_name h) (Some (host.text h)))
host_line name g h a b is same written =
    subst (λ x. Appends a b (component (host_name x) (Some (host.text x)))) same
    (subst (λ n. Appends a b (component n (Some (host.text g)))) is written)

pub path_line : (x y : PathParts) (a b : Known)
    → x ≡ y → Appends a b (component (codes "path") (Some (text x))) → Appends a b (component (codes "path") (Some (text y)))
path_line x y a b same written = subst (λ z. Appends a b (component (codes "path") (Some (text z)))) same written

pub authority_written : (o v : Option AuthorityParts) (a b : Known) → o ≡ v → Appends a b (authority_components o)
    → Appends a b (authority_components v)
authority_written o v a b same written = subst (λ z. Appends a b (authority_components z)) same written

-- writes one after another
pub followed : (x y : List ℕ) (a b c : Known) (r : Done) → Appends a b x → Writes y b c r → Writes (x ++ y) a c r
followed x y a b c (Ok v) first second = Appends-trans a b c x y first second
followed x y a b c (Err f) first second = second

pub authority_line : (o : Option AuthorityParts) (g : AuthorityParts) (a b : Known) (r : Done)
    → o ≡ Some g → Writes (authority_components (Some g)) a b r → Writes (authority_components o) a b r
authority_line o g a b r is written = subst (λ x. Writes (authority_components x) a b r) (sym is) written

pub no_authority_line : (o : Option AuthorityParts) (a : Known) → o ≡ None → Appends a a (authority_components o)
no_authority_line o a none = subst (λ x. Appends a a (authority_components x)) (sym none) (Appends-nil a)

pub parsed : (t : List ℕ) (p : Parts) (a b : Known) (r : Done) → Spells t p → Writes (reference_lines p) a b r → Does (Parses t) a b r
parsed t p a b r spelled written =
    of_reference t p (λ x y. y ≡ Printed (reference_lines x)) a b r spelled
    (answered (λ y. y ≡ Printed (reference_lines p)) (reference_lines p) a b r refl written)
