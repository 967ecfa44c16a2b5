-- An object of a reference has the reference's string.
use Rattle.std.proofs.Common.{◌≡◌, ℕ, true, List, [], ◌∷◌, ◌++◌, map, drop, refl, sym, ap, subst, ◌∙◌, append_assoc}
use Rattle.std.specs.Prelude.{codes}
use Rattle.std.specs.List.{join_with_byte, list_all}
use Rattle.std.proofs.lemmas.Bool.{and_parts, false≢true}
use Rattle.std.specs.Option.{option_map}
use Rattle.uriparse.specs.Reference.{Parts, Spells, host_of, password_of, port_of, username_of}
use Rattle.uriparse.specs.Scheme as scheme
use Rattle.uri_commands.specs.Json.{Member, back_members, comma, escaped, host_members, member, member_text, needs_no_json_escape, object, object_text, port_members, quote, segment_members, string_or_null}
use Rattle.uri_commands.specs.Json.{String}
use Rattle.uri_commands.proofs.JsonLemmas.{escaped_plain, plain_spelled}

-- a string ends at the first quote
cut_quote : (t u r s : List ℕ) → list_all needs_no_json_escape t ≡ true → list_all needs_no_json_escape u ≡ true
    → t ++ quote ∷ r ≡ u ++ quote ∷ s → t ≡ u
cut_quote [] [] r s h k e = refl
cut_quote [] (b ∷ u) r s h k e =
    let same : quote ≡ b = cc in absurd (false≢true (subst (λ x. needs_no_json_escape x ≡ true) (sym same) (and_parts _ _ k).0))
cut_quote (a ∷ t) [] r s h k e =
    let same : a ≡ quote = cc in absurd (false≢true (subst (λ x. needs_no_json_escape x ≡ true) same (and_parts _ _ h).0))
cut_quote (a ∷ t) (b ∷ u) r s h k e =
    let first : a ≡ b = cc in
    let others : t ++ quote ∷ r ≡ u ++ quote ∷ s = cc in
    ap (λ x. x ∷ t) first ∙ ap (λ l. b ∷ l) (cut_quote t u r s (and_parts _ _ h).1 (and_parts _ _ k).1 others)

-- what follows the opening of the first member, whose value is a string
after_opening : (t : List ℕ) (m : Member) (ms : List Member)
    → drop 9 (object_text (member (codes "text") (String t) ∷ m ∷ ms))
    ≡ escaped t ++ quote ∷ ((comma ∷ join_with_byte comma (map member_text (m ∷ ms))) ++ codes "}")
after_opening t m ms =
    let more = comma ∷ join_with_byte comma (map member_text (m ∷ ms)) in
    append_assoc (escaped t ++ quote ∷ []) more (codes "}") ∙ append_assoc (escaped t) (quote ∷ []) (more ++ codes "}")

-- what follows that string
abbrev others : Parts → List Member
others p =
    member (codes "username") (string_or_null (username_of p)) ∷ member (codes "password") (string_or_null (password_of p))
    ∷ (host_members (host_of p) ++ (port_members (port_of p) ++ (back_members p ++ segment_members p.path.segments)))

abbrev scheme_member : Parts → Member
scheme_member p = member (codes "scheme") (string_or_null (option_map scheme.text p.scheme))

abbrev following : Parts → List ℕ
following p = (comma ∷ join_with_byte comma (map member_text (scheme_member p ∷ others p))) ++ codes "}"

object_is : (t : List ℕ) (p : Parts) → drop 9 (object t p) ≡ escaped t ++ quote ∷ following p
object_is t p = after_opening t (scheme_member p) (others p)

pub one_text : (t u : List ℕ) (p q : Parts) → Spells t p → Spells u q → object t p ≡ object u q → t ≡ u
one_text t u p q s s' e =
    let plain = plain_spelled t p s in
    let other = plain_spelled u q s' in
    let rest : escaped t ++ quote ∷ following p ≡ escaped u ++ quote ∷ following q = sym (object_is t p) ∙ ap (drop 9) e ∙ object_is u q in
    cut_quote t u (following p) (following q) plain other
    (ap (λ x. x ++ quote ∷ following p) (sym (escaped_plain t plain)) ∙ rest ∙ ap (λ x. x ++ quote ∷ following q) (escaped_plain u other))
