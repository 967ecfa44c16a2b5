-- How an authority's text is cut, where the last byte of a front is found.
use Rattle.std.proofs.Common.{◌≡◌, ℕ, true, List, [], ◌∷◌, ◌++◌, Some, None, length, drop, refl, ap, ◌∙◌, append_assoc, arith}
use Rattle.std.specs.Prelude.{unwrap_or}
use Rattle.std.specs.Option.{option_map}
use Rattle.std.proofs.Math.Seq.{drop-append_seam}
use Rattle.uriparse_text.specs.Bytes.{colon, right_bracket}
use Rattle.uriparse_text.specs.Cuts.{none_pass, up_to_last}
use Rattle.uriparse_text.proofs.lemmas.readings.CutLemmas.{from_last-none, from_last-of, up_to_last-of}
use Rattle.uriparse_authority.specs.Authority.{ends_host, colon_part, cut_port, cut_host}

regrouped : (t front before following : List ℕ) (last : ℕ) → t ≡ front ++ following → front ≡ before ++ last ∷ [] → t ≡ before ++ last ∷ following
regrouped t front before following last e k = e ∙ ap (λ u. u ++ following) k ∙ append_assoc before (last ∷ []) following

pub port_at_colon : (t front before following : List ℕ) (last : ℕ) → t ≡ front ++ following → none_pass ends_host following ≡ true → front ≡ before ++ last ∷ []
    → last ≡ colon → cut_port t ≡ Some following
port_at_colon t front before following last e plain k is =
    ap cut_port (regrouped t front before following last e k ∙ ap (λ b. before ++ b ∷ following) is)
    ∙ ap colon_part (from_last-of ends_host before colon following refl plain)

pub host_at_colon : (t front before following : List ℕ) (last : ℕ) → t ≡ front ++ following → none_pass ends_host following ≡ true → front ≡ before ++ last ∷ []
    → last ≡ colon → cut_host t ≡ before
host_at_colon t front before following last e plain k is =
    ap (λ o. unwrap_or (option_map (λ _. up_to_last ends_host t) o) t) (port_at_colon t front before following last e plain k is)
    ∙ ap (up_to_last ends_host) (regrouped t front before following last e k ∙ ap (λ b. before ++ b ∷ following) is)
    ∙ up_to_last-of ends_host before colon following refl plain

pub no_port_at_bracket : (t front before following : List ℕ) (last : ℕ) → t ≡ front ++ following → none_pass ends_host following ≡ true → front ≡ before ++ last ∷ []
    → last ≡ right_bracket → cut_port t ≡ None
no_port_at_bracket t front before following last e plain k is =
    ap cut_port (regrouped t front before following last e k ∙ ap (λ b. before ++ b ∷ following) is)
    ∙ ap colon_part (from_last-of ends_host before right_bracket following refl plain)

pub no_port_at_start : (t front following : List ℕ) → t ≡ front ++ following → none_pass ends_host following ≡ true → length front ≡ 0 → cut_port t ≡ None
no_port_at_start t [] following e plain k = ap cut_port e ∙ ap colon_part (from_last-none ends_host following plain)
no_port_at_start t (b ∷ front) following e plain k = absurd (omega (arith, k))

pub whole_host : (t : List ℕ) → cut_port t ≡ None → cut_host t ≡ t
whole_host t e = ap (λ o. unwrap_or (option_map (λ _. up_to_last ends_host t) o) t) e

pub following_front : (t front following : List ℕ) → t ≡ front ++ following → drop (length front) t ≡ following
following_front t front following e = ap (drop (length front)) e ∙ drop-append_seam front following
