-- A changed reference that is put together from its end in a buffer.
use Rattle.std.proofs.Common.{◌≡◌, ℕ, Bool, List, [], ◌∷◌, ◌++◌, sym, ap, ◌∙◌, append-nil, append_assoc}
use Rattle.uriparse_text.specs.Bytes.{at_sign, slash}
use Rattle.uriparse_reference.specs.Change.{after_authority}

-- a user name, a password with its colon, and an "@"
pub user_put : (u w t : List ℕ) → u ++ (w ++ (at_sign ∷ t)) ≡ ((u ++ w) ++ at_sign ∷ []) ++ t
user_put u w t = sym (append_assoc u w (at_sign ∷ t)) ∙ sym (append_assoc (u ++ w) (at_sign ∷ []) t)

-- two slashes, user information, a host and a port
pub authority_put : (u g n t : List ℕ) → slash ∷ slash ∷ (u ++ (g ++ (n ++ t))) ≡ (slash ∷ slash ∷ (u ++ (g ++ n))) ++ t
authority_put u g n t =
    ap (λ x. slash ∷ slash ∷ x) (ap (λ x. u ++ x) (sym (append_assoc g n t)) ∙ sym (append_assoc u (g ++ n) t))

-- a scheme, an authority, a path, a query and a fragment
pub strings_put : (s a : List ℕ) (v w : Bool) (h q f : List ℕ) → v ≡ w
    → s ++ (a ++ (after_authority v h ++ (q ++ (f ++ [])))) ≡ s ++ (a ++ (after_authority w h ++ (q ++ f)))
strings_put s a v w h q f e =
    ap (λ x. s ++ (a ++ (after_authority v h ++ (q ++ x)))) (append-nil f)
    ∙ ap (λ x. s ++ (a ++ (after_authority x h ++ (q ++ f)))) e
