-- How long the components of a text are together.
use Rattle.std.proofs.Common.{◌≡◌, ℕ, ◌+◌, ◌-◌, ◌≤◌, List, [], ◌∷◌, ◌++◌, length, drop, take, Option, Some, None, refl, sym, ap, ◌∙◌, arith}
use Rattle.std.specs.Prelude.{unwrap_or}
use Rattle.std.proofs.lemmas.List.{length-append}
use Rattle.std.proofs.Math.Seq.{drop-append_seam, take-append_seam}
use Rattle.uriparse_text.specs.Bytes.{colon, at_sign, question_mark, number_sign}
use Rattle.uriparse_text.specs.Cuts.{ahead, following, before, after}
use Rattle.uriparse_text.proofs.lemmas.readings.CutLemmas.{before_after, front_rest}
use Rattle.uriparse_authority.specs.Authority.{cut_host, cut_port, userinfo_text, host_and_port_text}
use Rattle.uriparse_authority.proofs.lemmas.authorities.AuthorityLemmas.{right_is}
use Rattle.uriparse_reference.specs.Reference.{after_slashes}
use Rattle.uriparse_reference.specs.Cuts.{scheme_text, authority_text, path_text, query_text, fragment_text}
use Rattle.uriparse_reference.proofs.lemmas.reading.ReadingLemmas.{whole_is}
use Rattle.uriparse_ffi.specs.Spans.{span}
use Rattle.uriparse_ffi.specs.declared.span.UriSpan.{UriSpan}

pub host_port_size : (t : List ℕ) → length (cut_host t) + length (following colon (cut_port t)) ≡ length t
host_port_size t = sym (length-append (cut_host t) (following colon (cut_port t))) ∙ ap length (right_is t)

pub user_size : (i : List ℕ) → length (before colon i) + length (following colon (after colon i)) ≡ length i
user_size i = sym (length-append (before colon i) (following colon (after colon i))) ∙ ap length (before_after colon i)

pub userinfo_size : (a : List ℕ) → length (ahead at_sign (userinfo_text a)) + length (host_and_port_text a) ≡ length a
userinfo_size a = sym (length-append (ahead at_sign (userinfo_text a)) (host_and_port_text a)) ∙ ap length (front_rest at_sign a)

pub ahead_size : (mark : ℕ) (o : Option (List ℕ)) → length (unwrap_or o []) ≤ length (ahead mark o)
ahead_size mark None = omega arith
ahead_size mark (Some t) = let whole = length-append t (mark ∷ []) in omega arith

-- a delimiter is one byte, whichever it is, before the component or after it
pub after_size : (m n : ℕ) (o : Option (List ℕ)) → length (following m o) ≡ length (following n o)
after_size m n None = refl
after_size m n (Some t) = refl

ahead_after : (o : Option (List ℕ)) → length (following colon o) ≡ length (ahead colon o)
ahead_after None = refl
ahead_after (Some t) = let whole = length-append t (colon ∷ []) in omega arith

pub slashes_size : (o : Option (List ℕ)) → length (unwrap_or o []) ≤ length (after_slashes o)
slashes_size None = omega arith
slashes_size (Some t) = omega arith

sizes : (t : List ℕ) → length t ≡ length (ahead colon (scheme_text t)) + (length (after_slashes (authority_text t)) + (length (path_text t)
    + (length (following question_mark (query_text t)) + length (following number_sign (fragment_text t)))))
sizes t =
    let s = ahead colon (scheme_text t) in
    let a = after_slashes (authority_text t) in
    let h = path_text t in
    let q = following question_mark (query_text t) in
    let f = following number_sign (fragment_text t) in
    ap length (whole_is t) ∙ length-append s (a ++ (h ++ (q ++ f)))
    ∙ ap (λ n. length s + n) (length-append a (h ++ (q ++ f))
    ∙ ap (λ n. length a + n) (length-append h (q ++ f) ∙ ap (λ n. length h + n) (length-append q f)))

-- what follows the scheme: an authority with its slashes, and the rest
after_front : (t : List ℕ) → drop (length (ahead colon (scheme_text t))) t
    ≡ after_slashes (authority_text t) ++ (path_text t ++ (following question_mark (query_text t) ++ following number_sign (fragment_text t)))
after_front t =
    let rest = after_slashes (authority_text t) ++ (path_text t ++ (following question_mark (query_text t) ++ following number_sign (fragment_text t))) in
    ap (drop (length (ahead colon (scheme_text t)))) (whole_is t) ∙ drop-append_seam (ahead colon (scheme_text t)) rest

-- The lengths of a text's scheme and query, each with its delimiter, and of its path; f is that of its fragment.
pub record AreSizes (t : List ℕ) (s p q f : ℕ) : Type 0 where
  pub scheme : s ≡ length (ahead colon (scheme_text t))
  pub path : p ≡ length (path_text t)
  pub query : q ≡ length (following question_mark (query_text t))
  pub whole : length t ≡ s + (length (after_slashes (authority_text t)) + (p + (q + f)))

-- as they are found
pub sizes_of : (t x : List ℕ) (s q f : Option (List ℕ)) (n m k : ℕ) → s ≡ scheme_text t → x ≡ path_text t → q ≡ query_text t → f ≡ fragment_text t
    → n ≡ length (following colon s) → m ≡ length (following colon q) → k ≡ length (following colon f) → AreSizes t n (length x) m k
sizes_of t x s q f n m k is_scheme is_path is_query is_fragment at_scheme at_query at_fragment =
    let scheme : n ≡ length (ahead colon (scheme_text t)) = at_scheme ∙ ap (λ o. length (following colon o)) is_scheme ∙ ahead_after (scheme_text t) in
    let path : length x ≡ length (path_text t) = ap length is_path in
    let query : m ≡ length (following question_mark (query_text t)) =
    at_query ∙ ap (λ o. length (following colon o)) is_query ∙ after_size colon question_mark (query_text t) in
    let fragment : k ≡ length (following number_sign (fragment_text t)) =
    at_fragment ∙ ap (λ o. length (following colon o)) is_fragment ∙ after_size colon number_sign (fragment_text t) in
    let whole = sizes t in
    record { scheme = scheme; path = path; query = query; whole = omega (arith, scheme, path, query, fragment, whole) }

-- between the scheme and the path is the authority with its slashes
pub between : (t : List ℕ) (s p q f : ℕ) → AreSizes t s p q f → take (length t - f - q - p - s) (drop s t) ≡ after_slashes (authority_text t)
between t s p q f sizes =
    let rest = path_text t ++ (following question_mark (query_text t) ++ following number_sign (fragment_text t)) in
    let whole = sizes.whole in
    let many : length t - f - q - p - s ≡ length (after_slashes (authority_text t)) = omega (arith, whole) in
    ap (λ x. take (length t - f - q - p - s) (drop x t)) sizes.scheme
    ∙ ap (take (length t - f - q - p - s)) (after_front t)
    ∙ ap (λ x. take x (after_slashes (authority_text t) ++ rest)) many
    ∙ take-append_seam (after_slashes (authority_text t)) rest

abbrev span_from : ℕ → ℕ → UriSpan
span_from x y = record { begin = x; end = y; present = 1 }

pub span_is : (b n e : ℕ) (h : List ℕ) → b ≡ n → e ≡ n + length h → ◌≡◌ {A = UriSpan} (record { begin = b; end = e; present = 1 }) (span n (Some h))
span_is b n e h f g = ap (λ x. span_from x e) f ∙ ap (span_from n) g
