-- An authority that is put together from its end.
use Rattle.std.proofs.Common.{◌≡◌, ℕ, ◌++◌, ◌∷◌, [], List, Option, Some, None, refl, sym, ap, ◌∙◌, append_assoc}
use Rattle.std.specs.Option.{option_map}
use Rattle.uriparse_text.specs.declared.internal.token.Case.TheVariants.{Kept, Lowered}
use Rattle.uriparse_text.specs.declared.internal.backward_buffer.Form.{Form}
use Rattle.uriparse_text.specs.declared.internal.backward_buffer.Form.TheVariants.{AsIs, Canonical}
use Rattle.uriparse_text.specs.Bytes.{at_sign, colon, left_bracket, right_bracket}
use Rattle.uriparse_text.specs.Cuts.{ahead, following}
use Rattle.uriparse_text.specs.Ends.{formed}
use Rattle.uriparse_text.specs.Address.{ipv6_text}
use Rattle.uriparse_authority.specs.declared.authority.host.Host.{Host}
use Rattle.uriparse_authority.specs.declared.authority.host.Host.TheVariants.{IPv6Address, IPvFuture}
use Rattle.uriparse_authority.specs.Host as host
use Rattle.uriparse_authority.specs.Port as port
use Rattle.uriparse_authority.specs.Authority.{AuthorityParts, print, userinfo}
use Rattle.uriparse_authority.specs.Ends.{formed_authority, formed_host}

as_is : (o : Option (List ℕ)) → option_map (formed AsIs Kept) o ≡ o
as_is None = refl
as_is (Some t) = refl

-- the text of an authority in this form, before a text
pub formed_print : (form : Form) (p : AuthorityParts) (t : List ℕ)
    → ahead at_sign (userinfo (option_map (formed form Kept) p.username) (option_map (formed form Kept) p.password))
    ++ ((host.text (formed_host form p.host) ++ following colon (option_map port.text p.port)) ++ t)
    ≡ print (formed_authority form p) ++ t
formed_print form p t =
    sym (append_assoc (ahead at_sign (userinfo (option_map (formed form Kept) p.username) (option_map (formed form Kept) p.password)))
    (host.text (formed_host form p.host) ++ following colon (option_map port.text p.port)) t)
    ∙ ap (λ u. u ++ t) (by_form form)
  where
    by_form : (f : Form) → ahead at_sign (userinfo (option_map (formed f Kept) p.username) (option_map (formed f Kept) p.password))
        ++ (host.text (formed_host f p.host) ++ following colon (option_map port.text p.port))
        ≡ print (formed_authority f p)
    by_form AsIs =
        ap (λ u. ahead at_sign (userinfo u (option_map (formed AsIs Kept) p.password)) ++ (host.text p.host ++ following colon (option_map port.text p.port)))
        (as_is p.username)
        ∙ ap (λ w. ahead at_sign (userinfo p.username w) ++ (host.text p.host ++ following colon (option_map port.text p.port))) (as_is p.password)
    by_form Canonical = refl

-- a user name that is present, its password and an "@"
pub user_text : (form : Form) (o w : Option (List ℕ)) (u x t : List ℕ) → o ≡ Some u → x ≡ u
    → formed form Kept x ++ (following colon w ++ (at_sign ∷ t)) ≡ ahead at_sign (userinfo (option_map (formed form Kept) o) w) ++ t
user_text form o w u x t e f =
    ap (λ y. formed form Kept y ++ (following colon w ++ (at_sign ∷ t))) f
    ∙ sym (ap (λ v. ahead at_sign (userinfo (option_map (formed form Kept) v) w) ++ t) e
    ∙ append_assoc (formed form Kept u ++ following colon w) (at_sign ∷ []) t
    ∙ append_assoc (formed form Kept u) (following colon w) (at_sign ∷ t))

-- a host in brackets
pub ipv6_text-host : (form : Form) (h : Host) (a t : List ℕ) → h ≡ IPv6Address a
    → left_bracket ∷ (ipv6_text a ++ (right_bracket ∷ t)) ≡ host.text (formed_host form h) ++ t
ipv6_text-host form h a t e =
    ap (λ u. left_bracket ∷ u) (sym (append_assoc (ipv6_text a) (right_bracket ∷ []) t))
    ∙ by_form form ∙ ap (λ g. host.text (formed_host form g) ++ t) (sym e)
  where
    by_form : (f : Form) → left_bracket ∷ ((ipv6_text a ++ right_bracket ∷ []) ++ t) ≡ host.text (formed_host f (IPv6Address a)) ++ t
    by_form AsIs = refl
    by_form Canonical = refl

pub future_text-host : (form : Form) (h : Host) (f x t : List ℕ) → h ≡ IPvFuture f → x ≡ f
    → left_bracket ∷ (formed form Lowered x ++ (right_bracket ∷ t)) ≡ host.text (formed_host form h) ++ t
future_text-host form h f x t e k =
    ap (λ y. left_bracket ∷ (formed form Lowered y ++ (right_bracket ∷ t))) k
    ∙ ap (λ u. left_bracket ∷ u) (sym (append_assoc (formed form Lowered f) (right_bracket ∷ []) t))
    ∙ by_form form ∙ ap (λ g. host.text (formed_host form g) ++ t) (sym e)
  where
    by_form : (v : Form) → left_bracket ∷ ((formed v Lowered f ++ right_bracket ∷ []) ++ t) ≡ host.text (formed_host v (IPvFuture f)) ++ t
    by_form AsIs = refl
    by_form Canonical = refl
