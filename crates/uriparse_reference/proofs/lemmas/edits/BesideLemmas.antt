-- Setting one part of the authority of a reference.
use Rattle.std.proofs.Common.{◌≡◌, ℕ, Bool, true, false, cond, List, [], Option, Some, None, Ok, Err, refl, sym, ap, subst}
use Rattle.std.specs.Prelude.{IfSome, Result, is_some}
use Rattle.uriparse_text.specs.declared.internal.class.Class.TheVariants.{Name}
use Rattle.uriparse_text.specs.Faults.{IsIn}
use Rattle.uriparse_text.specs.Tokens.{tokens}
use Rattle.uriparse_text.specs.Readings.{◌>>=◌, Settles}
use Rattle.uriparse_path.specs.Path as path
use Rattle.uriparse_authority.specs.Authority as authority
use Rattle.uriparse_authority.specs.Authority.{AuthorityParts, IsPaired, with_empty, with_password}
use Rattle.uriparse_authority.specs.Username.{IsUsername}
use Rattle.uriparse_authority.specs.Password.{IsPassword}
use Rattle.uriparse_reference.specs.declared.uri_reference.change.ChangeError.{ChangeError}
use Rattle.uriparse_reference.specs.declared.uri_reference.change.ChangeError.TheVariants.{MissingHost}
use Rattle.uriparse_reference.specs.Reference.{Parts, Valid, path_refusal}
use Rattle.uriparse_reference.specs.Beside.{beside, beside_host}

-- without an authority nothing changes, and a part that is set is an error
pub none_beside : (p : Parts) (part : AuthorityParts → AuthorityParts) (b : Bool) (r : Result (Unit {0}) ChangeError) → p.authority ≡ None
    → r ≡ cond b (Err MissingHost) (Ok tt) → Settles p p r (beside_host p b part)
none_beside p part b r none e =
    subst (λ s. Settles p p s (beside_host p b part)) (sym e) (by_authority p.authority refl none b)
  where
    by_authority : (a : Option AuthorityParts) → p.authority ≡ a → a ≡ None → (b : Bool)
        → Settles p p (cond b (Err MissingHost) (Ok tt)) (beside a b part >>= (λ a. Ok (record p { authority = a })))
    by_authority None own h true = (refl, refl)
    by_authority None own h false = ap (λ a. Ok (record p { authority = a })) (sym own)
    by_authority (Some a) own h b = cc

-- another authority in the place of one
pub valid_beside : (p : Parts) (x y : AuthorityParts) → p.authority ≡ Some x → Valid p → authority.Valid y → Valid (record p { authority = Some y })
valid_beside p x y e v i = record {
  is_scheme = v.is_scheme;
  is_authority = i;
  is_path = v.is_path;
  absolute = subst (λ a. IfSome a (λ _. p.path.absolute ≡ true)) e v.absolute;
  plain = v.plain;
  fit = subst (λ a. path_refusal (is_some p.scheme) (is_some a) (path.text p.path) ≡ None) e v.fit;
  is_query = v.is_query;
  is_fragment = v.is_fragment;
}

-- ---- a password

empty_username : IsIn Name []
unfolding tokens
empty_username = refl

username_beside : (u w : Option (List ℕ)) → IfSome u IsUsername → IfSome (with_empty u w) IsUsername
username_beside None None h = tt
username_beside None (Some w) h = empty_username
username_beside (Some u) w h = h

password_beside : (u w : Option (List ℕ)) → IsPaired (with_empty u w) w
password_beside u None = tt
password_beside None (Some w) = refl
password_beside (Some u) (Some w) = refl

-- an authority with another password
pub valid_with_password : (a : AuthorityParts) (w : Option (List ℕ)) → authority.Valid a → IfSome w IsPassword → authority.Valid (with_password a w)
valid_with_password a w v i = record {
  is_username = username_beside a.username w v.is_username;
  is_password = i;
  paired = password_beside a.username w;
  is_host = v.is_host;
  is_port = v.is_port;
}

-- a reference with another password
pub valid_password : (p : Parts) (x y : AuthorityParts) (w : Option (List ℕ)) → p.authority ≡ Some x → y ≡ with_password x w → Valid p → IfSome w IsPassword
    → Valid (record p { authority = Some y })
valid_password p x y w e new v i =
    let own : authority.Valid x = subst (λ a. IfSome a authority.Valid) e v.is_authority in
    valid_beside p x y e v (subst authority.Valid (sym new) (valid_with_password x w own i))
