-- A port that is the scheme's default one may be left out.
use Rattle.std.proofs.Common.{◌≡◌, ℕ, Bool, true, false, ◌==◌, ◌&&◌, cond, Option, Some, None, refl, sym, ap, ◌∙◌}
use Rattle.std.specs.Prelude.{is_some}
use Rattle.std.specs.Option.{option_map, option_and_then, option_or, option_eq}
use Rattle.std.proofs.lemmas.Bool.{eqb-true}
use Rattle.uriparse_authority.specs.Authority.{AuthorityParts, with_port}
use Rattle.uriparse_authority.specs.declared.authority.host.Host.{Host}
use Rattle.uriparse_reference.specs.Reference.{Parts, Valid, host_of}
use Rattle.uriparse_reference.specs.Ports.{default_port_of, port_or_default, has_default_port, without_default_port}
use Rattle.uriparse_reference.proofs.lemmas.edits.EditLemmas.{build}

-- the same components without a port
abbrev portless : Parts → Parts
portless p = record p { authority = option_map (λ a. with_port a None) p.authority }

valid_portless : (p : Parts) → Valid p → Valid (portless p)
valid_portless p v = by_authority p.authority v
  where
    parts : Option AuthorityParts → Parts
    parts a = build p.scheme a p.path p.query p.fragment

    by_authority : (a : Option AuthorityParts) → Valid (parts a) → Valid (portless (parts a))
    by_authority None v = v
    by_authority (Some a) v = record {
      is_scheme = v.is_scheme;
      is_authority = record {
        is_username = v.is_authority.is_username;
        is_password = v.is_authority.is_password;
        paired = v.is_authority.paired;
        is_host = v.is_authority.is_host;
        is_port = tt;
      };
      is_path = v.is_path;
      absolute = v.absolute;
      plain = v.plain;
      fit = v.fit;
      is_query = v.is_query;
      is_fragment = v.is_fragment;
    }

pub valid_without : (p : Parts) → Valid p → Valid (without_default_port p)
valid_without p v = by_test (has_default_port p)
  where
    by_test : (b : Bool) → Valid (cond b (portless p) p)
    by_test true = valid_portless p v
    by_test false = v

-- ---- the port that is used stays, and nothing is left out twice

abbrev is_left : Option ℕ → Option AuthorityParts → Bool
is_left d None = false
is_left d (Some a) = is_some a.port && option_eq ◌==◌ a.port d

abbrev cut : Option ℕ → Option AuthorityParts → Option AuthorityParts
cut d a = cond (is_left d a) (option_map (λ a. with_port a None) a) a

abbrev used : Option ℕ → Option AuthorityParts → Option ℕ
used d a = option_and_then (λ (a : AuthorityParts). option_or a.port d) a

-- the two cases of a port: it is the default one, or the authority stays
by_port : (d : Option ℕ) (a : AuthorityParts) (P : Option AuthorityParts → Type 0) → (a.port ≡ d → P (Some (with_port a None))) → P (Some a) → P (cut d (Some a))
by_port d a P f x = by_case a.port d refl f
  where
    by_test : (b : Bool) → (b ≡ true → P (Some (with_port a None))) → P (cond b (Some (with_port a None)) (Some a))
    by_test true f = f refl
    by_test false f = x

    by_case : (n d : Option ℕ) → a.port ≡ n → (a.port ≡ d → P (Some (with_port a None)))
        → P (cond (is_some n && option_eq ◌==◌ n d) (Some (with_port a None)) (Some a))
    by_case None d e f = x
    by_case (Some n) None e f = x
    by_case (Some n) (Some m) e f = by_test (n == m) (λ h. f (e ∙ ap Some (eqb-true n m h)))

used_cut : (d : Option ℕ) (a : Option AuthorityParts) → used d (cut d a) ≡ used d a
used_cut d None = refl
used_cut d (Some a) = by_port d a (λ x. used d x ≡ used d (Some a)) (λ e. by_default a.port d e) refl
  where
    by_default : (n d : Option ℕ) → n ≡ d → d ≡ option_or n d
    by_default None d e = refl
    by_default (Some n) d e = sym e

cut_cut : (d : Option ℕ) (a : Option AuthorityParts) → cut d (cut d a) ≡ cut d a
cut_cut d None = refl
cut_cut d (Some a) = by_test (is_left d (Some a)) refl
  where
    by_test : (b : Bool) → is_left d (Some a) ≡ b
        → cut d (cond b (Some (with_port a None)) (Some a)) ≡ cond b (Some (with_port a None)) (Some a)
    by_test true e = refl
    by_test false e = ap (λ b. cond b (Some (with_port a None)) (Some a)) e

without_is : (p : Parts) → without_default_port p ≡ build p.scheme (cut (default_port_of p) p.authority) p.path p.query p.fragment
without_is p = by_authority p.authority
  where
    parts : Option AuthorityParts → Parts
    parts a = build p.scheme a p.path p.query p.fragment

    by_test : (b : Bool) (a : AuthorityParts) → cond b (parts (Some (with_port a None))) (parts (Some a)) ≡ parts (cond b (Some (with_port a None)) (Some a))
    by_test true a = refl
    by_test false a = refl

    by_authority : (a : Option AuthorityParts) → without_default_port (parts a) ≡ parts (cut (default_port_of p) a)
    by_authority None = refl
    by_authority (Some a) = by_test (is_left (default_port_of p) (Some a)) a

pub port_without : (p : Parts) → port_or_default (without_default_port p) ≡ port_or_default p
port_without p = ap port_or_default (without_is p) ∙ used_cut (default_port_of p) p.authority

pub without_twice : (p : Parts) → without_default_port (without_default_port p) ≡ without_default_port p
without_twice p =
    ap without_default_port (without_is p) ∙ without_is (build p.scheme (cut (default_port_of p) p.authority) p.path p.query p.fragment)
    ∙ ap (λ a. build p.scheme a p.path p.query p.fragment) (cut_cut (default_port_of p) p.authority) ∙ sym (without_is p)

-- what is left is the same but for the port
pub scheme_without : (p : Parts) → (without_default_port p).scheme ≡ p.scheme
scheme_without p = ap (λ q. q.scheme) (without_is p)

pub host_without : (p : Parts) → host_of (without_default_port p) ≡ host_of p
host_without p = ap host_of (without_is p) ∙ by_authority p.authority
  where
    host : Option AuthorityParts → Option Host
    host a = option_map (λ (a : AuthorityParts). a.host) a

    by_authority : (a : Option AuthorityParts) → host (cut (default_port_of p) a) ≡ host a
    by_authority None = refl
    by_authority (Some a) = by_port (default_port_of p) a (λ x. host x ≡ Some a.host) (λ e. refl) refl
