use Rattle.std.proofs.Common.{◌≡◌, true, false, refl, sym, ap, rules}
use Rattle.std.specs.Prelude.{is_some}
use Rattle.uriparse_text.specs.Readings.{unless_fault}
use Rattle.uriparse_reference.specs.Reference.{host_of, port_of, username_of}
use Rattle.uriparse.specs.File.{is_file, is_local}
use Rattle.uriparse.proofs.lemmas.FileLemmas.{checks}
use Rattle.uriparse.proofs.file.check_parts.Goals as goal

pub returns-then-not-is_file : goal.returns-then-not-is_file
returns-then-not-is_file c =
    let ha : is_file c.args.uri.now.scheme ≡ false = search rules in
    sym (ap (λ o. unless_fault {A = Unit {0}} o tt) (checks c.args.uri.now false _ _ _ _ _ _ ha refl refl refl refl refl refl))

pub returns-then-has_username : goal.returns-then-has_username
returns-then-has_username c =
    let ha : is_file c.args.uri.now.scheme ≡ true = search rules in
    let hb : is_some (username_of c.args.uri.now) ≡ true = search rules in
    sym (ap (λ o. unless_fault {A = Unit {0}} o tt) (checks c.args.uri.now true true _ _ _ _ _ ha hb refl refl refl refl refl))

pub returns-then-not-is_local : goal.returns-then-not-is_local
returns-then-not-is_local c =
    let ha : is_file c.args.uri.now.scheme ≡ true = search rules in
    let hb : is_some (username_of c.args.uri.now) ≡ false = search rules in
    let hc : is_local (host_of c.args.uri.now) ≡ false = search rules in
    sym (ap (λ o. unless_fault {A = Unit {0}} o tt) (checks c.args.uri.now true false false _ _ _ _ ha hb hc refl refl refl refl))

pub returns-then-has_port : goal.returns-then-has_port
returns-then-has_port c =
    let ha : is_file c.args.uri.now.scheme ≡ true = search rules in
    let hb : is_some (username_of c.args.uri.now) ≡ false = search rules in
    let hc : is_local (host_of c.args.uri.now) ≡ true = search rules in
    let hd : is_some (port_of c.args.uri.now) ≡ true = search rules in
    sym (ap (λ o. unless_fault {A = Unit {0}} o tt) (checks c.args.uri.now true false true true _ _ _ ha hb hc hd refl refl refl))

pub returns-then-not-is_absolute : goal.returns-then-not-is_absolute
returns-then-not-is_absolute c =
    let ha : is_file c.args.uri.now.scheme ≡ true = search rules in
    let hb : is_some (username_of c.args.uri.now) ≡ false = search rules in
    let hc : is_local (host_of c.args.uri.now) ≡ true = search rules in
    let hd : is_some (port_of c.args.uri.now) ≡ false = search rules in
    let he : c.args.uri.now.path.absolute ≡ false = search rules in
    sym (ap (λ o. unless_fault {A = Unit {0}} o tt) (checks c.args.uri.now true false true false false _ _ ha hb hc hd he refl refl))

pub returns-then-has_query : goal.returns-then-has_query
returns-then-has_query c =
    let ha : is_file c.args.uri.now.scheme ≡ true = search rules in
    let hb : is_some (username_of c.args.uri.now) ≡ false = search rules in
    let hc : is_local (host_of c.args.uri.now) ≡ true = search rules in
    let hd : is_some (port_of c.args.uri.now) ≡ false = search rules in
    let he : c.args.uri.now.path.absolute ≡ true = search rules in
    let hf : is_some c.args.uri.now.query ≡ true = search rules in
    sym (ap (λ o. unless_fault {A = Unit {0}} o tt) (checks c.args.uri.now true false true false true true _ ha hb hc hd he hf refl))

pub returns-then-has_fragment : goal.returns-then-has_fragment
returns-then-has_fragment c =
    let ha : is_file c.args.uri.now.scheme ≡ true = search rules in
    let hb : is_some (username_of c.args.uri.now) ≡ false = search rules in
    let hc : is_local (host_of c.args.uri.now) ≡ true = search rules in
    let hd : is_some (port_of c.args.uri.now) ≡ false = search rules in
    let he : c.args.uri.now.path.absolute ≡ true = search rules in
    let hf : is_some c.args.uri.now.query ≡ false = search rules in
    let hg : is_some c.args.uri.now.fragment ≡ true = search rules in
    sym (ap (λ o. unless_fault {A = Unit {0}} o tt) (checks c.args.uri.now true false true false true false true ha hb hc hd he hf hg))

pub returns-else-has_fragment : goal.returns-else-has_fragment
returns-else-has_fragment c =
    let ha : is_file c.args.uri.now.scheme ≡ true = search rules in
    let hb : is_some (username_of c.args.uri.now) ≡ false = search rules in
    let hc : is_local (host_of c.args.uri.now) ≡ true = search rules in
    let hd : is_some (port_of c.args.uri.now) ≡ false = search rules in
    let he : c.args.uri.now.path.absolute ≡ true = search rules in
    let hf : is_some c.args.uri.now.query ≡ false = search rules in
    let hg : is_some c.args.uri.now.fragment ≡ false = search rules in
    sym (ap (λ o. unless_fault {A = Unit {0}} o tt) (checks c.args.uri.now true false true false true false false ha hb hc hd he hf hg))
