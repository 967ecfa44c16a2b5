use Rattle.std.proofs.Common.{◌≡◌, Ok, ap, sym, subst, ◌∙◌}
use Rattle.std.specs.Option.{option_copied, option_map}
use Rattle.uriparse_reference.specs.Change.{AuthorityStrings, Strings, changed, changed_authority, changed_strings}
use Rattle.uriparse_reference.specs.Wanted.{Wanted, wish}
use Rattle.uriparse_reference.proofs.lemmas.edits.ChangeLemmas.{changed_whole}
use Rattle.uriparse_reference.proofs.uri_reference.change.strings.change_strings.Goals as goal

pub returns : goal.returns
returns c =
    let i = c.changes.inside in
    let o = c.old.inside in
    let w : Wanted = record {
      scheme = wish i.scheme;
      username = wish i.username;
      password = wish i.password;
      host = wish i.host;
      port = wish i.port;
      path = wish i.path;
      query = wish i.query;
      fragment = wish i.fragment;
    } in
    let s : Strings = record {
      scheme = option_copied o.scheme;
      authority = o.authority;
      path = o.path.now;
      query = option_copied o.query;
      fragment = option_copied o.fragment;
    } in
    let made : Ok c.in_ok-authority.authority ≡ changed_authority w s.authority (changed w.host (option_map (λ (a : AuthorityStrings). a.host) s.authority)) =
    subst (λ (v : Wanted). Ok c.in_ok-authority.authority ≡ changed_authority v s.authority (changed v.host (option_map (λ (a : AuthorityStrings). a.host) s.authority)))
    (sym c.changes.view_is) c.in_ok-authority.ensures in
    changed_whole w s c.in_ok-authority.authority (option_copied c.changed.result) c.changed_path-path.result.now (option_copied c.changed-2.result)
    (option_copied c.changed-3.result) c.is_some.result c.is_some-2.result made c.changed.ensures c.is_some.ensures c.is_some-2.ensures
    c.changed_path-path.ensures c.changed-2.ensures c.changed-3.ensures
    ∙ ap (λ v. changed_strings v s) c.changes.view_is ∙ ap (changed_strings c.args.changes.now) c.old.view_is
