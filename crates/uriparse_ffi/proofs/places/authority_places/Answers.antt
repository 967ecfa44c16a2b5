use Rattle.std.proofs.Common.{◌≡◌, ◌+◌, ◌-◌, [], length, Some, ap, ◌∙◌, arith}
use Rattle.std.specs.Prelude.{unwrap_or}
use Rattle.uriparse_text.specs.Bytes.{at_sign}
use Rattle.uriparse_text.specs.Cuts.{ahead}
use Rattle.uriparse_authority.specs.Authority.{userinfo_text, username_in, password_in, cut_host, cut_port}
use Rattle.uriparse_ffi.specs.Spans.{span}
use Rattle.uriparse_ffi.proofs.lemmas.PlaceLemmas.{ahead_size, userinfo_size}
use Rattle.uriparse_ffi.proofs.places.authority_places.Goals as goal

pub user_places-requires : goal.user_places-requires
user_places-requires c =
    let room = c.requires in
    let userinfo = ap (λ o. length (unwrap_or o [])) c.split_userinfo.ensures.userinfo in
    let front = ahead_size at_sign (userinfo_text c.args.text.now) in
    let whole = userinfo_size c.args.text.now in
    omega arith

pub overflow_sub-text : goal.overflow_sub-text
overflow_sub-text c =
    let rest = ap length c.split_userinfo.ensures.host_and_port in
    let whole = userinfo_size c.args.text.now in
    omega arith

pub host_places-requires : goal.host_places-requires
host_places-requires c =
    let room = c.requires in
    let rest = ap length c.split_userinfo.ensures.host_and_port in
    let whole = userinfo_size c.args.text.now in
    omega arith

pub returns : goal.returns
returns c =
    let a = c.args.text.now in
    let at = c.args.at in
    let rest = ap length c.split_userinfo.ensures.host_and_port in
    let whole = userinfo_size a in
    let front : length a - length c.split_userinfo.result.1.now ≡ length (ahead at_sign (userinfo_text a)) = omega arith in
    record {
      username = c.user_places.ensures.username ∙ ap (λ o. span at (username_in o)) c.split_userinfo.ensures.userinfo;
      password = c.user_places.ensures.password ∙ ap (λ o. span (c.user_places.result.0.end + 1) (password_in o)) c.split_userinfo.ensures.userinfo;
      host = c.host_places.ensures.host ∙ ap (λ n. span (at + n) (Some (cut_host c.split_userinfo.result.1.now))) front
          ∙ ap (λ u. span (at + length (ahead at_sign (userinfo_text a))) (Some (cut_host u))) c.split_userinfo.ensures.host_and_port;
      port = c.host_places.ensures.port ∙ ap (λ u. span (c.host_places.result.0.end + 1) (cut_port u)) c.split_userinfo.ensures.host_and_port;
    }
