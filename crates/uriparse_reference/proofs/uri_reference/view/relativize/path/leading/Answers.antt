use Rattle.std.proofs.Common.{◌≡◌, true, false, ◌∙◌, rules}
use Rattle.uriparse_path.specs.Path.{spelled}
use Rattle.uriparse_path.specs.Relate.{apart_of, fronted, has_room, may_lead}
use Rattle.uriparse_reference.proofs.lemmas.writing.RelativePathLemmas.{led_there, make, no_room, not_led, room_there, text_there}
use Rattle.uriparse_reference.proofs.uri_reference.view.relativize.path.leading.Goals as goal

pub returns-then-not-may_lead : goal.returns-then-not-may_lead
returns-then-not-may_lead c =
    let may : may_lead (spelled c.args.base.now) (spelled c.args.target.now) ≡ false = search rules in
    not_led (spelled c.args.base.now) (spelled c.args.target.now) may

pub returns-then-not-has_room : goal.returns-then-not-has_room
returns-then-not-has_room c =
    let none : c.has_room.result ≡ false = search rules in
    no_room (spelled c.args.base.now) (spelled c.args.target.now)
    (room_there c.args.base.now c.args.target.now c.split_root.result.1.now c.split_root-2.result.1.now c.apart.result.0.now c.apart.result.1.now
    c.count_directories.result c.count_directories-parents.result c.count_directories-2.result c.split_root.ensures.rest c.split_root-2.ensures.rest
    c.apart.ensures c.count_directories.ensures c.count_directories-parents.ensures c.count_directories-2.ensures c.has_room.result c.has_room.ensures ∙ none)

pub returns : goal.returns
returns c =
    let base = c.args.base.now in
    let target = c.args.target.now in
    let may : may_lead (spelled base) (spelled target) ≡ true = search rules in
    let some : c.has_room.result ≡ true = search rules in
    let room : has_room (spelled base) (spelled target) ≡ true =
    room_there base target c.split_root.result.1.now c.split_root-2.result.1.now c.apart.result.0.now c.apart.result.1.now
    c.count_directories.result c.count_directories-parents.result c.count_directories-2.result c.split_root.ensures.rest c.split_root-2.ensures.rest
    c.apart.ensures c.count_directories.ensures c.count_directories-parents.ensures c.count_directories-2.ensures c.has_room.result c.has_room.ensures ∙ some in (
      make (fronted (apart_of (spelled base) (spelled target))),
      led_there (spelled base) (spelled target) may room,
      text_there base target c.split_root.result.1.now c.split_root-2.result.1.now c.apart.result.0.now c.apart.result.1.now
          c.count_directories.result c.count_directories-parents.result c.count_directories-2.result c.split_root.ensures.rest c.split_root-2.ensures.rest
          c.apart.ensures c.count_directories.ensures c.count_directories-parents.ensures c.count_directories-2.ensures c.needs_dot.result c.needs_dot.ensures,
    )
