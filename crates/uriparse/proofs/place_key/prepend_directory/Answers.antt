use Rattle.std.proofs.Common.{false, [], ◌∙◌, ap, append-nil, subst, sym}
use Rattle.uriparse_text.specs.Ends.{EndsWith}
use Rattle.uriparse_path.specs.Normal.{pnormal}
use Rattle.uriparse_path.specs.Path.{spelled, text}
use Rattle.uriparse_authority.proofs.lemmas.authorities.SameTextLemmas.{ends_empty}
use Rattle.uriparse.proofs.lemmas.PlaceDirectoryLemmas.{no_length, puts_alone, puts_directory, some_length}
use Rattle.uriparse.proofs.place_key.prepend_directory.Goals as goal

pub returns-then-prepend_normal_path-eq0-clause-ends :
    goal.returns-then-prepend_normal_path-eq0-clause-ends
returns-then-prepend_normal_path-eq0-clause-ends c =
    let p = spelled c.args.path.now in
    let size = (c.prepend_normal_path.ensures.puts [] (ends_empty [])).size in
    let none = no_length _ _ size c.if-prepend_normal_path-eq0.true in
    let empty = sym (append-nil _) ∙ none in
    puts_alone p _ _ c.requires.path c.requires.shown (ap (λ q. text (pnormal q false)) (sym c.directory_of-directory.ensures.is) ∙ empty)
    (c.prepend_normal_path-then-prepend_normal_path-eq0.ensures.puts _ (c.prepend-len.ensures.puts [] (ends_empty c.args.out.now)))

pub returns-else-prepend_normal_path-eq0-clause-ends :
    goal.returns-else-prepend_normal_path-eq0-clause-ends
returns-else-prepend_normal_path-eq0-clause-ends c =
    let p = spelled c.args.path.now in
    let size = (c.prepend_normal_path.ensures.puts [] (ends_empty [])).size in
    let some = some_length _ _ size c.if-prepend_normal_path-eq0.false in
    puts_directory p _ _ c.requires.path c.requires.shown (λ e. some (append-nil _ ∙ ap (λ q. text (pnormal q false)) c.directory_of-directory.ensures.is ∙ e))
    (subst (EndsWith c.prepend_normal_path-else-prepend_normal_path-eq0.new.out c.prepend_normal_path-else-prepend_normal_path-eq0.result)
    (append-nil _ ∙ ap (λ q. text (pnormal q false)) c.directory_of-directory.ensures.is)
    (c.prepend_normal_path-else-prepend_normal_path-eq0.ensures.puts [] (ends_empty c.args.out.now)))
