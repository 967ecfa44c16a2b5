use Rattle.std.proofs.Common.{◌≡◌, true, ◌&&◌, not, take, arith, sym, ap, subst, ◌∙◌}
use Rattle.uriparse_path.specs.Path.{PathParts, IsListed, flag, starts_with_empty_segment}
use Rattle.std.specs.List.{list_all}
use Rattle.uriparse_path.specs.Normal.{is_canonical}
use Rattle.uriparse_path.specs.Counts.{CountsAreRight, counts}
use Rattle.uriparse_path.specs.Dots.{has_dot_segment, without_dots}
use Rattle.uriparse_path.specs.Edits.{with_dot_prefix_unless}
use Rattle.uriparse_path.proofs.lemmas.normal.ShieldLemmas.{Pass, twice, room_left, counted_left, counts_left, passed}
use Rattle.uriparse_path.proofs.lemmas.list.SegmentCountLemmas.{kept_by}
use Rattle.uriparse_path.proofs.path.dots.Path.take_dots.Goals.{After-needs_dot_prefix-dot_prefixed}
use Rattle.uriparse_path.proofs.path.dots.Path.take_dots.Goals as goal

abbrev old : After-needs_dot_prefix-dot_prefixed → PathParts
old c = record { absolute = flag c.self.inside.absolute; segments = c.self.inside.segments }

pass : (c : After-needs_dot_prefix-dot_prefixed)
    → Pass c.args.has_authority (old c) c.replay_list-rooted.result.0 c.replay_list-rooted.result.1 c.replay_list-rooted.new.segments
    c.absorb_empty_first-absolute.result.0 c.absorb_empty_first-absolute.result.1 c.absorb_empty_first-absolute.new.segments c.needs_dot_prefix-dot_prefixed.result
pass c = record {
  listed = subst (λ q. IsListed q.segments) (sym c.self.view_is) c.requires.listed;
  dots = ap (λ q. has_dot_segment q.segments) c.self.view_is ∙ c.requires.dots;
  shown = λ h. ap (λ q. starts_with_empty_segment q.segments) c.self.view_is ∙ c.requires.shown h;
  segments = c.replay_list-rooted.ensures.segments;
  root = c.replay_list-rooted.ensures.root;
  within = omega (arith, c.replay_list-rooted.ensures.within);
  len = omega (arith, c.replay_list-rooted.ensures.len);
  path = c.absorb_empty_first-absolute.ensures.path;
  inside = omega (arith, c.absorb_empty_first-absolute.ensures.within);
  spare = omega (arith, c.absorb_empty_first-absolute.ensures.spare);
  no_longer = omega (arith, c.absorb_empty_first-absolute.ensures.no_longer);
  need = c.needs_dot_prefix-dot_prefixed.ensures
      ∙ ap (λ l. not c.args.has_authority && twice (record { absolute = c.absorb_empty_first-absolute.result.0; segments = take c.absorb_empty_first-absolute.result.1 l }))
      c.as_slice.ensures;
}

pub truncate_with_leading_dot-requires-clause-room : goal.truncate_with_leading_dot-requires-clause-room
truncate_with_leading_dot-requires-clause-room c = omega (arith, room_left (pass ((goal.at.truncate_with_leading_dot-requires-clause-room c).After-needs_dot_prefix-dot_prefixed)))

pub invariant_of-self : goal.invariant_of-self
invariant_of-self c =
    let passed = pass (goal.at.invariant_of-self c).After-needs_dot_prefix-dot_prefixed in
    subst (λ l. CountsAreRight counts l (flag c.word_of-self-inside.result) c.without_dots-self-inside.result) (sym c.truncate_with_leading_dot.ensures)
    (kept_by _ _ _ (counted_left passed) (λ h.
    let all : list_all is_canonical c.args.self.now.segments ≡ true = c.is_known_canonical-all_canonical.ensures (sym c.word_of-self-inside.ensures ∙ h) in
    counts_left passed c.without_dots-self-inside.result (ap (λ q. list_all is_canonical q.segments) c.self.view_is ∙ all)
    c.without_dots-self-inside.ensures.plain c.without_dots-self-inside.ensures.dotted))

pub returns : goal.returns
returns c =
    ap (λ v. record { absolute = v; segments = c.truncate_with_leading_dot.new.segments }) c.word_of-self-inside-2.ensures
    ∙ ap (λ l. record { absolute = c.absorb_empty_first-absolute.result.0; segments = l }) c.truncate_with_leading_dot.ensures
    ∙ passed (pass (goal.at.returns c).After-needs_dot_prefix-dot_prefixed)
    ∙ ap (λ q. with_dot_prefix_unless c.args.has_authority (without_dots q)) c.self.view_is
