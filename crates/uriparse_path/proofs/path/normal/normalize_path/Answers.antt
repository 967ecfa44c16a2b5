use Rattle.std.proofs.Common.{◌≡◌, sym, ap, ◌∙◌, map, not, true, false}
use Rattle.std.proofs.lemmas.Bool.{and_parts, or_parts, not-true}
use Rattle.uriparse_text.specs.Canonical.{canonical}
use Rattle.uriparse_path.specs.Path.{PathParts, IsListed, starts_with_empty_segment, is_rooted, text}
use Rattle.std.specs.List.{list_all}
use Rattle.uriparse_path.specs.Dots.{without_dots}
use Rattle.uriparse_path.specs.Edits.{with_dot_prefix_unless}
use Rattle.uriparse_path.specs.Relative.{ended, reduced}
use Rattle.uriparse_path.specs.Normal.{canonical_path, stays_relative, is_canonical, are_normal}
use Rattle.uriparse_path.proofs.lemmas.text.CanonicalTextLemmas.{canonical-text, is_rooted-canonical, listed-canonical}
use Rattle.uriparse_path.proofs.lemmas.normal.RelativeFormLemmas.{all_canonical-canonical, each_reduced, hides-canonical}
use Rattle.uriparse_path.proofs.lemmas.normal.NormalFormLemmas.{pnormal_relative, rooted-text}
use Rattle.uriparse_path.proofs.lemmas.normal.SpellingCommutesLemmas.{shaped-canonical, pnormal_without_dots}
use Rattle.uriparse_path.proofs.lemmas.normal.ShieldLemmas.{relative_stays, normal_shielded}
use Rattle.uriparse_path.proofs.path.normal.normalize_path.Goals as goal

-- a path that stays relative begins with no slash, nor does its canonical form
pub shape_relative-requires : goal.shape_relative-requires
shape_relative-requires c =
    let p : PathParts = c.args.path.now in
    let listed : IsListed p.segments = c.in_ok-make_canonical.ensures.listed in
    let asked = and_parts (not c.args.context.has_scheme) (not (is_rooted (text p))) (sym c.stays_relative-stays_relative.ensures ∙ c.if-stays_relative.true) in
    let parts = or_parts p.absolute (starts_with_empty_segment (map canonical p.segments))
    (sym (rooted-text (canonical_path p) (listed-canonical p.segments listed)) ∙ ap is_rooted (sym (canonical-text p listed)) ∙ is_rooted-canonical (text p)
    ∙ not-true (is_rooted (text p)) asked.1) in
    record {
      canonical = ap (λ q. list_all is_canonical q.segments) c.in_ok-make_canonical.ensures.ok ∙ all_canonical-canonical p.segments listed.each;
      relative = ap (λ q. q.absolute) c.in_ok-make_canonical.ensures.ok ∙ parts.0;
      shown = ap (λ q. starts_with_empty_segment q.segments) c.in_ok-make_canonical.ensures.ok ∙ parts.1;
    }

pub returns-then-stays_relative-clause-ok : goal.returns-then-stays_relative-clause-ok
returns-then-stays_relative-clause-ok c =
    let p : PathParts = c.args.path.now in
    let listed : IsListed p.segments = c.in_ok-make_canonical.ensures.listed in
    let relative : stays_relative p (not c.args.context.has_scheme) ≡ true = sym c.stays_relative-stays_relative.ensures ∙ c.if-stays_relative.true in
    c.shape_relative.ensures
    ∙ ap (λ q. record { absolute = false; segments = ended q.segments (reduced q.segments) }) c.in_ok-make_canonical.ensures.ok
    ∙ ap (λ l. record { absolute = false; segments = l }) (shaped-canonical p.segments listed.each (each_reduced p.segments listed.each))
    ∙ sym (pnormal_relative p (not c.args.context.has_scheme) relative)
    ∙ sym (relative_stays c.args.context.has_authority p (not c.args.context.has_scheme) listed relative)

-- canonical segments hide a root if these do
pub remove_dots-requires : goal.remove_dots-requires
remove_dots-requires c h = ap (λ q. starts_with_empty_segment q.segments) c.in_ok-make_canonical.ensures.ok ∙ hides-canonical c.args.path.now.segments ∙ c.requires h

pub returns-else-stays_relative-clause-ok : goal.returns-else-stays_relative-clause-ok
returns-else-stays_relative-clause-ok c =
    let listed : IsListed c.args.path.now.segments = c.in_ok-make_canonical.ensures.listed in
    let other : stays_relative c.args.path.now (not c.args.context.has_scheme) ≡ false = sym c.stays_relative-stays_relative.ensures ∙ c.if-stays_relative.false in
    c.remove_dots.ensures
    ∙ ap (λ q. with_dot_prefix_unless c.args.context.has_authority (without_dots q)) c.in_ok-make_canonical.ensures.ok
    ∙ ap (with_dot_prefix_unless c.args.context.has_authority) (pnormal_without_dots c.args.path.now (not c.args.context.has_scheme) listed other)

pub returns-then-is_known_normal-clause-ok : goal.returns-then-is_known_normal-clause-ok
returns-then-is_known_normal-clause-ok c =
    let p : PathParts = c.args.path.now in
    normal_shielded c.args.context.has_authority p (not c.args.context.has_scheme) c.is_known_normal.ensures.listed
    (ap (λ v. are_normal v p.segments) (sym c.stays_relative-stays_relative.ensures) ∙ c.is_known_normal.ensures.answer c.if-is_known_normal.true)
    c.requires
