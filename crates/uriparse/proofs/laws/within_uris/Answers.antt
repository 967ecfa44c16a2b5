use Rattle.uriparse_path.specs.Normal.{pnormal}
use Rattle.uriparse_path.specs.Within.{between_slashes}
use Rattle.uriparse.proofs.lemmas.WithinLawLemmas.{again_place, are_within_again, are_within_itself, one_directory, within_equals, within_normal, within_normal_back, within_normal_base}
use Rattle.uriparse.proofs.lemmas.WithinTargetLemmas.{own_below, target_below}
use Rattle.std.proofs.Common.{false, refl}
use Rattle.uriparse.proofs.lemmas.WithinOriginLemmas.{within_origin}
use Rattle.uriparse.proofs.lemmas.WithinTestLemmas.{within_tested}
use Rattle.uriparse.proofs.laws.within_uris.Goals as goal

pub returns : goal.returns
returns c = record {
  itself = λ p front last e h k. record {
    place = record { schemes = refl; authorities = refl };
    path = are_within_itself (between_slashes (pnormal p.path false)) front last e h;
    clear = k;
  };
  again = λ p q r w x. record {
    place = again_place p.scheme q.scheme r.scheme p.authority q.authority r.authority w.place x.place;
    path = are_within_again (between_slashes (pnormal p.path false)) (between_slashes (pnormal q.path false)) (between_slashes (pnormal r.path false)) w.path x.path;
    clear = w.clear;
  };
  directories = λ p b w x. one_directory (between_slashes (pnormal p.path false)) (between_slashes (pnormal b.path false)) w.path x.path;
  normal = within_normal;
  normal_back = within_normal_back;
  normal_base = within_normal_base;
  target = target_below;
  own = own_below;
  equals = within_equals;
  tested = within_tested;
  origin = within_origin;
}
