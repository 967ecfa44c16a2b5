use Rattle.uriparse_authority.proofs.lemmas.hosts.WithinLemmas.{is_46, is_not_46}
use Rattle.uriparse.proofs.lemmas.PlaceNameLemmas.{label_alone, label_cut, taken_more, taken_none}
use Rattle.uriparse.proofs.place_key.names.split_label.Goals as goal

pub octets-init : goal.octets-init
octets-init c = (taken_none c.args.text.now, c.requires)

pub octets-preserved : goal.octets-preserved
octets-preserved c =
    let formed = c.octets.invariant.1 in
    let other = is_not_46 c.in-Some.octet _ _ c.in-Some.ensures.cut c.if-octet-eq46.false in (
      taken_more c.args.text.now c.octets.rest.now c.in-Some.after.now c.in-Some.octet c.octets.invariant.0 (c.in-Some.ensures.token formed) other,
      c.in-Some.ensures.formed formed,
    )

pub returns-then-octet-eq46-clause-cut : goal.returns-then-octet-eq46-clause-cut
returns-then-octet-eq46-clause-cut c =
    let is = is_46 c.in-Some.octet _ _ c.in-Some.ensures.cut c.if-octet-eq46.true in
    label_cut c.args.text.now c.octets.rest.now c.in-Some.after.now c.in-Some.octet c.octets.invariant.0 c.in-Some.ensures.cut is

pub returns-clause-cut : goal.returns-clause-cut
returns-clause-cut c = label_alone c.args.text.now c.octets.rest.now c.octets.invariant.0 c.in_default.ensures.cut
