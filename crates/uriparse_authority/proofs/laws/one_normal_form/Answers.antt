use Rattle.uriparse_authority.proofs.lemmas.authorities.NormalLemmas.{host_text-canonical, host_kind-canonical, host_valid_canonical, host_twice, print-canonical, kind-canonical}
use Rattle.uriparse_authority.proofs.lemmas.authorities.NormalLemmas.{valid_canonical, canonical_twice, canonical_kept}
use Rattle.uriparse_authority.proofs.laws.one_normal_form.Goals as goal

pub returns : goal.returns
returns c =
    record {
      host_valid = host_valid_canonical;
      host_twice = host_twice;
      host_text = host_text-canonical;
      host_kind = host_kind-canonical;
      valid = valid_canonical;
      twice = canonical_twice;
      text = print-canonical;
      kinds = kind-canonical;
      kept = canonical_kept;
    }
