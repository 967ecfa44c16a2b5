use Rattle.std.proofs.Common.{ap, sym, ◌∙◌, refl}
use Rattle.uriparse_text.specs.Readings.{fault_in}
use Rattle.uriparse_reference.specs.Reference.{Parts}
use Rattle.uriparse_ffi.specs.Code as spec
use Rattle.uriparse_ffi.specs.Places.{host_number, port_number}
use Rattle.uriparse_ffi.proofs.lemmas.ParseLemmas.{query_of, fragment_of, places_of, read_one, no_fault, no_fault_read, one_fault}
use Rattle.uriparse_c.proofs.uriparse_parse.Goals as goal

pub places-requires-clause-query : goal.places-requires-clause-query
places-requires-clause-query c = sym (query_of c.args.text.now _ c.in-Ok.ensures.is_read)

pub places-requires-clause-fragment : goal.places-requires-clause-fragment
places-requires-clause-fragment c = sym (fragment_of c.args.text.now _ c.in-Ok.ensures.is_read)

pub returns-in-Ok-clause-parsed : goal.returns-in-Ok-clause-parsed
returns-in-Ok-clause-parsed c p s =
    let one = read_one c.args.text.now p _ s c.in-Ok.ensures.is_read in
    let authority = ap (λ (q : Parts). q.authority) one in (
      refl,
      (
        places_of c.args.text.now p s c.places.result c.places.ensures.places,
        c.places.ensures.kind ∙ ap host_number authority,
        c.places.ensures.port ∙ ap port_number authority,
      ),
    )

pub returns-in-Ok-clause-refused : goal.returns-in-Ok-clause-refused
returns-in-Ok-clause-refused c e h = absurd (no_fault_read c.args.text.now _ e c.in-Ok.ensures.is_read h)

pub returns-in-Err-clause-parsed : goal.returns-in-Err-clause-parsed
returns-in-Err-clause-parsed c p s = absurd (no_fault c.args.text.now p c.in-Err.error s (ap fault_in c.in-Err.ensures))

pub returns-in-Err-clause-refused : goal.returns-in-Err-clause-refused
returns-in-Err-clause-refused c e h = (c.code_of.ensures.code ∙ ap spec.code_of (one_fault c.args.text.now e c.in-Err.error h c.in-Err.ensures), refl)
