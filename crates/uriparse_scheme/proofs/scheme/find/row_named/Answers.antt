use Rattle.std.proofs.Common.{sym, subst, ap, ◌∙◌, map, rules, slice_get, List}
use Rattle.std.specs.Result.{result_ok}
use Rattle.std.specs.List.{find}
use Rattle.std.specs.List.Sorted.{IsStrictlySortedBy}
use Rattle.std.specs.Option.{option_and_then}
use Rattle.std.specs.Str.{bytes_eq, str_to_ascii_lowercase}
use Rattle.std.specs.Cmp.Lexicographic.{slice_cmp}
use Rattle.std.specs.Ordering.{nat_cmp}
use Rattle.std.proofs.lemmas.Fn.{always_returns_same}
use Rattle.uriparse_scheme.specs.declared.scheme.registered.RegisteredScheme.{RegisteredScheme}
use Rattle.uriparse_scheme.specs.declared.scheme.registered.RegisteredScheme.TheVariants.{AAA}
use Rattle.uriparse_scheme.specs.SchemeTable.{variants}
use Rattle.uriparse_scheme.specs.Registered.{name_of}
use Rattle.uriparse_scheme.proofs.lemmas.table.SortedLemmas.{names_sorted, searched}
use Rattle.uriparse_scheme.proofs.scheme.find.row_named.Goals as goal

pub returns : goal.returns
returns c =
    let lowered = str_to_ascii_lowercase c.args.text.now in
    let same = sym c.all_schemes.ensures in
    ap (option_and_then (slice_get variants)) c.ok.ensures.value
    ∙ ap (λ (xs : List RegisteredScheme). option_and_then (slice_get xs) (result_ok c.binary_search_by.result)) same
    ∙ searched name_of c.all_schemes.result.now AAA lowered
    (subst (λ (xs : List RegisteredScheme). IsStrictlySortedBy (slice_cmp nat_cmp) (map name_of xs)) same names_sorted)
    c.binary_search_by.result
    c.binary_search_by.ensures.bound
    (c.binary_search_by.ensures.position (λ s. slice_cmp nat_cmp (name_of s) lowered) (always_returns_same _ _ _ (λ a r f h. search rules)))
    ∙ ap (find (λ s. bytes_eq (name_of s) lowered)) c.all_schemes.ensures
