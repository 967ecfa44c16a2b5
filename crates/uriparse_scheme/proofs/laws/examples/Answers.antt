use Rattle.std.proofs.Common.{refl}
use Rattle.uriparse_text.specs.Canonical.{canonical_in}
use Rattle.uriparse_text.specs.Tokens.{tokens}
use Rattle.uriparse_scheme.specs.SchemeTable.{row_of, variants}
use Rattle.uriparse_scheme.specs.Scheme.{fault}
use Rattle.uriparse_scheme.proofs.laws.examples.Goals as goal

pub returns-clause-any_case : goal.returns-clause-any_case
unfolding fault row_of variants
returns-clause-any_case c = refl

pub returns-clause-acat : goal.returns-clause-acat
unfolding fault row_of variants
returns-clause-acat c = refl

pub returns-clause-acct : goal.returns-clause-acct
unfolding fault row_of variants
returns-clause-acct c = refl

pub returns-clause-first_row : goal.returns-clause-first_row
unfolding fault row_of variants
returns-clause-first_row c = refl

pub returns-clause-last_row : goal.returns-clause-last_row
unfolding fault row_of variants
returns-clause-last_row c = refl

pub returns-clause-shorter : goal.returns-clause-shorter
unfolding fault row_of variants
returns-clause-shorter c = refl

pub returns-clause-longest : goal.returns-clause-longest
unfolding fault row_of variants
returns-clause-longest c = refl

pub returns-clause-longer : goal.returns-clause-longer
unfolding fault row_of variants
returns-clause-longer c = refl

pub returns-clause-kept : goal.returns-clause-kept
unfolding fault row_of variants
returns-clause-kept c = refl

pub returns-clause-nothing : goal.returns-clause-nothing
unfolding fault
returns-clause-nothing c = refl

pub returns-clause-digit : goal.returns-clause-digit
unfolding fault
returns-clause-digit c = refl

pub returns-clause-colon : goal.returns-clause-colon
unfolding fault
returns-clause-colon c = refl

pub returns-clause-underscore : goal.returns-clause-underscore
unfolding fault
returns-clause-underscore c = refl

pub returns-clause-taken : goal.returns-clause-taken
unfolding row_of variants
returns-clause-taken c = refl

pub returns-clause-free : goal.returns-clause-free
unfolding row_of variants
returns-clause-free c = refl

pub returns-clause-printed : goal.returns-clause-printed
unfolding row_of
returns-clause-printed c = refl

pub returns-clause-normal : goal.returns-clause-normal
unfolding canonical_in tokens
returns-clause-normal c = refl

pub returns-clause-permanent : goal.returns-clause-permanent
unfolding row_of
returns-clause-permanent c = refl

pub returns-clause-provisional : goal.returns-clause-provisional
unfolding row_of
returns-clause-provisional c = refl

pub returns-clause-historical : goal.returns-clause-historical
unfolding row_of
returns-clause-historical c = refl

pub returns-clause-unregistered : goal.returns-clause-unregistered
returns-clause-unregistered c = refl
