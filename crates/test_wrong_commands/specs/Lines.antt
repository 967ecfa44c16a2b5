-- Options with `--lines`.
use Rattle.std.specs.Prelude.{false, true, None, Some}
use Rattle.uri_commands.specs.Options.{none}
use Rattle.uri_commands.specs.declared.options.Options.{Options}

-- --lines
abbrev pub of_lines : Options
of_lines = record none { reads_lines = true }

-- --lines --align
abbrev pub aligned : Options
aligned = record none { reads_lines = true; columns = Some (record { first = None; appends = false }) }

-- --lines --append
abbrev pub appended : Options
appended = record none { reads_lines = true; columns = Some (record { first = None; appends = true }) }

-- --lines --column 2
abbrev pub of_second_fields : Options
of_second_fields = record none { reads_lines = true; columns = Some (record { first = Some 1; appends = false }) }
