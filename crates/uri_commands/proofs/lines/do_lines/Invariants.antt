use Rattle.std.proofs.Common.{◌≡◌, IsErr}
use Rattle.std.specs.Io.Buffered.{reader_remaining}
use Rattle.uri_commands.proofs.OutputsLemmas.{Goes}
use Rattle.uri_commands.proofs.lines.do_lines.Given as goal

abbrev pub invariant-lines : goal.invariant-lines
invariant-lines g l = record {
  kept : IsErr l.initial.written → l.written ≡ l.initial.written;
  goes : Goes l.work (reader_remaining g.I.Read.remaining l.initial.input) (reader_remaining g.I.Read.remaining l.input)
      (g.O.Write.contents l.initial.out) (g.O.Write.contents l.out) l.initial.pending.items l.pending.items l.worst;
}
