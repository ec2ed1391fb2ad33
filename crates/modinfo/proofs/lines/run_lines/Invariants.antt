-- The lines that were read, and the printed lines for them, which were written or are waiting.
use Rattle.std.proofs.Common.{◌++◌, ℕ, List}
use Rattle.std.specs.Io.Buffered.{reader_remaining}
use Rattle.std.specs.Io.KnownBytes.{Appends}
use Rattle.modinfo.specs.Lines.{PrintsLines}
use Rattle.modinfo.specs.internal.Lines.{TakesLines}
use Rattle.modinfo.proofs.lines.run_lines.Given as goal

abbrev pub invariant-lines : goal.invariant-lines
invariant-lines g l = (done : List (List ℕ)) × (sent : List ℕ)
    × TakesLines (reader_remaining g.R.Read.remaining l.initial.input)
    (reader_remaining g.R.Read.remaining l.input) done
    × PrintsLines l.command done l.is_passed (sent ++ l.waiting.items)
    × Appends (g.W.Write.contents l.initial.output) (g.W.Write.contents l.output) sent
