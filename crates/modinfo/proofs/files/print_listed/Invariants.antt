-- The names that were read, and what is printed for them, which was written or is waiting.
use Rattle.std.proofs.Common.{◌++◌, ℕ, List}
use Rattle.std.specs.Io.Buffered.{reader_remaining}
use Rattle.std.specs.Io.KnownBytes.{Appends}
use Rattle.modinfo.specs.Files.{PrintsFile}
use Rattle.modinfo.specs.Lines.{PrintsEach}
use Rattle.modinfo.specs.internal.Lines.{Takes}
use Rattle.modinfo.proofs.FilesPrinted.{text_of}
use Rattle.modinfo.proofs.files.print_listed.Given as goal

abbrev pub invariant-names : goal.invariant-names
invariant-names g l = (done : List (List ℕ)) × (sent : List ℕ)
    × Takes l.end (reader_remaining g.I.Read.remaining l.initial.input)
    (reader_remaining g.I.Read.remaining l.input) done
    × PrintsEach (PrintsFile (text_of l.fn.folder)) done l.is_whole (sent ++ l.waiting.items)
    × Appends (g.W.Write.contents l.initial.output) (g.W.Write.contents l.output) sent
