-- What is printed for the names so far was written or is waiting.
use Rattle.std.proofs.Common.{◌++◌, ℕ, List, map, take}
use Rattle.std.specs.Io.KnownBytes.{Appends}
use Rattle.modinfo.specs.Files.{PrintsFile}
use Rattle.modinfo.specs.Lines.{PrintsEach}
use Rattle.modinfo.proofs.FilesPrinted.{text_of}
use Rattle.modinfo.proofs.files.print_named.Given as goal

abbrev pub invariant-loop-name : goal.invariant-loop-name
invariant-loop-name g l = (sent : List ℕ)
    × PrintsEach (PrintsFile (text_of l.fn.folder)) (map (λ name. name.now) (take l.name-index l.names))
    l.is_whole (sent ++ l.waiting.items)
    × Appends (g.W.Write.contents l.initial.output) (g.W.Write.contents l.output) sent
