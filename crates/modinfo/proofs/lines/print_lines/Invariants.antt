-- The lines before the rest, and the printed lines for them.
use Rattle.std.proofs.Common.{◌≡◌, ◌++◌, ℕ, Bool, List, length}
use Rattle.modinfo.specs.Lines.{PrintsLines, lines_of}
use Rattle.modinfo.proofs.lines.print_lines.Given as goal

abbrev pub invariant-lines : goal.invariant-lines
invariant-lines l = (done : List (List ℕ)) × (passes : Bool)
    × (lines_of l.documents ≡ done ++ lines_of l.rest) × PrintsLines l.command done passes l.printed.items

abbrev pub decreases-lines : goal.decreases-lines
decreases-lines l = length l.rest
