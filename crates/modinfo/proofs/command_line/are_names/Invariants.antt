-- The words are names if the rest is.
use Rattle.std.proofs.Common.{◌≡◌, length, map}
use Rattle.modinfo.specs.CommandLine.{are_names}
use Rattle.modinfo.proofs.command_line.are_names.Given as goal

abbrev pub invariant-words : goal.invariant-words
invariant-words l = are_names (map (λ word. word.now) l.fn.words)
    ≡ are_names (map (λ word. word.now) l.rest)

abbrev pub decreases-words : goal.decreases-words
decreases-words l = length l.rest
