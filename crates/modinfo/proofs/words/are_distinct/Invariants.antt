-- The words are distinct if the rest is.
use Rattle.std.proofs.Common.{◌≡◌, length, map}
use Rattle.modinfo.specs.Words.{are_distinct}
use Rattle.modinfo.proofs.words.are_distinct.Given as goal

abbrev pub invariant-words : goal.invariant-words
invariant-words l = are_distinct (map (λ word. word.now) l.fn.words)
    ≡ are_distinct (map (λ word. word.now) l.rest)

abbrev pub decreases-words : goal.decreases-words
decreases-words l = length l.rest
