-- The words are among the others if the rest is.
use Rattle.std.proofs.Common.{◌≡◌, length, map}
use Rattle.modinfo.specs.Words.{are_among}
use Rattle.modinfo.proofs.words.are_among.Given as goal

abbrev pub invariant-words : goal.invariant-words
invariant-words l = are_among (map (λ word. word.now) l.fn.words) (map (λ word. word.now) l.fn.others)
    ≡ are_among (map (λ word. word.now) l.rest) (map (λ word. word.now) l.fn.others)

abbrev pub decreases-words : goal.decreases-words
decreases-words l = length l.rest
