-- No word so far is the last token.
use Rattle.std.proofs.Common.{◌≡◌, false, take}
use Rattle.std.specs.List.{list_any}
use Rattle.modinfo_estree.specs.LastToken.{is_last}
use Rattle.modinfo_estree.proofs.last_token.is_last_of.Given as goal

abbrev pub invariant-loop-word : goal.invariant-loop-word
invariant-loop-word l =
    list_any (λ word. is_last l.tokens.is_gap l.text word.now) (take l.word-index l.words) ≡ false
