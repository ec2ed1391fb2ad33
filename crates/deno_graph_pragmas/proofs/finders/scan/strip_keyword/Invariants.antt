-- The rest of the word, read at the start of the rest of the text, leaves what the whole word leaves.
use Rattle.std.proofs.Common.{◌≡◌, drop}
use Rattle.std.specs.Str.{chars, IsUtf8}
use Rattle.std.specs.Str.Iter.{chars_rest}
use Rattle.deno_graph_pragmas.specs.internal.Reading.{after_keyword}
use Rattle.deno_graph_pragmas.proofs.finders.scan.strip_keyword.Given as goal

abbrev pub invariant-loop-letter : goal.invariant-loop-letter
invariant-loop-letter l = record {
  text : IsUtf8 (chars_rest l.rest);
  left : after_keyword (drop l.letter-index l.word)
      (chars (chars_rest l.rest)) ≡ after_keyword l.word (chars l.text);
}
