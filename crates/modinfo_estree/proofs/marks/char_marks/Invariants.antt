-- The marks so far and those of the characters that are left are the marks of the text.
use Rattle.std.proofs.Common.{◌≡◌, ◌++◌}
use Rattle.std.specs.Str.{IsUtf8}
use Rattle.std.specs.Str.Iter.{chars_rest}
use Rattle.modinfo_estree.specs.Tokens.{bytes_of, is_line_break, is_space}
use Rattle.modinfo_estree.specs.internal.Marks.{breaks_of, gaps_of}
use Rattle.modinfo_estree.proofs.marks.char_marks.Given as goal

abbrev pub invariant-loop-c : goal.invariant-loop-c
invariant-loop-c l = record {
  text : IsUtf8 (chars_rest l.c-iterator);
  gaps : gaps_of l.marks.items ++ bytes_of is_space (chars_rest l.c-iterator) ≡ bytes_of is_space l.fn.text;
  breaks : breaks_of l.marks.items ++ bytes_of is_line_break (chars_rest l.c-iterator)
      ≡ bytes_of is_line_break l.fn.text;
}
