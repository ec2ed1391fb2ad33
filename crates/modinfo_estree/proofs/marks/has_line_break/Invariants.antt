-- The text has a line terminator exactly where the characters that are left have one.
use Rattle.std.proofs.Common.{◌≡◌}
use Rattle.std.specs.List.{list_any}
use Rattle.std.specs.Str.{IsUtf8, chars}
use Rattle.std.specs.Str.Iter.{chars_rest}
use Rattle.modinfo_estree.specs.Tokens.{is_line_break}
use Rattle.modinfo_estree.proofs.marks.has_line_break.Given as goal

abbrev pub invariant-loop-c : goal.invariant-loop-c
invariant-loop-c l = IsUtf8 (chars_rest l.c-iterator)
    × (list_any is_line_break (chars (chars_rest l.c-iterator)) ≡ list_any is_line_break (chars l.fn.text))
