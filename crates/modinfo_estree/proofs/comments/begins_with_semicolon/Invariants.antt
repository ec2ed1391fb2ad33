-- All characters so far are white space.
use Rattle.std.proofs.Common.{◌≡◌}
use Rattle.std.specs.Str.{IsUtf8, chars}
use Rattle.std.specs.Str.Iter.{chars_rest}
use Rattle.modinfo_estree.specs.Comments.{after_space}
use Rattle.modinfo_estree.proofs.comments.begins_with_semicolon.Given as goal

abbrev pub invariant-loop-c : goal.invariant-loop-c
invariant-loop-c l = IsUtf8 (chars_rest l.c-iterator)
    × (after_space (chars (chars_rest l.c-iterator)) ≡ after_space (chars l.fn.text))
