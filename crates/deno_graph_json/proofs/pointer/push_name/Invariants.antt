use Rattle.std.proofs.Common.{◌≡◌, ◌++◌, ◌∷◌}
use Rattle.std.specs.Prelude.{flat_map}
use Rattle.std.specs.Str.{IsUtf8, chars}
use Rattle.std.specs.Str.Iter.{chars_rest}
use Rattle.std.specs.String.{string_bytes}
use Rattle.deno_graph_json.specs.Pointer.{escaped, escaped_letter}
use Rattle.deno_graph_json.proofs.pointer.push_name.Given as goal

abbrev pub invariant-loop-letter : goal.invariant-loop-letter
invariant-loop-letter l = IsUtf8 (chars_rest l.letter-iterator)
    × (string_bytes l.pointer ++ flat_map escaped_letter (chars (chars_rest l.letter-iterator))
    ≡ string_bytes l.fn.pointer ++ 47 ∷ escaped l.fn.name)
