-- The texts so far, followed by the other keys, are all keys.
use Rattle.std.proofs.Common.{◌≡◌, ◌++◌, map}
use Rattle.std.specs.String.{string_bytes}
use Rattle.modinfo.proofs.reach.keys_text.Given as goal

abbrev pub invariant-loop-key : goal.invariant-loop-key
invariant-loop-key l =
    l.texts ++ map string_bytes l.key-iterator.rest.items ≡ map string_bytes l.fn.keys.items
