-- The keys so far, followed by those that are left, are all keys.
use Rattle.std.proofs.Common.{◌≡◌, ◌++◌, map, string_bytes}
use Rattle.std.specs.Map.{keys_of}
use Rattle.deno_graph_info.proofs.reach.keys_reached.Given as goal

abbrev pub invariant-loop-key : goal.invariant-loop-key
invariant-loop-key l = map string_bytes l.keys.items ++ keys_of l.key-iterator ≡ keys_of l.reached
