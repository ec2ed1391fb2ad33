use Rattle.std.proofs.Common.{◌≡◌, count_by, take}
use Rattle.std.specs.Fmt.{is_char_start}
use Rattle.deno_graph_base.proofs.text.bytes.characters.Given as goal

abbrev pub invariant-loop-b : goal.invariant-loop-b
invariant-loop-b l = l.count ≡ count_by is_char_start (take l.b-index l.bytes)
