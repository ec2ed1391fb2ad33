-- The elements so far are those of the members that were put.
use Rattle.std.specs.Prelude.{◌≡◌, length}
use Rattle.serde_json.specs.Data.{Members}
use Rattle.deno_graph_json.specs.Data.{members_data, put_members}
use Rattle.deno_graph_json.specs.Found.{AreFound}
use Rattle.deno_graph_json.specs.View.{members_of}
use Rattle.deno_graph_json.proofs.flat.Members.find.Given as goal

abbrev pub invariant-loop-key : goal.invariant-loop-key
invariant-loop-key l = (goal.iterator-loop-key).can_next l.key-iterator
    × (goal.iterator-loop-key).is_finite l.key-iterator
    × (length l.found ≡ length l.fn.found)
    × (passed : Members) × AreFound l.names passed l.found
    × (put_members (members_of l.key-iterator) passed ≡ members_data l.fn.self)
