-- The member found so far is the last of those that were put.
use Rattle.std.specs.Prelude.{◌≡◌, option_map}
use Rattle.serde_json.specs.Data.{Members}
use Rattle.serde_json.specs.Find.{get_member}
use Rattle.deno_graph_json.specs.Data.{data_of, members_data, put_members}
use Rattle.deno_graph_json.specs.View.{members_of}
use Rattle.deno_graph_json.proofs.flat.Members.get.Given as goal

abbrev pub invariant-loop-key : goal.invariant-loop-key
invariant-loop-key l = (goal.iterator-loop-key).can_next l.key-iterator
    × (goal.iterator-loop-key).is_finite l.key-iterator
    × (passed : Members) × (option_map data_of l.found ≡ get_member l.fn.name passed)
    × (put_members (members_of l.key-iterator) passed ≡ members_data l.fn.self)
