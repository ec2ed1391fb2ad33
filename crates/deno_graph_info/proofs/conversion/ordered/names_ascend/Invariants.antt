-- The members that were passed are put in the order in which they stand.
use Rattle.std.specs.Prelude.{◌≡◌}
use Rattle.serde_json.specs.Data.{Members}
use Rattle.deno_graph_json.specs.Data.{members_data, put_members}
use Rattle.deno_graph_json.specs.View.{members_of}
use Rattle.deno_graph_info.specs.internal.Ordered.{listed}
use Rattle.deno_graph_info.proofs.OrderedMembers.{IsLast, followed_by}
use Rattle.deno_graph_info.proofs.conversion.ordered.names_ascend.Given as goal

abbrev pub invariant-loop-name : goal.invariant-loop-name
invariant-loop-name l = (goal.iterator-loop-name).can_next l.name-iterator
    × (goal.iterator-loop-name).is_finite l.name-iterator
    × (passed : Members) × IsLast l.last passed
    × (put_members (members_of l.name-iterator) passed ≡ members_data l.fn.members)
    × (followed_by passed (listed (members_of l.name-iterator)) ≡ listed (members_of l.fn.members))
