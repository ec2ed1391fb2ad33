use Rattle.std.specs.Prelude.{◌≡◌}
use Rattle.serde_json.specs.Data.{Members}
use Rattle.deno_graph_json.specs.Data.{members_data, put_members}
use Rattle.deno_graph_json.specs.View.{members_of}
use Rattle.deno_graph_json.proofs.OneName.{IsOne}
use Rattle.deno_graph_json.proofs.flat.Members.have_one_name.Given as goal

abbrev pub invariant-loop-name : goal.invariant-loop-name
invariant-loop-name l = (goal.iterator-loop-name).can_next l.name-iterator
    × (goal.iterator-loop-name).is_finite l.name-iterator
    × (passed : Members) × IsOne l.first passed
    × (put_members (members_of l.name-iterator) passed ≡ members_data l.fn.self)
