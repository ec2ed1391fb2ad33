-- The elements so far, in which the members that are left are put.
use Rattle.std.specs.Prelude.{◌≡◌}
use Rattle.deno_graph_base.specs.TextMap.{IsAscending}
use Rattle.deno_graph_json.specs.Data.{members_data, named_data, put_members}
use Rattle.deno_graph_json.specs.View.{members_of}
use Rattle.deno_graph_json.proofs.flat.Members.sorted.Given as goal

abbrev pub invariant-loop-name : goal.invariant-loop-name
invariant-loop-name l = (goal.iterator-loop-name).can_next l.name-iterator
    × (goal.iterator-loop-name).is_finite l.name-iterator
    × IsAscending l.found
    × (put_members (members_of l.name-iterator) (named_data l.found) ≡ members_data l.fn.self)
