-- No dependency so far overflows.
use Rattle.std.proofs.Common.{◌+◌, ◌^◌, ◌<◌}
use Rattle.deno_graph_json.proofs.ArrayElements.{AreFrom}
use Rattle.deno_graph_json.specs.Data.{elements_data}
use Rattle.deno_graph_json.specs.View.{count_of}
use Rattle.modinfo.proofs.StoredOverflow.{IsLeft}
use Rattle.modinfo.proofs.check.conversion.first_overflow.Given as goal

abbrev pub invariant-loop-dependency : goal.invariant-loop-dependency
invariant-loop-dependency l = (goal.iterator-loop-dependency).can_next l.dependency-iterator
    × (goal.iterator-loop-dependency).is_finite l.dependency-iterator
    × IsLeft (elements_data l.fn.dependencies) (elements_data l.dependency-iterator)
    × (l.number + count_of l.dependency-iterator < 2 ^ 64)
    × AreFrom l.number (elements_data l.fn.dependencies) (elements_data l.dependency-iterator)
