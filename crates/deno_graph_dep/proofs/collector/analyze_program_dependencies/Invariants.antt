-- The descriptors so far are those of the nodes that the walk has returned.
use Rattle.std.proofs.Common.{length, map}
use Rattle.deno_graph_dep.specs.Descriptor.{descriptor_seen}
use Rattle.deno_graph_dep.proofs.Returned.{AreReturned}
use Rattle.deno_graph_dep.proofs.collector.analyze_program_dependencies.Given as goal

abbrev pub invariant-nodes : goal.invariant-nodes
invariant-nodes l = AreReturned l.comments l.initial.walk l.walk (map descriptor_seen l.descriptors.items)

abbrev pub decreases-nodes : goal.decreases-nodes
decreases-nodes l = length l.walk.to_come
