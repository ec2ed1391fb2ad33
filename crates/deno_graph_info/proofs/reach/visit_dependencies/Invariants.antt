-- The dependencies so far were visited.
use Rattle.std.proofs.Common.{take}
use Rattle.deno_graph_base.specs.TextMap.{entries_of}
use Rattle.deno_graph_info.specs.internal.ReachSteps.{Grows, NamesIn, infos_of}
use Rattle.deno_graph_info.proofs.reach.visit_dependencies.Given as goal

abbrev pub invariant-loop-dependency : goal.invariant-loop-dependency
invariant-loop-dependency l =
    Grows (entries_of l.modules) (NamesIn (take l.dependency-index l.dependency-items)) l.initial.reached
    l.reached (infos_of l.initial.pending.items) (infos_of l.pending.items)
