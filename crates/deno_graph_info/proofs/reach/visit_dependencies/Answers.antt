use Rattle.std.proofs.Common.{sym}
use Rattle.deno_graph_base.specs.TextMap.{entries_of}
use Rattle.deno_graph_info.proofs.Reaching.{dependency_visited, dependency_passed}
use Rattle.deno_graph_info.specs.internal.ReachSteps.{infos_of}
use Rattle.deno_graph_info.proofs.reach.visit_dependencies.Goals as goal
use Rattle.deno_graph_info.proofs.reach.visit_dependencies.Goals.{in-Some+in_ok-visit-in-Some, in-None}

pub loop-dependency-preserved : goal.loop-dependency-preserved
loop-dependency-preserved c =
    elim c.match-specifier_of.branch [
      | in-Some+in_ok-visit-in-Some w
          ↦ rw (w.reached-is, w.pending-is) (dependency_visited (entries_of c.args.modules.now)
          c.as_slice-dependency-items.result.now c.loop-dependency.dependency-index c.dependency-item.result
          w.in-Some.specifier.now
          c.args.reached.now c.loop-dependency.reached w.visit.new.reached (infos_of c.args.pending.now.items)
          (infos_of c.loop-dependency.pending.items) (infos_of w.visit.new.pending.items)
          c.loop-dependency-test.true c.dependency-item.is (sym w.in-Some.ensures) c.loop-dependency.invariant
          w.in_ok-visit-in-Some.ensures)
      | in-None w ↦ rw (w.reached-is, w.pending-is)
          (dependency_passed (entries_of c.args.modules.now) c.as_slice-dependency-items.result.now
          c.loop-dependency.dependency-index c.dependency-item.result
          c.args.reached.now c.loop-dependency.reached (infos_of c.args.pending.now.items)
          (infos_of c.loop-dependency.pending.items)
          c.loop-dependency-test.true c.dependency-item.is (sym w.in-None.ensures)
          c.loop-dependency.invariant)
    ]
