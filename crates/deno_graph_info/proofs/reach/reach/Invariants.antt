-- The reached keys are closed except for the pending modules. Each module that is visited was pending, and
-- each module that becomes pending wasn't reached.
use Rattle.std.proofs.Common.{◌+◌, length}
use Rattle.deno_graph_base.specs.TextMap.{entries_of}
use Rattle.deno_graph_info.proofs.Reaching.{IsUnderway}
use Rattle.deno_graph_info.specs.internal.ReachSteps.{infos_of, unreached}
use Rattle.deno_graph_info.proofs.reach.reach.Given as goal

abbrev pub invariant-search : goal.invariant-search
invariant-search l = IsUnderway (entries_of l.modules) l.root l.reached (infos_of l.pending.items)

abbrev pub decreases-search : goal.decreases-search
decreases-search l = unreached (entries_of l.modules) l.reached + length (infos_of l.pending.items)
