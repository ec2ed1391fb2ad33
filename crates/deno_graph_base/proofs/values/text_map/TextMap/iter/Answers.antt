-- The iterator takes the first of the remaining entries.
use Rattle.std.proofs.Common.{ap, subst, length}
use Rattle.std.specs.Map.Iter.{TakesFirst, deref_pair}
use Rattle.std.proofs.iter.runs.Sources.{from_front}
use Rattle.deno_graph_base.specs.TextMap.{IsAscending}
use Rattle.deno_graph_base.proofs.TextEntries.{IsAscending-entries}
use Rattle.deno_graph_base.proofs.values.text_map.TextMap.iter.Goals as goal

pub returns-clause-ordered : goal.returns-clause-ordered
returns-clause-ordered g c =
    subst IsAscending c.self.view_is (IsAscending-entries c.self.inside.map.entries c.iter.ensures.ordered)

pub returns-clause-runs : goal.returns-clause-runs
returns-clause-runs g c =
    from_front (TakesFirst deref_pair) deref_pair (λ s. s) (λ s t h. ap length h.0) (λ s x t h. h)
