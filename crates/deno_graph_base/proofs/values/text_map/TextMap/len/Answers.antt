-- The keys of a `BTreeMap` ascend.
use Rattle.std.proofs.Common.{subst}
use Rattle.deno_graph_base.specs.TextMap.{IsAscending}
use Rattle.deno_graph_base.proofs.TextEntries.{IsAscending-entries}
use Rattle.deno_graph_base.proofs.values.text_map.TextMap.len.Goals as goal

pub returns-clause-ordered : goal.returns-clause-ordered
returns-clause-ordered g c =
    subst IsAscending c.self.view_is (IsAscending-entries c.self.inside.map.entries c.len.ensures.ordered)
