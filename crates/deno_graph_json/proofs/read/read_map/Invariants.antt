-- The entries so far are the members so far, each as it is read.
use Rattle.deno_graph_json.specs.Data.{members_data}
use Rattle.deno_graph_json.proofs.ReadMaps.{IsSoFar}
use Rattle.deno_graph_json.proofs.read.read_map.Given as goal

abbrev pub invariant-loop-name : goal.invariant-loop-name
invariant-loop-name g l = IsSoFar g.T.FromJson.reads (members_data l.fn.members) l.map l.name-iterator
