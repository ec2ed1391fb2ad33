-- The modules so far are those of the members so far, and the first fault of the other members is the first
-- of all.
use Rattle.deno_graph_info.specs.declared.analysis.fault.InfoFault.{InfoFault}
use Rattle.deno_graph_json.proofs.ReadMaps.{IsSoFar}
use Rattle.deno_graph_json.specs.Data.{members_data}
use Rattle.modinfo.specs.Reach.{reads_stored}
use Rattle.modinfo.proofs.Modules.{IsFaultOfAll}
use Rattle.modinfo.proofs.reach.read_infos.Given as goal

abbrev pub invariant-loop-key : goal.invariant-loop-key
invariant-loop-key l = IsSoFar reads_stored (members_data l.fn.modules) l.infos l.key-iterator
    × ((inner : InfoFault) → IsFaultOfAll inner (members_data l.fn.modules) l.key-iterator)
