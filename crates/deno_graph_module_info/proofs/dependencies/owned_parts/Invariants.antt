-- The copies so far are those of the parts so far.
use Rattle.std.proofs.Common.{◌≡◌, map, take}
use Rattle.deno_graph_dep.specs.Argument.{part_seen}
use Rattle.deno_graph_module_info.specs.ModuleInfo.{template_part_of}
use Rattle.deno_graph_module_info.proofs.dependencies.owned_parts.Given as goal

abbrev pub invariant-loop-part : goal.invariant-loop-part
invariant-loop-part l = l.owned ≡ map template_part_of (map part_seen (take l.part-index l.parts))
