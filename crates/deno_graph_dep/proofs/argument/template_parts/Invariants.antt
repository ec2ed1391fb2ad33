-- The parts so far are those of the quasis so far.
use Rattle.std.proofs.Common.{◌≡◌, ◌∷◌, map, take}
use Rattle.deno_graph_dep.specs.Argument.{part_seen, template_parts}
use Rattle.deno_graph_dep.proofs.argument.template_parts.Given as goal

abbrev pub invariant-loop-quasi : goal.invariant-loop-quasi
invariant-loop-quasi l = map part_seen l.parts ≡ template_parts (l.first ∷ take l.quasi-index l.rest)
