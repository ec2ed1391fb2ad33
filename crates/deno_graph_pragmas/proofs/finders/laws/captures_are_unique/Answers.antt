use Rattle.deno_graph_pragmas.proofs.Captured.{starts_determine, one_part_each}
use Rattle.deno_graph_pragmas.proofs.finders.laws.captures_are_unique.Goals as goal

pub returns-clause-starts : goal.returns-clause-starts
returns-clause-starts c = starts_determine

pub returns-clause-parts : goal.returns-clause-parts
returns-clause-parts c = one_part_each
