use Rattle.std.proofs.Common.{◌∙◌}
use Rattle.deno_graph_dep.proofs.Walks.{IsWalkOf-new, listing-new}
use Rattle.deno_graph_dep.proofs.walk.Walk.new.Goals as goal

pub invariant_of-result : goal.invariant_of-result
invariant_of-result c =
    IsWalkOf-new c.args.program.now.body c.new.result c.new.ensures.frames
    (c.new.ensures.nodes ∙ c.as_slice.ensures) c.new.ensures.entered

pub returns-clause-to_come : goal.returns-clause-to_come
returns-clause-to_come c =
    listing-new c.args.program.now.body c.new.result c.new.ensures.frames
    (c.new.ensures.nodes ∙ c.as_slice.ensures)
