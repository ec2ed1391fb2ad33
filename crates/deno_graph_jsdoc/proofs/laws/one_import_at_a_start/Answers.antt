use Rattle.deno_graph_jsdoc.proofs.ImportsIn.{one_import_in}
use Rattle.deno_graph_jsdoc.proofs.laws.one_import_at_a_start.Goals as goal

pub returns : goal.returns
returns c = one_import_in
