use Rattle.deno_graph_jsdoc.proofs.UniqueImports.{one_dynamic_import}
use Rattle.deno_graph_jsdoc.proofs.grammar.laws.one_dynamic_import.Goals as goal

pub returns : goal.returns
returns c = one_dynamic_import
