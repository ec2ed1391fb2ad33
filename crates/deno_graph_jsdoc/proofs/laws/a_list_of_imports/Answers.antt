use Rattle.deno_graph_jsdoc.proofs.Collected.{all_imports}
use Rattle.deno_graph_jsdoc.proofs.laws.a_list_of_imports.Goals as goal

pub returns : goal.returns
returns c = all_imports
