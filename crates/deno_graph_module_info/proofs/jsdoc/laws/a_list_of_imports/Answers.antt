use Rattle.deno_graph_module_info.proofs.Collected.{imports_of}
use Rattle.deno_graph_module_info.proofs.jsdoc.laws.a_list_of_imports.Goals as goal

pub returns : goal.returns
returns c = imports_of
