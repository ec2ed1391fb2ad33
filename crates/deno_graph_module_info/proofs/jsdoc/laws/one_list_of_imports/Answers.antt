use Rattle.deno_graph_module_info.proofs.JsDocComments.{one_import_list}
use Rattle.deno_graph_module_info.proofs.jsdoc.laws.one_list_of_imports.Goals as goal

pub returns : goal.returns
returns c = one_import_list
