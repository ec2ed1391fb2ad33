use Rattle.deno_graph_module_info.proofs.JsDocComments.{list_of_the_same, same_info_list}
use Rattle.deno_graph_module_info.proofs.jsdoc.laws.same_comments_have_one_list.Goals as goal

pub returns : goal.returns
returns c = record { also = list_of_the_same; equal = same_info_list }
