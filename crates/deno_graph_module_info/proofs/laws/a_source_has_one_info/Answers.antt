use Rattle.deno_graph_module_info.proofs.OneInfo.{one_info}
use Rattle.deno_graph_module_info.proofs.laws.a_source_has_one_info.Goals as goal

pub returns : goal.returns
returns c = one_info c.captures_are_unique.ensures.parts
