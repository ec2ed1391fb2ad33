use Rattle.deno_graph_info.proofs.Written.ModuleInfo.{info_back}
use Rattle.deno_graph_info.proofs.analysis.module_info.ModuleInfo.law_of_json.Goals as goal

pub returns : goal.returns
returns c = info_back
