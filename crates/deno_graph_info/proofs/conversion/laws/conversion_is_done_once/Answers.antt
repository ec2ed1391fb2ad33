use Rattle.deno_graph_info.proofs.Conversions.{converted_again}
use Rattle.deno_graph_info.proofs.conversion.laws.conversion_is_done_once.Goals as goal

pub returns : goal.returns
returns c = converted_again
