use Rattle.deno_graph_pragmas.proofs.SomeSplit.{some_part}
use Rattle.deno_graph_pragmas.proofs.finders.laws.each_text_has_a_part_or_no_split.Goals as goal

pub returns : goal.returns
returns c = some_part
