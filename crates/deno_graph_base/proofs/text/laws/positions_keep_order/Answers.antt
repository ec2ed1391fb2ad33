use Rattle.deno_graph_base.proofs.CursorLemmas.{position_cmp-position_at}
use Rattle.deno_graph_base.proofs.text.laws.positions_keep_order.Goals as goal

pub returns : goal.returns
returns c = λ a b first second. position_cmp-position_at c.args.text.now a b c.utf8.text first second
