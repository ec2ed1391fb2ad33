use Rattle.deno_graph_base.proofs.CursorLemmas.{same_boundary}
use Rattle.deno_graph_base.proofs.text.laws.positions_are_unique.Goals as goal

pub returns : goal.returns
returns c = λ a b first second same. same_boundary c.args.text.now a b c.utf8.text first second same
