use Rattle.deno_graph_json.proofs.ArrayElements.{elements_counted}
use Rattle.deno_graph_json.proofs.flat.Elements.len.Goals as goal

pub returns : goal.returns
returns c = elements_counted c.args.self.now
