use Rattle.deno_graph_json.proofs.Possible.{possible}
use Rattle.deno_graph_json.proofs.laws.some_value_is_as_expected.Goals as goal

pub returns : goal.returns
returns c = possible c.args.expected
