use Rattle.std.proofs.Common.{map, ap}
use Rattle.deno_graph_json.specs.Data.{data_of, tape_data, value_data}
use Rattle.deno_graph_json.specs.Flat.{plain}
use Rattle.deno_graph_json.specs.Value.{value_in}
use Rattle.deno_graph_json.specs.View.{tape_value, value_of}
use Rattle.deno_graph_json.proofs.flat.Tape.root.Goals as goal

pub returns-clause-value : goal.returns-clause-value
unfolding tape_value value_of
returns-clause-value c = ap (λ l. value_in (map plain l)) c.as_slice.ensures.value

pub returns-clause-json : goal.returns-clause-json
unfolding data_of tape_data tape_value value_of
returns-clause-json c = ap (λ l. value_data (value_in (map plain l))) c.as_slice.ensures.value
