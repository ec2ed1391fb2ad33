use Rattle.std.proofs.Common.{option_map, sym, ap, ◌∙◌}
use Rattle.serde_json.specs.Find.{as_str}
use Rattle.deno_graph_json.proofs.Reading.{read_error}
use Rattle.deno_graph_json.specs.Data.{data_of}
use Rattle.deno_graph_json.specs.ObjectReader.{value_of}
use Rattle.deno_graph_json.specs.Read.Partial.{◌>>=◌, member_at}
use Rattle.deno_graph_json.proofs.object_reader.ObjectReader.read_found_str.Goals as goal

pub returns-in-Err : goal.returns-in-Err
unfolding member_at
returns-in-Err g c =
    let here = sym c.requires ∙ ap (option_map data_of) c.in-Some.is in
    read_error (value_of c.args.self.now) _ c.in_member.result
    (ap (λ o. o >>= as_str) here ∙ c.in-Err.ensures.1)
    (c.in_member.ensures.place (value_of c.args.self.now) _ here c.in-Err.ensures.2)
