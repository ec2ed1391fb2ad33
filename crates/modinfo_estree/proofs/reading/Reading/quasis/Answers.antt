use Rattle.std.proofs.Common.{◌≡◌, codes, Some, option_map, sym, ap, ◌∙◌}
use Rattle.serde_json.specs.Find.{get_member}
use Rattle.deno_graph_json.specs.Data.{data_of}
use Rattle.deno_graph_json.specs.ObjectReader.{readable}
use Rattle.deno_graph_json.specs.Read.Partial.{member_at}
use Rattle.modinfo_estree.proofs.reading.Reading.quasis.Goals as goal

pub returns-in-Some : goal.returns-in-Some
unfolding member_at
returns-in-Some c =
    let members = readable c.args.self.now.members in
    let here : get_member (codes "quasis") members ≡ Some (data_of c.in-Some.value) =
    sym c.get.ensures ∙ ap (option_map data_of) c.in-Some.is in
    rw here (c.found.ensures _ _ c.read_quasis.ensures)
