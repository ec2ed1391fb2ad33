use Rattle.std.proofs.Common.{◌≡◌, ◌∙◌, IfOk, Some, ap, option_map, subst, sym}
use Rattle.deno_graph_json.specs.Data.{data_of}
use Rattle.deno_graph_json.specs.ObjectReader.{readable}
use Rattle.deno_graph_json.specs.Read.Partial.{◌>>=◌}
use Rattle.modinfo_estree.specs.Kind.{decorators_start, first_decorator, start_in}
use Rattle.modinfo_estree.specs.Source.{byte_in}
use Rattle.modinfo_estree.proofs.export.decorators_start.Goals as goal

pub returns-in-Some : goal.returns-in-Some
unfolding decorators_start
returns-in-Some c =
    let first = data_of c.in-Some.first in
    let start = start_in (byte_in c.args.offsets.now) in
    let here : first_decorator (readable c.args.members.now) ≡ Some first =
    sym c.first_decorator.ensures ∙ ap (option_map data_of) c.in-Some.is in
    subst (λ wanted. IfOk c.found.result (λ read. read ≡ wanted)) (sym (ap (λ found. found >>= start) here))
    (c.found.ensures first (start first) c.read_start.ensures)
