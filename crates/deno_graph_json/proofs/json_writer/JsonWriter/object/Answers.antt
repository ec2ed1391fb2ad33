use Rattle.std.proofs.Common.{ap}
use Rattle.std.proofs.lemmas.Result.{on_ok_weaker}
use Rattle.deno_graph_json.specs.JsonWriter.{output}
use Rattle.deno_graph_json.specs.Text.{text_in}
use Rattle.deno_graph_json.proofs.Outputs.{object_written}
use Rattle.deno_graph_json.proofs.json_writer.JsonWriter.object.Goals as goal

pub returns-in_ok-put_members-in-Text-clause-ok : goal.returns-in_ok-put_members-in-Text-clause-ok
returns-in_ok-put_members-in-Text-clause-ok g c =
    let es = g.T.ToObject.entries c.args.value.now in
    let put = c.in_ok-put_members-in-Text.ensures in
    on_ok_weaker c.token-in-Text.result
    (λ closed. object_written es (text_in c.in-Text.field-0) (output c.args.self.now)
    (output c.token.new.self) (output c.put_members.new.out) (output c.token-in-Text.new.self)
    (ap output c.in-Text.is) c.in_ok-token-in-Text.ensures put.ok closed
    (g.met.T.ToObject.ascends c.args.value.now put.held))
    c.token-in-Text.ensures
