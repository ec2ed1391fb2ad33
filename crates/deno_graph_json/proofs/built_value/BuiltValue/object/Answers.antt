use Rattle.std.proofs.Common.{ap, ◌∙◌}
use Rattle.std.proofs.lemmas.Result.{on_ok_weaker}
use Rattle.serde_json.specs.View.{members_view}
use Rattle.deno_graph_json.specs.JsonWriter.{output, value, with_member, with_value}
use Rattle.deno_graph_json.specs.Object.{with_entries}
use Rattle.deno_graph_json.proofs.Outputs.{object_built}
use Rattle.deno_graph_json.proofs.built_value.BuiltValue.object.Goals as goal

pub returns-clause-ok : goal.returns-clause-ok
unfolding with_value
returns-clause-ok g c =
    let es = g.T.ToObject.entries c.args.value.now in
    let object = output c.put_members.new.out in
    let put = c.in_ok-put_members.ensures.ok ∙ ap (with_entries with_member es) c.value-object.ensures in
    on_ok_weaker c.set.result
    (λ same. same ∙ ap (λ d. value d (members_view c.args.self.now.members.entries))
    (c.into_object.ensures ∙ object_built es object put))
    c.set.ensures
