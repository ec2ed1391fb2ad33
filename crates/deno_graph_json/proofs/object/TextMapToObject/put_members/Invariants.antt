-- The state so far, with the members of the entries that are left, is the one at the end.
use Rattle.std.proofs.Common.{◌≡◌, All}
use Rattle.deno_graph_json.specs.JsonWriter.{output, with_member}
use Rattle.deno_graph_json.specs.Object.{with_entries, map_entries}
use Rattle.deno_graph_json.proofs.object.TextMapToObject.put_members.Given as goal

abbrev pub invariant-loop-key : goal.invariant-loop-key
invariant-loop-key g l = record {
  members : with_entries with_member (map_entries g.T.ToJson.json l.key-iterator)
      (output l.out) ≡ with_entries with_member
      (map_entries g.T.ToJson.json l.self) (output l.initial.out);
  held : All (λ e. g.T.ToJson.is_held e.1) l.key-iterator → All (λ e. g.T.ToJson.is_held e.1) l.self;
}
