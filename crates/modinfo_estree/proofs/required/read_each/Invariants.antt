-- The whole list is the items so far, one for each element that was read, followed by those that are left.
use Rattle.std.proofs.Common.{◌≡◌, length}
use Rattle.deno_graph_json.specs.Data.{elements_data}
use Rattle.deno_graph_json.specs.Read.Partial.{reads_items}
use Rattle.deno_graph_json.proofs.ArrayElements.{AreFrom}
use Rattle.deno_graph_json.proofs.Reading.{before}
use Rattle.modinfo_estree.proofs.required.read_each.Given as goal

abbrev pub invariant-loop-value : goal.invariant-loop-value
invariant-loop-value g l = (reads_items (g.T.ReadWith.reads l.fn.context) (elements_data l.fn.values)
    ≡ before l.items (reads_items (g.T.ReadWith.reads l.fn.context) (elements_data l.value-iterator)))
    × AreFrom (length l.items) (elements_data l.fn.values) (elements_data l.value-iterator)
