use Rattle.std.proofs.Common.{◌≡◌, [], ◌++◌, map, ap, ◌∙◌, rules}
use Rattle.deno_graph_json.specs.Data.{tape_data, value_data}
use Rattle.deno_graph_json.specs.Flat.{plain}
use Rattle.deno_graph_json.specs.Value.{flat_value}
use Rattle.deno_graph_json.specs.View.{tape_value}
use Rattle.deno_graph_json.proofs.Values.{is_value, of_value}
use Rattle.deno_graph_json.proofs.flat.Tape.from_value.Goals as goal

pub invariant_of-result : goal.invariant_of-result
invariant_of-result c =
    let nodes = c.push_value.new.nodes in
    let pushed = c.in_ok-push_value.ensures in
    let none : c.new-nodes.result.items ≡ [] = search rules in
    let all : map plain nodes.items ≡ flat_value pushed.0 =
    pushed.2 ∙ ap (λ l. map plain l ++ flat_value pushed.0) none in
    record { of_value = of_value (map plain nodes.items) pushed.0 all }

pub returns : goal.returns
unfolding tape_data tape_value
returns c =
    let nodes = c.push_value.new.nodes in
    let pushed = c.in_ok-push_value.ensures in
    let none : c.new-nodes.result.items ≡ [] = search rules in
    let all : map plain nodes.items ≡ flat_value pushed.0 =
    pushed.2 ∙ ap (λ l. map plain l ++ flat_value pushed.0) none in
    ap value_data (is_value (map plain nodes.items) pushed.0 all) ∙ pushed.1
