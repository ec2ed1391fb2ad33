use Rattle.std.proofs.Common.{◌≡◌, [], map, refl, ap, arith, rules, inl, inr}
use Rattle.std.proofs.lemmas.List.{nil_from_length, length-map}
use Rattle.serde_json.specs.Data.{unsigned, negative, float}
use Rattle.deno_graph_json.specs.Flat.{plain}
use Rattle.deno_graph_json.specs.Value.{null, boolean, number, string, value_in, value_within}
use Rattle.deno_graph_json.specs.View.{value_of, items_left, members_of}
use Rattle.deno_graph_json.specs.declared.flat.view.View.TheVariants as view
use Rattle.deno_graph_json.proofs.FirstNode.{null_first, key_first, boolean_first, number_first, string_first}
use Rattle.deno_graph_json.proofs.FirstNode.{array_first, object_first, items_inside, members_inside}
use Rattle.deno_graph_json.proofs.FirstNode.{count_first, counted_nodes, nodes_are, by_nodes, seen}
use Rattle.deno_graph_json.proofs.flat.Element.view.Goals as goal

pub returns-in_default : goal.returns-in_default
unfolding value_in value_within
returns-in_default c =
    let none : c.args.self.nodes.now ≡ [] =
    nil_from_length c.args.self.nodes.now c.in_default.ensures.cases in
    let is = by_nodes c.args.self [] null (ap (map plain) none) refl in
    record { value = is; json = seen c.args.self view.Null is }

pub returns-in-Null : goal.returns-in-Null
returns-in-Null c =
    let is : value_of c.args.self ≡ null = elim c.in-Null.is [
      | inl same ↦
          by_nodes c.args.self _ null (nodes_are c.args.self c.in-Some.node.now _ c.in-Some.nodes.now
          c.in-Some.ensures.cases.0 same) (null_first _)
      | inr key ↦
          by_nodes c.args.self _ null (nodes_are c.args.self c.in-Some.node.now _ c.in-Some.nodes.now
          c.in-Some.ensures.cases.0 key.1) (key_first _ key.0.now)
    ] in
    record { value = is; json = seen c.args.self view.Null is }

pub returns-in-Bool : goal.returns-in-Bool
returns-in-Bool c =
    let nodes = nodes_are c.args.self c.in-Some.node.now _ c.in-Some.nodes.now c.in-Some.ensures.cases.0
    c.in-Bool.is in
    let is = by_nodes c.args.self _ (boolean c.in-Bool.value) nodes (boolean_first _ c.in-Bool.value) in
    record { value = is; json = seen c.args.self (view.Bool c.in-Bool.value) is }

pub returns-in-Whole : goal.returns-in-Whole
returns-in-Whole c =
    let x = c.in-Whole.number in
    let nodes = nodes_are c.args.self c.in-Some.node.now _ c.in-Some.nodes.now c.in-Some.ensures.cases.0
    c.in-Whole.is in
    let is = by_nodes c.args.self _ (number (unsigned x)) nodes (number_first _ (unsigned x)) in
    record { value = is; json = seen c.args.self (view.Whole x) is }

pub returns-in-Negative : goal.returns-in-Negative
returns-in-Negative c =
    let x = c.in-Negative.number in
    let nodes = nodes_are c.args.self c.in-Some.node.now _ c.in-Some.nodes.now c.in-Some.ensures.cases.0
    c.in-Negative.is in
    let is = by_nodes c.args.self _ (number (negative x)) nodes (number_first _ (negative x)) in
    let json = seen c.args.self (view.Negative x) is in
    record { value = search rules; json = search rules }

pub returns-in-Float : goal.returns-in-Float
returns-in-Float c =
    let x = c.in-Float.number in
    let nodes = nodes_are c.args.self c.in-Some.node.now _ c.in-Some.nodes.now c.in-Some.ensures.cases.0
    c.in-Float.is in
    let is = by_nodes c.args.self _ (number (float x)) nodes (number_first _ (float x)) in
    record { value = is; json = seen c.args.self (view.Float x) is }

pub returns-in-String : goal.returns-in-String
returns-in-String c =
    let text = c.in-String.text in
    let nodes = nodes_are c.args.self c.in-Some.node.now _ c.in-Some.nodes.now c.in-Some.ensures.cases.0
    c.in-String.is in
    let is = by_nodes c.args.self _ (string text.now) nodes (string_first _ text.now) in
    record { value = is; json = seen c.args.self (view.String text) is }

pub invariant_of-result-clause-of_items : goal.invariant_of-result-clause-of_items
invariant_of-result-clause-of_items c =
    let nodes = nodes_are c.args.self c.in-Some.node.now _ c.in-Some.nodes.now c.in-Some.ensures.cases.0
    c.in-Array.is in
    items_inside _ _ c.args.self.of_value c.in-Array.elements c.in-Array.nodes nodes

pub invariant_of-result-clause-is_counted : goal.invariant_of-result-clause-is_counted
invariant_of-result-clause-is_counted c =
    let nodes = nodes_are c.args.self c.in-Some.node.now _ c.in-Some.nodes.now c.in-Some.ensures.cases.0
    c.in-Array.is in
    count_first _ _ c.args.self.of_value c.in-Array.elements c.in-Array.nodes nodes

pub invariant_of-result-clause-count_fits : goal.invariant_of-result-clause-count_fits
invariant_of-result-clause-count_fits c =
    let nodes = nodes_are c.args.self c.in-Some.node.now _ c.in-Some.nodes.now c.in-Some.ensures.cases.0
    c.in-Array.is in
    let few = counted_nodes _ _ c.args.self.of_value c.in-Array.elements c.in-Array.nodes nodes in
    omega (arith, few, length-map c.in-Some.nodes.now plain, c.in-Some.ensures.cases.1)

pub returns-in-Array : goal.returns-in-Array
unfolding items_left value_of
returns-in-Array c =
    let nodes = nodes_are c.args.self c.in-Some.node.now _ c.in-Some.nodes.now c.in-Some.ensures.cases.0
    c.in-Array.is in
    let is = array_first _ _ c.args.self.of_value c.in-Array.elements c.in-Array.nodes nodes in
    record { value = is; json = seen c.args.self (view.Array _) is }

pub invariant_of-result-in-Object : goal.invariant_of-result-in-Object
invariant_of-result-in-Object c =
    let nodes = nodes_are c.args.self c.in-Some.node.now _ c.in-Some.nodes.now c.in-Some.ensures.cases.0
    c.in-Object.is in
    record { of_members = members_inside _ _ c.args.self.of_value c.in-Object.nodes nodes }

pub returns-in-Object : goal.returns-in-Object
unfolding members_of value_of
returns-in-Object c =
    let nodes = nodes_are c.args.self c.in-Some.node.now _ c.in-Some.nodes.now c.in-Some.ensures.cases.0
    c.in-Object.is in
    let is = object_first _ _ c.args.self.of_value c.in-Object.nodes nodes in
    record { value = is; json = seen c.args.self (view.Object _) is }
