use Rattle.std.proofs.Common.{◌<◌, ◌-◌, map, arith, ap}
use Rattle.deno_graph_json.specs.Flat.{plain}
use Rattle.deno_graph_json.specs.Value.{item_count}
use Rattle.deno_graph_json.specs.View.{items_left, value_of}
use Rattle.deno_graph_json.proofs.FirstValue.{begins_item, item_first, items_after, no_element}
use Rattle.deno_graph_json.proofs.flat.ElementsIterator.next.Goals as goal

pub split_value-requires : goal.split_value-requires
split_value-requires c = begins_item (map plain c.args.self.now.nodes.now) c.args.self.now.of_items

pub returns-in_err-element-clause-steps : goal.returns-in_err-element-clause-steps
returns-in_err-element-clause-steps c =
    no_element c.args.self.now c.from_residual.result c.from_residual.ensures c.in_err-element.ensures

pub overflow_sub-count : goal.overflow_sub-count
overflow_sub-count c =
    let old = c.args.self.now in
    let found = c.in_ok-element in
    let first = item_first (value_of found.element) (map plain old.nodes.now) (map plain found.nodes.now)
    found.ensures old.of_items in
    omega (arith, old.is_counted, ap item_count first)

pub returns-clause-goes : goal.returns-clause-goes
returns-clause-goes c =
    let old = c.args.self.now in
    let found = c.in_ok-element in
    let first = item_first (value_of found.element) (map plain old.nodes.now) (map plain found.nodes.now)
    found.ensures old.of_items in
    let fewer : old.count - 1 < old.count = omega (arith, old.is_counted, ap item_count first) in
    record { on = λ finite. (tt, tt, fewer); keeps = tt; rests = λ finite. tt }

pub invariant_of-self : goal.invariant_of-self
invariant_of-self c =
    let old = c.args.self.now in
    let found = c.in_ok-element in
    let w = value_of found.element in
    let ns = map plain old.nodes.now in
    let rest = map plain found.nodes.now in
    let first = item_first w ns rest found.ensures old.of_items in
    record {
      of_items = items_after w ns rest found.ensures old.of_items;
      is_counted = omega (arith, old.is_counted, ap item_count first);
      count_fits = omega (arith, old.count_fits);
    }

pub returns-clause-steps : goal.returns-clause-steps
unfolding items_left
returns-clause-steps c =
    let old = c.args.self.now in
    let found = c.in_ok-element in
    item_first (value_of found.element) (map plain old.nodes.now) (map plain found.nodes.now) found.ensures
    old.of_items
