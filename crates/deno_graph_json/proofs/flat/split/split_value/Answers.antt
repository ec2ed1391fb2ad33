use Rattle.std.proofs.Common.{◌+◌, map, ap, ◌∙◌, arith}
use Rattle.deno_graph_json.specs.Flat.{plain}
use Rattle.deno_graph_json.specs.View.{value_of}
use Rattle.deno_graph_json.proofs.FirstValue.{own_value, size_fits, split}
use Rattle.deno_graph_json.proofs.flat.split.split_value.Goals as goal

pub overflow_add-nodes_inside : goal.overflow_add-nodes_inside
overflow_add-nodes_inside c =
    let is = ap (map plain) c.in_ok-first.ensures.cases.0 in
    let fits = size_fits c.args.nodes.now c.in_ok-first.first.now _ is c.requires in
    omega (arith, fits, c.nodes_inside.ensures)

pub split_at-requires : goal.split_at-requires
split_at-requires c =
    let is = ap (map plain) c.in_ok-first.ensures.cases.0 in
    let fits = size_fits c.args.nodes.now c.in_ok-first.first.now _ is c.requires in
    omega (arith, fits, c.nodes_inside.ensures)

pub invariant_of-result : goal.invariant_of-result
invariant_of-result c =
    let is = ap (map plain) c.in_ok-first.ensures.cases.0 in
    let long = c.split_at.ensures.front_len ∙ ap (λ n. n + 1) c.nodes_inside.ensures in
    record {
      of_value = own_value c.args.nodes.now c.in_ok-first.first.now _ is c.requires
          c.split_at.result.0.now c.split_at.result.1.now c.split_at.ensures.by_index.0 long;
    }

pub returns : goal.returns
unfolding value_of
returns c =
    let is = ap (map plain) c.in_ok-first.ensures.cases.0 in
    let long = c.split_at.ensures.front_len ∙ ap (λ n. n + 1) c.nodes_inside.ensures in
    split c.args.nodes.now c.in_ok-first.first.now _ is c.requires
    c.split_at.result.0.now c.split_at.result.1.now c.split_at.ensures.by_index.0 long
