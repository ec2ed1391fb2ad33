use Rattle.std.proofs.Common.{◌≡◌, [], ◌∷◌, Some, None, arith, length, length-append, codes, option_map}
use Rattle.std.proofs.Common.{rules, refl, sym, ap, subst, ◌∙◌}
use Rattle.serde_json.specs.Data.{array, object}
use Rattle.serde_json.specs.Find.{get_item, get_member}
use Rattle.deno_graph_json.specs.Data.{data_of, elements_data}
use Rattle.deno_graph_json.specs.ObjectReader.{readable}
use Rattle.deno_graph_json.specs.Read.Partial.{reads_array, reads_items, read_or}
use Rattle.deno_graph_json.specs.Read.Result.{IsReadError}
use Rattle.deno_graph_json.proofs.ArrayElements.{AreFrom, depth_of_item, elements_next, from_begin, from_next}
use Rattle.deno_graph_json.proofs.ArrayElements.{from_here}
use Rattle.deno_graph_json.proofs.Reading.{before, before_nil, error_around, exits, goes_on, is_array}
use Rattle.deno_graph_json.proofs.Reading.{items_done, items_error, items_more, object_on, reading, result_on}
use Rattle.modinfo_document.specs.Node.{node_with, reads_node, reads_nodes}
use Rattle.modinfo_document.proofs.Nodes.{children_read, depth_of_array, depth_of_named, depth_of_object}
use Rattle.modinfo_document.proofs.Nodes.{node_read, nodes_read}
use Rattle.modinfo_document.proofs.Results.{array_items}
use Rattle.modinfo_document.proofs.node.+read.Goals as goal

pub read_node-returns-in_err-object : goal.read_node-returns-in_err-object
unfolding node_with
read_node-returns-in_err-object t c = rw (node_read (data_of c.args.value)) (grind (arith, reading))

pub read_node-returns-in_err-range : goal.read_node-returns-in_err-range
unfolding node_with
read_node-returns-in_err-range t c = rw (node_read (data_of c.args.value))
    (object_on _ _ (readable c.in_ok-object.object) _ c.in_ok-object.ensures
    (exits _ _ _ _ _ c.from_residual-in_err-range.ensures.1 c.in_err-range.ensures))

pub read_node-returns-in_err-kind : goal.read_node-returns-in_err-kind
unfolding node_with
read_node-returns-in_err-kind t c = rw (node_read (data_of c.args.value))
    (object_on _ _ (readable c.in_ok-object.object) _ c.in_ok-object.ensures
    (result_on _ _ _ c.in_ok-range.range _ c.in_ok-range.ensures
    (exits _ _ _ _ _ c.from_residual-in_err-kind.ensures.1 c.in_err-kind.ensures)))

pub read_node-returns-in_err-children : goal.read_node-returns-in_err-children
unfolding node_with
read_node-returns-in_err-children t c =
    let read = rw c.in_err-children.ensures at c.read_children.ensures in
    rw (node_read (data_of c.args.value))
    (object_on _ _ (readable c.in_ok-object.object) _ c.in_ok-object.ensures
    (result_on _ _ _ c.in_ok-range.range _ c.in_ok-range.ensures
    (result_on _ _ _ c.in_ok-kind.kind _ c.in_ok-kind.ensures
    (exits _ _ _ _ _ c.from_residual-in_err-children.ensures.1 read))))

pub read_node-returns : goal.read_node-returns
unfolding node_with
read_node-returns t c =
    let read = rw c.in_ok-children.ensures.0 at c.read_children.ensures in
    let kept = c.in_ok-kind.ensures ∙ ap Some (sym c.in_ok-children.ensures.1) in
    node_read (data_of c.args.value)
    ∙ goes_on _ _ (readable c.in_ok-object.object) _ c.in_ok-object.ensures
    (goes_on _ _ c.in_ok-range.range _ c.in_ok-range.ensures
    (goes_on _ _ c.in_ok-children.kind _ kept
    (goes_on _ _ c.in_ok-children.children _ read refl)))

pub read_node-read_children-requires : goal.read_node-read_children-requires
read_node-read_children-requires t c =
    let here = depth_of_object (data_of c.args.value) _ c.in_ok-object.ensures in
    (omega (arith, c.decreases, here), search rules)

pub read_children-read_nodes-requires : goal.read_children-read_nodes-requires
read_children-read_nodes-requires t c =
    let here = sym c.requires ∙ ap (option_map data_of) c.in-Some.is in (
      omega (
        arith,
        c.decreases,
        depth_of_named (codes "children") (readable c.args.object.now) (data_of c.in-Some.children) here,
      ),
      tt,
    )

pub read_children-returns-in-None : goal.read_children-returns-in-None
read_children-returns-in-None t c =
    children_read (readable c.args.object.now)
    ∙ ap (read_or reads_nodes []) (sym c.requires ∙ ap (option_map data_of) c.in-None.is)
    ∙ ap Some (sym c.new.ensures)

pub read_children-returns-in-Ok : goal.read_children-returns-in-Ok
read_children-returns-in-Ok t c =
    children_read (readable c.args.object.now)
    ∙ ap (read_or reads_nodes []) (sym c.requires ∙ ap (option_map data_of) c.in-Some.is) ∙ c.in-Ok.ensures

pub read_children-returns-in-Err : goal.read_children-returns-in-Err
read_children-returns-in-Err t c =
    let ms = readable c.args.object.now in
    let d = data_of c.in-Some.children in
    let here : get_member (codes "children") ms ≡ Some d =
    sym c.requires ∙ ap (option_map data_of) c.in-Some.is in
    subst (λ wanted. IsReadError (object ms) wanted c.in_member.result)
    (sym (children_read ms ∙ ap (read_or reads_nodes []) here))
    (error_around (object ms) d (reads_nodes d) c.in-Err.error c.in_member.result
    (c.in_member.ensures.place (object ms) d here) c.in_member.ensures.mismatch c.in-Err.ensures)

pub read_nodes-read_node-requires : goal.read_nodes-read_node-requires
read_nodes-read_node-requires t c =
    let all = elements_data c.into_iter-item-iterator.result in
    let d = data_of c.in-Some.item in
    let first = elements_next c.loop-item.item-iterator c.next.new.self (Some c.in-Some.item)
    c.in-Some.ensures.steps in
    let here = from_here (length c.loop-item.nodes) all _ _ d c.loop-item.invariant.2 first in
    let read = c.in_ok-values.ensures
    ∙ ap (λ es. Some (elements_data es)) (sym c.into_iter-item-iterator.ensures.into_iter_gives) in (
      omega (
        arith,
        c.decreases,
        depth_of_item (length c.loop-item.nodes) all d here,
        depth_of_array (data_of c.args.value) all read,
      ),
      tt,
    )

pub read_nodes-returns-in_err-values : goal.read_nodes-returns-in_err-values
unfolding reads_array
read_nodes-returns-in_err-values t c = rw (nodes_read (data_of c.args.value)) (grind (arith, reading))

pub read_nodes-loop-item-init : goal.read_nodes-loop-item-init
read_nodes-loop-item-init t c = (
  tt,
  tt,
  from_begin (length c.in_ok-nodes.nodes) _ _ (ap (λ xs. length xs) c.in_ok-nodes.ensures) refl,
  rw c.in_ok-nodes.ensures (sym (before_nil _)),
)

pub read_nodes-loop-item-preserved : goal.read_nodes-loop-item-preserved
read_nodes-loop-item-preserved t c =
    let kept = c.loop-item.invariant in
    let nodes = c.loop-item.nodes in
    let rest = elements_data c.next.new.self in
    let d = data_of c.in-Some.item in
    let x = c.in-Ok.node in
    let first = elements_next c.loop-item.item-iterator c.next.new.self (Some c.in-Some.item)
    c.in-Some.ensures.steps in (
      tt,
      tt,
      subst (λ n. AreFrom n (elements_data c.into_iter-item-iterator.result) rest)
          (sym (ap (λ xs. length xs) c.in_ok-push-in-Ok.ensures.ok ∙ length-append nodes (x ∷ [])))
          (from_next (length nodes) _ _ rest d kept.2 first),
      kept.3 ∙ ap (λ ds. before nodes (reads_items reads_node ds)) first
          ∙ items_more reads_node nodes d rest x c.in-Ok.ensures
          ∙ ap (λ xs. before xs (reads_items reads_node rest)) (sym c.in_ok-push-in-Ok.ensures.ok),
    )

pub read_nodes-returns-in-Err : goal.read_nodes-returns-in-Err
unfolding reads_array
read_nodes-returns-in-Err t c =
    let kept = c.loop-item.invariant in
    let all = elements_data c.into_iter-item-iterator.result in
    let left = elements_data c.loop-item.item-iterator in
    let rest = elements_data c.next.new.self in
    let d = data_of c.in-Some.item in
    let nodes = c.loop-item.nodes in
    let first = elements_next c.loop-item.item-iterator c.next.new.self (Some c.in-Some.item)
    c.in-Some.ensures.steps in
    let here = from_here (length nodes) all left rest d kept.2 first in
    let read = c.in_ok-values.ensures
    ∙ ap (λ es. Some (elements_data es)) (sym c.into_iter-item-iterator.ensures.into_iter_gives) in
    subst (λ wanted. IsReadError (data_of c.args.value) wanted c.in_item.result)
    (sym (nodes_read (data_of c.args.value)))
    (subst (λ v. IsReadError v (reads_array reads_node v) c.in_item.result)
    (sym (is_array (data_of c.args.value) all read))
    (items_error (array all) reads_node (reads_items reads_node all) nodes d rest c.in_item.result
    (kept.3 ∙ ap (λ ds. before nodes (reads_items reads_node ds)) first)
    (error_around (array all) d (reads_node d) c.in-Err.error c.in_item.result
    (c.in_item.ensures.place (array all) d (ap (λ n. get_item n all) c.len-number.ensures ∙ here))
    c.in_item.ensures.mismatch c.in-Err.ensures)))

pub read_nodes-returns : goal.read_nodes-returns
read_nodes-returns t c =
    let kept = c.loop-item.invariant in
    let none = elements_next c.loop-item.item-iterator c.next.new.self None c.in-None.ensures.steps in
    let read = c.in_ok-values.ensures
    ∙ ap (λ es. Some (elements_data es)) (sym c.into_iter-item-iterator.ensures.into_iter_gives) in
    nodes_read (data_of c.args.value) ∙ array_items reads_node (data_of c.args.value) _ read
    ∙ items_done reads_node _ c.loop-item.nodes
    (kept.3 ∙ ap (λ ds. before c.loop-item.nodes (reads_items reads_node ds)) none)
