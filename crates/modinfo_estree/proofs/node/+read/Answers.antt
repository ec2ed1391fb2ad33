use Rattle.std.proofs.Common.{◌≡◌, ◌≤◌, ◌∷◌, length, map, Some, None, arith, codes, sym, ap, refl, subst, ◌∙◌}
use Rattle.serde_json.specs.Data.{array, object}
use Rattle.serde_json.specs.Find.{as_str, get_item}
use Rattle.deno_graph_json.specs.Data.{data_of, elements_data, members_data, view_data}
use Rattle.deno_graph_json.specs.ObjectReader.{readable, value_of}
use Rattle.deno_graph_json.specs.Read.Partial.{◌>>=◌, member_at}
use Rattle.deno_graph_json.specs.Read.Result.{IsReadError, IsReadResult}
use Rattle.deno_graph_json.proofs.ArrayElements.{AreFrom, depth_of_item, elements_next, from_begin, from_next}
use Rattle.deno_graph_json.proofs.ArrayElements.{from_here}
use Rattle.deno_graph_json.proofs.ObjectMembers.{Entry, depth_of_member, rest_here, rest_next}
use Rattle.deno_graph_json.proofs.Reading.{error_around, exits, object_on, reading, result_on}
use Rattle.modinfo_estree.specs.Child.{sorted_children}
use Rattle.modinfo_estree.specs.Member.{is_text, reads_range, text_at}
use Rattle.modinfo_estree.specs.Node.{children_among, children_in, is_jsx_attribute, node_with}
use Rattle.modinfo_estree.specs.Source.{byte_of, source_of}
use Rattle.modinfo_estree.specs.internal.Node.{AreAppended, children_at, item_child}
use Rattle.modinfo_estree.proofs.Nodes.{all_done, all_new, child_error, item_next, member_next, next_error}
use Rattle.modinfo_estree.proofs.Nodes.{no_child, no_item_next, no_type, node_read, none_yet, object_read}
use Rattle.modinfo_estree.proofs.Nodes.{one_child, some_more, type_read}
use Rattle.std.proofs.lemmas.List.{drop_all}
use Rattle.modinfo_estree.specs.internal.Candidates.{entry_of}
use Rattle.modinfo_estree.proofs.InnerMembers.{next_left, no_candidate}
use Rattle.modinfo_estree.proofs.node.+read.Goals as goal
use Rattle.modinfo_estree.proofs.node.+read.Goals.{push_node-in-Some+in_ok-node+in_ok-push}
use Rattle.modinfo_estree.proofs.node.+read.Goals.{push_node-in_default}

pub push_children-returns-in-Object : goal.push_children-returns-in-Object
push_children-returns-in-Object t c =
    let source = source_of c.args.source.now in
    let value = data_of c.args.value in
    let is = c.view.ensures.json ∙ ap view_data c.in-Object.is in
    subst (λ wanted. AreAppended value wanted c.args.children.now c.push_node.new.children c.push_node.result)
    (sym (object_read source c.args.role value (members_data c.in-Object.field-0) is)) c.push_node.ensures

pub push_children-returns-in-Array : goal.push_children-returns-in-Array
push_children-returns-in-Array t c =
    let source = source_of c.args.source.now in
    let is = c.view.ensures.json ∙ ap view_data c.in-Array.is in
    subst (λ v. AreAppended v (children_at source c.args.role v) c.args.children.now c.push_items.new.children
    c.push_items.result) (sym is) c.push_items.ensures

pub push_children-returns-in_default : goal.push_children-returns-in_default
push_children-returns-in_default t c =
    no_child (source_of c.args.source.now) c.args.role (data_of c.args.value) c.args.children.now
    c.view.result c.view.ensures.json c.in_default.not-Array c.in_default.not-Object

pub push_items-loop-index-init : goal.push_items-loop-index-init
push_items-loop-index-init t c =
    let begun = c.into_iter-index-iterator.ensures.into_iter_gives in
    let same = ap (λ it. elements_data it.iter) begun
    ∙ ap elements_data c.enumerate-index-items.ensures.source in
    let none = ap (λ it. it.count) begun ∙ c.enumerate-index-items.ensures.count in (
      from_begin _ _ _ none same,
      none_yet _ _ _ _ refl (ap (children_among (source_of c.args.source.now) c.args.role) same),
    )

pub push_items-push_node-requires : goal.push_items-push_node-requires
push_items-push_node-requires t c =
    let it = c.loop-index.index-iterator in
    let all = elements_data c.args.items in
    let d = data_of c.in-Some.item in
    let first = elements_next it.iter c.next.new.self.iter (Some c.in-Some.item)
    c.in-Some.ensures.steps.0 in
    let here = from_here it.count all _ _ d c.loop-index.invariant.0 first in
    (omega (arith, c.decreases, depth_of_item it.count all d here), tt)

pub push_items-loop-index-preserved : goal.push_items-loop-index-preserved
push_items-loop-index-preserved t c =
    let source = source_of c.args.source.now in
    let role = c.args.role in
    let kept = c.loop-index.invariant in
    let it = c.loop-index.index-iterator in
    let all = elements_data c.args.items in
    let left = elements_data it.iter in
    let rest = elements_data c.next.new.self.iter in
    let d = data_of c.in-Some.item in
    let first = elements_next it.iter c.next.new.self.iter (Some c.in-Some.item)
    c.in-Some.ensures.steps.0 in (
      subst (λ n. AreFrom n all rest) (sym c.in-Some.ensures.steps.2)
          (from_next it.count all left rest d kept.0 first),
      some_more _ _ _ _ _ _ kept.1 (item_next source role left rest d first) _ c.in-Ok.ensures,
    )

pub push_items-returns-in-Err : goal.push_items-returns-in-Err
push_items-returns-in-Err t c =
    let source = source_of c.args.source.now in
    let role = c.args.role in
    let kept = c.loop-index.invariant in
    let it = c.loop-index.index-iterator in
    let all = elements_data c.args.items in
    let left = elements_data it.iter in
    let rest = elements_data c.next.new.self.iter in
    let d = data_of c.in-Some.item in
    let first = elements_next it.iter c.next.new.self.iter (Some c.in-Some.item)
    c.in-Some.ensures.steps.0 in
    let here = from_here it.count all left rest d kept.0 first in
    next_error _ _ _ _ _ _ kept.1 (item_next source role left rest d first) (array all) c.in_item.result
    (error_around (array all) d (item_child source role d) c.in-Err.error c.in_item.result
    (c.in_item.ensures.place (array all) d (ap (λ n. get_item n all) c.in-Some.ensures.steps.1 ∙ here))
    c.in_item.ensures.mismatch c.in-Err.ensures)

pub push_items-returns : goal.push_items-returns
push_items-returns t c =
    let source = source_of c.args.source.now in
    let it = c.loop-index.index-iterator in
    let none = elements_next it.iter c.next.new.self.iter None c.in-None.ensures.steps.0 in
    all_done _ _ _ _ c.loop-index.invariant.1 (no_item_next source c.args.role (elements_data it.iter) none)

pub push_node-returns-in_err-node : goal.push_node-returns-in_err-node
push_node-returns-in_err-node t c =
    child_error (source_of c.args.source.now) c.args.role (data_of c.args.value) c.in-Some.name.now _ _
    c.in_err-node.field-0.0 c.from_residual.result c.in-Some.ensures c.from_residual.ensures.1
    c.in_err-node.ensures

pub push_node-returns : goal.push_node-returns
push_node-returns t c = elim c.match-type_of.branch [
  | push_node-in-Some+in_ok-node+in_ok-push w ↦
      one_child (source_of c.args.source.now) c.args.role (data_of c.args.value) w.in-Some.name.now
      w.in_ok-node.node w.eq-is_spread.result c.args.children.now c.match-type_of.children w.in-Some.ensures
      w.in_ok-node.ensures w.eq-is_spread.ensures (w.children-is ∙ w.in_ok-push.ensures.ok)
  | push_node-in_default w ↦
      no_type (source_of c.args.source.now) c.args.role (data_of c.args.value) c.args.children.now
      c.match-type_of.children w.in_default.ensures w.children-is
]

pub read_candidates-push_children-requires : goal.read_candidates-push_children-requires
read_candidates-push_children-requires t c =
    let source = source_of c.args.source.now in
    let all = members_data c.args.members in
    let item = c.candidate-item.result in
    let next = next_left source c.args.is_jsx all c.args.found.now c.loop-candidate.candidate-index item _ _
    c.loop-candidate.invariant
    (omega (arith, c.loop-candidate-test.true, c.loop-candidate.auto.candidate-index-end))
    c.candidate-item.is in
    let e : Entry = entry_of item in
    (omega (arith, c.decreases, depth_of_member all (e ∷ next.after) next.after e next.here refl), tt)

pub read_candidates-loop-candidate-preserved : goal.read_candidates-loop-candidate-preserved
read_candidates-loop-candidate-preserved t c =
    let source = source_of c.args.source.now in
    let all = members_data c.args.members in
    let item = c.candidate-item.result in
    let next = next_left source c.args.is_jsx all c.args.found.now c.loop-candidate.candidate-index item _ _
    c.loop-candidate.invariant
    (omega (arith, c.loop-candidate-test.true, c.loop-candidate.auto.candidate-index-end))
    c.candidate-item.is in
    let e : Entry = entry_of item in
    let first = next.same
    ∙ member_next source c.args.is_jsx c.of_member.result (e ∷ next.after) next.after e refl
    c.of_member.ensures in record {
      left = next.after;
      rest = rest_next all (e ∷ next.after) next.after e next.here refl;
      kept = next.kept;
      so_far = some_more _ _ _ _ _ _ c.loop-candidate.invariant.so_far first _ c.in-Ok.ensures;
    }

pub read_candidates-returns-in-Err : goal.read_candidates-returns-in-Err
read_candidates-returns-in-Err t c =
    let source = source_of c.args.source.now in
    let all = members_data c.args.members in
    let item = c.candidate-item.result in
    let next = next_left source c.args.is_jsx all c.args.found.now c.loop-candidate.candidate-index item _ _
    c.loop-candidate.invariant
    (omega (arith, c.loop-candidate-test.true, c.loop-candidate.auto.candidate-index-end))
    c.candidate-item.is in
    let e : Entry = entry_of item in
    let first = next.same
    ∙ member_next source c.args.is_jsx c.of_member.result (e ∷ next.after) next.after e refl
    c.of_member.ensures in
    let d = data_of item.value in
    next_error _ _ _ _ _ _ c.loop-candidate.invariant.so_far first (object all) c.in_member.result
    (error_around (object all) d (children_at source c.of_member.result d) c.in-Err.error c.in_member.result
    (c.in_member.ensures.place (object all) d (rest_here all (e ∷ next.after) next.after e next.here refl))
    c.in_member.ensures.mismatch c.in-Err.ensures)

pub read_candidates-returns : goal.read_candidates-returns
read_candidates-returns t c =
    let source = source_of c.args.source.now in
    let kept = c.loop-candidate.invariant in
    let past : length c.args.found.now ≤ c.loop-candidate.candidate-index =
    omega (arith, c.loop-candidate-test.false, c.loop-candidate.auto.candidate-index-end) in
    let none = sym (ap (map entry_of) (drop_all c.loop-candidate.candidate-index c.args.found.now past))
    ∙ kept.kept in
    all_new _ _ (all_done _ _ _ _ kept.so_far (no_candidate source c.args.is_jsx kept.left none))

pub read_node-returns-in_err-members : goal.read_node-returns-in_err-members
unfolding node_with
read_node-returns-in_err-members t c =
    rw (node_read (source_of c.args.source.now) c.args.role (data_of c.args.value)) (grind (arith, reading))

pub read_node-returns-in_err-range : goal.read_node-returns-in_err-range
unfolding node_with
read_node-returns-in_err-range t c =
    rw (node_read (source_of c.args.source.now) c.args.role (data_of c.args.value)) (grind (arith, reading))

pub read_node-returns-in_err-read_children : goal.read_node-returns-in_err-read_children
unfolding node_with member_at
read_node-returns-in_err-read_children t c =
    let source = source_of c.args.source.now in
    let d = data_of c.args.value in
    let ms = readable c.of_members-object.result in
    let is_object = c.in_ok-members.ensures ∙ ap Some (sym c.of_members-object.ensures) in
    let type = c.in_ok-name.name.now in
    let typed : text_at (codes "type") ms ≡ Some type = ap (λ o. o >>= as_str) c.in_ok-name.ensures in
    let is_jsx : c.eq-is_jsx.result ≡ is_jsx_attribute ms =
    c.eq-is_jsx.ensures ∙ ap (is_text (codes "JSXAttribute")) (sym typed) in
    let error = c.in_err-read_children.field-0.0 in
    let answer = c.from_residual-in_err-read_children.result in
    let below : IsReadError (object ms) (children_in source (is_jsx_attribute ms) ms) error =
    subst (λ is. IsReadError (object ms) (children_in source is ms) error) is_jsx
    (subst (λ ns. IsReadError (object ns) (children_in source c.eq-is_jsx.result ns) error)
    (sym c.of_members-object.ensures) c.in_err-read_children.ensures) in
    subst (λ wanted. IsReadResult d wanted answer) (sym (node_read source c.args.role d))
    (object_on d _ ms answer is_object
    (result_on (object ms) (text_at (codes "type") ms) _ type answer typed
    (result_on (object ms) (reads_range (byte_of source) ms) _ c.in_ok-range.range answer
    c.in_ok-range.ensures
    (exits (object ms) (children_in source (is_jsx_attribute ms) ms) _ error answer
    c.from_residual-in_err-read_children.ensures.1 below))))

pub read_node-returns-in_err-name : goal.read_node-returns-in_err-name
unfolding node_with
read_node-returns-in_err-name t c =
    rw (node_read (source_of c.args.source.now) c.args.role (data_of c.args.value)) (grind (arith, reading))

pub read_node-returns : goal.read_node-returns
unfolding member_at
read_node-returns t c =
    let source = source_of c.args.source.now in
    let role = c.args.role in
    let d = data_of c.args.value in
    let ms = readable c.of_members-object.result in
    let object = c.in_ok-members.ensures ∙ ap Some (sym c.of_members-object.ensures) in
    let type = c.in_ok-name.name.now in
    let typed : text_at (codes "type") ms ≡ Some type = ap (λ o. o >>= as_str) c.in_ok-name.ensures in
    let is_jsx : c.eq-is_jsx.result ≡ is_jsx_attribute ms =
    c.eq-is_jsx.ensures ∙ ap (is_text (codes "JSXAttribute")) (sym typed) in
    let children = c.in_ok-read_children.field-0 in
    let below : children_in source (is_jsx_attribute ms) ms ≡ Some children =
    ap (λ is. children_in source is ms) (sym is_jsx)
    ∙ ap (children_in source c.eq-is_jsx.result) c.of_members-object.ensures
    ∙ c.in_ok-read_children.ensures in
    let sorted : c.sort_by_start.new.children.items ≡ sorted_children children =
    c.in_ok-sort_by_start.ensures ∙ ap sorted_children c.into_vec-children.ensures in
    subst (λ wanted. IsReadResult d wanted c.node_of_type.result) (sym (node_read source role d))
    (object_on d _ ms c.node_of_type.result object
    (subst (λ wanted. IsReadResult (value_of c.of_members-object.result) wanted c.node_of_type.result)
    (sym (type_read source role (is_jsx_attribute ms) ms type c.in_ok-range.range children typed
    c.in_ok-range.ensures below))
    (rw (← sorted) c.node_of_type.ensures)))
