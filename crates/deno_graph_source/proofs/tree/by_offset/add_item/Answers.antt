use Rattle.std.proofs.Common.{[], ◌∷◌, ◌++◌, ◌∙◌, Some, ap, sym, nat_cmp, rules}
use Rattle.std.specs.BTreeMap.{insert_entry, is_at}
use Rattle.std.specs.Map.{set_value}
use Rattle.std.proofs.lemmas.Map.Steps.{set_value_same}
use Rattle.std.proofs.lemmas.Result.{on_ok_weaker, on_err_weaker}
use Rattle.deno_graph_source.proofs.AddedItems.{added_set, added_inserted}
use Rattle.deno_graph_source.specs.ByOffset.{value_at}
use Rattle.deno_graph_source.proofs.tree.by_offset.add_item.Goals as goal

pub returns-in-Some-clause-ok : goal.returns-in-Some-clause-ok
returns-in-Some-clause-ok g c =
    let old = c.args.map.now.entries in
    let pos = c.args.pos in
    let had = sym c.in-Some.ensures.value in
    let holds = c.get_mut.follows.holds c.push.new.self in
    let updates = holds.3 (search rules) in
    on_ok_weaker c.push.result (λ pushed. added_set c.args.item old _ pos c.in-Some.items.now had
    (holds.0 ∙ ap (set_value (is_at (nat_cmp pos)) old) pushed) (updates.1 ∙ ap Some pushed) updates.2)
    c.push.ensures.ok

pub returns-in-Some-clause-err : goal.returns-in-Some-clause-err
returns-in-Some-clause-err g c =
    let old = c.args.map.now.entries in
    let test = is_at (nat_cmp c.args.pos) in
    let had = sym c.in-Some.ensures.value in
    let holds = c.get_mut.follows.holds c.push.new.self in
    on_err_weaker c.push.result (λ same. holds.0 ∙ ap (set_value test old) same
    ∙ set_value_same test old c.in-Some.items.now had) c.push.ensures.err

pub returns-clause-ok : goal.returns-clause-ok
returns-clause-ok g c =
    let old = c.args.map.now.entries in
    let pos = c.args.pos in
    let kept = c.get_mut.follows.holds-at-none in
    let updates = c.in_ok-insert.ensures.updates in
    let pushed = c.in_ok-push.ensures.ok ∙ ap (λ items. items ++ c.args.item ∷ []) c.in_ok-items.ensures in
    let is = c.in_ok-insert.ensures.entries
    ∙ ap (λ map. insert_entry nat_cmp map.entries pos c.push-2.new.self) kept
    ∙ ap (insert_entry nat_cmp old pos) pushed in
    added_inserted c.args.item old _ pos (sym c.in_default.ensures.value) is (updates.1 ∙ ap Some pushed)
    (λ q apart. updates.2 q apart ∙ ap (λ map. value_at map.entries q) kept)
