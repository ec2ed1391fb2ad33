use Rattle.std.proofs.Common.{◌++◌, ◌∙◌, ap, sym, append_assoc}
use Rattle.std.specs.Map.Iter.{deref_pair}
use Rattle.std.proofs.lemmas.Map.Iter.{rest_more}
use Rattle.deno_graph_base.proofs.PositionOrder.{insert_entry_last}
use Rattle.deno_graph_source.proofs.tree.by_offset.ByOffsetTryClone.try_clone.Goals as goal

pub loop-pos-preserved : goal.loop-pos-preserved
loop-pos-preserved g c =
    let pos = c.in-Some.pos.now in
    let value = c.in-Some.value.now in
    let next = rest_more deref_pair _ _ _ (c.in-Some.pos, c.in-Some.value) c.in-Some.is
    c.next.ensures.steps in
    let all = ap (λ rest. c.loop-pos.map.entries ++ rest) (sym next) ∙ c.loop-pos.invariant in
    let sorted = rw (c.self.view_is, ← all) at c.self.invariant in
    let put = insert_entry_last c.loop-pos.map.entries pos value c.next.new.self sorted in
    rw (c.in_ok-insert.ensures.entries, c.in_ok-try_clone.ensures, put, append_assoc) all
