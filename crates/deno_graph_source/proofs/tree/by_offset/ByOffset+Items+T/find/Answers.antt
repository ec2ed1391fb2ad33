use Rattle.std.proofs.Common.{◌≡◌, false, length, ◌∙◌}
use Rattle.std.specs.Map.Iter.{deref_pair}
use Rattle.std.proofs.lemmas.List.Elements.{All-append}
use Rattle.std.proofs.lemmas.Map.Iter.{iter_turn, iter_end}
use Rattle.deno_graph_source.proofs.Offsets.{all_items_more, equal_at_place}
use Rattle.deno_graph_source.proofs.tree.by_offset.ByOffset+Items+T.find.Goals as goal

pub returns-in-Some-number_of : goal.returns-in-Some-number_of
returns-in-Some-number_of g c =
    let entries = c.args.self.now in
    let sorted = rw c.self.view_is at c.self.invariant in
    let begun : c.into_iter-pos-iterator.result ≡ c.self.inside.map.entries =
    c.into_iter-pos-iterator.ensures.into_iter_gives.0 in
    let start : c.into_iter-pos-iterator.result ≡ entries = begun ∙ c.self.view_is in
    let turn = iter_turn deref_pair entries c.loop-pos.yielded _ _ _ _ start c.loop-pos.yielded_by
    (c.in-Some.pos, c.in-Some.items) c.in-Some.is c.next.ensures.steps in
    equal_at_place g.T.PartialEq.eq entries (length c.loop-pos.yielded) c.in-Some.pos.now
    c.in-Some-number_of.number c.in-Some.items.now c.args.wanted.now sorted turn.1
    (rw c.as_slice.ensures at c.in-Some-number_of.ensures)

pub loop-pos-preserved : goal.loop-pos-preserved
loop-pos-preserved g c =
    let here = rw c.as_slice.ensures at c.in_default.ensures in
    rw all_items_more (All-append (λ item. g.T.PartialEq.eq item c.args.wanted.now ≡ false) _ _
    c.loop-pos.invariant here)

pub returns : goal.returns
returns g c =
    let entries = c.args.self.now in
    let begun : c.into_iter-pos-iterator.result ≡ c.self.inside.map.entries =
    c.into_iter-pos-iterator.ensures.into_iter_gives.0 in
    let start : c.into_iter-pos-iterator.result ≡ entries = begun ∙ c.self.view_is in
    let all = iter_end deref_pair entries c.loop-pos.yielded _ _ _ _ start c.loop-pos.yielded_by
    c.in-None.is c.next.ensures.steps in
    rw all.0 at c.loop-pos.invariant
