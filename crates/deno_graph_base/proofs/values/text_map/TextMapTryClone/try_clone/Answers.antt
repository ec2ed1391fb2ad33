-- The key of each entry is above the keys that were copied before.
use Rattle.deno_graph_base.proofs.TextEntries.{copied_more}
use Rattle.deno_graph_base.proofs.values.text_map.TextMapTryClone.try_clone.Goals as goal

pub loop-key-preserved : goal.loop-key-preserved
loop-key-preserved g c =
    copied_more c.args.self.now c.loop-key.copy c.loop-key.key-iterator c.next.new.self c.insert.new.self
    c.in-Some.key.now c.in_ok-key.key c.in-Some.value.now c.in_ok-value.value
    c.into_iter-key-iterator.ensures.into_iter_gives.1 c.loop-key.invariant c.in-Some.ensures.steps
    c.in_ok-key.ensures c.in_ok-value.ensures c.in_ok-insert.ensures.ok
