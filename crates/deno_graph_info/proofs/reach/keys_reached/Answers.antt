use Rattle.deno_graph_info.proofs.Reaching.{keys_more}
use Rattle.deno_graph_info.proofs.reach.keys_reached.Goals as goal

pub loop-key-preserved : goal.loop-key-preserved
loop-key-preserved c =
    keys_more c.loop-key.keys.items c.push.new.self.items c.loop-key.key-iterator c.next.new.self _
    c.in-Some.key.now c.in-Some._value.now c.in_ok-copy.copy
    c.loop-key.invariant c.in-Some.ensures.steps c.in_ok-copy.ensures.ok c.in_ok-push.ensures.items
