use Rattle.std.proofs.Common.{◌≡◌, length, vec_len, arith, sym, ◌∙◌}
use Rattle.deno_graph_base.specs.TextMap.{entries_of}
use Rattle.deno_graph_info.proofs.Reaching.{underway-begin, underway-step, underway-popped, less_to_do}
use Rattle.deno_graph_info.proofs.Reaching.{reach_answered}
use Rattle.deno_graph_info.specs.internal.ReachSteps.{infos_of}
use Rattle.deno_graph_info.proofs.reach.reach.Goals as goal

pub search-init : goal.search-init
search-init c = underway-begin (entries_of c.args.modules.now) c.args.root.now c.new-reached.result
    c.visit.new.reached c.new-pending.result.items (infos_of c.visit.new.pending.items) c.new-reached.ensures
    c.new-pending.ensures.items c.in_ok-visit.ensures

pub search-preserved : goal.search-preserved
search-preserved c =
    underway-step (entries_of c.args.modules.now) c.args.root.now c.in-Some.info.now c.search.reached
    c.visit_dependencies.new.reached (infos_of c.pop.new.self.items)
    (infos_of c.visit_dependencies.new.pending.items)
    (underway-popped (entries_of c.args.modules.now) c.args.root.now c.search.pending.items
    c.pop.new.self.items c.in-Some.info c.search.reached c.in-Some.ensures.items c.search.invariant)
    c.in_ok-visit_dependencies-in-Some.ensures

pub search-smaller : goal.search-smaller
search-smaller c =
    less_to_do (entries_of c.args.modules.now) c.in-Some.info c.search.pending.items c.pop.new.self.items
    c.in-Some.ensures.items c.in_ok-visit_dependencies-in-Some.ensures

pub returns-in-None : goal.returns-in-None
returns-in-None c =
    let counted : vec_len c.search.pending ≡ length c.search.pending.items =
    omega (arith, c.search.pending.ok.0) in
    reach_answered (entries_of c.args.modules.now) c.args.root.now c.search.reached c.search.pending.items
    c.keys_reached.result c.search.invariant (sym counted ∙ c.in-None.ensures.cases.0)
    c.keys_reached.ensures.keys c.keys_reached.ensures.ascending
