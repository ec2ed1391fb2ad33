use Rattle.std.proofs.Common.{rules}
use Rattle.std.proofs.lemmas.List.Sorted.{answers_always, IsNonDecreasingBy-from_sort}
use Rattle.std.proofs.lemmas.Result.{on_ok_weaker}
use Rattle.deno_graph_source.specs.Node.{range_of}
use Rattle.modinfo_estree.specs.Child.{start_of}
use Rattle.modinfo_estree.proofs.SortedByStart.{sorted_from_sort}
use Rattle.modinfo_estree.proofs.child.sort_by_start.Goals as goal

pub returns : goal.returns
unfolding range_of
returns c =
    let keys = answers_always _ _ _ (λ f a r next called. search rules) in
    let stable = c.sort_by_key.ensures.stable start_of keys in
    on_ok_weaker c.sort_by_key.result
    (λ sorted. sorted_from_sort start_of _ _ (IsNonDecreasingBy-from_sort start_of _ (sorted start_of keys))
    stable)
    c.sort_by_key.ensures.sorted
