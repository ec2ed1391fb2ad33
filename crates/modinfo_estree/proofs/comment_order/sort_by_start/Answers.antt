use Rattle.std.proofs.Common.{rules}
use Rattle.std.proofs.lemmas.List.Sorted.{answers_always, IsNonDecreasingBy-from_sort}
use Rattle.std.proofs.lemmas.Result.{on_ok_weaker}
use Rattle.modinfo_estree.specs.Comments.{range_start}
use Rattle.modinfo_estree.proofs.SortedByStart.{sorted_from_sort}
use Rattle.modinfo_estree.proofs.comment_order.sort_by_start.Goals as goal

pub returns : goal.returns
returns c =
    let keys = answers_always _ _ _ (λ f a r next called. search rules) in
    let stable = c.sort_by_key.ensures.stable range_start keys in
    on_ok_weaker c.sort_by_key.result
    (λ sorted. sorted_from_sort range_start _ _
    (IsNonDecreasingBy-from_sort range_start _ (sorted range_start keys)) stable)
    c.sort_by_key.ensures.sorted
