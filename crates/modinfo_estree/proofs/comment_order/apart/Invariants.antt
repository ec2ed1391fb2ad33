-- The ranges so far, followed by those that are kept of the others, are all that are kept.
use Rattle.std.proofs.Common.{◌≡◌, ◌++◌}
use Rattle.modinfo_estree.specs.Comments.{apart, apart_after}
use Rattle.modinfo_estree.proofs.comment_order.apart.Given as goal

abbrev pub invariant-loop-next : goal.invariant-loop-next
invariant-loop-next l =
    l.kept.items ++ apart_after l.last l.next-iterator.rest.items ≡ apart l.fn.ranges.items
