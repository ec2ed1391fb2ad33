-- The comments so far, followed by those among the other ranges, are all comments; so are the others.
use Rattle.std.proofs.Common.{◌≡◌, ◌++◌, filter}
use Rattle.modinfo_estree.specs.Comments.{is_comment, is_other}
use Rattle.modinfo_estree.proofs.comment_order.split.Given as goal

abbrev pub invariant-loop-range : goal.invariant-loop-range
invariant-loop-range l = record {
  comments : l.comments.items ++ filter (is_comment l.text) l.range-iterator.rest.items
      ≡ filter (is_comment l.text) l.fn.ranges.items;
  others : l.others.items ++ filter (is_other l.text) l.range-iterator.rest.items
      ≡ filter (is_other l.text) l.fn.ranges.items;
}
