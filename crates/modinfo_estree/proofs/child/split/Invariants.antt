-- The children in the group so far, followed by those among the other children, are all in the group; so are
-- those outside of it.
use Rattle.std.proofs.Common.{◌≡◌, ◌++◌, filter}
use Rattle.modinfo_estree.specs.Child.{has_group, lacks_group}
use Rattle.modinfo_estree.proofs.child.split.Given as goal

abbrev pub invariant-loop-child : goal.invariant-loop-child
invariant-loop-child l = record {
  inside : l.inside.items ++ filter (has_group l.fn.group) l.child-iterator.rest.items
      ≡ filter (has_group l.fn.group) l.fn.children.items;
  others : l.others.items ++ filter (lacks_group l.fn.group) l.child-iterator.rest.items
      ≡ filter (lacks_group l.fn.group) l.fn.children.items;
}
