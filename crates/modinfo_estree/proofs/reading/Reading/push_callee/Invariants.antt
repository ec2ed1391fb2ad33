-- The nodes so far, followed by those of the other children, are all.
use Rattle.std.proofs.Common.{◌≡◌, ◌++◌, map}
use Rattle.modinfo_estree.specs.Kind.{in_call}
use Rattle.modinfo_estree.specs.Parts.{parts_of}
use Rattle.modinfo_estree.proofs.reading.Reading.push_callee.Given as goal

abbrev pub invariant-loop-child : goal.invariant-loop-child
invariant-loop-child l =
    let node = in_call (parts_of l.fn.self) l.fn.self.range in
    l.nodes ++ map node l.child-iterator.rest.items ≡ l.fn.nodes ++ map node l.fn.callees.items
