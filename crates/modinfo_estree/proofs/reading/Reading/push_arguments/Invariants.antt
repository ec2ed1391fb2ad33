-- The arguments so far and their nodes, each followed by those of the other children, are all.
use Rattle.std.proofs.Common.{◌≡◌, ◌++◌, map}
use Rattle.modinfo_estree.specs.Kind.{argument, in_call}
use Rattle.modinfo_estree.specs.Parts.{parts_of}
use Rattle.modinfo_estree.proofs.reading.Reading.push_arguments.Given as goal

abbrev pub invariant-loop-child : goal.invariant-loop-child
invariant-loop-child l =
    let node = in_call (parts_of l.fn.self) l.fn.bounds in
    let arg = argument (parts_of l.fn.self) l.fn.bounds in
    record {
      args : l.args ++ map arg l.child-iterator.rest.items ≡ map arg l.fn.arguments.items;
      nodes : l.nodes ++ map node l.child-iterator.rest.items ≡ l.fn.nodes ++ map node l.fn.arguments.items;
    }
