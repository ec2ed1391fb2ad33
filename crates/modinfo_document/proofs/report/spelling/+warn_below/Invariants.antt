-- The warnings about the node and about its children so far are added.
use Rattle.std.proofs.Common.{◌≡◌, ◌∷◌, map, take}
use Rattle.deno_graph_source.specs.Node.{kind_of}
use Rattle.modinfo_document.specs.NodeKinds.{kinds_in, kinds_of_items}
use Rattle.modinfo_document.specs.internal.Warned.{AddsAbout}
use Rattle.modinfo_document.proofs.report.spelling.+warn_below.Given as goal

abbrev pub invariant-loop-number : goal.invariant-loop-number
invariant-loop-number l =
    (l.path.items ≡ l.fn.path.items)
    × AddsAbout l.source ((l.fn.path.items, kind_of l.node)
    ∷ kinds_of_items 0 l.fn.path.items (map kinds_in (take l.number l.child-items))) l.fn.warnings l.warnings
