-- The warnings about the nodes so far are added.
use Rattle.std.proofs.Common.{◌≡◌, [], map, take}
use Rattle.modinfo_document.specs.NodeKinds.{kinds_in, kinds_of_items}
use Rattle.modinfo_document.specs.internal.Warned.{AddsAbout}
use Rattle.modinfo_document.proofs.report.spelling.warn_of_literals.Given as goal

abbrev pub invariant-loop-number : goal.invariant-loop-number
invariant-loop-number l =
    (l.path.items ≡ [])
    × AddsAbout l.source (kinds_of_items 0 [] (map kinds_in (take l.number l.node-items))) l.fn.warnings
    l.warnings
