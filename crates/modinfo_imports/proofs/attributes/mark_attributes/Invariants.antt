-- The marks of the attributes so far.
use Rattle.std.proofs.Common.{◌≡◌, ◌++◌, take}
use Rattle.std.specs.List.{flat_map}
use Rattle.modinfo_imports.specs.Attributes.{attribute_marks}
use Rattle.modinfo_imports.proofs.attributes.mark_attributes.Given as goal

abbrev pub invariant-loop-entry : goal.invariant-loop-entry
invariant-loop-entry l =
    l.marks.items ≡ l.fn.marks.items ++ flat_map (attribute_marks l.specifier) (take l.entry-index l.entries)
