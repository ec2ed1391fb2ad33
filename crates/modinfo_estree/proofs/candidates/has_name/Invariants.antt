-- No candidate so far has the name.
use Rattle.std.proofs.Common.{◌≡◌, map, drop}
use Rattle.std.specs.List.{list_any}
use Rattle.modinfo_estree.specs.internal.Candidates.{entry_of, is_named}
use Rattle.modinfo_estree.proofs.candidates.has_name.Given as goal

abbrev pub invariant-loop-candidate : goal.invariant-loop-candidate
invariant-loop-candidate l = list_any (is_named l.name) (map entry_of l.found)
    ≡ list_any (is_named l.name) (map entry_of (drop l.candidate-index l.found))
