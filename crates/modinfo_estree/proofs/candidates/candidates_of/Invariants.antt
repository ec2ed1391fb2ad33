-- The candidates so far, with those among the members that are left, are all.
use Rattle.std.proofs.Common.{◌≡◌, ◌++◌, filter, map}
use Rattle.modinfo_estree.specs.internal.Candidates.{entry_of, is_inner}
use Rattle.modinfo_estree.proofs.candidates.candidates_of.Given as goal

abbrev pub invariant-loop-name : goal.invariant-loop-name
invariant-loop-name l =
    map entry_of l.found.items ++ filter is_inner l.name-iterator ≡ filter is_inner l.members
