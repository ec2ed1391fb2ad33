-- Pieces lead to the spot, a watch goes over them, and their comments are filed.
use Rattle.std.proofs.Common.{length, ◌-◌}
use Rattle.modinfo_imports.specs.Sights.{watch_of}
use Rattle.modinfo_imports.proofs.Walks.{IsWalked}
use Rattle.modinfo_imports.proofs.find.find.Given as goal
use Rattle.modinfo_pieces.specs.Spots.{place_of}

abbrev pub invariant-pieces : goal.invariant-pieces
invariant-pieces l =
    IsWalked l.text l.is_typed l.choices l.claims l.marks (place_of l.spot l.around)
    (watch_of l.seen l.parentheses) l.filing l.first

abbrev pub decreases-pieces : goal.decreases-pieces
decreases-pieces l = length l.text - l.spot.at
