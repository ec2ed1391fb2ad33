-- If children and parts follow by turns after the part so far, so do all after the first.
use Rattle.std.proofs.Common.{length, map}
use Rattle.deno_graph_source.specs.Node.{range_of}
use Rattle.modinfo_source.specs.Spelled.{FollowByTurns}
use Rattle.modinfo_source.specs.internal.Parts.{part_ranges}
use Rattle.modinfo_source.proofs.tree.templates.follow_by_turns.Given as goal

abbrev pub invariant-parts : goal.invariant-parts
invariant-parts l =
    FollowByTurns l.text l.part (part_ranges l.left_parts) (map range_of l.left_children) l.to
    → FollowByTurns l.text l.fn.first (part_ranges l.fn.parts) (map range_of l.fn.children) l.to

abbrev pub decreases-parts : goal.decreases-parts
decreases-parts l = length l.left_parts
