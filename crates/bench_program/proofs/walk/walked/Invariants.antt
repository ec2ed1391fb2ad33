-- Each step removes one path from the walk.
use Rattle.std.proofs.Common.{length}
use Rattle.bench_program.proofs.walk.walked.Given as goal

abbrev pub decreases-nodes : goal.decreases-nodes
decreases-nodes l = length l.walk.to_come
