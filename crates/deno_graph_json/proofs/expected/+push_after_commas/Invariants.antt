use Rattle.std.proofs.Common.{length}
use Rattle.deno_graph_json.proofs.expected.+push_after_commas.Given as goal

abbrev pub decreases-push_after_commas : goal.decreases-push_after_commas
decreases-push_after_commas l = length l.names.now
