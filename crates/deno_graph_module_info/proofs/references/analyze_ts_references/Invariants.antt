-- The references so far are those of the comments so far.
use Rattle.std.proofs.Common.{take, All}
use Rattle.deno_graph_module_info.specs.References.{AreReferences, CoversReference}
use Rattle.deno_graph_module_info.proofs.references.analyze_ts_references.Given as goal

abbrev pub invariant-loop-comment : goal.invariant-loop-comment
invariant-loop-comment l = record {
  are : AreReferences l.head.text_info.now (take l.comment-index l.head.comments.now) l.references;
  cover : All (CoversReference l.head.text_info.now) l.references;
}
