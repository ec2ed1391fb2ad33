-- The printed names of the faults of a source.
use Rattle.std.specs.Prelude.{ℕ, List, codes}
use Rattle.deno_graph_source.specs.declared.tree.fault.SourceFault.{SourceFault}
use Rattle.deno_graph_source.specs.declared.tree.fault.SourceFault.TheVariants.{RangeReversed, RangeOutside}
use Rattle.deno_graph_source.specs.declared.tree.fault.SourceFault.TheVariants.{RangeOffBoundary, CommentText}
use Rattle.deno_graph_source.specs.declared.tree.fault.SourceFault.TheVariants.{CommentsOverlap, Shape}
use Rattle.deno_graph_source.specs.declared.tree.fault.SourceFault.TheVariants.{OutOfMemory}

-- the printed name of a fault
abbrev pub fault_name : SourceFault → List ℕ
fault_name RangeReversed = codes "RangeReversed"
fault_name RangeOutside = codes "RangeOutside"
fault_name RangeOffBoundary = codes "RangeOffBoundary"
fault_name CommentText = codes "CommentText"
fault_name CommentsOverlap = codes "CommentsOverlap"
fault_name Shape = codes "Shape"
fault_name OutOfMemory = codes "OutOfMemory"
