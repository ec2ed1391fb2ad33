use Rattle.std.proofs.Common.{arith}
use Rattle.modinfo_pieces.specs.Steps.Reaches.{here, step}
use Rattle.modinfo_pieces.proofs.scan.comments.block_comment_end.Goals as goal

pub bytes-init : goal.bytes-init
bytes-init c = here

pub bytes-preserved : goal.bytes-preserved
bytes-preserved c = step c.bytes.invariant (grind arith)
