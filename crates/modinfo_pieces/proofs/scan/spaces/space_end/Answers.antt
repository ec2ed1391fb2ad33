-- Each turn is one more step, and none begins where the loop ends.
use Rattle.std.proofs.Common.{arith}
use Rattle.modinfo_pieces.specs.Steps.Reaches.{here, step}
use Rattle.modinfo_pieces.proofs.PastEnds.{space_size-past}
use Rattle.modinfo_pieces.proofs.scan.spaces.space_end.Goals as goal

pub spaces-init : goal.spaces-init
spaces-init c = here

pub spaces-preserved : goal.spaces-preserved
spaces-preserved c = step c.spaces.invariant (grind arith)

pub returns-after-spaces : goal.returns-after-spaces
returns-after-spaces c = record {
  reached = c.spaces.invariant;
  is_last = grind (arith, space_size-past c.args.text.now c.spaces.at);
}
