use Rattle.std.proofs.Common.{arith}
use Rattle.modinfo_pieces.specs.Steps.Reaches.{here, step}
use Rattle.modinfo_pieces.proofs.PastEnds.{word_step-past}
use Rattle.modinfo_pieces.proofs.scan.words.rest_end.Goals as goal

pub bytes-init : goal.bytes-init
bytes-init c = here

pub bytes-preserved : goal.bytes-preserved
bytes-preserved c = step c.bytes.invariant (grind arith)

pub returns-after-bytes : goal.returns-after-bytes
returns-after-bytes c = record {
  reached = c.bytes.invariant;
  is_last = grind (arith, word_step-past c.args.text.now c.bytes.at);
}
