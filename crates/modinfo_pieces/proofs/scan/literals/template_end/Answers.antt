use Rattle.std.proofs.Common.{arith}
use Rattle.modinfo_pieces.specs.Steps.Reaches.{here, step}
use Rattle.modinfo_pieces.specs.Literals.{template_step}
use Rattle.modinfo_pieces.proofs.scan.literals.template_end.Goals as goal

pub bytes-init : goal.bytes-init
bytes-init c = here

pub bytes-preserved-then-byte-eq92 : goal.bytes-preserved-then-byte-eq92
unfolding template_step
bytes-preserved-then-byte-eq92 c = step c.bytes.invariant (grind arith)

pub bytes-preserved : goal.bytes-preserved
unfolding template_step
bytes-preserved c = step c.bytes.invariant (grind arith)

pub returns-then-byte-eq96 : goal.returns-then-byte-eq96
unfolding template_step
returns-then-byte-eq96 c = record {
  inside = c.bytes.at;
  ends = record { reached = c.bytes.invariant; is_last = grind arith };
  is = grind arith;
}

pub returns-then-byte_at-eq123 : goal.returns-then-byte_at-eq123
unfolding template_step
returns-then-byte_at-eq123 c = record {
  inside = c.bytes.at;
  ends = record { reached = c.bytes.invariant; is_last = grind arith };
  is = grind arith;
}

pub returns : goal.returns
unfolding template_step
returns c = record {
  inside = c.bytes.at;
  ends = record { reached = c.bytes.invariant; is_last = grind arith };
  is = grind arith;
}
