use Rattle.std.proofs.Common.{arith}
use Rattle.modinfo_pieces.specs.Steps.Reaches.{here, step}
use Rattle.modinfo_pieces.specs.Literals.{string_step}
use Rattle.modinfo_pieces.proofs.scan.literals.string_end.Goals as goal

pub bytes-init : goal.bytes-init
bytes-init c = here

pub bytes-preserved-then-byte-eq92 : goal.bytes-preserved-then-byte-eq92
unfolding string_step
bytes-preserved-then-byte-eq92 c = step c.bytes.invariant (grind arith)

pub bytes-preserved : goal.bytes-preserved
unfolding string_step
bytes-preserved c = step c.bytes.invariant (grind arith)

pub returns-then-byte-quote : goal.returns-then-byte-quote
unfolding string_step
returns-then-byte-quote c = record {
  inside = c.bytes.at;
  ends = record { reached = c.bytes.invariant; is_last = grind arith };
  is = grind arith;
}

pub returns-then-byte-eq10 : goal.returns-then-byte-eq10
unfolding string_step
returns-then-byte-eq10 c = record {
  inside = c.bytes.at;
  ends = record { reached = c.bytes.invariant; is_last = grind arith };
  is = grind arith;
}

pub returns : goal.returns
unfolding string_step
returns c = record {
  inside = c.bytes.at;
  ends = record { reached = c.bytes.invariant; is_last = grind arith };
  is = grind arith;
}
