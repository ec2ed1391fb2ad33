use Rattle.std.proofs.Common.{arith}
use Rattle.modinfo_pieces.specs.Steps.Reaches.{here, step}
use Rattle.modinfo_pieces.specs.Literals.{body_step}
use Rattle.modinfo_pieces.specs.Spaces.{is_line_end}
use Rattle.modinfo_pieces.proofs.scan.literals.body_end.Goals as goal

pub bytes-init : goal.bytes-init
bytes-init c = here

pub bytes-preserved-then-byte-eq92 : goal.bytes-preserved-then-byte-eq92
unfolding body_step
bytes-preserved-then-byte-eq92 c = step c.bytes.invariant (grind arith)

pub bytes-preserved : goal.bytes-preserved
unfolding body_step
bytes-preserved c = step c.bytes.invariant (grind arith)

pub returns-then-is_line_end : goal.returns-then-is_line_end
unfolding body_step is_line_end
returns-then-is_line_end c = record {
  inside = record { at = c.bytes.at; in_class = c.bytes.in_class };
  ends = record { reached = c.bytes.invariant; is_last = grind arith };
  is = grind arith;
}

pub returns-then-not-in_class : goal.returns-then-not-in_class
unfolding body_step
returns-then-not-in_class c = record {
  inside = record { at = c.bytes.at; in_class = c.bytes.in_class };
  ends = record { reached = c.bytes.invariant; is_last = grind arith };
  is = grind arith;
}

pub returns-then-is_line_end-2 : goal.returns-then-is_line_end-2
unfolding body_step
returns-then-is_line_end-2 c = record {
  inside = record { at = c.bytes.at; in_class = c.bytes.in_class };
  ends = record { reached = c.bytes.invariant; is_last = grind arith };
  is = grind arith;
}

pub returns : goal.returns
unfolding body_step
returns c = record {
  inside = record { at = c.bytes.at; in_class = c.bytes.in_class };
  ends = record { reached = c.bytes.invariant; is_last = grind arith };
  is = grind arith;
}
