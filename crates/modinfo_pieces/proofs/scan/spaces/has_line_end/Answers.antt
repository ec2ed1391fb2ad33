-- The offsets so far have no line terminator.
use Rattle.std.proofs.Common.{◌≡◌, ◌-◌, ◌||◌, ◌∙◌, ap, arith, sym, zero}
use Rattle.modinfo_pieces.specs.Spaces.{has_line_end}
use Rattle.modinfo_pieces.proofs.LineEnds.{has_line_end-more, has_line_end-within}
use Rattle.modinfo_pieces.proofs.scan.spaces.has_line_end.Goals as goal

pub bytes-init : goal.bytes-init
unfolding has_line_end
bytes-init c =
    let none : c.args.from - c.args.from ≡ zero = omega arith in record {
      goes_on = omega arith;
      within = omega arith;
      none = ap (has_line_end c.args.text.now c.args.from) none;
    }

pub bytes-preserved : goal.bytes-preserved
bytes-preserved c =
    let here = sym c.is_line_end.ensures ∙ c.if-is_line_end.false in record {
      goes_on = omega arith;
      within = omega arith;
      none = has_line_end-more c.args.text.now c.args.from c.bytes.at c.bytes.invariant.goes_on
          ∙ (λ i. c.bytes.invariant.none i || here i);
    }

pub returns-then-is_line_end : goal.returns-then-is_line_end
returns-then-is_line_end c =
    sym (has_line_end-within c.args.text.now c.args.from c.bytes.at c.args.to c.bytes.invariant.goes_on
    c.bytes-test.true (sym c.is_line_end.ensures ∙ c.if-is_line_end.true))

pub returns : goal.returns
returns c =
    let whole : c.args.to - c.args.from ≡ c.bytes.at - c.args.from = omega arith in
    sym (ap (has_line_end c.args.text.now c.args.from) whole ∙ c.bytes.invariant.none)
