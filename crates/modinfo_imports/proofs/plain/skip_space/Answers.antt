use Rattle.std.proofs.Common.{arith, ◌∙◌, ap, false, sym}
use Rattle.modinfo_imports.proofs.PlainBytes.{kind-of_space}
use Rattle.modinfo_imports.proofs.Plains.{skipped-turns}
use Rattle.modinfo_imports.proofs.plain.skip_space.Goals as goal
use Rattle.modinfo_imports.specs.declared.plain.Asked.TheVariants.{Nothing}
use Rattle.modinfo_imports.specs.declared.plain.Plain.{Plain}
use Rattle.modinfo_imports.specs.internal.Plains.Turns.{none}
use Rattle.modinfo_pieces.specs.Openings.{is_element}
use Rattle.modinfo_pieces.specs.declared.piece.PieceKind.TheVariants.{Space}

pub returns-then-spot-text-clause-turns : goal.returns-then-spot-text-clause-turns
returns-then-spot-text-clause-turns c is_typed watch so_far = none

pub returns-then-is_element-clause-turns : goal.returns-then-is_element-clause-turns
returns-then-is_element-clause-turns c is_typed watch so_far = none

pub returns-then-not-is_ascii_space-clause-turns : goal.returns-then-not-is_ascii_space-clause-turns
returns-then-not-is_ascii_space-clause-turns c is_typed watch so_far = none

pub returns-in_default-clause-turns : goal.returns-in_default-clause-turns
returns-in_default-clause-turns c is_typed watch so_far = none

pub returns-then-end-spot-clause-turns : goal.returns-then-end-spot-clause-turns
returns-then-end-spot-clause-turns c is_typed watch so_far = none

pub returns-clause-turns : goal.returns-clause-turns
returns-clause-turns c is_typed watch so_far =
    let plain : Plain = record {
      at = c.args.spot.at;
      before = c.args.spot.before;
      is_after_line_end = c.args.spot.is_after_line_end;
      in_element = false;
      asked = Nothing;
      kind = Space;
      start = c.args.spot.at;
      end = c.args.spot.at;
    } in
    skipped-turns c.args.text.now plain c.args.around.now c.args.spot.choices.now c.space_end-end.result
    c.before_after_gap.result c.line_end_after.result is_typed watch so_far
    (sym c.chosen.ensures ∙ c.in-None.is)
    (kind-of_space c.args.text.now plain c.args.around.now
    (sym c.is_ascii_space.ensures ∙ c.if-not-is_ascii_space.false)
    (omega (arith, c.type_inv.text c.args.spot.at))
    (ap is_element (sym c.innermost.ensures) ∙ (sym c.is_element.ensures ∙ c.if-is_element.false)))
    c.space_end-end.ensures c.if-end-spot.false c.if-end-text.false c.before_after_gap.ensures
    c.line_end_after.ensures
