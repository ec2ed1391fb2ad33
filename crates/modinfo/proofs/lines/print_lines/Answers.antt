use Rattle.std.proofs.Common.{◌++◌, ◌&&◌, [], ◌∷◌, true, ap, append_assoc, refl, rules, subst, sym, ◌∙◌}
use Rattle.modinfo.specs.Lines.{PrintsLine, PrintsLines, lines_of}
use Rattle.modinfo.specs.Lines.PrintsEach.{none}
use Rattle.modinfo.proofs.LinesTaken.{PrintsEach-more}
use Rattle.modinfo.proofs.lines.print_lines.Goals as goal

pub lines-init : goal.lines-init
lines-init c = (
  [],
  true,
  refl,
  subst (PrintsLines c.args.command [] true) (sym c.new-printed.ensures.items) none,
)

-- The first line of the rest was printed.
pub lines-preserved : goal.lines-preserved
lines-preserved c =
    let (done, passes, split, prints) = c.lines.invariant in
    let (text, one, put) = c.in_ok-print_line.ensures in
    let line = c.split_line.result.0.now in
    let next = c.in_ok-print_line.field-0 in (
      done ++ line ∷ [],
      passes && next,
      split ∙ ap (λ l. done ++ l) (c.split_line.ensures.lines (search rules))
          ∙ sym (append_assoc done (line ∷ []) (lines_of c.split_line.result.1.now)),
      subst (PrintsLines c.args.command (done ++ line ∷ []) (passes && next)) (sym put)
          (PrintsEach-more (PrintsLine c.args.command) done line passes next c.lines.printed.items text
          prints one),
    )
