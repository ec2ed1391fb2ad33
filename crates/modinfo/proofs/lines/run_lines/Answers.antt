use Rattle.std.proofs.Common.{◌++◌, [], ◌∷◌, refl, true, sym, ap, subst, ◌∙◌, append-nil}
use Rattle.std.proofs.KnownBytes.{Appends-nil, Appends-trans}
use Rattle.modinfo.specs.Lines.{PrintsLine, PrintsLines}
use Rattle.modinfo.specs.Lines.PrintsEach.{none}
use Rattle.modinfo.specs.Run.{IsFailure}
use Rattle.modinfo.specs.declared.fault.Fault.TheVariants.{Input, OutOfMemory}
use Rattle.modinfo.proofs.Faults.{write_failure}
use Rattle.modinfo.proofs.LinesTaken.{AppendsFront-more, AppendsFront-sent, LeavesFirstLines-at}
use Rattle.modinfo.proofs.LinesTaken.{LeavesFirstLines-none, Appends-same, PrintsEach-next}
use Rattle.modinfo.proofs.LinesTaken.{PrintsEach-written, Takes-all, Takes-more, Takes-nil, Takes-same, exits}
use Rattle.modinfo.proofs.lines.run_lines.Goals as goal

pub returns-in_err-input : goal.returns-in_err-input
returns-in_err-input g c =
    exits _ _ _ c.in_err-input.field-0.0 c.from_residual.ensures.1
    (LeavesFirstLines-none c.args.command _ _ c.in_err-input.field-0.0 (subst IsFailure
    (sym c.in_err-input.ensures) tt))

pub returns-in_err-waiting : goal.returns-in_err-waiting
returns-in_err-waiting g c =
    exits _ _ _ OutOfMemory c.from_residual-in_err-waiting.ensures.1
    (LeavesFirstLines-none c.args.command _ _ OutOfMemory tt)

pub lines-init : goal.lines-init
lines-init g c = (
  [],
  [],
  Takes-nil 10 _,
  subst (PrintsLines c.args.command [] true) (sym c.in_ok-waiting.ensures.items) none,
  Appends-nil _,
)

-- A write failed, before the next line was read.
pub returns-in_err-write_waiting : goal.returns-in_err-write_waiting
returns-in_err-write_waiting g c =
    let (done, sent, taken, prints, appended) = c.lines.invariant in
    let (is_fault, front) = c.in_err-write_waiting.ensures in
    exits _ _ _ c.in_err-write_waiting.field-0.0 c.from_residual-in_err-write_waiting.ensures.1
    (LeavesFirstLines-at c.args.command _ _ _ _ done c.lines.is_passed (sent ++ c.lines.waiting.items)
    c.in_err-write_waiting.field-0.0 (write_failure _ is_fault)
    (Takes-same 10 _ _ _ done c.in_ok-input.ensures taken) prints
    (AppendsFront-more _ _ _ sent c.lines.waiting.items appended front))

-- The next line couldn't be read or printed.
pub returns-in_err-passes : goal.returns-in_err-passes
returns-in_err-passes g c =
    let (done, sent, taken, prints, appended) = c.lines.invariant in
    let (written, split, wrote, empty) = c.in_ok-write_waiting.ensures in
    let left = c.write_waiting.new.waiting.items in
    exits _ _ _ c.in_err-passes.field-0.0 c.from_residual-in_err-passes.ensures.1
    (LeavesFirstLines-at c.args.command _ _ _ _ done c.lines.is_passed ((sent ++ written) ++ left)
    c.in_err-passes.field-0.0 c.in_err-passes.ensures
    (Takes-same 10 _ _ _ done c.in_ok-input.ensures taken)
    (PrintsEach-written (PrintsLine c.args.command) done c.lines.is_passed sent c.lines.waiting.items written
    left prints
    split)
    (AppendsFront-sent _ _ (sent ++ written) left (Appends-trans _ _ _ sent written appended wrote)))

-- A write failed after the last line.
pub returns-in_err-write_waiting-in-None : goal.returns-in_err-write_waiting-in-None
returns-in_err-write_waiting-in-None g c =
    let (done, sent, taken, prints, appended) = c.lines.invariant in
    let (written, split, wrote, empty) = c.in_ok-write_waiting.ensures in
    let (same, end) = rw c.in-None.is at c.in_ok-passes.ensures in
    let (is_fault, front) = c.in_err-write_waiting-in-None.ensures in
    let new = c.run_next.new.waiting.items in
    exits _ _ _ c.in_err-write_waiting-in-None.field-0.0
    c.from_residual-in_err-write_waiting-in-None.ensures.1
    (LeavesFirstLines-at c.args.command _ _ _ _ done c.lines.is_passed ((sent ++ written) ++ new)
    c.in_err-write_waiting-in-None.field-0.0 (write_failure _ is_fault)
    (Takes-same 10 _ _ _ done c.in_ok-input.ensures taken)
    (PrintsEach-written (PrintsLine c.args.command) done c.lines.is_passed sent c.lines.waiting.items written
    new prints
    (split ∙ ap (λ l. written ++ l) (sym same)))
    (AppendsFront-more _ _ _ (sent ++ written) new (Appends-trans _ _ _ sent written appended wrote) front))

-- All lines were read, and all printed lines were written.
pub returns-in-None : goal.returns-in-None
returns-in-None g c =
    let (done, sent, taken, prints, appended) = c.lines.invariant in
    let (written, split, wrote, empty) = c.in_ok-write_waiting.ensures in
    let (same, end) = rw c.in-None.is at c.in_ok-passes.ensures in
    let (last, split', wrote', empty') = c.in_ok-write_waiting-in-None.ensures in
    let new = c.run_next.new.waiting.items in (
      done,
      Takes-all 10 _ _ done (Takes-same 10 _ _ _ done c.in_ok-input.ensures taken) end,
      (sent ++ written) ++ new,
      PrintsEach-written (PrintsLine c.args.command) done c.lines.is_passed sent c.lines.waiting.items
          written new prints
          (split ∙ ap (λ l. written ++ l) (sym same)),
      Appends-same _ _ ((sent ++ written) ++ last) ((sent ++ written) ++ new)
          (ap (λ l. (sent ++ written) ++ l) (sym (split' ∙ ap (λ l. last ++ l) (empty' refl)
          ∙ append-nil last)))
          (Appends-trans _ _ _ (sent ++ written) last
          (Appends-trans _ _ _ sent written appended wrote) wrote'),
    )

-- One more line was read, and the printed line is waiting.
pub lines-preserved : goal.lines-preserved
lines-preserved g c =
    let (done, sent, taken, prints, appended) = c.lines.invariant in
    let (written, split, wrote, empty) = c.in_ok-write_waiting.ensures in
    let (line, printed, next, one, put) = rw c.in-Some.is at c.in_ok-passes.ensures in (
      done ++ line ∷ [],
      sent ++ written,
      Takes-more 10 _ _ _ done line taken next,
      PrintsEach-next (PrintsLine c.args.command) done line c.lines.is_passed c.in-Some.passes sent
          c.lines.waiting.items
          written
          c.write_waiting.new.waiting.items printed c.run_next.new.waiting.items prints split one put,
      Appends-trans _ _ _ sent written appended wrote,
    )

pub returns : goal.returns
returns g c =
    let (done, sent, taken, prints, appended) = c.lines.invariant in
    LeavesFirstLines-at c.args.command _ _ _ _ done c.lines.is_passed (sent ++ c.lines.waiting.items) Input tt
    (Takes-same 10 _ _ _ done c.in_ok-input.ensures taken) prints
    (AppendsFront-sent _ _ sent c.lines.waiting.items appended)
