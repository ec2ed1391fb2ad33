use Rattle.std.proofs.Common.{◌∙◌, ◌++◌, ◌∷◌, ◌&&◌, [], refl, true, sym, ap, subst, append-nil}
use Rattle.std.proofs.KnownBytes.{Appends-nil, Appends-trans}
use Rattle.modinfo.specs.Files.{PrintsFile}
use Rattle.modinfo.specs.Lines.{PrintsEach}
use Rattle.modinfo.specs.Lines.PrintsEach.{none}
use Rattle.modinfo.specs.declared.fault.Fault.TheVariants.{OutOfMemory}
use Rattle.modinfo.proofs.FilesPrinted.{text_of}
use Rattle.modinfo.proofs.LinesTaken.{AppendsFront-more, AppendsFront-sent, Appends-same, PrintsEach-next}
use Rattle.modinfo.proofs.LinesTaken.{PrintsEach-written, Takes-all, Takes-first, Takes-more, Takes-nil}
use Rattle.modinfo.proofs.LinesTaken.{Takes-same, exits}
use Rattle.modinfo.proofs.files.print_listed.Goals as goal

pub returns-in_err-input : goal.returns-in_err-input
returns-in_err-input g c =
    exits _ _ _ c.in_err-input.field-0.0 c.from_residual.ensures.1 (
      [],
      Takes-first c.args.end _ _ [] (Takes-nil c.args.end (g.I.Read.remaining c.args.input)),
      (true, [], none, (0, Appends-nil _)),
    )

pub names-init : goal.names-init
names-init g c = (
  [],
  [],
  Takes-nil c.args.end _,
  subst (PrintsEach (PrintsFile (text_of c.args.folder)) [] true) (sym c.new-waiting.ensures.items) none,
  Appends-nil _,
)

-- A write failed, before the next name was read.
pub returns-in_err-write_waiting : goal.returns-in_err-write_waiting
returns-in_err-write_waiting g c =
    let (done, sent, taken, prints, appended) = c.names.invariant in
    let (is_fault, front) = c.in_err-write_waiting.ensures in
    exits _ _ _ c.in_err-write_waiting.field-0.0 c.from_residual-in_err-write_waiting.ensures.1 (
      done,
      Takes-first c.args.end _ _ done (Takes-same c.args.end _ _ _ done c.in_ok-input.ensures taken),
      (
        c.names.is_whole,
        sent ++ c.names.waiting.items,
        prints,
        AppendsFront-more _ _ _ sent c.names.waiting.items appended front,
      ),
    )

-- A write failed after the last name.
pub returns-in_err-write_waiting-in-Ok-None : goal.returns-in_err-write_waiting-in-Ok-None
returns-in_err-write_waiting-in-Ok-None g c =
    let (done, sent, taken, prints, appended) = c.names.invariant in
    let (written, split, wrote, empty) = c.in_ok-write_waiting.ensures in
    let (same, at_end) = rw c.in-Ok-None.field-0-is at c.in-Ok-None.ensures in
    let (is_fault, front) = c.in_err-write_waiting-in-Ok-None.ensures in
    let new = c.put_next.new.waiting.items in
    exits _ _ _ c.in_err-write_waiting-in-Ok-None.field-0.0
    c.from_residual-in_err-write_waiting-in-Ok-None.ensures.1 (
      done,
      Takes-first c.args.end _ _ done (Takes-same c.args.end _ _ _ done c.in_ok-input.ensures taken),
      (
        c.names.is_whole,
        (sent ++ written) ++ new,
        PrintsEach-written (PrintsFile (text_of c.args.folder)) done c.names.is_whole sent
            c.names.waiting.items written new prints (split ∙ ap (λ l. written ++ l) (sym same)),
        AppendsFront-more _ _ _ (sent ++ written) new (Appends-trans _ _ _ sent written appended wrote) front,
      ),
    )

-- All names were read, and all lines were written.
pub returns-in-Ok-None : goal.returns-in-Ok-None
returns-in-Ok-None g c =
    let (done, sent, taken, prints, appended) = c.names.invariant in
    let (written, split, wrote, empty) = c.in_ok-write_waiting.ensures in
    let (same, at_end) = rw c.in-Ok-None.field-0-is at c.in-Ok-None.ensures in
    let (last, split', wrote', empty') = c.in_ok-write_waiting-in-Ok-None.ensures in
    let new = c.put_next.new.waiting.items in (
      done,
      Takes-all c.args.end _ _ done (Takes-same c.args.end _ _ _ done c.in_ok-input.ensures taken) at_end,
      (
        (sent ++ written) ++ new,
        PrintsEach-written (PrintsFile (text_of c.args.folder)) done c.names.is_whole sent
            c.names.waiting.items written new prints (split ∙ ap (λ l. written ++ l) (sym same)),
        Appends-same _ _ ((sent ++ written) ++ last) ((sent ++ written) ++ new)
            (ap (λ l. (sent ++ written) ++ l) (sym (split' ∙ ap (λ l. last ++ l) (empty' refl)
            ∙ append-nil last)))
            (Appends-trans _ _ _ (sent ++ written) last
            (Appends-trans _ _ _ sent written appended wrote) wrote'),
      ),
    )

-- A fault of the run, and a failed write of the lines before it.
pub returns-in_err-write_waiting-in-Err : goal.returns-in_err-write_waiting-in-Err
returns-in_err-write_waiting-in-Err g c =
    let (done, sent, taken, prints, appended) = c.names.invariant in
    let (written, split, wrote, empty) = c.in_ok-write_waiting.ensures in
    let (is_fault, front) = c.in_err-write_waiting-in-Err.ensures in
    let new = c.put_next.new.waiting.items in
    exits _ _ _ c.in_err-write_waiting-in-Err.field-0.0
    c.from_residual-in_err-write_waiting-in-Err.ensures.1 (
      done,
      Takes-first c.args.end _ _ done (Takes-same c.args.end _ _ _ done c.in_ok-input.ensures taken),
      (
        c.names.is_whole,
        (sent ++ written) ++ new,
        PrintsEach-written (PrintsFile (text_of c.args.folder)) done c.names.is_whole sent
            c.names.waiting.items written new prints
            (split ∙ ap (λ l. written ++ l) (sym c.in-Err.ensures)),
        AppendsFront-more _ _ _ (sent ++ written) new (Appends-trans _ _ _ sent written appended wrote) front,
      ),
    )

-- A fault of the run, and the lines before it were written.
pub returns-in-Err : goal.returns-in-Err
returns-in-Err g c =
    let (done, sent, taken, prints, appended) = c.names.invariant in
    let (written, split, wrote, empty) = c.in_ok-write_waiting.ensures in
    let (last, split', wrote', empty') = c.in_ok-write_waiting-in-Err.ensures in
    let left = c.write_waiting-in-Err.new.waiting.items in (
      done,
      Takes-first c.args.end _ _ done (Takes-same c.args.end _ _ _ done c.in_ok-input.ensures taken),
      (
        c.names.is_whole,
        ((sent ++ written) ++ last) ++ left,
        PrintsEach-written (PrintsFile (text_of c.args.folder)) done c.names.is_whole (sent ++ written)
            c.write_waiting.new.waiting.items last left
            (PrintsEach-written (PrintsFile (text_of c.args.folder)) done c.names.is_whole sent
            c.names.waiting.items written c.write_waiting.new.waiting.items prints split)
            (sym c.in-Err.ensures ∙ split'),
        AppendsFront-sent _ _ ((sent ++ written) ++ last) left
            (Appends-trans _ _ _ (sent ++ written) last
            (Appends-trans _ _ _ sent written appended wrote) wrote'),
      ),
    )

-- One more name was read, and its line is waiting.
pub names-preserved : goal.names-preserved
names-preserved g c =
    let (done, sent, taken, prints, appended) = c.names.invariant in
    let (written, split, wrote, empty) = c.in_ok-write_waiting.ensures in
    let (name, printed, next, one, put) = rw c.in-Ok-Some.field-0-is at c.in-Ok-Some.ensures in (
      done ++ name ∷ [],
      sent ++ written,
      Takes-more c.args.end _ _ _ done name taken next,
      PrintsEach-next (PrintsFile (text_of c.args.folder)) done name c.names.is_whole c.in-Ok-Some.has_info
          sent c.names.waiting.items written c.write_waiting.new.waiting.items printed
          c.put_next.new.waiting.items prints split one put,
      Appends-trans _ _ _ sent written appended wrote,
    )

-- There are more names than numbers.
pub returns : goal.returns
returns g c =
    let (done, sent, taken, prints, appended) = c.names.invariant in (
      done,
      Takes-first c.args.end _ _ done (Takes-same c.args.end _ _ _ done c.in_ok-input.ensures taken),
      (
        c.names.is_whole,
        sent ++ c.names.waiting.items,
        prints,
        AppendsFront-sent _ _ sent c.names.waiting.items appended,
      ),
    )
