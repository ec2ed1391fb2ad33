use Rattle.std.proofs.Common.{◌≡◌, ◌∙◌, ◌++◌, ◌∷◌, ◌&&◌, ◌+◌, [], true, ap, sym, subst, refl, append-nil}
use Rattle.std.proofs.Common.{take, drop}
use Rattle.std.proofs.KnownBytes.{Appends-nil, Appends-trans}
use Rattle.modinfo.specs.Files.{PrintsFile}
use Rattle.modinfo.specs.Lines.{PrintsEach}
use Rattle.modinfo.specs.Lines.PrintsEach.{none}
use Rattle.modinfo.proofs.FilesPrinted.{names_all, names_next, names_split, text_of, texts_of}
use Rattle.modinfo.proofs.LinesTaken.{AppendsFront-more, AppendsFront-sent, Appends-same, PrintsEach-put}
use Rattle.modinfo.proofs.LinesTaken.{PrintsEach-written, exits}
use Rattle.modinfo.proofs.files.print_named.Goals as goal

pub loop-name-init : goal.loop-name-init
loop-name-init g c = (
  [],
  subst (PrintsEach (PrintsFile (text_of c.args.folder)) [] true) (sym c.new-waiting.ensures.items) none,
  Appends-nil _,
)

-- A fault of the run, and a failed write of the lines before it.
pub returns-in_err-write_waiting-in-Err : goal.returns-in_err-write_waiting-in-Err
returns-in_err-write_waiting-in-Err g c =
    let (sent, prints, appended) = c.loop-name.invariant in
    let (is_fault, front) = c.in_err-write_waiting-in-Err.ensures in
    let names = c.args.names.now in
    let n = c.loop-name.name-index in
    let first = texts_of (take n names) in
    exits _ _ _ c.in_err-write_waiting-in-Err.field-0.0 c.from_residual.ensures.1 (
      first,
      texts_of (drop n names),
      names_split names n,
      (
        c.loop-name.is_whole,
        sent ++ c.put_file.new.waiting.items,
        subst (λ l. PrintsEach (PrintsFile (text_of c.args.folder)) first c.loop-name.is_whole (sent ++ l))
            (sym c.in-Err.ensures) prints,
        AppendsFront-more _ _ _ sent c.put_file.new.waiting.items appended front,
      ),
    )

-- A fault of the run, and the lines before it were written.
pub returns-in-Err : goal.returns-in-Err
returns-in-Err g c =
    let (sent, prints, appended) = c.loop-name.invariant in
    let (written, split, wrote, empty) = c.in_ok-write_waiting-in-Err.ensures in
    let names = c.args.names.now in
    let n = c.loop-name.name-index in
    let left = c.write_waiting.new.waiting.items in (
      texts_of (take n names),
      texts_of (drop n names),
      names_split names n,
      (
        c.loop-name.is_whole,
        (sent ++ written) ++ left,
        PrintsEach-written (PrintsFile (text_of c.args.folder)) (texts_of (take n names)) c.loop-name.is_whole
            sent c.loop-name.waiting.items written left prints (sym c.in-Err.ensures ∙ split),
        AppendsFront-sent _ _ (sent ++ written) left (Appends-trans _ _ _ sent written appended wrote),
      ),
    )

-- A failed write.
pub returns-in_err-write_waiting : goal.returns-in_err-write_waiting
returns-in_err-write_waiting g c =
    let (sent, prints, appended) = c.loop-name.invariant in
    let (printed, one, put) = c.in-Ok.ensures in
    let (is_fault, front) = c.in_err-write_waiting.ensures in
    let names = c.args.names.now in
    let n = c.loop-name.name-index in
    let P = PrintsFile (text_of c.args.folder) in
    let passes = c.loop-name.is_whole && c.in-Ok.has_info in
    let text = sent ++ c.put_file.new.waiting.items in
    exits _ _ _ c.in_err-write_waiting.field-0.0 c.from_residual-in_err-write_waiting.ensures.1 (
      texts_of (take (n + 1) names),
      texts_of (drop (n + 1) names),
      names_split names (n + 1),
      (
        passes,
        text,
        subst (λ l. PrintsEach P l passes text) (sym (names_next names n _ c.loop-name-test.true))
            (PrintsEach-put P (texts_of (take n names)) _ c.loop-name.is_whole c.in-Ok.has_info sent
            c.loop-name.waiting.items printed c.put_file.new.waiting.items prints
            (subst (λ name. P name c.in-Ok.has_info printed) c.as_bytes.ensures.value one) put),
        AppendsFront-more _ _ _ sent c.put_file.new.waiting.items appended front,
      ),
    )

pub loop-name-preserved : goal.loop-name-preserved
loop-name-preserved g c =
    let (sent, prints, appended) = c.loop-name.invariant in
    let (printed, one, put) = c.in-Ok.ensures in
    let (written, split, wrote, empty) = c.in_ok-write_waiting.ensures in
    let names = c.args.names.now in
    let n = c.loop-name.name-index in
    let P = PrintsFile (text_of c.args.folder) in
    let passes = c.loop-name.is_whole && c.in-Ok.has_info in
    let left = c.write_waiting-in-loop-name.new.waiting.items in (
      sent ++ written,
      PrintsEach-written P (texts_of (take (n + 1) names)) passes sent c.put_file.new.waiting.items written
          left
          (subst (λ l. PrintsEach P l passes (sent ++ c.put_file.new.waiting.items))
          (sym (names_next names n _ c.loop-name-test.true))
          (PrintsEach-put P (texts_of (take n names)) _ c.loop-name.is_whole c.in-Ok.has_info sent
          c.loop-name.waiting.items printed c.put_file.new.waiting.items prints
          (subst (λ name. P name c.in-Ok.has_info printed) c.as_bytes.ensures.value one) put))
          split,
      Appends-trans _ _ _ sent written appended wrote,
    )

-- A failed write of the last lines.
pub returns-in_err-write_waiting-2 : goal.returns-in_err-write_waiting-2
returns-in_err-write_waiting-2 g c =
    let (sent, prints, appended) = c.loop-name.invariant in
    let (is_fault, front) = c.in_err-write_waiting-2.ensures in
    let names = c.args.names.now in
    let n = c.loop-name.name-index in
    exits _ _ _ c.in_err-write_waiting-2.field-0.0 c.from_residual-in_err-write_waiting-2.ensures.1 (
      texts_of (take n names),
      texts_of (drop n names),
      names_split names n,
      (
        c.loop-name.is_whole,
        sent ++ c.loop-name.waiting.items,
        prints,
        AppendsFront-more _ _ _ sent c.loop-name.waiting.items appended front,
      ),
    )

-- All lines were written.
pub returns : goal.returns
returns g c =
    let (sent, prints, appended) = c.loop-name.invariant in
    let (written, split, wrote, empty) = c.in_ok-write_waiting-2.ensures in
    let names = c.args.names.now in
    let all : c.loop-name.waiting.items ≡ written =
    split ∙ ap (λ l. written ++ l) (empty refl) ∙ append-nil written in (
      sent ++ written,
      subst (λ l. PrintsEach (PrintsFile (text_of c.args.folder)) l c.loop-name.is_whole (sent ++ written))
          (names_all names c.loop-name.name-index c.loop-name-test.false)
          (subst (λ l. PrintsEach (PrintsFile (text_of c.args.folder))
          (texts_of (take c.loop-name.name-index names)) c.loop-name.is_whole (sent ++ l)) all prints),
      Appends-trans _ _ _ sent written appended wrote,
    )
