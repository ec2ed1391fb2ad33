use Rattle.std.proofs.Common.{[], ◌∷◌, ◌++◌, append_assoc, append-nil, refl, sym, ap, subst, ◌∙◌}
use Rattle.std.proofs.lemmas.List.{nil_from_length}
use Rattle.modinfo_document.specs.internal.Comments.{AreAppendedOn}
use Rattle.modinfo_document.proofs.Filed.{none_on, both_on}
use Rattle.modinfo_document.proofs.comments.file_entries.Goals as goal

pub loop-entry-init : goal.loop-entry-init
loop-entry-init c = ([], refl, none_on c.args.side c.args.comments.now)

pub loop-entry-preserved : goal.loop-entry-preserved
loop-entry-preserved c =
    let kept = c.loop-entry.invariant in
    let filed = kept.0 in
    let x = c.in-Some.entry in (
      filed ++ x ∷ [],
      kept.1 ∙ ap (λ rest. filed ++ rest) c.in-Some.ensures.steps.0
          ∙ sym (append_assoc filed (x ∷ []) c.next.new.self.rest.items),
      both_on c.args.side c.args.comments.now c.loop-entry.comments c.file_entry.new.comments filed (x ∷ [])
          kept.2 c.in_ok-file_entry.ensures,
    )

pub returns : goal.returns
returns c =
    let kept = c.loop-entry.invariant in
    let rest = c.loop-entry.entry-iterator.rest in
    let none = nil_from_length rest.items (sym rest.ok.0 ∙ c.in-None.ensures.steps.0) in
    subst (AreAppendedOn c.args.side c.args.comments.now c.loop-entry.comments)
    (sym (append-nil kept.0) ∙ ap (λ r. kept.0 ++ r) (sym none) ∙ sym kept.1
    ∙ c.into_iter-entry-iterator.ensures.into_iter_gives.0 ∙ c.into_vec-entry-items.ensures)
    kept.2
