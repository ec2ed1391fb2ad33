use Rattle.std.proofs.Common.{[], ◌∷◌, ◌++◌, append_assoc, append-nil, refl, sym, ap, subst, ◌∙◌}
use Rattle.std.proofs.lemmas.List.{nil_from_length}
use Rattle.modinfo_document.specs.Comments.{entry_with}
use Rattle.modinfo_document.specs.internal.Comments.{AreAppendedOn}
use Rattle.modinfo_document.proofs.Filed.{empty_on, more_on}
use Rattle.modinfo_document.proofs.comments.file_entry.Goals as goal

pub loop-comment-init : goal.loop-comment-init
loop-comment-init c = ([], refl, empty_on c.args.side c.args.comments.now c.args.entry.position)

pub loop-comment-preserved : goal.loop-comment-preserved
loop-comment-preserved c =
    let kept = c.loop-comment.invariant in
    let filed = kept.0 in
    let x = c.in-Some.comment in (
      filed ++ x ∷ [],
      kept.1 ∙ ap (λ rest. filed ++ rest) c.in-Some.ensures.steps.0
          ∙ sym (append_assoc filed (x ∷ []) c.next.new.self.rest.items),
      more_on c.args.side c.args.comments.now c.loop-comment.comments c.add.new.comments c.args.entry.position
          filed x kept.2 c.in_ok-add.ensures,
    )

pub returns : goal.returns
returns c =
    let kept = c.loop-comment.invariant in
    let rest = c.loop-comment.comment-iterator.rest in
    let none = nil_from_length rest.items (sym rest.ok.0 ∙ c.in-None.ensures.steps.0) in
    subst (λ filed. AreAppendedOn c.args.side c.args.comments.now c.loop-comment.comments
    (entry_with c.args.entry.position filed ∷ []))
    (sym (append-nil kept.0) ∙ ap (λ r. kept.0 ++ r) (sym none) ∙ sym kept.1
    ∙ c.into_iter-comment-iterator.ensures.into_iter_gives.0 ∙ c.into_vec-comment-items.ensures)
    kept.2
