-- The comments are those that were found.
use Rattle.std.proofs.Common.{IfOk, List, Result, Ok, Err, subst}
use Rattle.modinfo_imports.specs.Found.{HasFound}
use Rattle.modinfo_pieces.specs.declared.filed.FiledComment.{FiledComment}
use Rattle.modinfo_source.proofs.OfTexts.{HasClaims-found}
use Rattle.modinfo_source.proofs.comments.comments_of.Goals as goal
use Rattle.modinfo_source.specs.Comments.{AreFiled}
use Rattle.modinfo_source.specs.OfText.{HasClaims}

if_ok : {A E : Type 0} (r : Result A E) (P Q : A → Type 0) → IfOk r P → ((a : A) → P a → Q a) → IfOk r Q
if_ok (Ok a) P Q p f = f a p
if_ok (Err e) P Q p f = tt

pub returns-in-Ok : goal.returns-in-Ok
returns-in-Ok c =
    let text = c.args.text.now in
    let claims = c.args.claims.now in
    let marks = c.args.marks.now in
    let filed = c.in-Ok.filed.items in
    let found = subst (λ bytes. HasFound bytes c.args.is_typed c.args.choices.now claims marks c.args.body
    filed)
    c.as_bytes.ensures.value (rw c.in-Ok.is at c.in_ok-filed.ensures) in
    if_ok c.file_each.result (AreFiled text c.deref.result.now) (HasClaims text c.args.is_typed claims marks
    c.args.body)
    c.file_each.ensures
    (λ comments are. HasClaims-found text c.args.is_typed c.args.choices.now claims marks c.args.body filed
    comments found
    (subst (λ (l : List FiledComment). AreFiled text l comments) c.deref.ensures.value are))
