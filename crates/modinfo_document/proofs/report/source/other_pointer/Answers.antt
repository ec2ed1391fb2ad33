use Rattle.modinfo_document.proofs.PlaceRanges.{is_some}
use Rattle.modinfo_document.proofs.report.source.other_pointer.Goals as goal

-- The source has an overlap of these two comments.
pub returns-in-Comments : goal.returns-in-Comments
returns-in-Comments c = λ contents is has fault.
    let overlap = rw c.in-Comments.is at fault in
    rw c.in-Comments.is (c.comment_pointer.ensures contents is c.args.document.now.comments has.comments
    (is_some _ _ overlap.1))
