use Rattle.std.proofs.Common.{◌≡◌, arith, Some}
use Rattle.deno_graph_json.specs.ObjectReader.{readable}
use Rattle.deno_graph_json.proofs.Reading.{goes_on}
use Rattle.modinfo_document.specs.Comments.{Sides, reads_sides}
use Rattle.modinfo_document.proofs.Filed.{both_sides}
use Rattle.modinfo_document.proofs.Results.{reading_by, some_and}
use Rattle.modinfo_document.proofs.comments.read_comments.Goals as goal

pub returns-in_err-leading : goal.returns-in_err-leading
unfolding reads_sides
returns-in_err-leading c = grind (arith, reading_by)

pub returns-in_err-trailing : goal.returns-in_err-trailing
unfolding reads_sides
returns-in_err-trailing c = grind (arith, reading_by)

pub returns : goal.returns
unfolding reads_sides
returns c =
    let ms = readable c.args.object.now in
    let leading_is = c.in_ok-leading.ensures in
    let trailing_is = c.in_ok-trailing.ensures in
    let sides : Sides = record { leading = c.in_ok-leading.leading; trailing = c.in_ok-trailing.trailing } in
    let is : reads_sides ms ≡ Some sides =
    grind (arith, goes_on, leading_is, trailing_is) in
    some_and _ _ sides is
    (both_sides c.new-comments.result c.file_entries.new.comments c.file_entries-2.new.comments
    c.in_ok-leading.leading c.in_ok-trailing.trailing
    c.new-comments.ensures.leading c.new-comments.ensures.trailing c.in_ok-file_entries.ensures
    c.in_ok-file_entries-2.ensures)
