use Rattle.std.proofs.Common.{◌≡◌, arith, Some, refl}
use Rattle.deno_graph_json.specs.ObjectReader.{readable}
use Rattle.modinfo_document.specs.Comments.{AreThoseOf, reads_sides}
use Rattle.modinfo_document.specs.internal.Document.{reads_tree}
use Rattle.deno_graph_json.proofs.Reading.{goes_on}
use Rattle.modinfo_document.proofs.Results.{reading_by, some_and, some_with}
use Rattle.modinfo_document.proofs.document.read_tree.Goals as goal

pub returns-in_err-comments : goal.returns-in_err-comments
unfolding reads_tree
returns-in_err-comments c = grind (arith, reading_by)

pub returns-in_err-program : goal.returns-in_err-program
unfolding reads_tree
returns-in_err-program c =
    let sides = some_with (λ sides. AreThoseOf sides c.in_ok-comments.comments)
    (reads_sides (readable c.args.object.now)) c.in_ok-comments.ensures in
    let is = sides.1 in
    grind (arith, reading_by, is)

pub returns : goal.returns
unfolding reads_tree
returns c =
    let sides = some_with (λ sides. AreThoseOf sides c.in_ok-comments.comments)
    (reads_sides (readable c.args.object.now)) c.in_ok-comments.ensures in
    let sides_is = sides.1 in
    let is : reads_tree (readable c.args.object.now) ≡ Some (sides.0, c.in_ok-program.program) = grind
    (arith, goes_on, sides_is) in
    some_and _ _ (sides.0, c.in_ok-program.program) is (sides.2, refl)
