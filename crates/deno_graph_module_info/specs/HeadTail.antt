-- The comments at the head of a program and at its tail.
use Rattle.std.specs.Prelude.{ℕ, List, [], Option, Some, None, unwrap_or, slice_get, if◌then◌else◌}
use Rattle.deno_graph_source.specs.ByOffset.{value_at}
use Rattle.deno_graph_source.specs.Comments.{FiledComments, leading_at}
use Rattle.deno_graph_source.specs.Node.{range_of}
use Rattle.deno_graph_source.specs.declared.tree.comments.DependencyComment.{DependencyComment}
use Rattle.deno_graph_source.specs.declared.tree.node.Node.{Node}
use Rattle.deno_graph_source.specs.declared.tree.node.Program.{Program}

-- the comments that are filed as trailing at an offset
abbrev pub trailing_at : FiledComments → ℕ → List DependencyComment
trailing_at comments pos = unwrap_or (value_at comments.trailing pos) []

-- the comments at the tail: those that are filed as trailing at the program's end
abbrev pub tail_comments : Program → FiledComments → List DependencyComment
tail_comments program comments = trailing_at comments program.range.end

-- the comments before the first item, or those at the head of a program without items
abbrev pub comments_before_items : Option Node → Program → FiledComments → List DependencyComment
comments_before_items (Some item) program comments = leading_at comments (range_of item).start
comments_before_items None program comments =
    if program.has_shebang then tail_comments program comments
    else leading_at comments program.range.start

-- The comments at the head: those that are filed as leading at the first item. Of a program without
-- items, those that are filed as trailing at the end of a program with a shebang, and as leading at
-- the start of any other program.
abbrev pub head_comments : Program → FiledComments → List DependencyComment
head_comments program comments = comments_before_items (slice_get program.body 0) program comments
