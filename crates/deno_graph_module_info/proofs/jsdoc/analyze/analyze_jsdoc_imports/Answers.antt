-- The list of comments has exactly the filed comments, in another order.
use Rattle.std.proofs.Common.{◌≡◌, map, true}
use Rattle.std.specs.List.Sorted.{IsPermutation}
use Rattle.std.proofs.lemmas.List.Sorted.{All-permutation, IsPermutation-sym}
use Rattle.deno_graph_module_info.specs.CommentImports.{reads_jsdoc}
use Rattle.deno_graph_source.specs.Comments.{comments_of}
use Rattle.deno_graph_source.specs.Source.{IsSpelled}
use Rattle.deno_graph_module_info.proofs.JsDocComments.{apart_in_any_order, list_in_any_order}
use Rattle.deno_graph_module_info.proofs.jsdoc.analyze.analyze_jsdoc_imports.Goals as goal

pub infos_of-requires-clause-spelled : goal.infos_of-requires-clause-spelled
infos_of-requires-clause-spelled c =
    rw c.as_slice.ensures.value
    (All-permutation (IsSpelled c.args.text_info.now) _ _ c.in_ok-all.ensures c.requires.spelled)

pub infos_of-requires-clause-apart : goal.infos_of-requires-clause-apart
infos_of-requires-clause-apart c =
    rw c.as_slice.ensures.value (apart_in_any_order _ _ c.in_ok-all.ensures c.requires.apart)

pub returns-clause-list : goal.returns-clause-list
returns-clause-list c =
    let filed = comments_of c.args.comments.now in
    let given = map (λ comment. comment.now) c.as_slice.result.now in
    let same : IsPermutation filed given = rw c.as_slice.ensures.value c.in_ok-all.ensures in
    let read : reads_jsdoc c.args.media_type ≡ true = cc in
    rw (read, c.from_vec.ensures)
    (list_in_any_order true c.args.text_info.now given filed _ (IsPermutation-sym filed given same)
    c.in_ok-infos.ensures.list)

pub returns-clause-covers : goal.returns-clause-covers
returns-clause-covers c = rw c.from_vec.ensures c.in_ok-infos.ensures.covers
