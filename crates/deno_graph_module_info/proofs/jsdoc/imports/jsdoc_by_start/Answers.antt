-- Each step chooses or passes one comment; the sort orders the chosen comments.
use Rattle.std.proofs.Common.{◌<◌, ◌≤◌, List, [], ◌∷◌, ◌++◌, length, take, sym, ap, ◌∙◌, subst, rules, Bor}
use Rattle.std.proofs.Common.{Vec, Global}
use Rattle.std.proofs.lemmas.Bool.{both_ways}
use Rattle.std.proofs.lemmas.List.{map-append, take_all}
use Rattle.std.proofs.lemmas.List.Sorted.{IsNonDecreasingBy-from_sort_by_key, IsPermutation-map}
use Rattle.deno_graph_module_info.specs.internal.CommentImportSteps.{AreJsDocOf}
use Rattle.deno_graph_source.specs.declared.tree.comments.DependencyComment.{DependencyComment}
use Rattle.deno_graph_module_info.proofs.Chosen.{all, item_next, AreJsDocOf-more, AreJsDocOf-permuted}
use Rattle.deno_graph_module_info.proofs.Chosen.{AreJsDocOf-skip}
use Rattle.deno_graph_module_info.proofs.jsdoc.imports.jsdoc_by_start.Goals as goal
use Rattle.deno_graph_module_info.proofs.jsdoc.imports.jsdoc_by_start.Goals.{then-is_jsdoc+in_ok-push}
use Rattle.deno_graph_module_info.proofs.jsdoc.imports.jsdoc_by_start.Goals.{else-is_jsdoc}

pub loop-comment-preserved : goal.loop-comment-preserved
loop-comment-preserved c =
    let inside : c.loop-comment.comment-index < length c.args.comments.now = search rules in
    let done = all (take c.loop-comment.comment-index c.args.comments.now) in
    let old = c.loop-comment.chosen.items in
    let item = c.comment-item.result in
    let next = item_next c.args.comments.now c.loop-comment.comment-index item inside c.comment-item.is in
    let more : AreJsDocOf (done ++ item.now ∷ []) (all c.if-is_jsdoc.chosen.items) =
    elim c.if-is_jsdoc.branch [
      | then-is_jsdoc+in_ok-push w ↦
          let items = ap all w.in_ok-push.ensures.items
          ∙ map-append (λ (c : Bor DependencyComment). c.now) old (item ∷ []) in
          subst (λ (v : Vec (Bor DependencyComment) Global). AreJsDocOf (done ++ item.now ∷ []) (all v.items))
          (sym w.chosen-is)
          (subst (AreJsDocOf (done ++ item.now ∷ [])) (sym items)
          (AreJsDocOf-more done (all old) c.loop-comment.invariant item.now
          (c.is_jsdoc.ensures.0 w.if-is_jsdoc.true)))
      | else-is_jsdoc w ↦
          subst (λ (v : Vec (Bor DependencyComment) Global). AreJsDocOf (done ++ item.now ∷ []) (all v.items))
          (sym w.chosen-is)
          (AreJsDocOf-skip done (all old) c.loop-comment.invariant item.now
          (λ is. both_ways c.is_jsdoc.result w.if-is_jsdoc.false (c.is_jsdoc.ensures.1 is)))
    ] in
    subst (λ (d : List DependencyComment). AreJsDocOf d (all c.if-is_jsdoc.chosen.items)) (sym next) more

pub returns-clause-jsdoc : goal.returns-clause-jsdoc
returns-clause-jsdoc c =
    let over : length c.args.comments.now ≤ c.loop-comment.comment-index = search rules in
    let are = subst (λ (xs : List (Bor DependencyComment)). AreJsDocOf (all xs)
    (all c.loop-comment.chosen.items))
    (take_all c.loop-comment.comment-index c.args.comments.now over) c.loop-comment.invariant in
    let sorted = c.sort_unstable_by_key.new.self.items in
    AreJsDocOf-permuted (all c.args.comments.now) (all c.loop-comment.chosen.items) are (all sorted)
    (IsPermutation-map (λ (c : Bor DependencyComment). c.now) c.loop-comment.chosen.items sorted
    c.sort_unstable_by_key.ensures.permutation)

pub returns-clause-ascending : goal.returns-clause-ascending
returns-clause-ascending c =
    IsNonDecreasingBy-from_sort_by_key
    (λ (c : Bor DependencyComment). c.now.range.start) _ c.sort_unstable_by_key.ensures.sorted
    (λ a r q k. search rules)
