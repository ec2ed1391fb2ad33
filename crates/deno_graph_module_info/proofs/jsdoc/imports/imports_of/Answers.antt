-- Each step adds the imports in one JSDoc comment.
use Rattle.std.proofs.Common.{◌≡◌, ◌+◌, ◌<◌, ◌≤◌, ℕ, List, length, take, map, get_or, sym, subst, arith}
use Rattle.std.proofs.Common.{rules, Bor, Vec, Global}
use Rattle.std.proofs.lemmas.List.{take_all}
use Rattle.std.proofs.lemmas.List.Elements.{All-contains, Contains-get_or}
use Rattle.std.specs.List.{Contains}
use Rattle.std.specs.List.Sorted.{IsNonDecreasingBy}
use Rattle.deno_graph_jsdoc.specs.JsDocImport.{import_of}
use Rattle.deno_graph_jsdoc.specs.declared.import.JsDocImport.{JsDocImport}
use Rattle.deno_graph_module_info.specs.CommentImports.{IsJsDoc}
use Rattle.deno_graph_module_info.specs.internal.CommentImportSteps.{AreJsDocOf}
use Rattle.deno_graph_module_info.proofs.Chosen.{all, item_in}
use Rattle.deno_graph_module_info.proofs.Gathered.{Gathered, Gathered-jsdoc, Gathered-imports}
use Rattle.deno_graph_module_info.proofs.Gathered.{Gathered-quoted}
use Rattle.deno_graph_module_info.proofs.ImportRanges.{comment_size}
use Rattle.deno_graph_module_info.proofs.ReadComments.{AreRead, AreRead-again, AreRead-more, AreRead-start}
use Rattle.deno_graph_source.specs.Source.{IsSpelled}
use Rattle.deno_graph_source.specs.declared.tree.comments.DependencyComment.{DependencyComment}
use Rattle.deno_graph_module_info.proofs.jsdoc.imports.imports_of.Goals as goal
use Rattle.deno_graph_module_info.proofs.jsdoc.imports.imports_of.Goals.{After-deref-comment-items}
use Rattle.deno_graph_module_info.proofs.jsdoc.imports.imports_of.Goals.{then-comment-end+in_ok-add_imports}
use Rattle.deno_graph_module_info.proofs.jsdoc.imports.imports_of.Goals.{else-comment-end}

-- the chosen comments
are : (c : After-deref-comment-items)
    → AreJsDocOf (all c.args.comments.now) (all c.deref-comment-items.result.now)
are c =
    subst (λ (xs : List (Bor DependencyComment)). AreJsDocOf (all c.args.comments.now) (all xs))
    (sym c.deref-comment-items.ensures.value)
    c.in_ok-jsdoc_by_start.ensures.jsdoc

chosen : (comments : List DependencyComment) (items : List (Bor DependencyComment))
    → AreJsDocOf comments (all items) → (k : ℕ) (item : Bor DependencyComment)
    → k < length items → item ≡ get_or items k item → Contains comments item.now × IsJsDoc item.now
chosen comments items are k item inside is = (are item.now).0 (item_in items k item inside is)

pub add_imports-requires-clause-fits : goal.add_imports-requires-clause-fits
add_imports-requires-clause-fits c =
    let inside : c.loop-comment.comment-index < length c.deref-comment-items.result.now = search rules in
    let item = c.comment-item.result in
    let both = chosen (all c.args.comments.now) c.deref-comment-items.result.now
    (are (goal.at.add_imports-requires-clause-fits c).After-deref-comment-items)
    c.loop-comment.comment-index item inside c.comment-item.is in
    let spelled = c.requires.spelled in
    let size = comment_size spelled.0 item.now
    (All-contains (IsSpelled spelled.0) (all c.args.comments.now) item.now spelled.1 both.0) (both.1).0 in
    omega (arith, size.0, size.1)

sorted : (c : After-deref-comment-items)
    → IsNonDecreasingBy (λ (b : Bor DependencyComment). b.now.range.start) c.deref-comment-items.result.now
sorted c =
    subst (IsNonDecreasingBy (λ (b : Bor DependencyComment). b.now.range.start))
    (sym c.deref-comment-items.ensures.value) c.in_ok-jsdoc_by_start.ensures.ascending

pub loop-comment-init : goal.loop-comment-init
loop-comment-init c =
    subst (λ (is : List JsDocImport). AreRead (all c.args.comments.now) c.deref-comment-items.result.now 0
    (map import_of is) 0) (sym c.new-imports.ensures.items)
    (AreRead-start (all c.args.comments.now) c.deref-comment-items.result.now)

pub add_imports-requires-clause-before : goal.add_imports-requires-clause-before
add_imports-requires-clause-before c = λ k d inside.
    let first = c.loop-comment.invariant.below (get_or (map import_of c.loop-comment.imports.items) k d)
    (Contains-get_or (map import_of c.loop-comment.imports.items) k d inside) in
    let order : c.loop-comment.end ≤ c.comment-item.result.now.range.start = search rules in
    omega (arith, first, order)

pub loop-comment-preserved : goal.loop-comment-preserved
loop-comment-preserved c =
    let here = (goal.at.loop-comment-preserved c).After-deref-comment-items in
    let inside : c.loop-comment.comment-index < length c.deref-comment-items.result.now = search rules in
    let comments = all c.args.comments.now in
    let items = c.deref-comment-items.result.now in
    let k = c.loop-comment.comment-index in
    let item = c.comment-item.result in
    elim c.if-comment-end.branch [
      | then-comment-end+in_ok-add_imports w ↦
          let order : c.loop-comment.end ≤ item.now.range.start = search rules in
          subst (λ (v : Vec JsDocImport Global). AreRead comments items (k + 1) (map import_of v.items)
          c.if-comment-end.end) (sym w.imports-is)
          (subst (AreRead comments items (k + 1) (map import_of w.add_imports.new.imports.items))
          (sym w.end-is)
          (AreRead-more c.requires.spelled.0 comments c.requires.spelled.1 c.requires.apart items (are here)
          (sorted here) k item inside c.comment-item.is (map import_of c.loop-comment.imports.items)
          (map import_of w.add_imports.new.imports.items) c.loop-comment.end order
          w.in_ok-add_imports.ensures.utf8 w.in_ok-add_imports.ensures.gains c.loop-comment.invariant))
      | else-comment-end w ↦
          let order : item.now.range.start < c.loop-comment.end = search rules in
          subst (λ (v : Vec JsDocImport Global). AreRead comments items (k + 1) (map import_of v.items)
          c.if-comment-end.end) (sym w.imports-is)
          (subst (AreRead comments items (k + 1) (map import_of c.loop-comment.imports.items)) (sym w.end-is)
          (AreRead-again c.requires.spelled.0 comments c.requires.spelled.1 c.requires.apart items (are here)
          (sorted here) k item inside c.comment-item.is (map import_of c.loop-comment.imports.items)
          c.loop-comment.end order c.loop-comment.invariant))
    ]

pub returns-clause-all : goal.returns-clause-all
returns-clause-all c =
    let items = c.deref-comment-items.result.now in
    let over : length items ≤ c.loop-comment.comment-index = search rules in
    let are_all = are (goal.at.returns-clause-all c).After-deref-comment-items in
    Gathered-imports (all c.args.comments.now) (map import_of c.loop-comment.imports.items)
    (Gathered-jsdoc (all c.args.comments.now) (all items) (map import_of c.loop-comment.imports.items)
    (λ comment has jsdoc. (are_all comment).1 (has, jsdoc))
    (subst (λ (xs : List (Bor DependencyComment)). Gathered (all c.args.comments.now) (all xs)
    (map import_of c.loop-comment.imports.items))
    (take_all c.loop-comment.comment-index items over) c.loop-comment.invariant.gathered))

pub returns-clause-quoted : goal.returns-clause-quoted
returns-clause-quoted c = λ text spelled k d inside.
    Gathered-quoted (all c.args.comments.now)
    (all (take c.loop-comment.comment-index c.deref-comment-items.result.now))
    (map import_of c.loop-comment.imports.items) c.loop-comment.invariant.gathered
    text spelled (get_or (map import_of c.loop-comment.imports.items) k d)
    (Contains-get_or (map import_of c.loop-comment.imports.items) k d inside)
