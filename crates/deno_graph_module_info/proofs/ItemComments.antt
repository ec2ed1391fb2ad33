-- The comments before the dependencies of a program, at its head and at its tail are among all
-- comments.
use Rattle.std.proofs.Common.{◌≡◌, ℕ, List, [], ◌∷◌, Bool, true, false, Option, Some, None, refl, sym, ap}
use Rattle.std.proofs.Common.{subst, All, Contains, unwrap_or, slice_get}
use Rattle.std.proofs.lemmas.List.Elements.{All-nil, All-cons}
use Rattle.deno_graph_source.specs.ByOffset.{value_at}
use Rattle.deno_graph_source.specs.Comments.{FiledComments, comments_of, leading_at}
use Rattle.deno_graph_source.specs.Node.{kind_of, range_of}
use Rattle.deno_graph_source.specs.Source.{IsSpelled, IsValid}
use Rattle.deno_graph_source.specs.declared.tree.comments.DependencyComment.{DependencyComment}
use Rattle.deno_graph_source.specs.declared.tree.node.Kind.{Kind}
use Rattle.deno_graph_source.specs.declared.tree.node.Kind.TheVariants.{ImportDecl, NamedExport, ExportAll}
use Rattle.deno_graph_source.specs.declared.tree.node.Kind.TheVariants.{ImportEquals, ImportType, ModuleDecl}
use Rattle.deno_graph_source.specs.declared.tree.node.Kind.TheVariants.{Call}
use Rattle.deno_graph_source.specs.declared.tree.node.Node.{Node}
use Rattle.deno_graph_source.specs.declared.tree.node.Program.{Program}
use Rattle.deno_graph_source.proofs.Lists.{All-within}
use Rattle.deno_graph_source.proofs.ValidSource.{Contains-leading, Contains-trailing}
use Rattle.deno_graph_dep.specs.Dependencies.{AreDependencies}
use Rattle.deno_graph_dep.specs.Descriptor.{Descriptor}
use Rattle.deno_graph_dep.specs.DescriptorOf.{AreDescriptorsOf, IsDescriptorOf, IsDescriptorOfKind}
use Rattle.deno_graph_dep.proofs.DependencyRanges.{dependency_ranges}
use Rattle.deno_graph_module_info.specs.HeadTail.{comments_before_items, head_comments, tail_comments}
use Rattle.deno_graph_module_info.specs.HeadTail.{trailing_at}
use Rattle.deno_graph_module_info.specs.ModuleInfo.{comments_before, FitsText}

-- a property of all comments, for those at an offset, at the head and at the tail
module _ (P : DependencyComment → Type 0) (comments : FiledComments)
    (all : All P (comments_of comments)) where
  all_found : (found : Option (List DependencyComment))
      → ((filed : List DependencyComment) (comment : DependencyComment) → found ≡ Some filed
      → Contains filed comment → Contains (comments_of comments) comment) → All P (unwrap_or found [])
  all_found None within = All-nil P
  all_found (Some filed) within =
      All-within P (comments_of comments) filed (λ comment there. within filed comment refl there) all

  all_leading : (pos : ℕ) → All P (leading_at comments pos)
  all_leading pos = all_found (value_at comments.leading pos)
      (λ filed comment is there. Contains-leading comments pos filed comment is there)

  all_trailing : (pos : ℕ) → All P (trailing_at comments pos)
  all_trailing pos = all_found (value_at comments.trailing pos)
      (λ filed comment is there. Contains-trailing comments pos filed comment is there)

  all_head_by : (program : Program) (first : Option Node) (shebang : Bool) → program.has_shebang ≡ shebang
      → All P (comments_before_items first program comments)
  all_head_by program (Some item) shebang is = all_leading (range_of item).start
  all_head_by program None true is = rw is (all_trailing program.range.end)
  all_head_by program None false is = rw is (all_leading program.range.start)

  pub all_head : (program : Program) → All P (head_comments program comments)
  all_head program = all_head_by program (slice_get program.body 0) program.has_shebang refl

  pub all_tail : (program : Program) → All P (tail_comments program comments)
  all_tail program = all_trailing program.range.end

-- the comments before the dependency of a node are filed as leading at the node
filed_before : (comments : FiledComments) (node : Node) (kind : Kind) (item : Descriptor)
    → IsDescriptorOfKind comments node kind item
    → comments_before item ≡ leading_at comments (range_of node).start
filed_before comments node (ImportDecl type_only phase src has_specifiers has_with) item is =
    ap comments_before is.2
filed_before comments node (NamedExport type_only None has_with) item is = absurd is
filed_before comments node (NamedExport type_only (Some src) has_with) item is = ap comments_before is.2
filed_before comments node (ExportAll type_only src has_with) item is = ap comments_before is.2
filed_before comments node (ImportEquals type_only is_export None) item is = absurd is
filed_before comments node (ImportEquals type_only is_export (Some external)) item is =
    ap comments_before is.2
filed_before comments node (ImportType arg has_with) item is = ap comments_before is.2
filed_before comments node (ModuleDecl None) item is = absurd is
filed_before comments node (ModuleDecl (Some name)) item is = ap comments_before is.1.2
filed_before comments node (Call callee args) item is = ap comments_before is.is
filed_before comments node _ item is = absurd is

-- a property of all comments, for those before the dependencies of nodes
all_before : (P : DependencyComment → Type 0) (comments : FiledComments) (nodes : List Node)
    (items : List Descriptor) → All P (comments_of comments) → AreDescriptorsOf comments nodes items
    → All (λ item. All P (comments_before item)) items
unfolding IsDescriptorOf
all_before P comments [] [] all are = All-nil (λ item. All P (comments_before item))
all_before P comments [] (item ∷ items) all are = absurd are
all_before P comments (node ∷ nodes) [] all are = absurd are
all_before P comments (node ∷ nodes) (item ∷ items) all are =
    All-cons (λ item. All P (comments_before item)) item items
    (subst (All P) (sym (filed_before comments node (kind_of node) item are.0))
    (all_leading P comments all (range_of node).start)) (all_before P comments nodes items all are.1)

pub all_before_dependencies : (P : DependencyComment → Type 0) (program : Program) (comments : FiledComments)
    (items : List Descriptor) → All P (comments_of comments) → AreDependencies comments program.body items
    → All (λ item. All P (comments_before item)) items
all_before_dependencies P program comments items all are =
    all_before P comments are.nodes items all are.described

-- the dependencies of a valid source fit its text
pub dependencies_fit : (text : List ℕ) (program : Program) (comments : FiledComments)
    (items : List Descriptor)
    → IsValid text program comments → AreDependencies comments program.body items → All (FitsText text) items
dependencies_fit text program comments items valid are =
    let ranges = dependency_ranges text program comments items valid are in
    let spelled = all_before_dependencies (IsSpelled text) program comments items valid.spelled are in
    λ k d below. record { ranges = ranges k d below; comments = spelled k d below }

pub head_spelled : (text : List ℕ) (program : Program) (comments : FiledComments)
    → IsValid text program comments → All (IsSpelled text) (head_comments program comments)
head_spelled text program comments valid = all_head (IsSpelled text) comments valid.spelled program

pub tail_spelled : (text : List ℕ) (program : Program) (comments : FiledComments)
    → IsValid text program comments → All (IsSpelled text) (tail_comments program comments)
tail_spelled text program comments valid = all_tail (IsSpelled text) comments valid.spelled program
