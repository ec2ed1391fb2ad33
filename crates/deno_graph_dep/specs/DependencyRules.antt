-- Which nodes of a tree are dependencies, and which come after the dependencies inside them.
use Rattle.std.specs.Prelude.{ℕ, List, [], Bool, true, false, not, ◌&&◌, ◌||◌, Some, None, is_some, slice_get}
use Rattle.std.specs.Prelude.{if◌then◌else◌, codes, nat_eq, ◌==◌}
use Rattle.std.specs.List.{list_any, starts_with}
use Rattle.deno_graph_base.specs.JsString.{lossy_text}
use Rattle.deno_graph_source.specs.Node.{kind_of, children_of}
use Rattle.deno_graph_source.specs.declared.tree.node.Kind.{Kind}
use Rattle.deno_graph_source.specs.declared.tree.node.Kind.TheVariants.{ImportDecl, NamedExport, ExportAll}
use Rattle.deno_graph_source.specs.declared.tree.node.Kind.TheVariants.{ImportEquals, ImportType, ModuleDecl}
use Rattle.deno_graph_source.specs.declared.tree.node.Kind.TheVariants.{Call}
use Rattle.deno_graph_source.specs.declared.tree.node.Node.{Node}
use Rattle.deno_graph_dep.specs.DependencyKind.{call_kind}
use Rattle.deno_graph_dep.specs.Listing.{Rules}

-- the kinds of closed nodes: nothing inside them is read
abbrev pub is_closed : Kind → Bool
is_closed (ImportDecl type_only phase src has_specifiers has_with) = true
is_closed (NamedExport type_only src has_with) = true
is_closed (ExportAll type_only src has_with) = true
is_closed (ImportEquals type_only is_export external) = true
is_closed _ = false

-- the children of a node, or none if the node is closed
unfoldable pub children_to_visit : Node → List Node
children_to_visit node = if is_closed (kind_of node) then [] else children_of node

-- whether a name begins like a path
abbrev pub is_relative : List ℕ → Bool
is_relative name =
    starts_with nat_eq name (codes "./")
    || starts_with nat_eq name (codes "../")
    || starts_with nat_eq name (codes "/")

-- whether a name has a `*`, whose byte is 42
abbrev pub has_star : List ℕ → Bool
has_star name = list_any (λ byte. byte == 42) name

-- whether a module declaration with this name may add to a module; a name with `*` is a pattern for
-- many modules, unless it begins like a path
abbrev pub may_name_module : List ℕ → Bool
may_name_module name = not (has_star name) || is_relative name

-- Whether a node of this kind with these children is a dependency: an import declaration, an import
-- type, an export with a specifier, an `import name = require("..")`, a module declaration that may
-- add to a module, or a call of `import` or `require` with an argument.
abbrev pub is_dependency_kind : Kind → List Node → Bool
is_dependency_kind (ImportDecl type_only phase src has_specifiers has_with) children = true
is_dependency_kind (NamedExport type_only src has_with) children = is_some src
is_dependency_kind (ExportAll type_only src has_with) children = true
is_dependency_kind (ImportEquals type_only is_export external) children = is_some external
is_dependency_kind (ImportType arg has_with) children = true
is_dependency_kind (ModuleDecl None) children = false
is_dependency_kind (ModuleDecl (Some name)) children = may_name_module (lossy_text name.value)
is_dependency_kind (Call callee args) children =
    is_some (call_kind callee children) && is_some (slice_get args 0)
is_dependency_kind _ children = false

-- whether a node of this kind comes after the dependencies inside it
abbrev pub is_after_inside : Kind → Bool
is_after_inside (Call callee args) = true
is_after_inside _ = false

unfoldable pub is_dependency : Node → Bool
is_dependency node = is_dependency_kind (kind_of node) (children_of node)

abbrev pub dependency_rules : Rules
dependency_rules = record {
  is_closed = λ node. is_closed (kind_of node);
  is_member = is_dependency;
  is_after_inside = λ node. is_after_inside (kind_of node);
}
