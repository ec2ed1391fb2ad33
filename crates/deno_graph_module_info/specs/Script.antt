-- Scripts: programs that nothing makes a module.
use Rattle.std.specs.Prelude.{◌≡◌, Bool, true, false, List, All, IsTrue}
use Rattle.deno_graph_source.specs.declared.tree.node.Kind.{Kind}
use Rattle.deno_graph_source.specs.declared.tree.node.Kind.TheVariants.{ImportDecl, NamedExport, ExportAll}
use Rattle.deno_graph_source.specs.declared.tree.node.Kind.TheVariants.{ExportOther, Await, Function}
use Rattle.deno_graph_source.specs.declared.tree.node.Kind.TheVariants.{ImportMeta}
use Rattle.deno_graph_source.specs.declared.tree.node.Node.{Node}
use Rattle.deno_graph_source.specs.Node.{kind_of}
use Rattle.deno_graph_source.specs.NodePath.{NodePath, LeadsTo, IsStrictPrefix}

-- whether the kind is that of an import or an export, which only a module has
abbrev pub is_module_item : Kind → Bool
is_module_item (ImportDecl type_only phase src has_specifiers has_with) = true
is_module_item (NamedExport type_only src has_with) = true
is_module_item (ExportAll type_only src has_with) = true
is_module_item ExportOther = true
is_module_item _ = false

abbrev pub is_await : Kind → Bool
is_await Await = true
is_await _ = false

abbrev pub is_function : Kind → Bool
is_function Function = true
is_function _ = false

abbrev pub is_import_meta : Kind → Bool
is_import_meta ImportMeta = true
is_import_meta _ = false

abbrev pub IsAwait : Node → Type 0
IsAwait node = IsTrue (is_await (kind_of node))

abbrev pub IsFunction : Node → Type 0
IsFunction node = IsTrue (is_function (kind_of node))

abbrev pub IsImportMeta : Node → Type 0
IsImportMeta node = IsTrue (is_import_meta (kind_of node))

-- A body that nothing makes a module: no item is an import or an export, each await is inside a
-- function, and there is no `import.meta` at any depth.
pub record IsScript (body : List Node) : Type 0 where
  pub no_module_item : All (λ item. is_module_item (kind_of item) ≡ false) body
  pub awaits_in_functions : (path : NodePath) → LeadsTo IsAwait body path
      → (prefix : NodePath) × IsStrictPrefix prefix path × LeadsTo IsFunction body prefix
  pub no_import_meta : (path : NodePath) → ¬ LeadsTo IsImportMeta body path
