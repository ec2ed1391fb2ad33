-- The kind of the dependency that a node is.
use Rattle.std.specs.Prelude.{List, Bool, true, false, Option, Some, None, codes, option_map, slice_get}
use Rattle.std.specs.Prelude.{if◌then◌else◌}
use Rattle.std.specs.Str.{bytes_eq}
use Rattle.deno_graph_source.specs.Node.{kind_of}
use Rattle.deno_graph_source.specs.declared.tree.node.Callee.{Callee}
use Rattle.deno_graph_source.specs.declared.tree.node.Callee.TheVariants as callee
use Rattle.deno_graph_source.specs.declared.tree.node.ImportPhase.{ImportPhase}
use Rattle.deno_graph_source.specs.declared.tree.node.ImportPhase.TheVariants.{Evaluation, Source, Defer}
use Rattle.deno_graph_source.specs.declared.tree.node.Kind.{Kind}
use Rattle.deno_graph_source.specs.declared.tree.node.Kind.TheVariants.{Ident}
use Rattle.deno_graph_source.specs.declared.tree.node.Node.{Node}
use Rattle.deno_graph_info.specs.declared.analysis.dynamic_dependency.DynamicDependencyKind.{DynamicDependencyKind}
use Rattle.deno_graph_info.specs.declared.analysis.dynamic_dependency.DynamicDependencyKind.TheVariants as dynamic_kind
use Rattle.deno_graph_info.specs.declared.analysis.static_dependency.StaticDependencyKind.{StaticDependencyKind}
use Rattle.deno_graph_info.specs.declared.analysis.static_dependency.StaticDependencyKind.TheVariants as static_kind

-- whether the kind is that of the identifier `require`
abbrev pub is_require : Option Kind → Bool
is_require (Some (Ident name)) = bytes_eq name (codes "require")
is_require _ = false

-- the kind of a call of `import` with this phase
abbrev pub phase_kind : ImportPhase → DynamicDependencyKind
phase_kind Evaluation = dynamic_kind.Import
phase_kind Source = dynamic_kind.ImportSource
phase_kind Defer = dynamic_kind.ImportDefer

-- the kind of a call with this callee and these children, if it calls `import` or `require`; a callee
-- that is an expression is the first child
abbrev pub call_kind : Callee → List Node → Option DynamicDependencyKind
call_kind (callee.Import phase) children = Some (phase_kind phase)
call_kind callee.Expr children =
    if is_require (option_map kind_of (slice_get children 0)) then Some dynamic_kind.Require
    else None
call_kind callee.Super children = None

-- the kind of an import declaration, by whether it is of types only and by its phase
abbrev pub import_kind : Bool → ImportPhase → StaticDependencyKind
import_kind true phase = static_kind.ImportType
import_kind false Evaluation = static_kind.Import
import_kind false Source = static_kind.ImportSource
import_kind false Defer = static_kind.ImportDefer

-- the kind of an export with a specifier, by whether it is of types only
abbrev pub export_kind : Bool → StaticDependencyKind
export_kind true = static_kind.ExportType
export_kind false = static_kind.Export

-- the kind of an `import name = require(..)`, by whether it is of types only and whether it is exported
abbrev pub import_equals_kind : Bool → Bool → StaticDependencyKind
import_equals_kind true is_export = static_kind.ImportType
import_equals_kind false true = static_kind.ExportEquals
import_equals_kind false false = static_kind.ImportEquals
