-- Dynamic dependencies and their arguments.
use Rattle.std.specs.Prelude.{Bool, true, false}
use Rattle.deno_graph_info.specs.declared.analysis.dynamic_dependency.DynamicDependencyKind.{DynamicDependencyKind}
use Rattle.deno_graph_info.specs.declared.analysis.dynamic_dependency.DynamicDependencyKind.TheVariants.{Import}
use Rattle.deno_graph_info.specs.declared.analysis.dynamic_dependency.DynamicDependencyKind.TheVariants.{ImportDefer}
use Rattle.deno_graph_info.specs.declared.analysis.dynamic_dependency.DynamicDependencyKind.TheVariants.{ImportSource}
use Rattle.deno_graph_info.specs.declared.analysis.dynamic_dependency.DynamicDependencyKind.TheVariants.{Require}
use Rattle.deno_graph_info.specs.declared.analysis.dynamic_argument.DynamicArgument.{DynamicArgument}
use Rattle.deno_graph_info.specs.declared.analysis.dynamic_argument.DynamicArgument.TheVariants.{String}
use Rattle.deno_graph_info.specs.declared.analysis.dynamic_argument.DynamicArgument.TheVariants.{Template}
use Rattle.deno_graph_info.specs.declared.analysis.dynamic_argument.DynamicArgument.TheVariants.{Expr}

-- whether the call is `import(..)`
abbrev pub is_plain_import : DynamicDependencyKind → Bool
is_plain_import Import = true
is_plain_import ImportDefer = false
is_plain_import ImportSource = false
is_plain_import Require = false

-- whether the argument is unknown
abbrev pub is_expr : DynamicArgument → Bool
is_expr (String text) = false
is_expr (Template parts) = false
is_expr Expr = true
