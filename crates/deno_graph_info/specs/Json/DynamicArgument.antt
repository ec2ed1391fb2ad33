-- The argument of a dynamic dependency, written to and read from JSON.
use Rattle.std.specs.Prelude.{Option, Some, None}
use Rattle.serde_json.specs.Data.{Data, null, string, boolean, number, array, object}
use Rattle.deno_graph_info.specs.declared.analysis.dynamic_argument.DynamicArgument.{DynamicArgument}
use Rattle.deno_graph_info.specs.declared.analysis.dynamic_argument.DynamicArgument.TheVariants.{String}
use Rattle.deno_graph_info.specs.declared.analysis.dynamic_argument.DynamicArgument.TheVariants.{Template}
use Rattle.deno_graph_info.specs.declared.analysis.dynamic_argument.DynamicArgument.TheVariants.{Expr}
use Rattle.deno_graph_json.specs.Object.{array_of}
use Rattle.deno_graph_json.specs.Read.Partial.{◌>>=◌, reads_items}
use Rattle.deno_graph_info.specs.Json.DynamicTemplatePart.{json_of_part, reads_part}

-- a string as a string, a template as the array of its parts, an unknown argument as null
abbrev pub json_of_argument : DynamicArgument → Data
json_of_argument (String text) = string text
json_of_argument (Template parts) = array_of json_of_part parts
json_of_argument Expr = null

-- a string, the array of a template's parts, or null for an unknown argument
unfoldable pub reads_argument : Data → Option DynamicArgument
reads_argument null = Some Expr
reads_argument (boolean b) = None
reads_argument (number n) = None
reads_argument (string s) = Some (String s)
reads_argument (array ds) = do
  parts ← reads_items reads_part ds
  Some (Template parts)
reads_argument (object ms) = None
