-- What is written of a dynamic dependency's argument is read back, and has no float.
use Rattle.std.proofs.Common.{◌≡◌, false, Some, refl, List, All}
use Rattle.serde_json.specs.Written.{has_float}
use Rattle.deno_graph_info.specs.declared.analysis.dynamic_argument.DynamicArgument.{DynamicArgument}
use Rattle.deno_graph_info.specs.declared.analysis.dynamic_argument.DynamicArgument.TheVariants.{String}
use Rattle.deno_graph_info.specs.declared.analysis.dynamic_argument.DynamicArgument.TheVariants.{Template}
use Rattle.deno_graph_info.specs.declared.analysis.dynamic_argument.DynamicArgument.TheVariants.{Expr}
use Rattle.deno_graph_info.specs.declared.analysis.dynamic_argument.DynamicTemplatePart.{DynamicTemplatePart}
use Rattle.deno_graph_json.specs.Object.{unless}
use Rattle.deno_graph_info.specs.DynamicDependency.{is_expr}
use Rattle.deno_graph_info.specs.Json.DynamicArgument.{json_of_argument, reads_argument}
use Rattle.deno_graph_info.specs.Json.DynamicTemplatePart.{json_of_part, reads_part}
use Rattle.deno_graph_info.proofs.Written.DynamicTemplatePart.{part_back, part_no_float}
use Rattle.deno_graph_json.specs.Read.Partial.{read_or}
use Rattle.deno_graph_json.proofs.NoFloats.{option_has_float, no_float-array_of}
use Rattle.deno_graph_json.proofs.ReadBack.{reads_items-map}
use Rattle.deno_graph_json.proofs.Reading.{goes_on}

all_parts : (parts : List DynamicTemplatePart) → All (λ p. Unit {0}) parts
all_parts parts = λ k p h. tt

-- `argument`, which is left out if it is unknown
pub argument_back : (a : DynamicArgument)
    → read_or reads_argument Expr (unless (is_expr a) (json_of_argument a)) ≡ Some a
unfolding reads_argument
argument_back (String text) = refl
argument_back (Template parts) =
    goes_on _ _ parts _ (reads_items-map reads_part json_of_part (λ p. Unit {0}) (λ p h. part_back p) parts
    (all_parts parts)) refl
argument_back Expr = refl

pub argument_no_float : (a : DynamicArgument)
    → option_has_float (unless (is_expr a) (json_of_argument a)) ≡ false
argument_no_float (String text) = refl
argument_no_float (Template parts) = no_float-array_of json_of_part part_no_float parts
argument_no_float Expr = refl
