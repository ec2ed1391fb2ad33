-- The JSON Pointer (RFC 6901) of a path.
use Rattle.std.specs.Prelude.{ℕ, List, [], ◌∷◌, ◌++◌}
use Rattle.deno_graph_json.specs.Pointer.{Part, index, name, part_of_token, part_text}
use Rattle.deno_graph_json.specs.declared.error.Step.{Step}
use Rattle.deno_graph_json.specs.declared.error.Step.TheVariants.{Item, Member}
use Rattle.deno_graph_json.specs.declared.pointer.ReferenceToken.{ReferenceToken}

-- The part of the pointer for a step.
abbrev pub part_of : Step → Part
part_of (Item number) = index number
part_of (Member text) = name text

-- The pointer of a path, whose first step is the innermost.
abbrev pub pointer_text : List Step → List ℕ
pointer_text [] = []
pointer_text (step ∷ around) = pointer_text around ++ part_text (part_of step)

-- The text of a token.
abbrev pub token_text : ReferenceToken → List ℕ
token_text token = part_text (part_of_token token)
