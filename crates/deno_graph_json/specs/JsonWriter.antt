-- What a `JsonWriter` has written.
use Rattle.std.specs.Prelude.{ℕ, List, [], ◌∷◌}
use Rattle.json.specs.Token.{Token}
use Rattle.serde_json.specs.Data.{Data, null, object, Members, put}
use Rattle.serde_json.specs.View.{view, members_view}
use Rattle.deno_graph_json.specs.Text.{Text, text_in, text_tokens, with_member_text, with_tokens}
use Rattle.deno_graph_json.specs.declared.built_value.BuiltValue.{BuiltValue}
use Rattle.deno_graph_json.specs.declared.json_writer.JsonWriter.{JsonWriter}
use Rattle.deno_graph_json.specs.declared.json_writer.JsonWriter.TheVariants as writer

-- text, or the last value beside the members of an object
pub data Output : Type 0 where
  text : Text → Output
  value : Data → Members → Output

abbrev pub built : BuiltValue → Output
built out = value (view out.last) (members_view out.members.entries)

abbrev pub output : JsonWriter → Output
output (writer.Text out) = text (text_in out)
output (writer.Value out) = built out

-- the output after a value
unfoldable pub with_value : Data → Output → Output
with_value d (text t) = text (with_tokens (text_tokens d) t)
with_value d (value _ ms) = value d ms

-- the output after a member
unfoldable pub with_member : List ℕ → Data → Output → Output
with_member k d (text t) = text (with_member_text k d t)
with_member k d (value v ms) = value v (put k d ms)

-- the output after a token that only text has
abbrev pub with_token : Token → Output → Output
with_token t (text u) = text (with_tokens (t ∷ []) u)
with_token t (value v ms) = value v ms

-- the parts of an output
abbrev pub text_part : Output → Text
text_part (text t) = t
text_part (value _ _) = ([], [])

abbrev pub value_part : Output → Data
value_part (text _) = null
value_part (value d _) = d

abbrev pub object_part : Output → Data
object_part (text _) = null
object_part (value _ ms) = object ms
