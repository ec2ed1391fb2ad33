-- The characters of a text are a string without surrogates.
use Rattle.std.proofs.Common.{ap, ◌∙◌}
use Rattle.std.specs.Str.{chars}
use Rattle.std.proofs.lemmas.Str.{IsUtf8-string_bytes}
use Rattle.deno_graph_base.proofs.LossyText.{IsStored-text, points_from-none_lone}
use Rattle.deno_graph_base.proofs.text.js_string.JsString.from_str.Goals as goal

pub invariant_of-result : goal.invariant_of-result
invariant_of-result c =
    rw c.new.ensures.items (IsStored-text _ (IsUtf8-string_bytes c.in_ok-from_str.field-0))

pub returns : goal.returns
returns c =
    rw c.new.ensures.items (points_from-none_lone 0 _ ∙ ap chars c.in_ok-from_str.ensures.ok)
