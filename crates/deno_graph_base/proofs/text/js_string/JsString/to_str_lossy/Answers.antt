-- The field `text` is the lossy text of the string.
use Rattle.std.proofs.Common.{ap, ◌∙◌}
use Rattle.std.proofs.lemmas.Str.{IsUtf8-string_bytes}
use Rattle.deno_graph_base.specs.JsString.{lossy_text}
use Rattle.deno_graph_base.proofs.LossyText.{lossy_text-stored}
use Rattle.deno_graph_base.proofs.text.js_string.JsString.to_str_lossy.Goals as goal

pub returns : goal.returns
returns c =
    c.as_str.ensures.value
    ∙ lossy_text-stored _ _ (IsUtf8-string_bytes c.self.inside.text) c.self.invariant
    ∙ ap lossy_text c.self.view_is
