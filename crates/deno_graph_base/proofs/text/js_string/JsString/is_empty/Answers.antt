-- The text is empty exactly if the string is.
use Rattle.std.proofs.Common.{◌≡◌, [], sym, ap, ◌∙◌, arith, length}
use Rattle.std.proofs.lemmas.Bool.{eqb-true, eq-eqb}
use Rattle.std.proofs.lemmas.List.{nil_from_length}
use Rattle.std.proofs.lemmas.Str.{IsUtf8-string_bytes}
use Rattle.std.specs.String.{string_bytes}
use Rattle.deno_graph_base.proofs.LossyText.{text_empty, points_empty}
use Rattle.deno_graph_base.proofs.text.js_string.JsString.is_empty.Goals as goal

pub returns : goal.returns
returns c =
    let text = c.self.inside.text in (
      λ e.
          let none : string_bytes text ≡ [] =
          nil_from_length _ (omega (arith, text.bytes.ok.0, eqb-true _ _ (sym c.is_empty.ensures ∙ e))) in
          sym c.self.view_is ∙ points_empty _ _ none,
      λ e.
          let none : string_bytes text ≡ [] =
          text_empty _ _ (IsUtf8-string_bytes text) c.self.invariant (c.self.view_is ∙ e) in
          c.is_empty.ensures ∙ eq-eqb _ _ (omega (arith, text.bytes.ok.0, ap length none)),
    )
