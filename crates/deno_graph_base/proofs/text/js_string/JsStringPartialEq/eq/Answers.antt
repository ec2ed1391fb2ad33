-- Two strings are equal exactly if their fields are.
use Rattle.std.proofs.Common.{◌≡◌, sym, ap, ◌∙◌, nat_eq}
use Rattle.std.specs.Cmp.Lexicographic.{pointwise}
use Rattle.std.proofs.lemmas.Slice.Eq.{bytes_eq-Decides}
use Rattle.std.proofs.lemmas.Str.{IsUtf8-string_bytes}
use Rattle.std.specs.String.{string_bytes}
use Rattle.deno_graph_base.proofs.LossyText.{eq_lone, eq_text, same_pair}
use Rattle.deno_graph_base.proofs.text.js_string.JsStringPartialEq.eq.Goals as goal

pub returns-then-eq : goal.returns-then-eq
returns-then-eq c =
    let same : c.as_str.result.now ≡ c.as_str-2.result.now =
    (bytes_eq-Decides _ _).0 (sym c.eq.ensures ∙ c.if-eq.true) in
    let texts : string_bytes c.self.inside.text ≡ string_bytes c.other.inside.text =
    sym c.as_str.ensures.value ∙ same ∙ c.as_str-2.ensures.value in
    let lones = c.eq-then-eq.ensures
    ∙ ap (pointwise same_pair c.as_slice.result.now) c.as_slice-then-eq.ensures.value
    ∙ ap (λ l. pointwise same_pair l c.other.inside.lone.items) c.as_slice.ensures.value in
    eq_lone _ _ _ _ (IsUtf8-string_bytes c.self.inside.text) (IsUtf8-string_bytes c.other.inside.text)
    c.self.invariant c.other.invariant _ _ c.self.view_is c.other.view_is _ texts lones

pub returns-else-eq : goal.returns-else-eq
returns-else-eq c =
    let texts = c.eq.ensures ∙ ap (pointwise nat_eq c.as_str.result.now) c.as_str-2.ensures.value
    ∙ ap (λ l. pointwise nat_eq l (string_bytes c.other.inside.text)) c.as_str.ensures.value in
    eq_text _ _ _ _ (IsUtf8-string_bytes c.self.inside.text) (IsUtf8-string_bytes c.other.inside.text)
    c.self.invariant c.other.invariant _ _ c.self.view_is c.other.view_is _ c.if-eq.false texts
