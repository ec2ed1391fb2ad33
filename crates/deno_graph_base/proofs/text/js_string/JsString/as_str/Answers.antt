-- The text has exactly the string's characters if no surrogate is stored.
use Rattle.std.proofs.Common.{◌≡◌, [], refl, sym, ap, ◌∙◌, subst, arith, length, encode_utf8_all, Some}
use Rattle.std.proofs.lemmas.Bool.{eqb-true, eq-eqb, false≢true}
use Rattle.std.proofs.lemmas.List.{nil_from_length}
use Rattle.std.proofs.lemmas.Str.{IsUtf8-string_bytes}
use Rattle.deno_graph_base.specs.JsString.{lossy_text, IsReadable}
use Rattle.deno_graph_base.proofs.LossyText.{lossy_text-stored, readable_stored, encoded_stored}
use Rattle.deno_graph_base.proofs.LossyText.{stored_readable, readable_text-readable}
use Rattle.deno_graph_base.proofs.LossyText.{readable_text-unreadable}
use Rattle.deno_graph_base.proofs.text.js_string.JsString.as_str.Goals as goal

none_stored : (c : goal.After-t5-1) → c.self.inside.lone.items ≡ []
none_stored c =
    nil_from_length _ (omega (
      arith,
      c.self.inside.lone.ok.0,
      eqb-true _ _ (sym c.is_empty.ensures ∙ c.if-is_empty.true),
    ))

pub returns-then-is_empty-clause-readable : goal.returns-then-is_empty-clause-readable
returns-then-is_empty-clause-readable c =
    (λ _. subst IsReadable c.self.view_is (readable_stored _ _ c.self.invariant (none_stored c)), λ _. refl)

pub returns-then-is_empty-clause-text : goal.returns-then-is_empty-clause-text
returns-then-is_empty-clause-text c =
    c.as_str.ensures.value
    ∙ encoded_stored _ _ (IsUtf8-string_bytes c.self.inside.text) c.self.invariant (none_stored c)
    ∙ ap encode_utf8_all c.self.view_is

pub returns-then-is_empty-clause-lossy : goal.returns-then-is_empty-clause-lossy
returns-then-is_empty-clause-lossy c =
    c.as_str.ensures.value
    ∙ lossy_text-stored _ _ (IsUtf8-string_bytes c.self.inside.text) c.self.invariant
    ∙ ap lossy_text c.self.view_is

pub returns-then-is_empty-clause-value : goal.returns-then-is_empty-clause-value
returns-then-is_empty-clause-value c =
    ap Some (returns-then-is_empty-clause-lossy c)
    ∙ sym (readable_text-readable _ (subst IsReadable c.self.view_is
    (readable_stored _ _ c.self.invariant (none_stored c))))

pub returns-else-is_empty-clause-readable : goal.returns-else-is_empty-clause-readable
returns-else-is_empty-clause-readable c = (
  λ e. absurd (false≢true e),
  λ r.
      let none : c.self.inside.lone.items ≡ [] =
      stored_readable _ _ c.self.invariant (subst IsReadable (sym c.self.view_is) r) in
      sym c.if-is_empty.false ∙ c.is_empty.ensures
      ∙ eq-eqb _ _ (omega (arith, c.self.inside.lone.ok.0, ap length none)),
)

pub returns-else-is_empty-clause-value : goal.returns-else-is_empty-clause-value
returns-else-is_empty-clause-value c =
    sym (readable_text-unreadable _ (λ r. false≢true ((returns-else-is_empty-clause-readable c).1 r)))
