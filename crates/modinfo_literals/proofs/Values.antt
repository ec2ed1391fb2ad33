-- The value that the elements of a whole literal spell.
use Rattle.std.proofs.Common.{◌≡◌, ℕ, ◌⊎◌, List, [], ◌∷◌, drop, get_or, sym, ap, ◌∙◌, subst}
use Rattle.std.specs.Str.{chars}
use Rattle.deno_graph_base.specs.JsString.{points_of_units}
use Rattle.modinfo_literals.specs.Literal.{Consists, IsStringElement, Spells, SpellsCooked}
use Rattle.modinfo_literals.specs.declared.element.Form.TheVariants.{StringWith, Template}
use Rattle.modinfo_literals.specs.internal.Step.{string_step, template_step}
use Rattle.modinfo_literals.specs.internal.Read.{AreUnits}
use Rattle.modinfo_literals.proofs.Chains.{Walks, Walks-unique, string_walks, template_walks}
use Rattle.modinfo_literals.proofs.Chains.{string_step-quote, template_step-nil}

-- a part of a template
module _ (slice end units : List ℕ) (read : AreUnits Template (chars slice) end units) where
  pub SpellsCooked-read : (value : List ℕ) → end ≡ [] → value ≡ points_of_units units
      → SpellsCooked slice value
  SpellsCooked-read value whole is = record {
    points = read.points;
    whole = subst (Consists _ read.points (chars slice)) whole read.consists;
    is_value = is ∙ ap points_of_units read.are;
  }

  pub SpellsCooked-none : (end ≡ [] → ⊥) → (value : List ℕ) → SpellsCooked slice value → ⊥
  SpellsCooked-none more value s =
      more (Walks-unique template_step read.points s.points (chars slice) end []
      (template_walks read.points _ _ read.consists) (template_walks s.points _ _ s.whole) read.no_more
      template_step-nil).1

-- a string literal
module _ (slice inside end units : List ℕ) (quote : ℕ) (is_quote : (quote ≡ 34) ⊎ (quote ≡ 39))
    (opens : chars slice ≡ quote ∷ inside) (read : AreUnits (StringWith quote) inside end units) where
  pub Spells-none : (end ≡ quote ∷ [] → ⊥) → (value : List ℕ) → Spells slice value → ⊥
  Spells-none more value s =
      let same = sym s.opens ∙ opens in
      let same_quote = ap (λ l. get_or l 0 0) same in
      let same_inside = ap (drop 1) same in
      let closes = subst (λ q. Consists (IsStringElement q) s.points s.inside (q ∷ [])) same_quote s.closes in
      let walk = subst (λ l. Walks (string_step quote) s.points l (quote ∷ [])) same_inside
      (string_walks quote s.points s.inside _ closes) in
      more (Walks-unique (string_step quote) read.points s.points inside end (quote ∷ [])
      (string_walks quote read.points _ _ read.consists) walk read.no_more
      (string_step-quote quote [] is_quote)).1
