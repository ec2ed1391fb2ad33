use Rattle.std.proofs.Common.{◌≡◌, ℕ, zero, suc, ◌-◌, Some, None, arith, refl, sym, ap, ◌∙◌, inl, inr}
use Rattle.std.proofs.lemmas.Bool.{cond-true, cond-false, cases_Bool}
use Rattle.deno_graph_base.specs.declared.text.position.SourceRange.{SourceRange}
use Rattle.modinfo_estree.specs.Parentheses.{has_pair, outside, pair_around, with_parentheses}
use Rattle.modinfo_estree.specs.Source.{EstreeSource, source_of}
use Rattle.modinfo_estree.proofs.parentheses.extent_in.Goals as goal

module _ (source : EstreeSource) (bounds : SourceRange) (range : SourceRange) where
  -- A range without parentheses around it stays.
  none_around : (count : ℕ) → pair_around source bounds range ≡ None
      → with_parentheses source count bounds range ≡ range
  unfolding with_parentheses
  none_around zero none = refl
  none_around (suc count) none =
      elim (cases_Bool (has_pair source bounds range)) [
        | inl pair ↦
            let some : pair_around source bounds range ≡ Some (outside source range) =
            cond-true _ _ _ pair in cc
        | inr no_pair ↦ cond-false _ _ _ no_pair
      ]

  -- Of the parentheses around a range the innermost ones come first.
  some_around : (count : ℕ) (outer : SourceRange) → pair_around source bounds range ≡ Some outer
      → with_parentheses source (suc count) bounds range ≡ with_parentheses source count bounds outer
  unfolding with_parentheses
  some_around count outer some =
      elim (cases_Bool (has_pair source bounds range)) [
        | inl pair ↦
            let around : pair_around source bounds range ≡ Some (outside source range) =
            cond-true _ _ _ pair in
            let same : outside source range ≡ outer = cc in
            cond-true _ _ _ pair ∙ ap (with_parentheses source count bounds) same
        | inr no_pair ↦
            let none : pair_around source bounds range ≡ None = cond-false _ _ _ no_pair in cc
      ]

pub returns-in-None : goal.returns-in-None
returns-in-None c =
    sym (none_around (source_of c.args.source.now) c.args.bounds c.loop-left.extent c.loop-left.left
    (sym c.pair_around.ensures ∙ c.in-None.is))
    ∙ c.loop-left.invariant

pub loop-left-preserved : goal.loop-left-preserved
loop-left-preserved c =
    let source = source_of c.args.source.now in
    let more : suc (c.loop-left.left - 1) ≡ c.loop-left.left = omega arith in
    sym (some_around source c.args.bounds c.loop-left.extent (c.loop-left.left - 1) c.in-Some.outer
    (sym c.pair_around.ensures ∙ c.in-Some.is))
    ∙ ap (λ count. with_parentheses source count c.args.bounds c.loop-left.extent) more
    ∙ c.loop-left.invariant

-- No pair is left to look for.
pub returns : goal.returns
unfolding with_parentheses
returns c =
    let source = source_of c.args.source.now in
    let none : zero ≡ c.loop-left.left = omega arith in
    ap (λ count. with_parentheses source count c.args.bounds c.loop-left.extent) none ∙ c.loop-left.invariant
