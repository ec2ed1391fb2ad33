-- A high surrogate before a low one forms one code point with it, and every other unit is one.
use Rattle.std.proofs.Common.{◌≡◌, ◌&&◌, false, sym, ◌∙◌}
use Rattle.std.specs.Char.Utf16.{is_high_surrogate, is_low_surrogate}
use Rattle.std.proofs.lemmas.Bool.{and_left, and_right}
use Rattle.deno_graph_base.proofs.Units.{first_last, first_pair, first_alone}
use Rattle.deno_graph_base.proofs.text.js_string.units.first_point.Goals as goal
use Rattle.deno_graph_base.proofs.text.js_string.units.first_point.Goals.{else-is_high_surrogate-via-then-is_high_surrogate+else-is_low_surrogate}
use Rattle.deno_graph_base.proofs.text.js_string.units.first_point.Goals.{else-is_high_surrogate-via-else-is_high_surrogate}

pub returns-in_default-clause-point : goal.returns-in_default-clause-point
returns-in_default-clause-point c =
    first_last c.args.units.now c.in_ok-first.rest.now c.in_ok-first.first.now c.from-high.result
    c.from-high.ensures c.in_ok-first.ensures.cases.0 c.in_default.ensures.cases

pub returns-then-is_low_surrogate-clause-point : goal.returns-then-is_low_surrogate-clause-point
returns-then-is_low_surrogate-clause-point c =
    first_pair _ _ _ _ _ _ _ c.from-high.ensures c.from-low.ensures c.in_ok-first.ensures.cases.0
    c.in-Some.ensures.cases.0
    (sym c.is_high_surrogate.ensures ∙ c.if-is_high_surrogate.true)
    (sym c.is_low_surrogate.ensures ∙ c.if-is_low_surrogate.true)

pub returns-clause-point : goal.returns-clause-point
returns-clause-point c =
    let high = c.from-high.result in
    let low = c.from-low.result in
    let apart : (is_high_surrogate high && is_low_surrogate low) ≡ false =
    elim c.else-is_high_surrogate.branch [
      | else-is_high_surrogate-via-then-is_high_surrogate+else-is_low_surrogate w
          ↦ and_right _ _ (sym w.is_low_surrogate.ensures ∙ w.if-is_low_surrogate.false)
      | else-is_high_surrogate-via-else-is_high_surrogate w
          ↦ and_left _ _ (sym c.is_high_surrogate.ensures ∙ w.if-is_high_surrogate.false)
    ] in
    first_alone _ _ _ _ _ high low c.from-high.ensures c.from-low.ensures c.in_ok-first.ensures.cases.0
    c.in-Some.ensures.cases.0 apart
