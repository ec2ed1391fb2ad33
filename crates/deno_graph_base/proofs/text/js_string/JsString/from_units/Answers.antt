-- At the end, the text and the surrogates are those of the code points of all units.
use Rattle.std.proofs.Common.{◌≡◌, ◌++◌, ◌∙◌, sym, ap, length, true, map, arith, ℕ, ◌<◌, get_or}
use Rattle.std.specs.Char.Escape.{encode_utf16}
use Rattle.std.specs.List.{flat_map}
use Rattle.std.specs.Str.{all_scalars}
use Rattle.std.specs.String.{string_bytes}
use Rattle.deno_graph_base.specs.JsString.{lossy_char, lossy_text, points_of_units}
use Rattle.deno_graph_base.specs.internal.StoredString.{lone_from, points_of}
use Rattle.deno_graph_base.proofs.LossyText.{IsStored-lossy_text, points_of-lossy_text}
use Rattle.deno_graph_base.proofs.Units.{text_pushed, lone_pushed, text_whole, lone_whole}
use Rattle.deno_graph_base.proofs.Units.{IsPaired-points_of_units, all_scalars-points_of_units}
use Rattle.deno_graph_base.proofs.Units.{flat_map-points_of_units}
use Rattle.deno_graph_base.proofs.text.js_string.JsString.from_units.Goals as goal

pub loop-point-preserved : goal.loop-point-preserved
loop-point-preserved c =
    let first = c.in-Some.ensures.point in
    let text = string_bytes c.loop-point.text in
    let new = string_bytes c.push_point.new.text in
    let adds = c.in_ok-push_point.ensures.text in
    record {
      text_is = text_pushed _ _ _ first text new adds _ c.loop-point.invariant.text_is;
      lone_is = lone_pushed _ _ _ first text new adds _ _ _ c.in_ok-push_point.ensures.lone
          c.loop-point.invariant.lone_is;
    }

text_is : (c : goal.In_default)
    → string_bytes c.loop-point.text ≡ lossy_text (points_of_units c.args.units.now)
text_is c =
    let at_end = ap (λ rest. string_bytes c.loop-point.text ++ lossy_text (points_of_units rest))
    (sym c.in_default.ensures.point) in
    text_whole _ _ (at_end ∙ c.loop-point.invariant.text_is)

lone_is : (c : goal.In_default) → c.loop-point.lone.items ≡ lone_from 0 (points_of_units c.args.units.now)
lone_is c =
    let at = length (string_bytes c.loop-point.text) in
    let at_end = ap (λ rest. c.loop-point.lone.items ++ lone_from at (points_of_units rest))
    (sym c.in_default.ensures.point) in
    lone_whole at _ _ (at_end ∙ c.loop-point.invariant.lone_is)

fits : (c : goal.In_default) → (i : ℕ) → get_or c.args.units.now i 0 < 0x1_0000
fits c = λ i. let unit = c.type_inv.units i in omega arith

scalars : (c : goal.In_default) → all_scalars (map lossy_char (points_of_units c.args.units.now)) ≡ true
scalars c = all_scalars-points_of_units c.args.units.now (fits c)

pub invariant_of-result : goal.invariant_of-result
invariant_of-result c =
    let made = IsStored-lossy_text _ (scalars c) (IsPaired-points_of_units c.args.units.now) in
    rw (text_is c, lone_is c) made

made_is : (c : goal.In_default)
    → points_of (string_bytes c.loop-point.text) c.loop-point.lone.items ≡ points_of_units c.args.units.now
made_is c = (λ i. points_of (text_is c i) (lone_is c i)) ∙ points_of-lossy_text _ (scalars c)

pub returns-clause-points : goal.returns-clause-points
returns-clause-points c = made_is c

pub returns-clause-same_units : goal.returns-clause-same_units
returns-clause-same_units c =
    ap (flat_map encode_utf16) (made_is c) ∙ flat_map-points_of_units c.args.units.now (fits c)
