-- The code points so far, with those of the units that are left, are the code points of all units.
use Rattle.std.proofs.Common.{◌≡◌, ◌++◌, length, ℕ, List}
use Rattle.std.specs.String.{string_bytes}
use Rattle.deno_graph_base.specs.JsString.{lossy_text, points_of_units}
use Rattle.deno_graph_base.specs.internal.StoredString.{lone_from}
use Rattle.deno_graph_base.proofs.text.js_string.JsString.from_units.Given as goal

pub record IsSoFar (units rest text : List ℕ) (lone : List (ℕ × ℕ)) : Type 0 where
  pub text_is : text ++ lossy_text (points_of_units rest) ≡ lossy_text (points_of_units units)
  pub lone_is : lone ++ lone_from (length text) (points_of_units rest) ≡ lone_from 0 (points_of_units units)

abbrev pub invariant-loop-point : goal.invariant-loop-point
invariant-loop-point l = IsSoFar l.units l.rest (string_bytes l.text) l.lone.items

abbrev pub decreases-loop-point : goal.decreases-loop-point
decreases-loop-point l = length l.rest
