-- The elements end where the part does, or the part has another character.
use Rattle.std.proofs.Common.{ap, ◌∙◌}
use Rattle.deno_graph_base.specs.JsString.{points_of_units}
use Rattle.modinfo_literals.proofs.Values.{SpellsCooked-read, SpellsCooked-none}
use Rattle.modinfo_literals.proofs.value.cooked_value.Goals as goal

pub returns-then-is_at_end : goal.returns-then-is_at_end
returns-then-is_at_end c =
    SpellsCooked-read c.args.slice.now _ _ c.in_ok-read.ensures _ c.if-is_at_end.ensures
    (c.in_ok-from_units.ensures.points ∙ ap points_of_units c.as_slice.ensures.value)

pub returns : goal.returns
returns c = SpellsCooked-none c.args.slice.now _ _ c.in_ok-read.ensures c.if-is_at_end.ensures
