use Rattle.std.proofs.Common.{ap, sym, ◌∙◌}
use Rattle.std.specs.Option.{option_copied}
use Rattle.test_hostile_input.proofs.FirstItem.{shaped_first}
use Rattle.test_hostile_input.proofs.modules.first_argument.Goals as goal

pub argument_of-requires : goal.argument_of-requires
argument_of-requires c =
    shaped_first c.program.result.now c.in-Some.node.now c.program.ensures.valid.shapes
    (sym c.first.ensures ∙ ap option_copied c.in-Some.is)
