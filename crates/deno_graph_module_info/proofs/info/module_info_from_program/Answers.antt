-- The text has the comments at the head and at the tail.
use Rattle.std.proofs.Common.{All, subst, sym}
use Rattle.deno_graph_source.specs.Source.{IsSpelled}
use Rattle.deno_graph_module_info.proofs.ItemComments.{head_spelled, tail_spelled}
use Rattle.deno_graph_module_info.proofs.SpelledDependencies.{described_spell}
use Rattle.deno_graph_module_info.proofs.info.module_info_from_program.Goals as goal

pub invariant_of-head : goal.invariant_of-head
invariant_of-head c = record {
  are_spelled =
      subst (All (IsSpelled c.args.text_info.now)) (sym c.head_comments.ensures)
      (head_spelled c.args.text_info.now c.args.program.now c.args.comments.now c.requires);
}

pub invariant_of-tail : goal.invariant_of-tail
invariant_of-tail c = record {
  are_spelled =
      subst (All (IsSpelled c.args.text_info.now)) (sym c.tail_comments.ensures)
      (tail_spelled c.args.text_info.now c.args.program.now c.args.comments.now c.requires);
}

pub returns-clause-spells : goal.returns-clause-spells
returns-clause-spells c =
    described_spell c.args.text_info.now c.args.program.now c.args.comments.now
    c.in_ok-analyze_dependencies.field-0 c.requires c.in_ok-analyze_dependencies.ensures.are
